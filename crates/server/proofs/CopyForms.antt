-- A COPY has one of two forms, and each is read part by part.
use Rattle.std.proofs.Common.{◌≡◌, ℕ, List, [], ◌∷◌, ◌++◌, Option, Some, None, Result, Ok, Err, refl, sym, ap, subst, ◌∙◌, inl, inr, append_assoc, append-nil}
use Rattle.std.specs.Prelude.{◌≢◌, ◌⊎◌, codes, IfOk, MatchOption}
use Rattle.std.specs.declared.alloc.AllocError.{AllocError}
use Rattle.std.proofs.lemmas.List.{append_cancel_left, append_cancel_right}
use Rattle.pqformat.proofs.Quoting.{found}
use Rattle.server.specs.Copies.{SpellsCopy, SpellsTableName, copy_text, name_front}
use Rattle.server.specs.CopyReading.{EndsColumns, EndsName, FilteredAt, Read, ReadsForm, SomeColumnsAt, TableAt, WholeAt}
use Rattle.server.specs.declared.asked.copy_command.CopyCommand.{CopyCommand}
use Rattle.server.specs.declared.asked.table_name.TableName.{TableName}
use Rattle.server.proofs.CopyNames.{name_reads}
use Rattle.server.proofs.CopyTables.{point}

-- ---- what both forms end with

whole : (table columns : List ℕ) → (codes "COPY " ++ (table ++ (codes " (" ++ columns))) ++ codes ") TO STDOUT" ≡ copy_text table columns None
whole table columns = ap (λ (l : List ℕ). codes "COPY " ++ l) (append_assoc table (codes " (" ++ columns) (codes ") TO STDOUT"))

filtered : (table columns filter : List ℕ) → (codes "COPY (SELECT " ++ (columns ++ (codes " FROM ONLY " ++ (table ++ (codes " WHERE " ++ filter))))) ++ codes ") TO STDOUT" ≡ copy_text table columns (Some filter)
filtered table columns filter =
    ap (λ (l : List ℕ). codes "COPY (SELECT " ++ l)
    (append_assoc columns (codes " FROM ONLY " ++ (table ++ (codes " WHERE " ++ filter))) (codes ") TO STDOUT")
    ∙ ap (λ (l : List ℕ). columns ++ (codes " FROM ONLY " ++ l)) (append_assoc table (codes " WHERE " ++ filter) (codes ") TO STDOUT")))

whole_spells : (front : List ℕ) (copy : CopyCommand) → WholeAt front copy → SpellsCopy (front ++ codes ") TO STDOUT") copy
whole_spells front copy stands = (
  stands.few,
  (
    stands.table,
    stands.columns,
    stands.spells_table,
    stands.spells_columns,
    ap (λ (l : List ℕ). l ++ codes ") TO STDOUT") stands.is ∙ whole stands.table stands.columns ∙ ap (copy_text stands.table stands.columns) (sym stands.all),
  ),
)

filtered_spells : (selected : List ℕ) (copy : CopyCommand) → FilteredAt selected copy → SpellsCopy ((codes "COPY (SELECT " ++ selected) ++ codes ") TO STDOUT") copy
filtered_spells selected copy stands = (
  stands.few,
  (
    stands.table,
    stands.columns,
    stands.spells_table,
    stands.spells_columns,
    ap (λ (l : List ℕ). (codes "COPY (SELECT " ++ l) ++ codes ") TO STDOUT") stands.is ∙ filtered stands.table stands.columns stands.filter ∙ ap (copy_text stands.table stands.columns) (sym stands.some),
  ),
)

-- the form of a copy that is spelled
abbrev Form : List ℕ → CopyCommand → Type 0
Form front copy = WholeAt front copy ⊎ ((selected : List ℕ) × (front ≡ codes "COPY (SELECT " ++ selected) × FilteredAt selected copy)

formed : (text : List ℕ) (copy : CopyCommand) → SpellsCopy text copy → (front : List ℕ) × (text ≡ front ++ codes ") TO STDOUT") × Form front copy
formed text copy (few, (table, columns, spells_table, spells_columns, is)) = by_filter copy.filter refl
  where
    by_filter : (f : Option (List ℕ)) → copy.filter ≡ f → (front : List ℕ) × (text ≡ front ++ codes ") TO STDOUT") × Form front copy
    by_filter None all = (
      codes "COPY " ++ (table ++ (codes " (" ++ columns)),
      is ∙ ap (copy_text table columns) all ∙ sym (whole table columns),
      inl (record { few = few; all = all; table = table; columns = columns; spells_table = spells_table; spells_columns = spells_columns; is = refl }),
    )
    by_filter (Some filter) some =
        let selected : List ℕ = columns ++ (codes " FROM ONLY " ++ (table ++ (codes " WHERE " ++ filter))) in (
          codes "COPY (SELECT " ++ selected,
          is ∙ ap (copy_text table columns) some ∙ sym (filtered table columns filter),
          inr (selected, refl, record { few = few; filter = filter; some = some; table = table; columns = columns; spells_table = spells_table; spells_columns = spells_columns; is = refl }),
        )

pub has_end : (text : List ℕ) → ((front : List ℕ) → text ≢ front ++ codes ") TO STDOUT") → (copy : CopyCommand) → SpellsCopy text copy → ⊥
has_end text dry copy spells = let x = formed text copy spells in dry x.0 x.1

form_of : (text front : List ℕ) (copy : CopyCommand) → text ≡ front ++ codes ") TO STDOUT" → SpellsCopy text copy → Form front copy
form_of text front copy is spells =
    let x = formed text copy spells in
    subst (λ (l : List ℕ). Form l copy) (append_cancel_right x.0 front (codes ") TO STDOUT") (sym x.1 ∙ is)) x.2

-- No table's name begins with a bracket.
no_bracket : (named : List ℕ) (table : TableName) (x y : List ℕ) → SpellsTableName named table → named ++ x ≡ 40 ∷ y → ⊥
no_bracket named table x y (schema, name, spells_schema, spells_name, joined) is =
    let whole : schema ++ (codes "." ++ (name ++ x)) ≡ 40 ∷ y = sym (append_assoc schema (codes "." ++ name) x) ∙ ap (λ (l : List ℕ). l ++ x) (sym joined) ∙ is in
    let read : name_front (40 ∷ y) ≡ found table.schema (codes "." ++ (name ++ x)) = ap name_front (sym whole) ∙ name_reads schema table.schema (codes "." ++ (name ++ x)) spells_schema (point (name ++ x)) in
    cc

apart : (front selected : List ℕ) (copy : CopyCommand) → WholeAt front copy → front ≡ codes "COPY (SELECT " ++ selected → ⊥
apart front selected copy stands is =
    no_bracket stands.table copy.table (codes " (" ++ stands.columns) (codes "SELECT " ++ selected) stands.spells_table
    (append_cancel_left (codes "COPY ") (stands.table ++ (codes " (" ++ stands.columns)) (codes "(SELECT " ++ selected) (sym stands.is ∙ is))

-- ---- the whole text

pub filtered_reads : (text front selected : List ℕ) (r : Result (Option CopyCommand) AllocError) → text ≡ front ++ codes ") TO STDOUT" → front ≡ codes "COPY (SELECT " ++ selected
    → IfOk r (λ found. ReadsForm (FilteredAt selected) found) → IfOk r (λ found. MatchOption found ((copy : CopyCommand) → SpellsCopy text copy → ⊥) (λ copy. SpellsCopy text copy))
filtered_reads text front selected (Err e) ends begins fact = tt
filtered_reads text front selected (Ok (Some copy)) ends begins fact =
    subst (λ (l : List ℕ). SpellsCopy l copy) (ap (λ (l : List ℕ). l ++ codes ") TO STDOUT") (sym begins) ∙ sym ends) (filtered_spells selected copy fact)
filtered_reads text front selected (Ok None) ends begins fact = never
  where
    by_form : (copy : CopyCommand) → Form front copy → ⊥
    by_form copy (inl stands) = apart front selected copy stands begins
    by_form copy (inr (other, is, stands)) = fact copy (subst (λ (l : List ℕ). FilteredAt l copy) (append_cancel_left (codes "COPY (SELECT ") other selected (sym is ∙ begins)) stands)

    never : (copy : CopyCommand) → SpellsCopy text copy → ⊥
    never copy spells = by_form copy (form_of text front copy ends spells)

pub whole_reads : (text front : List ℕ) (r : Result (Option CopyCommand) AllocError) → text ≡ front ++ codes ") TO STDOUT" → ((selected : List ℕ) → front ≢ codes "COPY (SELECT " ++ selected)
    → IfOk r (λ found. ReadsForm (WholeAt front) found) → IfOk r (λ found. MatchOption found ((copy : CopyCommand) → SpellsCopy text copy → ⊥) (λ copy. SpellsCopy text copy))
whole_reads text front (Err e) ends dry fact = tt
whole_reads text front (Ok (Some copy)) ends dry fact = subst (λ (l : List ℕ). SpellsCopy l copy) (sym ends) (whole_spells front copy fact)
whole_reads text front (Ok None) ends dry fact = never
  where
    by_form : (copy : CopyCommand) → Form front copy → ⊥
    by_form copy (inl stands) = fact copy stands
    by_form copy (inr (selected, is, stands)) = dry selected is

    never : (copy : CopyCommand) → SpellsCopy text copy → ⊥
    never copy spells = by_form copy (form_of text front copy ends spells)

-- ---- of all rows

bracket : (x : List ℕ) → EndsName (codes " (" ++ x)
bracket x = record { quote = refl; byte = refl }

-- what stands behind the first word
behind_word : (text rest : List ℕ) (copy : CopyCommand) → text ≡ codes "COPY " ++ rest → (stands : WholeAt text copy) → rest ≡ stands.table ++ (codes " (" ++ stands.columns)
behind_word text rest copy is stands = append_cancel_left (codes "COPY ") rest (stands.table ++ (codes " (" ++ stands.columns)) (sym is ∙ stands.is)

named_at : (text rest : List ℕ) (copy : CopyCommand) → text ≡ codes "COPY " ++ rest → (stands : WholeAt text copy) → TableAt rest copy.table (codes " (" ++ stands.columns)
named_at text rest copy is stands = (stands.table, stands.spells_table, behind_word text rest copy is stands)

pub whole_no_word : (text : List ℕ) → ((rest : List ℕ) → text ≢ codes "COPY " ++ rest) → (copy : CopyCommand) → WholeAt text copy → ⊥
whole_no_word text dry copy stands = dry (stands.table ++ (codes " (" ++ stands.columns)) stands.is

pub whole_no_table : (text rest : List ℕ) → text ≡ codes "COPY " ++ rest → ((table : TableName) (other : List ℕ) → TableAt rest table other → EndsName other → ⊥) → (copy : CopyCommand) → WholeAt text copy → ⊥
whole_no_table text rest is none copy stands = none copy.table (codes " (" ++ stands.columns) (named_at text rest copy is stands) (bracket stands.columns)

-- what follows the table
after_table : (text rest : List ℕ) (table : TableName) (left : List ℕ) → text ≡ codes "COPY " ++ rest → Read (TableAt rest) EndsName table left → (copy : CopyCommand) (stands : WholeAt text copy) → left ≡ codes " (" ++ stands.columns
after_table text rest table left is read copy stands = (read.once copy.table (codes " (" ++ stands.columns) (named_at text rest copy is stands) (bracket stands.columns)).1

pub whole_no_bracket : (text rest : List ℕ) (table : TableName) (left : List ℕ) → text ≡ codes "COPY " ++ rest → Read (TableAt rest) EndsName table left → ((more : List ℕ) → left ≢ codes " (" ++ more)
    → (copy : CopyCommand) → WholeAt text copy → ⊥
whole_no_bracket text rest table left is read dry copy stands = dry stands.columns (after_table text rest table left is read copy stands)

none_left : EndsColumns []
none_left = record { name = record { quote = refl; byte = refl }; comma = refl }

columns_at : (text rest : List ℕ) (table : TableName) (left list : List ℕ) → text ≡ codes "COPY " ++ rest → Read (TableAt rest) EndsName table left → left ≡ codes " (" ++ list
    → (copy : CopyCommand) → WholeAt text copy → SomeColumnsAt list copy.columns []
columns_at text rest table left list is read opens copy stands =
    (stands.few, (stands.columns, stands.spells_columns, append_cancel_left (codes " (") list stands.columns (sym opens ∙ after_table text rest table left is read copy stands) ∙ sym (append-nil stands.columns)))

pub whole_no_columns : (text rest : List ℕ) (table : TableName) (left list : List ℕ) → text ≡ codes "COPY " ++ rest → Read (TableAt rest) EndsName table left → left ≡ codes " (" ++ list
    → ((columns : List (List ℕ)) (other : List ℕ) → SomeColumnsAt list columns other → EndsColumns other → ⊥) → (copy : CopyCommand) → WholeAt text copy → ⊥
whole_no_columns text rest table left list is read opens none copy stands = none copy.columns [] (columns_at text rest table left list is read opens copy stands) none_left

pub whole_goes_on : (text rest : List ℕ) (table : TableName) (left list : List ℕ) (columns : List (List ℕ)) (more : List ℕ) → text ≡ codes "COPY " ++ rest → Read (TableAt rest) EndsName table left → left ≡ codes " (" ++ list
    → Read (SomeColumnsAt list) EndsColumns columns more → (more ≡ [] → ⊥) → (copy : CopyCommand) → WholeAt text copy → ⊥
whole_goes_on text rest table left list columns more is read opens names some copy stands = some (names.once copy.columns [] (columns_at text rest table left list is read opens copy stands) none_left).1

pub whole_read : (text rest : List ℕ) (table : TableName) (left list : List ℕ) (columns : List (List ℕ)) (more : List ℕ) → text ≡ codes "COPY " ++ rest → Read (TableAt rest) EndsName table left → left ≡ codes " (" ++ list
    → Read (SomeColumnsAt list) EndsColumns columns more → more ≡ [] → WholeAt text (record { table = table; columns = columns; filter = None })
whole_read text rest table left list columns more is read opens names none =
    let t = read.stands in
    let n = names.stands in
    record {
      few = n.0;
      all = refl;
      table = t.0;
      columns = n.1.0;
      spells_table = t.1;
      spells_columns = n.1.1;
      is =
          is ∙ ap (λ (l : List ℕ). codes "COPY " ++ l) (t.2 ∙ ap (λ (l : List ℕ). t.0 ++ l) (opens ∙ ap (λ (l : List ℕ). codes " (" ++ l) (n.1.2 ∙ ap (λ (l : List ℕ). n.1.0 ++ l) none ∙ append-nil n.1.0)));
    }
