-- The columns of a Relation, written one after the other.
use Rattle.std.proofs.Common.{◌≡◌, ℕ, zero, suc, subst, ◌+◌, ◌-◌, ◌*◌, ◌<◌, ◌≤◌, List, [], ◌∷◌, ◌++◌, drop, get_or, length, map, take, true, false, refl, sym, ap, ◌∙◌, append_assoc, append-nil, arith}
use Rattle.std.specs.Prelude.{Bool}
use Rattle.std.specs.List.{AllByRecursion, flat_map}
use Rattle.std.specs.Int.{w32, cast_unsigned}
use Rattle.std.proofs.lemmas.List.{length-append, length-map}
use Rattle.std.proofs.lemmas.List.Concat.{flat_map-cons}
use Rattle.pqformat.specs.Fields.{int16, int32, string}
use Rattle.pgoutput.specs.Relation.{FitsName, column, identity_letter, key_flag}
use Rattle.pgoutput.specs.Logical.{spell_logical}
use Rattle.pgoutput.specs.declared.logical.Logical.TheVariants as logical
use Rattle.pgoutput.specs.declared.messages.relation.TheConstants.{RELATION}
use Rattle.tables.specs.declared.column.Column.{Column}
use Rattle.tables.specs.declared.identity.Identity.{Identity}
use Rattle.tables.specs.declared.table.Table.{Table}
use Rattle.publication_config.specs.Published.{is_identity, is_listed}
use Rattle.row_messages.specs.Kinds.{type_modifier, type_oid}
use Rattle.row_messages.specs.Relations.{identity_of, listed_items, relation_column, relation_of, table_as_published}
use Rattle.pqformat.specs.Writing.{Writes}
use Rattle.pqformat.proofs.Numbers.{length-int32}
use Rattle.pqformat.proofs.Writing.{length_front, then}
use Rattle.row_messages.proofs.Written.{off, on, past}

-- what is to be told from a column on
abbrev pub columns_from : Identity → List Bool → List Column → ℕ → List ℕ
columns_from identity flags cs i = flat_map column (map (relation_column identity) (listed_items (drop i flags) (drop i cs)))

-- those before a column are written, and there is room for the others
pub record IsTold (identity : Identity) (flags : List Bool) (cs : List Column) (i at : ℕ) (out whole : List ℕ) (size : ℕ) : Type 0 where
  pub parts : take at out ++ columns_from identity flags cs i ≡ whole
  pub within : at ≤ length out
  pub room : at + 73 * (length cs - i) ≤ length out
  pub same : length out ≡ size

module _ (identity : Identity) (flags : List Bool) (cs : List Column) (i at : ℕ) (out whole : List ℕ) (size : ℕ) (c : Column) (low : i < length cs) (is : c ≡ get_or cs i c) (p : IsTold identity flags cs i at out whole size) where
  pub written : (to : ℕ) (new : List ℕ) → is_listed flags i ≡ true → Writes at to out new (column (relation_column identity c)) → to ≤ at + 73 → IsTold identity flags cs (i + 1) to new whole size
  written to new listed w short =
      let f = relation_column identity in
      let next : columns_from identity flags cs i ≡ column (f c) ++ columns_from identity flags cs (i + 1) =
      ap (λ l. flat_map column (map f l)) (on flags cs i c low is listed) ∙ flat_map-cons column (f c) (map f (listed_items (drop (i + 1) flags) (drop (i + 1) cs))) in
      record {
        parts = ap (λ l. l ++ columns_from identity flags cs (i + 1)) w.front ∙ append_assoc (take at out) (column (f c)) (columns_from identity flags cs (i + 1)) ∙ ap (λ l. take at out ++ l) (sym next) ∙ p.parts;
        within = omega (arith, w.same, short, p.room, low);
        room = omega (arith, w.same, short, p.room, low);
        same = w.same ∙ p.same;
      }

  pub skipped : is_listed flags i ≡ false → IsTold identity flags cs (i + 1) at out whole size
  skipped listed = record {
    parts = ap (λ l. take at out ++ flat_map column (map (relation_column identity) l)) (sym (off flags cs i c low is listed)) ∙ p.parts;
    within = p.within;
    room = omega (arith, p.room);
    same = p.same;
  }

pub all_told : (identity : Identity) (flags : List Bool) (cs : List Column) (i at to : ℕ) (old out : List ℕ) → length cs ≤ i → at ≤ length old → IsTold identity flags cs i to out (take at old ++ columns_from identity flags cs 0) (length old)
    → Writes at to old out (columns_from identity flags cs 0)
all_told identity flags cs i at to old out high within p =
    let text = columns_from identity flags cs 0 in
    let front : take to out ≡ take at old ++ text = sym (append-nil (take to out)) ∙ ap (λ l. take to out ++ flat_map column (map (relation_column identity) l)) (sym (past flags cs i high)) ∙ p.parts in
    record {
      ends = (let len = length-append (take at old) text in omega (arith, ap length front, len, length_front to out p.within, length_front at old within));
      front = front;
      same = p.same;
    }

-- a column, part by part
pub column_written : (identity : Identity) (c : Column) (at flags name kind to : ℕ) (old a b d new : List ℕ) → Writes at flags old a (key_flag (is_identity identity c.is_key) ∷ []) → Writes flags name a b (string c.name)
    → Writes name kind b d (int32 (type_oid c.kind)) → Writes kind to d new (int32 (cast_unsigned w32 (type_modifier c.kind))) → Writes at to old new (column (relation_column identity c))
column_written identity c at flags name kind to old a b d new f n k m =
    then at flags to old a new (key_flag (is_identity identity c.is_key) ∷ []) (string c.name ++ (int32 (type_oid c.kind) ++ int32 (cast_unsigned w32 (type_modifier c.kind)))) f
    (then flags name to a b new (string c.name) (int32 (type_oid c.kind) ++ int32 (cast_unsigned w32 (type_modifier c.kind))) n (then name kind to b d new (int32 (type_oid c.kind)) (int32 (cast_unsigned w32 (type_modifier c.kind))) k m))

-- a Relation, part by part
pub relation_written : (t : Table) (flags : List Bool) (kind oid schema name identity counted to n : ℕ) (old a b d e f g new : List ℕ) → Writes 0 kind old a (RELATION ∷ []) → Writes kind oid a b (int32 t.oid)
    → Writes oid schema b d (string t.schema) → Writes schema name d e (string t.name) → Writes name identity e f (identity_letter (identity_of t.identity) ∷ [])
    → n ≡ length (listed_items flags t.columns) → Writes identity counted f g (int16 n) → Writes counted to g new (flat_map column (map (relation_column t.identity) (listed_items flags t.columns)))
    → Writes 0 to old new (spell_logical (logical.Relation (relation_of (table_as_published flags t))))
relation_written t flags kind oid schema name identity counted to n old a b d e f g new w1 w2 w3 w4 w5 is w6 w7 =
    let told = relation_of (table_as_published flags t) in
    let columns = flat_map column told.columns in
    let same : n ≡ length told.columns = is ∙ sym (length-map (listed_items flags t.columns) (relation_column t.identity)) in
    let counts : Writes identity counted f g (int16 (length told.columns)) = subst (λ k. Writes identity counted f g (int16 k)) same w6 in
    let t6 = then identity counted to f g new (int16 (length told.columns)) columns counts w7 in
    let t5 = then name identity to e f new (identity_letter told.identity ∷ []) (int16 (length told.columns) ++ columns) w5 t6 in
    let t4 = then schema name to d e new (string t.name) ((identity_letter told.identity ∷ []) ++ (int16 (length told.columns) ++ columns)) w4 t5 in
    let t3 = then oid schema to b d new (string t.schema) (string t.name ++ ((identity_letter told.identity ∷ []) ++ (int16 (length told.columns) ++ columns))) w3 t4 in
    let t2 = then kind oid to a b new (int32 t.oid) (string t.schema ++ (string t.name ++ ((identity_letter told.identity ∷ []) ++ (int16 (length told.columns) ++ columns)))) w2 t3 in
    then 0 kind to old a new (RELATION ∷ []) (int32 t.oid ++ (string t.schema ++ (string t.name ++ ((identity_letter told.identity ∷ []) ++ (int16 (length told.columns) ++ columns))))) w1 t2

pub names_short : (cs : List Column) → AllByRecursion (λ c. FitsName c.name × (length c.name ≤ 63)) cs → AllByRecursion (λ c. length c.name ≤ 63) cs
names_short [] all = tt
names_short (c ∷ cs) all = (all.0.1, names_short cs all.1)

pub at_place : (cs : List Column) (i : ℕ) → i < length cs → (c : Column) × (c ≡ get_or cs i c)
at_place [] i low = absurd (omega arith)
at_place (c ∷ cs) zero low = (c, refl)
at_place (c ∷ cs) (suc i) low = at_place cs i (omega arith)

pub name_at : (cs : List Column) (i : ℕ) (c : Column) → i < length cs → c ≡ get_or cs i c → AllByRecursion (λ d. length d.name ≤ 63) cs → length c.name ≤ 63
name_at [] i c low is all = absurd (omega arith)
name_at (d ∷ cs) zero c low is all = let same : d ≡ c = sym is in subst (λ x. length x.name ≤ 63) same all.0
name_at (d ∷ cs) (suc i) c low is all = name_at cs i c (omega arith) is all.1

-- where the first fields of a Relation end, up to its schema
pub schema_at : (kind oid schema : ℕ) (tag number : ℕ) (s s' : List ℕ) (a b c d : List ℕ) → s ≡ s'
    → Writes 0 kind a b (tag ∷ []) → Writes kind oid b c (int32 number) → Writes oid schema c d (string s)
    → (schema ≡ 6 + length s') × (length d ≡ length a)
schema_at kind oid schema tag number s s' a b c d s_is w₁ w₂ w₃ = (
  omega (arith, w₁.ends, w₂.ends, w₃.ends, length-int32 number, length-append s (0 ∷ []), ap (length {A = ℕ}) s_is),
  omega (arith, w₁.same, w₂.same, w₃.same),
)

-- the same up to its table's name
pub named_at : (kind oid schema name : ℕ) (tag number : ℕ) (s n s' n' : List ℕ) (a b c d e : List ℕ) → s ≡ s' → n ≡ n'
    → Writes 0 kind a b (tag ∷ []) → Writes kind oid b c (int32 number) → Writes oid schema c d (string s) → Writes schema name d e (string n)
    → (name ≡ 7 + length s' + length n') × (length e ≡ length a)
named_at kind oid schema name tag number s n s' n' a b c d e s_is n_is w₁ w₂ w₃ w₄ =
    let at = schema_at kind oid schema tag number s s' a b c d s_is w₁ w₂ w₃ in (
      omega (arith, at, w₄.ends, length-append n (0 ∷ []), ap (length {A = ℕ}) n_is),
      omega (arith, at, w₄.same),
    )
