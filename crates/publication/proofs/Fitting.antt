-- What is published fits the stream: its fields, its Relation, and a frame.
use Rattle.std.proofs.Common.{◌≡◌, ℕ, ◌+◌, ◌*◌, ◌^◌, ◌<◌, ◌≤◌, Bool, true, false, cond, eqb, leb, List, [], ◌∷◌, ◌++◌, length, Option, Some, None, refl, sym, ap, subst, ◌∙◌, arith}
use Rattle.std.specs.Prelude.{◌&&◌, ◌||◌, filter, not, is_some, IsSome, option_map, option_and_then}
use Rattle.std.specs.List.{flat_map, list_all, list_any, AllByRecursion}
use Rattle.std.proofs.lemmas.Bool.{leb-true}
use Rattle.std.proofs.lemmas.List.{length-append, length-map}
use Rattle.std.proofs.lemmas.List.Concat.{flat_map-cons}
use Rattle.pqformat.specs.Fields.{int32}
use Rattle.pqformat.proofs.Numbers.{length-int32}
use Rattle.pgoutput.specs.declared.logical.Logical.{Logical}
use Rattle.pgoutput.specs.declared.logical.Logical.TheVariants as logical
use Rattle.pgoutput.specs.declared.parts.tuple.Cell.{Cell}
use Rattle.pgoutput.specs.declared.parts.old_tuple.OldTuple.{OldTuple}
use Rattle.pgoutput.specs.declared.parts.old_tuple.OldTuple.TheVariants as olds
use Rattle.pgoutput.specs.Tuple.{tuple}
use Rattle.pgoutput.specs.OldTuple.{cells_of, old_tuple}
use Rattle.tables.specs.declared.rows.row.TheConstants.{MAX_ROW_LENGTH}
use Rattle.tables.specs.declared.kinds.Value.{Value}
use Rattle.tables.specs.declared.table.Table.{Table}
use Rattle.tables.specs.declared.changes.change.Change.{Change}
use Rattle.tables.specs.declared.changes.change.Change.TheVariants as changes
use Rattle.tables.specs.declared.changes.change_body.TheConstants.{MAX_TRUNCATED}
use Rattle.tables.specs.Tables.{repeats}
use Rattle.tables.specs.Kinds.{IsValue}
use Rattle.tables.specs.Tables.{table_of}
use Rattle.pgoutput.specs.Items.{FitsRelationOf, IsShortMessage}
use Rattle.pgoutput.specs.Logical.{FitsLogical}
use Rattle.publication_config.specs.declared.operations.Operation.{Operation}
use Rattle.publication_config.specs.declared.operations.Operation.TheVariants.{Insert, Update, Delete, Truncate}
use Rattle.publication_config.specs.declared.publication.Publication.{Publication}
use Rattle.publication_config.specs.Published.{PublicationSet, has, publishes}
use Rattle.row_messages.specs.Relations.{relation_column, relation_of, table_as_published, FitsTable}
use Rattle.publication.specs.Selection.{has_table, list_by, relation, selected_table, whole_table, FitTables}
use Rattle.row_messages.specs.Tuples.{old_by, old_row_of_update, tuple_after, tuple_of}
use Rattle.row_messages.specs.Messages.{delete_message, insert_message, stands_in, update_message}
use Rattle.publication.specs.Projection.{is_published, may_be_emptied, message, message_by, message_of_update, only_if, passes, row_as_published, stands, truncate_message, AreValues, MessageFits}
use Rattle.row_messages.proofs.Choosing.{all_chosen, narrowed_fits, narrowed_stands}
use Rattle.row_messages.proofs.Rows.{both_true, OldFits, TupleFits, old_fits, replaced_fits, sent_fits, tuple_after_fits, tuple_fits}
use Rattle.publication.proofs.Relations.{found_table, relation_answer_fits, relation_tells, some_is}

-- ---- a message

-- a table as the selection shows it
record Found (s : PublicationSet) (t : Table) : Type 0 where
  selected : selected_table s t.oid ≡ Some t
  fits : FitsTable t

found_selected : (s : PublicationSet) (oid : ℕ) (t : Table) → FitTables s → has_table s oid ≡ true → table_of oid s.tables ≡ Some t → Found s (table_as_published (list_by s.publications oid) t)
found_selected s oid t all has found =
    let listed = list_by s.publications oid in
    let p = found_table FitsTable oid s.tables t all found in
    let whole : whole_table s oid ≡ Some t = ap (λ (b : Bool). cond b (table_of oid s.tables) None) has ∙ found in
    let here : selected_table s oid ≡ Some (table_as_published listed t) = ap (option_map (table_as_published listed)) whole in
    record { selected = ap (λ (n : ℕ). selected_table s n) p.1 ∙ here; fits = narrowed_fits listed t p.0 }

-- the same, in which the listed columns stand of every row that stands in the whole table
record Shown (s : PublicationSet) (oid : ℕ) (t : Table) : Type 0 where
  found : Found s t
  stay : (row : List Value) → stands (table_of oid s.tables) row ≡ true → stands_in t (row_as_published s oid row) ≡ true

shown_by : (s : PublicationSet) (oid : ℕ) (t : Table) → FitTables s → selected_table s oid ≡ Some t → Shown s oid t
shown_by s oid t all e = by_table (has_table s oid) refl (table_of oid s.tables) refl e
  where
    by_table : (b : Bool) → has_table s oid ≡ b → (o : Option Table) → table_of oid s.tables ≡ o → option_map (table_as_published (list_by s.publications oid)) (cond b o None) ≡ Some t → Shown s oid t
    by_table false has o found is = absurd cc
    by_table true has None found is = absurd cc
    by_table true has (Some u) found is =
        let listed = list_by s.publications oid in
        let P : Table → Type 0 = λ v. Shown s oid v in
        subst P (some_is (table_as_published listed u) t is) (record {
          found = found_selected s oid u all has found;
          stay = λ row is. narrowed_stands listed u row (ap (λ (o : Option Table). stands o row) (sym found) ∙ is);
        })

told_count : (s : PublicationSet) (t : Table) (cells : List Cell) → Found s t → TupleFits t cells → length cells ≡ length (relation s t.oid).columns
told_count s t cells found tuple = rw found.selected (tuple.count ∙ sym (length-map t.columns (relation_column t.identity)))

insert_fits : (s : PublicationSet) (t : Table) (row : List Value) → Found s t → TupleFits t (tuple_of row) → MessageFits s (insert_message row t)
insert_fits s t row found tuple_new = record {
  known = (rw found.selected refl, tt);
  of_change = told_count s t (tuple_of row) found tuple_new;
  fits = (found.fits.oid, sent_fits row tuple_new.fits);
  short = omega (arith, tuple_new.short, length-int32 t.oid, length-append (int32 t.oid) ((78 ∷ []) ++ tuple (tuple_of row)));
  relations = (relation_tells s t found.selected found.fits, tt);
}

-- the letter and the cells of an old row
old_short : (t : Table) (old : OldTuple) → TupleFits t (cells_of old) → length (old_tuple old) ≤ 3 + 4 * MAX_ROW_LENGTH
old_short t (olds.Key cells) fits = omega (arith, fits.short)
old_short t (olds.Full cells) fits = omega (arith, fits.short)

update_fits : (s : PublicationSet) (t : Table) (old : Option OldTuple) (new : List Cell) → Found s t → OldFits t old → TupleFits t new → MessageFits s (logical.Update (record { oid = t.oid; old = old; new = new }))
update_fits s t None new found tuple_old tuple_new = record {
  known = (rw found.selected refl, tt);
  of_change = (tt, told_count s t new found tuple_new);
  fits = (found.fits.oid, (tt, tuple_new.fits));
  short = omega (arith, tuple_new.short, length-int32 t.oid, length-append (int32 t.oid) ((78 ∷ []) ++ tuple new));
  relations = (relation_tells s t found.selected found.fits, tt);
}
update_fits s t (Some old) new found tuple_old tuple_new = record {
  known = (rw found.selected refl, tt);
  of_change = (told_count s t (cells_of old) found tuple_old, told_count s t new found tuple_new);
  fits = (found.fits.oid, (tuple_old.fits, tuple_new.fits));
  short = omega (
    arith,
    tuple_new.short,
    old_short t old tuple_old,
    length-int32 t.oid,
    length-append (int32 t.oid) (old_tuple old ++ ((78 ∷ []) ++ tuple new)),
    length-append (old_tuple old) ((78 ∷ []) ++ tuple new),
  );
  relations = (relation_tells s t found.selected found.fits, tt);
}

delete_fits : (s : PublicationSet) (t : Table) (old : OldTuple) → Found s t → TupleFits t (cells_of old) → MessageFits s (logical.Delete (record { oid = t.oid; old = old }))
delete_fits s t old found tuple_old = record {
  known = (rw found.selected refl, tt);
  of_change = told_count s t (cells_of old) found tuple_old;
  fits = (found.fits.oid, tuple_old.fits);
  short = omega (arith, old_short t old tuple_old, length-int32 t.oid, length-append (int32 t.oid) (old_tuple old));
  relations = (relation_tells s t found.selected found.fits, tt);
}

-- tables that the selection has, each with its Relation
record KeptFits (s : PublicationSet) (oids kept : List ℕ) : Type 0 where
  known : AllByRecursion (λ oid. IsSome (selected_table s oid)) kept
  in_range : AllByRecursion (λ oid. oid < 2 ^ 32) kept
  relations : AllByRecursion (FitsRelationOf (relation s)) kept
  fewer : length kept ≤ length oids

is_had : (operation : Operation) (oid : ℕ) (publications : List Publication) → list_any (λ p. publishes p.operations operation && has oid p) publications ≡ true → list_any (has oid) publications ≡ true
is_had operation oid [] e = absurd cc
is_had operation oid (p ∷ publications) e = by_test (publishes p.operations operation) (has oid p) e (is_had operation oid publications)
  where
    by_test : (a b : Bool) → ((a && b) || list_any (λ p. publishes p.operations operation && has oid p) publications) ≡ true
        → (list_any (λ p. publishes p.operations operation && has oid p) publications ≡ true → list_any (has oid) publications ≡ true) → (b || list_any (has oid) publications) ≡ true
    by_test a true e others = refl
    by_test true false e others = others e
    by_test false false e others = others e

kept_fit : (s : PublicationSet) (oids : List ℕ) → FitTables s → list_all (λ oid. is_some (table_of oid s.tables)) oids ≡ true → KeptFits s oids (filter (is_published s Truncate) oids)
kept_fit s [] all known = record { known = tt; in_range = tt; relations = tt; fewer = omega arith }
kept_fit s (oid ∷ oids) all known =
    let tests = both_true (is_some (table_of oid s.tables)) (list_all (λ oid. is_some (table_of oid s.tables)) oids) known in
    by_published (is_published s Truncate oid) (is_had Truncate oid s.publications) (table_of oid s.tables) refl tests.0 (kept_fit s oids all tests.1)
  where
    by_published : (b : Bool) → (b ≡ true → has_table s oid ≡ true) → (o : Option Table) → table_of oid s.tables ≡ o → is_some o ≡ true → KeptFits s oids (filter (is_published s Truncate) oids)
        → KeptFits s (oid ∷ oids) (cond b (oid ∷ filter (is_published s Truncate) oids) (filter (is_published s Truncate) oids))
    by_published false has o found is others = record { known = others.known; in_range = others.in_range; relations = others.relations; fewer = omega (arith, others.fewer) }
    by_published true has None found is others = absurd cc
    by_published true has (Some t) found is others =
        let f = found_selected s oid t all (has refl) found in
        let u = table_as_published (list_by s.publications oid) t in
        let same : u.oid ≡ oid = (found_table FitsTable oid s.tables t all found).1 in
        record {
          known = (subst (λ (n : ℕ). IsSome (selected_table s n)) same (rw f.selected refl), others.known);
          in_range = (subst (λ (n : ℕ). n < 2 ^ 32) same f.fits.oid, others.in_range);
          relations = (subst (λ (n : ℕ). FitsRelationOf (relation s) n) same (relation_tells s u f.selected f.fits), others.relations);
          fewer = omega (arith, others.fewer);
        }

oids_length : (oids : List ℕ) → length (flat_map int32 oids) ≡ 4 * length oids
oids_length [] = refl
oids_length (oid ∷ oids) =
    let parted : length (flat_map int32 (oid ∷ oids)) ≡ length (int32 oid) + length (flat_map int32 oids) = ap length (flat_map-cons int32 oid oids) ∙ length-append (int32 oid) (flat_map int32 oids) in
    omega (arith, parted, length-int32 oid, oids_length oids)

truncate_fits : (s : PublicationSet) (oids kept : List ℕ) (m : Logical) → KeptFits s oids kept → length oids ≤ MAX_TRUNCATED → truncate_message kept ≡ Some m → MessageFits s m
truncate_fits s oids [] m fits few e = absurd cc
truncate_fits s oids (oid ∷ kept) m fits few e =
    let told : Logical = logical.Truncate (record { options = record { cascade = false; restart_identity = false }; oids = oid ∷ kept }) in
    let P : Logical → Type 0 = λ n. MessageFits s n in
    subst P (some_is told m e) (record {
      known = fits.known;
      of_change = tt;
      fits = (omega (arith, fits.fewer, few), fits.in_range);
      short = omega (
        arith,
        fits.fewer,
        few,
        oids_length (oid ∷ kept),
        length-int32 (length (oid ∷ kept)),
        length-append (int32 (length (oid ∷ kept))) ((0 ∷ []) ++ flat_map int32 (oid ∷ kept)),
      );
      relations = fits.relations;
    })

record OnlyIf (o : Option Logical) (fits : Bool) (m : Logical) : Type 0 where
  is : o ≡ Some m
  true_is : fits ≡ true

only_some : (o : Option Logical) (fits : Bool) (m : Logical) → only_if o fits ≡ Some m → OnlyIf o fits m
only_some None fits m e = absurd cc
only_some (Some n) true m e = record { is = e; true_is = refl }
only_some (Some n) false m e = absurd cc

deleted_fits : (s : PublicationSet) (t : Table) (o : Option OldTuple) (m : Logical) → Found s t → OldFits t o → option_map (λ old. logical.Delete (record { oid = t.oid; old = old })) o ≡ Some m → MessageFits s m
deleted_fits s t None m found fits e = absurd cc
deleted_fits s t (Some old) m found fits e = let P : Logical → Type 0 = λ n. MessageFits s n in subst P (some_is (logical.Delete (record { oid = t.oid; old = old })) m e) (delete_fits s t old found fits)

shown_values : (s : PublicationSet) (oid : ℕ) (row : List Value) → AllByRecursion IsValue row → AllByRecursion IsValue (row_as_published s oid row)
shown_values s oid row in_range = all_chosen IsValue (list_by s.publications oid) row in_range

-- a message that is told of a table as the selection shows it
inserted_fits : (s : PublicationSet) (oid : ℕ) (row : List Value) (m : Logical) → FitTables s → AllByRecursion IsValue row → stands (table_of oid s.tables) row ≡ true
    → (o : Option Table) → selected_table s oid ≡ o → option_map (insert_message (row_as_published s oid row)) o ≡ Some m → MessageFits s m
inserted_fits s oid row m all in_range is None found e = absurd cc
inserted_fits s oid row m all in_range is (Some t) found e =
    let u = shown_by s oid t all found in
    let P : Logical → Type 0 = λ n. MessageFits s n in
    subst P (some_is (insert_message (row_as_published s oid row) t) m e)
    (insert_fits s t (row_as_published s oid row) u.found (tuple_fits t (row_as_published s oid row) u.found.fits (shown_values s oid row in_range) (u.stay row is)))

replaced_row_fits : (s : PublicationSet) (oid : ℕ) (old new : List Value) (m : Logical) → FitTables s → AllByRecursion IsValue old → AllByRecursion IsValue new → stands (table_of oid s.tables) old ≡ true
    → stands (table_of oid s.tables) new ≡ true → (o : Option Table) → selected_table s oid ≡ o → option_map (update_message (row_as_published s oid old) (row_as_published s oid new)) o ≡ Some m → MessageFits s m
replaced_row_fits s oid old new m all old_values new_values is_old is_new None found e = absurd cc
replaced_row_fits s oid old new m all old_values new_values is_old is_new (Some t) found e =
    let u = shown_by s oid t all found in
    let a = row_as_published s oid old in
    let b = row_as_published s oid new in
    let P : Logical → Type 0 = λ n. MessageFits s n in
    subst P (some_is (update_message a b t) m e)
    (update_fits s t (old_row_of_update t.identity t a b) (tuple_after a b) u.found (replaced_fits t t.identity a b u.found.fits (shown_values s oid old old_values) (u.stay old is_old))
    (tuple_after_fits t a b u.found.fits (shown_values s oid new new_values) (u.stay old is_old) (u.stay new is_new)))

deleted_row_fits : (s : PublicationSet) (oid : ℕ) (old : List Value) (m : Logical) → FitTables s → AllByRecursion IsValue old → stands (table_of oid s.tables) old ≡ true → (o : Option Table)
    → selected_table s oid ≡ o → option_and_then (delete_message (row_as_published s oid old)) o ≡ Some m → MessageFits s m
deleted_row_fits s oid old m all in_range is None found e = absurd cc
deleted_row_fits s oid old m all in_range is (Some t) found e =
    let u = shown_by s oid t all found in
    deleted_fits s t (old_by t.identity t (row_as_published s oid old)) m u.found (old_fits t t.identity (row_as_published s oid old) u.found.fits (shown_values s oid old in_range) (u.stay old is)) e

-- only what passes has a message
where_it_passes : (passes : Bool) (o : Option Logical) (m : Logical) → cond passes o None ≡ Some m → o ≡ Some m
where_it_passes true o m e = e
where_it_passes false o m e = absurd cc

updated_fits : (s : PublicationSet) (oid : ℕ) (old new : List Value) (m : Logical) → FitTables s → AllByRecursion IsValue old → AllByRecursion IsValue new → stands (table_of oid s.tables) old ≡ true
    → stands (table_of oid s.tables) new ≡ true → (old_passes new_passes : Bool) → message_of_update old_passes new_passes (selected_table s oid) (row_as_published s oid old) (row_as_published s oid new) ≡ Some m → MessageFits s m
updated_fits s oid old new m all old_values new_values is_old is_new true true e = replaced_row_fits s oid old new m all old_values new_values is_old is_new (selected_table s oid) refl e
updated_fits s oid old new m all old_values new_values is_old is_new false true e = inserted_fits s oid new m all new_values is_new (selected_table s oid) refl e
updated_fits s oid old new m all old_values new_values is_old is_new true false e = deleted_row_fits s oid old m all old_values is_old (selected_table s oid) refl e
updated_fits s oid old new m all old_values new_values is_old is_new false false e = absurd cc

pub message_fits : (s : PublicationSet) (c : Change) (m : Logical) → FitTables s → AreValues c → message s c ≡ Some m → MessageFits s m
message_fits s (changes.Insert oid row) m all in_range e =
    let both = only_some (message_by s (changes.Insert oid row)) (stands (table_of oid s.tables) row) m e in
    inserted_fits s oid row m all in_range both.true_is (selected_table s oid) refl (where_it_passes (passes s Insert oid row) (option_map (insert_message (row_as_published s oid row)) (selected_table s oid)) m both.is)
message_fits s (changes.Update oid old new) m all in_range e =
    let both = only_some (message_by s (changes.Update oid old new)) (stands (table_of oid s.tables) old && stands (table_of oid s.tables) new) m e in
    let tests = both_true (stands (table_of oid s.tables) old) (stands (table_of oid s.tables) new) both.true_is in
    updated_fits s oid old new m all in_range.0 in_range.1 tests.0 tests.1 (passes s Update oid old) (passes s Update oid new) both.is
message_fits s (changes.Delete oid old) m all in_range e =
    let both = only_some (message_by s (changes.Delete oid old)) (stands (table_of oid s.tables) old) m e in
    deleted_row_fits s oid old m all in_range both.true_is (selected_table s oid) refl
    (where_it_passes (passes s Delete oid old) (option_and_then (delete_message (row_as_published s oid old)) (selected_table s oid)) m both.is)
message_fits s (changes.Message logged) m all in_range e = absurd cc
message_fits s (changes.Truncate oids) m all in_range e =
    let both = only_some (message_by s (changes.Truncate oids)) (may_be_emptied s.tables oids) m e in
    let some = both_true (list_all (λ oid. is_some (table_of oid s.tables)) oids) _ both.true_is in
    let others = both_true (not (eqb (length oids) 0)) _ some.1 in
    let few = both_true (not (repeats oids)) (leb (length oids) MAX_TRUNCATED) others.1 in
    truncate_fits s oids (filter (is_published s Truncate) oids) m (kept_fit s oids all some.0) (leb-true _ _ few.1) both.is

-- the Relation of a table of the selection
pub relation_of_fits : (s : PublicationSet) (oid : ℕ) (m : Logical) → FitTables s → option_map (λ t. logical.Relation (relation_of t)) (selected_table s oid) ≡ Some m → FitsLogical m × IsShortMessage m
relation_of_fits s oid m all e = by_table (selected_table s oid) refl e
  where
    by_table : (o : Option Table) → selected_table s oid ≡ o → option_map (λ t. logical.Relation (relation_of t)) o ≡ Some m → FitsLogical m × IsShortMessage m
    by_table None found e = absurd cc
    by_table (Some t) found e =
        let P : Logical → Type 0 = λ n. FitsLogical n × IsShortMessage n in
        subst P (some_is (logical.Relation (relation_of t)) m e) (relation_answer_fits t (shown_by s oid t all found).found.fits)
