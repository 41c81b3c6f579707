-- Whether a change has a message, by its parts.
use Rattle.std.proofs.Common.{◌≡◌, ℕ, ◌<◌, Bool, true, false, cond, leb, List, [], ◌∷◌, Option, Some, None, Result, Ok, Err, length, refl, sym, ap, ap₂, ◌∙◌, w32, arith}
use Rattle.std.specs.Prelude.{◌&&◌, ◌||◌, is_some, filter}
use Rattle.std.specs.List.{list_any}
use Rattle.std.specs.Option.{option_and_then, option_map}
use Rattle.std.proofs.lemmas.Bool.{le-leb}
use Rattle.pqformat.specs.Fields.{number_at}
use Rattle.pqformat.specs.Steps.{◌>>=◌}
use Rattle.pgoutput.specs.declared.logical.Logical.{Logical}
use Rattle.tables.specs.declared.changes.change.Change.TheVariants as changes
use Rattle.tables.specs.declared.changes.change_body.TheConstants.{MAX_TRUNCATED}
use Rattle.tables.specs.declared.fault.BodyFault.{BodyFault}
use Rattle.tables.specs.declared.identity.Identity.{Identity}
use Rattle.tables.specs.declared.identity.Identity.TheVariants as identities
use Rattle.tables.specs.declared.kinds.Value.{Value}
use Rattle.tables.specs.declared.rows.row.TheConstants.{MAX_ROW_LENGTH}
use Rattle.tables.specs.declared.table.Table.{Table}
use Rattle.tables.specs.Reading.{insert_at, row_at, update_at}
use Rattle.tables.specs.Refs.{IsLarge}
use Rattle.tables.specs.Spelling.{row_length}
use Rattle.tables.specs.Tables.{fits_table, table_of}
use Rattle.publication_config.specs.declared.operations.Operation.{Operation}
use Rattle.publication_config.specs.declared.operations.Operation.TheVariants.{Insert, Update, Delete, Truncate}
use Rattle.publication_config.specs.Published.{PublicationSet}
use Rattle.row_messages.specs.Messages.{delete_message, insert_message, stands_in}
use Rattle.publication.specs.Projection.{is_published, may_be_emptied, message, message_by, message_of_update, only_if, passes, row_as_published, stands, truncate_message}
use Rattle.row_messages.specs.Relations.{FitsTable, table_as_published}
use Rattle.publication.specs.Selection.{has_table, list_by, selected_table, whole_table}
use Rattle.publication.specs.Read.{IsShortRow}
use Rattle.row_messages.specs.Tuples.{old_by}
use Rattle.publication.proofs.Oids.{few_emptied}
use Rattle.publication.proofs.Standing.{large}

-- ---- tests

and_false : (a b : Bool) → b ≡ false → (a && b) ≡ false
and_false true b e = e
and_false false b e = refl

and_true : (a b : Bool) → b ≡ true → (a && b) ≡ a
and_true true b e = e
and_true false b e = refl

-- ---- messages that are there

only_some : (o : Option Logical) (b : Bool) → is_some (only_if o b) ≡ (b && is_some o)
only_some None true = refl
only_some None false = refl
only_some (Some m) true = refl
only_some (Some m) false = refl

mapped_some : {A B : Type 0} (f : A → B) (o : Option A) → is_some (option_map f o) ≡ is_some o
mapped_some f None = refl
mapped_some f (Some x) = refl

if_some : (b : Bool) (o : Option Logical) → is_some (cond b o None) ≡ (b && is_some o)
if_some true o = refl
if_some false o = refl

-- what is sent of a row that is gone is there by the identity alone
gone_some : (i : Identity) (t u : Table) (a b : List Value) → is_some (old_by i t a) ≡ is_some (old_by i u b)
gone_some identities.Default t u a b = refl
gone_some identities.Nothing t u a b = refl
gone_some identities.Full t u a b = refl

-- ---- rows

short_stands : (t : Table) (row : List Value) → IsShortRow row → stands_in t row ≡ fits_table t row
short_stands t row short = and_true (fits_table t row) (leb (row_length row) MAX_ROW_LENGTH) (le-leb (row_length row) MAX_ROW_LENGTH short.1)

-- one that is larger than any of a table
pub large_first : (t : Table) (row : List Value) (b : Bool) → FitsTable t → IsLarge row → false ≡ (stands_in t row && b)
large_first t row b fits is = sym (ap (λ a. a && b) (large t row fits is))

pub large_second : (a : Bool) (t : Table) (row : List Value) (b : Bool) → FitsTable t → IsLarge row → false ≡ (a && (stands_in t row && b))
large_second a t row b fits is = sym (and_false a _ (sym (large_first t row b fits is)))

-- one that doesn't fit
pub unfit_first : (t : Table) (row : List Value) (b : Bool) → fits_table t row ≡ false → false ≡ (stands_in t row && b)
unfit_first t row b e = sym (ap (λ a. (a && leb (row_length row) MAX_ROW_LENGTH) && b) e)

one_stands : (t : Table) (row : List Value) (b : Bool) → IsShortRow row → (fits_table t row && b) ≡ (stands_in t row && b)
one_stands t row b short = ap (λ a. a && b) (sym (short_stands t row short))

pub fitting_stands : (t : Table) (row : List Value) (b : Bool) → fits_table t row ≡ true → IsShortRow row → b ≡ (stands_in t row && b)
fitting_stands t row b fits short = sym (ap (λ a. a && b) (short_stands t row short ∙ fits))

pub both_stand : (t : Table) (old new : List Value) (b : Bool) → fits_table t old ≡ true → IsShortRow old → IsShortRow new → (fits_table t new && b) ≡ (stands_in t old && (stands_in t new && b))
both_stand t old new b fits short_old short_new = one_stands t new b short_new ∙ fitting_stands t old (stands_in t new && b) fits short_old

abbrev oid_in : Result ((ℕ × List Value) × List ℕ) BodyFault → ℕ → ℕ
oid_in (Ok read) other = read.0.0
oid_in (Err fault) other = other

abbrev with_oid : ℕ → List Value × List ℕ → Result ((ℕ × List Value) × List ℕ) BodyFault
with_oid oid row = Ok ((oid, row.0), row.1)

pub insert_oid : (fields after rest : List ℕ) (oid : ℕ) (m : ℕ × List Value) → number_at w32 fields ≡ Some (oid, after) → insert_at fields ≡ Ok (m, rest) → oid ≡ m.0
unfolding insert_at
insert_oid fields after rest oid m is e = by_row (row_at after) (rw is at e)
  where
    by_row : (read : Result (List Value × List ℕ) BodyFault) → (read >>= with_oid oid) ≡ Ok (m, rest) → oid ≡ m.0
    by_row (Ok row) e = ap (λ r. oid_in r oid) e
    by_row (Err fault) e = absurd cc

pub update_read : (fields behind : List ℕ) (first : ℕ × List Value) (new : List Value) → insert_at fields ≡ Ok (first, behind) → row_at behind ≡ Ok (new, []) → update_at fields ≡ Ok ((first, new), [])
unfolding update_at
update_read fields behind first new a b = rw a (rw b refl)

abbrev value_in : {A : Type 0} → Result (A × List ℕ) BodyFault → A → A
value_in (Ok read) other = read.0
value_in (Err fault) other = other

pub read_alike : {A : Type 0} (read : Result (A × List ℕ) BodyFault) (x y : A) (behind after : List ℕ) → read ≡ Ok (x, behind) → read ≡ Ok (y, after) → x ≡ y
read_alike read x y behind after a b = ap (λ r. value_in r x) (sym a ∙ b)

-- what is judged of an update in a table
abbrev pub update_judged : PublicationSet → Table → (ℕ × List Value) × List Value → Bool
update_judged s t m =
    stands_in t m.0.1 && (stands_in t m.1 && ((is_some (old_by t.identity t m.0.1) && passes s Update m.0.0 m.0.1) || passes s Update m.0.0 m.1))

-- and of a row that stands alone
abbrev pub row_judged : PublicationSet → Operation → Table → ℕ × List Value → Bool
row_judged s operation t m = stands_in t m.1 && passes s operation m.0 m.1

-- ---- changes of a table

module _ (s : PublicationSet) (oid : ℕ) where
  abbrev seen : Table → Table
  seen t = table_as_published (list_by s.publications oid) t

  module _ (outside : whole_table s oid ≡ None) where
    unseen : selected_table s oid ≡ None
    unseen = ap (option_map seen) outside

    nothing_if : (p : Bool) (f : Table → Option Logical) → is_some (cond p (option_and_then f (selected_table s oid)) None) ≡ false
    nothing_if p f = if_some p _ ∙ and_false p _ (ap (λ o. is_some (option_and_then f o)) unseen)

    pub insert_outside : (row : List Value) → false ≡ is_some (message s (changes.Insert oid row))
    insert_outside row =
        let none : is_some (message_by s (changes.Insert oid row)) ≡ false =
        if_some (passes s Insert oid row) _ ∙ and_false (passes s Insert oid row) _ (ap (λ o. is_some (option_map (insert_message (row_as_published s oid row)) o)) unseen) in
        sym (only_some (message_by s (changes.Insert oid row)) _ ∙ and_false (stands (table_of oid s.tables) row) _ none)

    pub delete_outside : (old : List Value) → false ≡ is_some (message s (changes.Delete oid old))
    delete_outside old =
        sym (only_some (message_by s (changes.Delete oid old)) _ ∙ and_false (stands (table_of oid s.tables) old) _ (nothing_if (passes s Delete oid old) (delete_message (row_as_published s oid old))))

    of_none : (p q : Bool) (old new : List Value) → is_some (message_of_update p q None old new) ≡ false
    of_none true true old new = refl
    of_none true false old new = refl
    of_none false true old new = refl
    of_none false false old new = refl

    pub update_outside : (old new : List Value) → false ≡ is_some (message s (changes.Update oid old new))
    update_outside old new =
        let p = passes s Update oid old in
        let q = passes s Update oid new in
        let a = row_as_published s oid old in
        let b = row_as_published s oid new in
        let none : is_some (message_by s (changes.Update oid old new)) ≡ false = ap (λ o. is_some (message_of_update p q o a b)) unseen ∙ of_none p q a b in
        sym (only_some (message_by s (changes.Update oid old new)) _ ∙ and_false (stands (table_of oid s.tables) old && stands (table_of oid s.tables) new) _ none)

  module _ (t : Table) (inside : whole_table s oid ≡ Some t) where
    found : selected_table s oid ≡ Some (seen t)
    found = ap (option_map seen) inside

    known : table_of oid s.tables ≡ Some t
    known = by_test (has_table s oid) (table_of oid s.tables) inside
      where
        by_test : (b : Bool) (o : Option Table) → cond b o None ≡ Some t → o ≡ Some t
        by_test true o e = e
        by_test false o e = absurd cc

    stood : (row : List Value) → stands (table_of oid s.tables) row ≡ stands_in t row
    stood row = ap (λ o. stands o row) known

    pub insert_inside : (row : List Value) → (stands_in t row && passes s Insert oid row) ≡ is_some (message s (changes.Insert oid row))
    insert_inside row =
        let p = passes s Insert oid row in
        let told : is_some (message_by s (changes.Insert oid row)) ≡ p =
        if_some p _ ∙ and_true p _ (ap (λ o. is_some (option_map (insert_message (row_as_published s oid row)) o)) found) in
        sym (only_some (message_by s (changes.Insert oid row)) _ ∙ ap₂ (λ (a b : Bool). a && b) (stood row) told)

    gone : (old : List Value) → is_some (delete_message (row_as_published s oid old) (seen t)) ≡ is_some (old_by t.identity t old)
    gone old = mapped_some _ (old_by t.identity (seen t) (row_as_published s oid old)) ∙ gone_some t.identity (seen t) t (row_as_published s oid old) old

    delete_is : (old : List Value) → is_some (message s (changes.Delete oid old)) ≡ (stands_in t old && (passes s Delete oid old && is_some (old_by t.identity t old)))
    delete_is old =
        let p = passes s Delete oid old in
        let told : is_some (message_by s (changes.Delete oid old)) ≡ (p && is_some (old_by t.identity t old)) =
        if_some p _ ∙ ap (λ b. p && b) (ap (λ o. is_some (option_and_then (delete_message (row_as_published s oid old)) o)) found ∙ gone old) in
        only_some (message_by s (changes.Delete oid old)) _ ∙ ap₂ (λ (a b : Bool). a && b) (stood old) told

    -- nothing can be told of the row
    pub delete_untold : (old : List Value) → is_some (old_by t.identity t old) ≡ false → false ≡ is_some (message s (changes.Delete oid old))
    delete_untold old none = sym (delete_is old ∙ and_false (stands_in t old) _ (and_false (passes s Delete oid old) _ none))

    pub delete_told : (old : List Value) → is_some (old_by t.identity t old) ≡ true → (stands_in t old && passes s Delete oid old) ≡ is_some (message s (changes.Delete oid old))
    delete_told old some = sym (delete_is old ∙ ap (λ b. stands_in t old && b) (and_true (passes s Delete oid old) _ some))

    either : (p q g : Bool) (u : Table) (old new : List Value) → is_some (delete_message old u) ≡ g → is_some (message_of_update p q (Some u) old new) ≡ ((g && p) || q)
    either true true true u old new e = refl
    either true true false u old new e = refl
    either false true true u old new e = refl
    either false true false u old new e = refl
    either true false true u old new e = e
    either true false false u old new e = e
    either false false true u old new e = refl
    either false false false u old new e = refl

    pub update_inside : (old new : List Value)
        → (stands_in t old && (stands_in t new && ((is_some (old_by t.identity t old) && passes s Update oid old) || passes s Update oid new))) ≡ is_some (message s (changes.Update oid old new))
    update_inside old new =
        let p = passes s Update oid old in
        let q = passes s Update oid new in
        let a = row_as_published s oid old in
        let b = row_as_published s oid new in
        let g = is_some (old_by t.identity t old) in
        let told : is_some (message_by s (changes.Update oid old new)) ≡ ((g && p) || q) = ap (λ o. is_some (message_of_update p q o a b)) found ∙ either p q g (seen t) a b (gone old) in
        sym (only_some (message_by s (changes.Update oid old new)) _ ∙ ap₂ (λ (x y : Bool). x && y) (ap₂ (λ (x y : Bool). x && y) (stood old) (stood new)) told ∙ assoc (stands_in t old) (stands_in t new) ((g && p) || q))
      where
        assoc : (x y z : Bool) → ((x && y) && z) ≡ (x && (y && z))
        assoc true y z = refl
        assoc false y z = refl

-- ---- truncates

some_kept : (p : ℕ → Bool) (oids : List ℕ) → is_some (truncate_message (filter p oids)) ≡ list_any p oids
some_kept p [] = refl
some_kept p (x ∷ oids) = by_test (p x) (some_kept p oids)
  where
    by_test : (b : Bool) → is_some (truncate_message (filter p oids)) ≡ list_any p oids → is_some (truncate_message (cond b (x ∷ filter p oids) (filter p oids))) ≡ (b || list_any p oids)
    by_test true e = refl
    by_test false e = e

truncate_is : (s : PublicationSet) (oids : List ℕ) → (may_be_emptied s.tables oids && list_any (is_published s Truncate) oids) ≡ is_some (message s (changes.Truncate oids))
truncate_is s oids = sym (only_some (message_by s (changes.Truncate oids)) _ ∙ ap (λ b. may_be_emptied s.tables oids && b) (some_kept (is_published s Truncate) oids))

pub truncate_emptied : (s : PublicationSet) (tables : List Table) (oids : List ℕ) → tables ≡ s.tables → may_be_emptied tables oids ≡ true → list_any (is_published s Truncate) oids ≡ is_some (message s (changes.Truncate oids))
truncate_emptied s tables oids same fits = sym (ap (λ a. a && list_any (is_published s Truncate) oids) (ap (λ ts. may_be_emptied ts oids) (sym same) ∙ fits)) ∙ truncate_is s oids

pub truncate_many : (s : PublicationSet) (oids : List ℕ) → MAX_TRUNCATED < length oids → false ≡ is_some (message s (changes.Truncate oids))
truncate_many s oids many = by_test (may_be_emptied s.tables oids) refl ∙ truncate_is s oids
  where
    by_test : (b : Bool) → may_be_emptied s.tables oids ≡ b → false ≡ (b && list_any (is_published s Truncate) oids)
    by_test true is = absurd (omega (arith, few_emptied s.tables oids is, many))
    by_test false is = refl
