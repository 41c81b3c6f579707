-- A row that is larger than any of a table stands in none, and the message of one that stands in one has room.
use Rattle.std.proofs.Common.{◌≡◌, ◌⊎◌, ℕ, suc, ◌+◌, ◌≤◌, ◌<◌, ◌^◌, Bool, true, false, cond, eqb, leb, List, [], ◌∷◌, ◌++◌, Option, Some, None, length, inl, inr, refl, sym, ap, subst, ◌∙◌, arith}
use Rattle.std.specs.Prelude.{◌&&◌}
use Rattle.std.specs.List.{AllByRecursion}
use Rattle.std.proofs.lemmas.Bool.{eqb-true, leb-true, le-leb}
use Rattle.std.proofs.lemmas.List.{length-append}
use Rattle.pqformat.specs.Fields.{int32}
use Rattle.pqformat.proofs.Numbers.{length-int32}
use Rattle.std.specs.Option.{option_map}
use Rattle.pgoutput.specs.declared.logical.Logical.{Logical}
use Rattle.pgoutput.specs.declared.logical.Logical.TheVariants as logical
use Rattle.pgoutput.specs.declared.parts.old_tuple.OldTuple.{OldTuple}
use Rattle.pgoutput.specs.declared.parts.old_tuple.OldTuple.TheVariants.{Key, Full}
use Rattle.pgoutput.specs.OldTuple.{old_tuple}
use Rattle.pgoutput.specs.Update.{old_if_any}
use Rattle.tables.specs.declared.identity.Identity.{Identity}
use Rattle.tables.specs.declared.identity.Identity.TheVariants as identities
use Rattle.pgoutput.specs.Logical.{spell_logical}
use Rattle.pgoutput.specs.Tuple.{tuple}
use Rattle.tables.specs.declared.rows.row.TheConstants.{MAX_ROW_LENGTH}
use Rattle.tables.specs.declared.table.Table.{Table}
use Rattle.tables.specs.declared.kinds.Value.{Value}
use Rattle.tables.specs.Kinds.{IsCodedValue, IsValue}
use Rattle.tables.specs.Reading.{IsCoded, SpellsBody}
use Rattle.tables.specs.declared.changes.change.Change.{Change}
use Rattle.tables.specs.declared.changes.change.Change.TheVariants as changes
use Rattle.tables.specs.Refs.{IsLarge}
use Rattle.tables.specs.Spelling.{row_length}
use Rattle.tables.specs.Tables.{fits_table, table_of}
use Rattle.publication_config.specs.Published.{PublicationSet}
use Rattle.row_messages.specs.Messages.{delete_message, insert_message, stands_in, update_message}
use Rattle.publication.specs.Projection.{message_of_update, only_if, stands, AreValues, MessageFits}
use Rattle.row_messages.specs.Relations.{FitsTable, listed_items, table_as_published}
use Rattle.publication.specs.Selection.{FitTables}
use Rattle.pqformat.specs.Writing.{FitsRoom}
use Rattle.row_messages.specs.Spelling.{HasRoomFor, IsWritten}
use Rattle.publication.specs.Read.{IsShortRow}
use Rattle.row_messages.specs.Tuples.{changes_key, key_tuple_of, old_by, old_row_of_update, tuple_after, tuple_of}
use Rattle.row_messages.proofs.Bounds.{after_bound, key_bound, tuple_bound}
use Rattle.row_messages.proofs.Choosing.{all_chosen, narrowed_shorter}
use Rattle.publication.proofs.Room.{has_room, less_room}
use Rattle.publication.proofs.Relations.{found_table}
use Rattle.publication.specs.Logged.{change_message}
use Rattle.publication.proofs.LoggedMessages.{change_fits}
use Rattle.row_messages.proofs.Rows.{both_true}
use Rattle.row_messages.proofs.Written.{chosen_short}
use Rattle.tables.proofs.Values.{value_is}

some_is : {A : Type 0} (a b : A) → Some a ≡ Some b → a ≡ b
some_is a b e = cc

both_are : (a b : Bool) → a ≡ true → b ≡ true → (a && b) ≡ true
both_are true true one other = refl
both_are true false one other = absurd cc
both_are false b one other = absurd cc

not_both : (a b : Bool) → (a ≡ true → b ≡ true → ⊥) → (a && b) ≡ false
not_both a b never = by_first a refl
  where
    by_second : a ≡ true → (c : Bool) → b ≡ c → c ≡ false
    by_second first true is = absurd (never first is)
    by_second first false is = refl

    by_first : (c : Bool) → a ≡ c → (c && b) ≡ false
    by_first true is = by_second is b refl
    by_first false is = refl

columns_are : (t : Table) (row : List Value) → fits_table t row ≡ true → length t.columns ≡ length row
columns_are t row e = eqb-true (length t.columns) (length row) (both_true (eqb (length t.columns) (length row)) _ e).0

-- no table has it
pub large : (t : Table) (row : List Value) → FitsTable t → IsLarge row → stands_in t row ≡ false
large t row fits (inl wide) = not_both (fits_table t row) (leb (row_length row) MAX_ROW_LENGTH) (λ is _. omega (arith, columns_are t row is, fits.count, wide))
large t row fits (inr long) = not_both (fits_table t row) (leb (row_length row) MAX_ROW_LENGTH) (λ _ short. omega (arith, leb-true (row_length row) MAX_ROW_LENGTH short, long))

pub large_stands : (s : PublicationSet) (oid : ℕ) (row : List Value) → FitTables s → IsLarge row → stands (table_of oid s.tables) row ≡ false
large_stands s oid row all is = by_table (table_of oid s.tables) refl
  where
    by_table : (o : Option Table) → table_of oid s.tables ≡ o → stands o row ≡ false
    by_table None found = refl
    by_table (Some t) found = large t row (found_table FitsTable oid s.tables t all found).0 is

pub nothing_if : (o : Option Logical) (b : Bool) → b ≡ false → only_if o b ≡ None
nothing_if None b e = refl
nothing_if (Some m) true e = absurd cc
nothing_if (Some m) false e = refl

-- ---- rows that stand

values_are : (row : List Value) → AllByRecursion IsCodedValue row → AllByRecursion IsValue row
values_are [] all = tt
values_are (v ∷ row) all = (value_is v all.0, values_are row all.1)

pub coded_values : (c : Change) → IsCoded c → AreValues c
coded_values (changes.Insert oid row) is = values_are row is.1.1
coded_values (changes.Update oid old new) is = (values_are old is.0.1.1, values_are new is.1.1)
coded_values (changes.Delete oid old) is = values_are old is.1.1
coded_values (changes.Truncate oids) is = tt
coded_values (changes.Message m) is = is.0.1

-- the message of a change that is read from its body
pub spelled_fits : (s : PublicationSet) (position : ℕ) (body : List ℕ) → position < 2 ^ 64 → FitTables s → (c : Change) (m : Logical) → SpellsBody body c → change_message s position c ≡ Some m → MessageFits s m
spelled_fits s position body lt all c m spelled is = change_fits s position c m lt all (coded_values c spelled.in_range) is

alike : {A B : Type 0} (flags : List Bool) (xs : List A) (ys : List B) → length xs ≡ length ys → length (listed_items flags xs) ≡ length (listed_items flags ys)
alike [] xs ys same = refl
alike (listed ∷ flags) [] [] same = refl
alike (listed ∷ flags) [] (y ∷ ys) same = absurd (omega (arith, same))
alike (listed ∷ flags) (x ∷ xs) [] same = absurd (omega (arith, same))
alike (true ∷ flags) (x ∷ xs) (y ∷ ys) same = ap suc (alike flags xs ys (omega (arith, same)))
alike (false ∷ flags) (x ∷ xs) (y ∷ ys) same = alike flags xs ys (omega (arith, same))

module _ (flags : List Bool) (t : Table) (row : List Value) (fits : FitsTable t) (is : fits_table t row ≡ true) (short : IsShortRow row) where
  pub values_chosen : AllByRecursion IsValue (listed_items flags row)
  values_chosen = all_chosen IsValue flags row (values_are row short.0.1)

  pub few : length (listed_items flags row) ≤ 64
  few = omega (arith, chosen_short flags row, columns_are t row is, fits.count)

  pub shorter : row_length (listed_items flags row) ≤ row_length row
  shorter = narrowed_shorter flags t row is

  pub insertion_room : (out : List ℕ) → HasRoomFor (5 + row_length row) out → FitsRoom 0 out (spell_logical (insert_message (listed_items flags row) (table_as_published flags t)))
  insertion_room out room =
      let bound = tuple_bound (listed_items flags row) values_chosen few in
      let size = length-append (int32 t.oid) ((78 ∷ []) ++ tuple (tuple_of (listed_items flags row))) in
      (has_room (5 + row_length row) _ out (omega (arith, bound, shorter, short.1, length-int32 t.oid, size)) (omega (arith, bound, shorter, length-int32 t.oid, size)) room, room.1)

letter_and : (letter n : ℕ) (cells : List ℕ) → length cells ≤ 1536 + n → length (letter ∷ cells) ≤ 1537 + n
letter_and letter n cells bound = omega (arith, bound)

-- what is told of a row that is gone or replaced
module _ (flags : List Bool) (t : Table) (old : List Value) (fits : FitsTable t) (is_old : fits_table t old ≡ true) (short_old : IsShortRow old) where
  abbrev row : List Value
  row = listed_items flags old

  abbrev seen : Table
  seen = table_as_published flags t

  key_told : length (tuple (key_tuple_of seen.columns row)) ≤ 1536 + row_length row
  key_told = key_bound seen.columns row (values_chosen flags t old fits is_old short_old) (few flags t old fits is_old short_old)

  all_told : length (tuple (tuple_of row)) ≤ 1536 + row_length row
  all_told = tuple_bound row (values_chosen flags t old fits is_old short_old) (few flags t old fits is_old short_old)

  no_longer : row_length row ≤ row_length old
  no_longer = shorter flags t old fits is_old short_old

  if_any : (o : Option OldTuple) → o ≡ None ⊎ ((o ≡ Some (Key (key_tuple_of seen.columns row))) ⊎ (o ≡ Some (Full (tuple_of row)))) → length (old_if_any o) ≤ 1537 + row_length row
  if_any o (inl none) = subst (λ x. length (old_if_any x) ≤ 1537 + row_length row) (sym none) (omega arith)
  if_any o (inr (inl key)) = subst (λ x. length (old_if_any x) ≤ 1537 + row_length row) (sym key) (letter_and 75 (row_length row) (tuple (key_tuple_of seen.columns row)) key_told)
  if_any o (inr (inr full)) = subst (λ x. length (old_if_any x) ≤ 1537 + row_length row) (sym full) (letter_and 79 (row_length row) (tuple (tuple_of row)) all_told)

  replaced : (i : Identity) (new : List Value) → old_row_of_update i seen row new ≡ None ⊎ ((old_row_of_update i seen row new ≡ Some (Key (key_tuple_of seen.columns row))) ⊎ (old_row_of_update i seen row new ≡ Some (Full (tuple_of row))))
  replaced identities.Default new = by_test (changes_key seen.columns row new)
    where
      by_test : (b : Bool) → cond b (Some (Key (key_tuple_of seen.columns row))) None ≡ None ⊎ ((cond b (Some (Key (key_tuple_of seen.columns row))) None ≡ Some (Key (key_tuple_of seen.columns row))) ⊎ (cond b (Some (Key (key_tuple_of seen.columns row))) None ≡ Some (Full (tuple_of row))))
      by_test true = inr (inl refl)
      by_test false = inl refl
  replaced identities.Nothing new = inl refl
  replaced identities.Full new = inr (inr refl)

  pub gone_room : (out : List ℕ) → HasRoomFor (5 + row_length old) out → (m : Logical) → delete_message row seen ≡ Some m → FitsRoom 0 out (spell_logical m)
  gone_room out room m e = by_identity t.identity e
    where
      told : (o : OldTuple) → length (old_tuple o) ≤ 1537 + row_length row → ◌≡◌ {A = Option Logical} (Some (logical.Delete (record { oid = t.oid; old = o }))) (Some m) → FitsRoom 0 out (spell_logical m)
      told o bound is =
          let size = length-append (int32 t.oid) (old_tuple o) in
          subst (λ (n : Logical). FitsRoom 0 out (spell_logical n)) (some_is (logical.Delete (record { oid = t.oid; old = o })) m is)
          (has_room (5 + row_length old) _ out (omega (arith, bound, no_longer, short_old.1, length-int32 t.oid, size)) (omega (arith, bound, no_longer, length-int32 t.oid, size)) room, room.1)

      by_identity : (i : Identity) → option_map (λ o. logical.Delete (record { oid = t.oid; old = o })) (old_by i seen row) ≡ Some m → FitsRoom 0 out (spell_logical m)
      by_identity identities.Default is = told (Key (key_tuple_of seen.columns row)) (letter_and 75 (row_length row) (tuple (key_tuple_of seen.columns row)) key_told) is
      by_identity identities.Nothing is = absurd cc
      by_identity identities.Full is = told (Full (tuple_of row)) (letter_and 79 (row_length row) (tuple (tuple_of row)) all_told) is

  pub replacement_room : (new : List Value) → fits_table t new ≡ true → IsShortRow new → (out : List ℕ) → HasRoomFor (5 + row_length old + row_length new) out
      → FitsRoom 0 out (spell_logical (update_message row (listed_items flags new) seen))
  replacement_room new is_new short_new out room =
      let same : length row ≡ length (listed_items flags new) = alike flags old new (sym (columns_are t old is_old) ∙ columns_are t new is_new) in
      let bound = after_bound row (listed_items flags new) same (values_chosen flags t new fits is_new short_new) (few flags t new fits is_new short_new) in
      let told = old_if_any (old_row_of_update t.identity seen row (listed_items flags new)) in
      let first : length told ≤ 1537 + row_length row = if_any _ (replaced t.identity (listed_items flags new)) in
      let last = tuple (tuple_after row (listed_items flags new)) in
      let new_shorter = shorter flags t new fits is_new short_new in
      let size = length-append (int32 t.oid) (told ++ ((78 ∷ []) ++ last)) in
      let parts = length-append told ((78 ∷ []) ++ last) in (
        has_room (5 + row_length old + row_length new) _ out
            (omega (arith, bound, first, no_longer, new_shorter, short_old.1, short_new.1, length-int32 t.oid, size, parts))
            (omega (arith, bound, first, no_longer, new_shorter, length-int32 t.oid, size, parts)) room,
        room.1,
      )

  -- what an update has become, by whether the old row passed and the new one passes
  pub update_room : (new : List Value) → fits_table t new ≡ true → IsShortRow new → (out : List ℕ) → HasRoomFor (5 + row_length old + row_length new) out → (before after : Bool) (m : Logical)
      → message_of_update before after (Some seen) row (listed_items flags new) ≡ Some m → FitsRoom 0 out (spell_logical m)
  update_room new is_new short_new out room true true m is =
      subst (λ (n : Logical). FitsRoom 0 out (spell_logical n)) (some_is (update_message row (listed_items flags new) seen) m is) (replacement_room new is_new short_new out room)
  update_room new is_new short_new out room false true m is =
      subst (λ (n : Logical). FitsRoom 0 out (spell_logical n)) (some_is (insert_message (listed_items flags new) seen) m is)
      (insertion_room flags t new fits is_new short_new out (less_room (5 + row_length new) (5 + row_length old + row_length new) out (omega arith) room))
  update_room new is_new short_new out room true false m is = gone_room out (less_room (5 + row_length old) (5 + row_length old + row_length new) out (omega arith) room) m is
  update_room new is_new short_new out room false false m is = absurd cc

either_false : (a b : Bool) → (a ≡ false) ⊎ (b ≡ false) → (a && b) ≡ false
either_false true b (inl e) = absurd cc
either_false false b (inl e) = refl
either_false true b (inr e) = e
either_false false b (inr e) = refl

pub large_stand : (s : PublicationSet) (oid : ℕ) (old new : List Value) → FitTables s → IsLarge old ⊎ IsLarge new → (stands (table_of oid s.tables) old && stands (table_of oid s.tables) new) ≡ false
large_stand s oid old new all (inl is) = either_false _ _ (inl (large_stands s oid old all is))
large_stand s oid old new all (inr is) = either_false _ _ (inr (large_stands s oid new all is))

-- nothing is written where there is no message
pub none_written : (r : Option ℕ) (out : List ℕ) (m : Option Logical) → r ≡ None → m ≡ None → IsWritten r out out m
none_written r out m answers none = subst (λ o. IsWritten r out out o) (sym none) (subst (λ o. IsWritten o out out None) (sym answers) refl)
