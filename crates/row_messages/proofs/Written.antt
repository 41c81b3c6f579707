-- Texts that are written one after the other into a slice.
use Rattle.std.proofs.Common.{◌≡◌, ℕ, suc, ◌+◌, ◌^◌, ◌<◌, ◌≤◌, Bool, true, false, cond, List, [], ◌∷◌, ◌++◌, drop, get_or, length, map, take, Option, Some, None, refl, sym, ap, subst, ◌∙◌, append_assoc, append-nil, arith}
use Rattle.std.specs.List.{flat_map, list_any, zip}
use Rattle.std.proofs.lemmas.List.{drop_all, get_or_default, length-append, length-map, length-take, take-append-le}
use Rattle.std.proofs.lemmas.List.Concat.{flat_map-cons}
use Rattle.std.specs.Prelude.{◌&&◌, ◌||◌, not}
use Rattle.std.proofs.lemmas.Slice.Zip.{length-zip}
use Rattle.tables.specs.declared.column.Column.{Column}
use Rattle.tables.specs.declared.kinds.Value.{Value}
use Rattle.tables.specs.declared.kinds.Value.TheVariants as values
use Rattle.row_messages.specs.Kinds.{same_value}
use Rattle.row_messages.specs.Tuples.{changes_key, old_by}
use Rattle.std.specs.Option.{option_map}
use Rattle.tables.specs.declared.table.Table.{Table}
use Rattle.pgoutput.specs.declared.messages.delete.TheConstants.{DELETE}
use Rattle.pgoutput.specs.declared.logical.Logical.{Logical}
use Rattle.pgoutput.specs.declared.logical.Logical.TheVariants as logical
use Rattle.pgoutput.specs.declared.parts.old_tuple.OldTuple.{OldTuple}
use Rattle.pgoutput.specs.Logical.{spell_logical}
use Rattle.pgoutput.specs.OldTuple.{old_tuple}
use Rattle.row_messages.specs.Messages.{delete_message}
use Rattle.pqformat.specs.Fields.{int16, int32}
use Rattle.pqformat.proofs.Numbers.{length-int16, length-int32}
use Rattle.pgoutput.specs.declared.parts.tuple.Cell.{Cell}
use Rattle.pgoutput.specs.declared.parts.tuple.Cell.TheVariants as cells
use Rattle.pgoutput.specs.Tuple.{cell, tuple}
use Rattle.publication_config.specs.Published.{is_listed}
use Rattle.row_messages.specs.Relations.{listed_items}
use Rattle.pqformat.specs.Writing.{FitsRoom, Writes}
use Rattle.pqformat.proofs.Writing.{first, left, length_front}
use Rattle.row_messages.specs.Spelling.{IsPut, IsWritten}
use Rattle.row_messages.proofs.Choosing.{beside, next_by, none_left, paired, zip_chosen}

pub text_length : (text : List ℕ) → length (cell (cells.Text text)) ≡ 5 + length text
text_length text = omega (arith, length-append (int32 (length text)) text, length-int32 (length text))

-- ---- the cells of what is listed

pub chosen_short : {A : Type 0} (flags : List Bool) (xs : List A) → length (listed_items flags xs) ≤ length xs
chosen_short [] xs = omega arith
chosen_short (listed ∷ flags) [] = omega arith
chosen_short (true ∷ flags) (x ∷ xs) = let rest = chosen_short flags xs in omega (arith, rest)
chosen_short (false ∷ flags) (x ∷ xs) = let rest = chosen_short flags xs in omega (arith, rest)

pub chosen_alike : {A B : Type 0} (flags : List Bool) (xs : List A) (ys : List B) → length xs ≡ length ys → length (listed_items flags xs) ≡ length (listed_items flags (zip xs ys))
chosen_alike [] xs ys same = refl
chosen_alike (listed ∷ flags) [] ys same = refl
chosen_alike (listed ∷ flags) (x ∷ xs) [] same = absurd (omega (arith, same))
chosen_alike (true ∷ flags) (x ∷ xs) (y ∷ ys) same = ap suc (chosen_alike flags xs ys (omega (arith, same)))
chosen_alike (false ∷ flags) (x ∷ xs) (y ∷ ys) same = chosen_alike flags xs ys (omega (arith, same))

pub chosen_second : {A B : Type 0} (flags : List Bool) (xs : List A) (ys : List B) → length xs ≡ length ys → length (listed_items flags ys) ≡ length (listed_items flags (zip xs ys))
chosen_second [] xs ys same = refl
chosen_second (listed ∷ flags) [] [] same = refl
chosen_second (listed ∷ flags) [] (y ∷ ys) same = absurd (omega (arith, same))
chosen_second (listed ∷ flags) (x ∷ xs) [] same = absurd (omega (arith, same))
chosen_second (true ∷ flags) (x ∷ xs) (y ∷ ys) same = ap suc (chosen_second flags xs ys (omega (arith, same)))
chosen_second (false ∷ flags) (x ∷ xs) (y ∷ ys) same = chosen_second flags xs ys (omega (arith, same))

module _ {A : Type 0} (flags : List Bool) (xs : List A) (i : ℕ) (x : A) (low : i < length xs) (is : x ≡ get_or xs i x) where
  pub on : is_listed flags i ≡ true → listed_items (drop i flags) (drop i xs) ≡ x ∷ listed_items (drop (i + 1) flags) (drop (i + 1) xs)
  on listed = let rest = listed_items (drop (i + 1) flags) (drop (i + 1) xs) in next_by flags xs i x low is ∙ ap (λ (b : Bool). cond b (x ∷ rest) rest) listed

  pub off : is_listed flags i ≡ false → listed_items (drop i flags) (drop i xs) ≡ listed_items (drop (i + 1) flags) (drop (i + 1) xs)
  off listed = let rest = listed_items (drop (i + 1) flags) (drop (i + 1) xs) in next_by flags xs i x low is ∙ ap (λ (b : Bool). cond b (x ∷ rest) rest) listed

pub past : {A : Type 0} (flags : List Bool) (xs : List A) (i : ℕ) → length xs ≤ i → listed_items (drop i flags) (drop i xs) ≡ []
past flags xs i high = ap (listed_items (drop i flags)) (drop_all i xs high) ∙ none_left (drop i flags)

abbrev pub cells_from : {A : Type 0} → (A → Cell) → List Bool → List A → ℕ → List ℕ
cells_from f flags xs i = flat_map cell (map f (listed_items (drop i flags) (drop i xs)))

-- what a loop over the columns keeps: what is written, and after it the cells of the columns to come, are the whole
pub record IsPartOf {A : Type 0} (f : A → Cell) (flags : List Bool) (xs : List A) (i at : ℕ) (out whole : List ℕ) : Type 0 where
  pub parts : take at out ++ cells_from f flags xs i ≡ whole
  pub within : at ≤ length out
  pub room : length whole ≤ length out
  pub short : length out < 2 ^ 31

module _ {A : Type 0} (f : A → Cell) (flags : List Bool) (xs : List A) (whole : List ℕ) where
  size : (i at : ℕ) (out : List ℕ) → IsPartOf f flags xs i at out whole → at + length (cells_from f flags xs i) ≡ length whole
  size i at out p = let len = length-append (take at out) (cells_from f flags xs i) in omega (arith, len, length_front at out p.within, ap length p.parts)

  module _ (i at : ℕ) (out : List ℕ) (x : A) (low : i < length xs) (is : x ≡ get_or xs i x) (p : IsPartOf f flags xs i at out whole) where
    next : is_listed flags i ≡ true → cells_from f flags xs i ≡ cell (f x) ++ cells_from f flags xs (i + 1)
    next listed = ap (λ l. flat_map cell (map f l)) (on flags xs i x low is listed) ∙ flat_map-cons cell (f x) (map f (listed_items (drop (i + 1) flags) (drop (i + 1) xs)))

    pub fits : is_listed flags i ≡ true → FitsRoom at out (cell (f x))
    fits listed =
        let total = size i at out p in
        let parts = ap length (next listed) ∙ length-append (cell (f x)) (cells_from f flags xs (i + 1)) in
        (omega (arith, total, parts, p.room), p.short)

    pub written : (to : ℕ) (new : List ℕ) → is_listed flags i ≡ true → Writes at to out new (cell (f x)) → IsPartOf f flags xs (i + 1) to new whole
    written to new listed w =
        let room = fits listed in
        record {
          parts = ap (λ l. l ++ cells_from f flags xs (i + 1)) w.front ∙ append_assoc (take at out) (cell (f x)) (cells_from f flags xs (i + 1)) ∙ ap (λ l. take at out ++ l) (sym (next listed)) ∙ p.parts;
          within = omega (arith, w.ends, w.same, room.0);
          room = omega (arith, w.same, p.room);
          short = omega (arith, w.same, p.short);
        }

    pub skipped : is_listed flags i ≡ false → IsPartOf f flags xs (i + 1) at out whole
    skipped listed = record {
      parts = ap (λ l. take at out ++ flat_map cell (map f l)) (sym (off flags xs i x low is listed)) ∙ p.parts;
      within = p.within;
      room = p.room;
      short = p.short;
    }

  -- all are written
  pub ended : (i at to : ℕ) (old out text : List ℕ) → length xs ≤ i → IsPartOf f flags xs i to out whole → whole ≡ take at old ++ text → at ≤ length old → length out ≡ length old → Writes at to old out text
  ended i at to old out text high p is within same =
      let front : take to out ≡ take at old ++ text = sym (append-nil (take to out)) ∙ ap (λ l. take to out ++ flat_map cell (map f l)) (sym (past flags xs i high)) ∙ p.parts ∙ is in
      record {
        ends = let len = length-append (take at old) text in omega (arith, ap length front, len, length_front to out p.within, length_front at old within);
        front = front;
        same = same;
      }

-- the count of a tuple has room, and then its cells
pub tuple_room : (at : ℕ) (out : List ℕ) (cs : List Cell) → FitsRoom at out (tuple cs) → at + 2 ≤ length out
tuple_room at out cs room = omega (arith, room.0, length-append (int16 (length cs)) (flat_map cell cs), length-int16 (length cs))

module _ {A : Type 0} (f : A → Cell) (flags : List Bool) (xs : List A) (at to n : ℕ) (old new : List ℕ) (room : FitsRoom at old (tuple (map f (listed_items flags xs)))) (is : n ≡ length (listed_items flags xs)) (w : Writes at to old new (int16 n)) where
  count : n ≡ length (map f (listed_items flags xs))
  count = is ∙ sym (length-map (listed_items flags xs) f)

  low : at + 2 ≤ length old
  low = tuple_room at old (map f (listed_items flags xs)) room

  pub begun : IsPartOf f flags xs 0 to new (take to new ++ flat_map cell (map f (listed_items flags xs)))
  begun =
      let cs = map f (listed_items flags xs) in
      let two = length-append (int16 (length cs)) (flat_map cell cs) in
      let inside : to ≤ length new = omega (arith, w.ends, w.same, low, length-int16 n) in
      record {
        parts = refl;
        within = inside;
        room = omega (arith, length-append (take to new) (flat_map cell cs), length_front to new inside, two, length-int16 n, length-int16 (length cs), room.0, w.ends, w.same);
        short = omega (arith, w.same, room.1);
      }

  -- all columns are told
  pub told : (i last : ℕ) (out : List ℕ) → length xs ≤ i → IsPartOf f flags xs i last out (take to new ++ flat_map cell (map f (listed_items flags xs))) → length out ≡ length new → Writes at last old out (tuple (map f (listed_items flags xs)))
  told i last out high p same =
      let cs = map f (listed_items flags xs) in
      let whole : take to new ++ flat_map cell cs ≡ take at old ++ tuple cs =
      ap (λ l. l ++ flat_map cell cs) (w.front ∙ ap (λ k. take at old ++ int16 k) count) ∙ append_assoc (take at old) (int16 (length cs)) (flat_map cell cs) in
      ended f flags xs (take to new ++ flat_map cell cs) i at last old out (tuple cs) high p whole (omega (arith, low)) (same ∙ w.same)

pub pair_is : {A B : Type 0} (a c : A) (b d : B) → a ≡ c → b ≡ d → ◌≡◌ {A = A × B} (a, b) (c, d)
pair_is a c b d p q = ap (λ z. (z, b)) p ∙ ap (λ z. (c, z)) q

-- ---- a key that is changed

abbrev pub is_changed : Column × (Value × Value) → Bool
is_changed p = p.0.is_key && not (same_value p.1.0 p.1.1)

pub key_is : (flags : List Bool) (columns : List Column) (old new : List Value) → list_any is_changed (listed_items flags (zip columns (zip old new))) ≡ changes_key (listed_items flags columns) (listed_items flags old) (listed_items flags new)
key_is flags columns old new = ap (list_any is_changed) (sym (ap (zip (listed_items flags columns)) (zip_chosen flags old new) ∙ zip_chosen flags columns (zip old new)))

any_first : (b c : Bool) → b ≡ true → (b || c) ≡ true
any_first true c e = refl
any_first false c e = absurd cc

any_rest : (b c : Bool) → b ≡ false → (b || c) ≡ c
any_rest false c e = refl
any_rest true c e = absurd cc

module _ (flags : List Bool) (columns : List Column) (old new : List Value) (i : ℕ) (column : Column) (low : i < length columns) (olds : length columns ≡ length old) (news : length old ≡ length new) (is : column ≡ get_or columns i column) where
  abbrev pub before : Value
  before = get_or old i values.Null

  abbrev pub value : Value
  value = get_or new i values.Null

  abbrev triple : Column × (Value × Value)
  triple = (column, (before, value))

  inner : (before, value) ≡ get_or (zip old new) i (before, value)
  inner = beside old new i before value (omega (arith, low, olds)) news (get_or_default old i values.Null before (omega (arith, low, olds))) (get_or_default new i values.Null value (omega (arith, low, olds, news)))

  alike : length columns ≡ length (zip old new)
  alike = omega (arith, olds, news, length-zip old new)

  there : i < length (zip columns (zip old new))
  there = paired columns (zip old new) i low alike

  stands : triple ≡ get_or (zip columns (zip old new)) i triple
  stands = beside columns (zip old new) i column (before, value) low alike is inner

  abbrev rest : Bool
  rest = list_any is_changed (listed_items (drop (i + 1) flags) (drop (i + 1) (zip columns (zip old new))))

  pub changed_here : is_listed flags i ≡ true → (column.is_key && not (same_value before value)) ≡ true → list_any is_changed (listed_items (drop i flags) (drop i (zip columns (zip old new)))) ≡ true
  changed_here listed is_so = ap (list_any is_changed) (on flags (zip columns (zip old new)) i triple there stands listed) ∙ any_first (is_changed triple) rest is_so

  pub same_here : is_listed flags i ≡ true → (column.is_key && not (same_value before value)) ≡ false → list_any is_changed (listed_items (drop i flags) (drop i (zip columns (zip old new)))) ≡ rest
  same_here listed is_so = ap (list_any is_changed) (on flags (zip columns (zip old new)) i triple there stands listed) ∙ any_rest (is_changed triple) rest is_so

  pub passed_here : is_listed flags i ≡ false → list_any is_changed (listed_items (drop i flags) (drop i (zip columns (zip old new)))) ≡ rest
  passed_here listed = ap (list_any is_changed) (off flags (zip columns (zip old new)) i triple there stands listed)

-- ---- lengths of the fronts of messages

pub then_int32 : (at to b : ℕ) (old new : List ℕ) (oid : ℕ) (more : List ℕ) → Writes at to old new (b ∷ []) → FitsRoom at old (b ∷ (int32 oid ++ more)) → to + 4 ≤ length new
then_int32 at to b old new oid more w room =
    let rest = (first to new (int32 oid) more (left at to old new (b ∷ []) (int32 oid ++ more) w room)).0 in
    omega (arith, rest, length-int32 oid)

-- a Delete up to the letter before its tuple, and then that
pub head_room : (out : List ℕ) (kind oid letter : ℕ) (more : List ℕ) → FitsRoom 0 out (kind ∷ (int32 oid ++ (letter ∷ more))) → FitsRoom 0 out (kind ∷ (int32 oid ++ (letter ∷ [])))
head_room out kind oid letter more room =
    let long = length-append (int32 oid) (letter ∷ more) in
    let short = length-append (int32 oid) (letter ∷ []) in
    (omega (arith, long, short, room.0), room.1)

pub after_head : (out new : List ℕ) (to kind oid letter : ℕ) (more : List ℕ) → Writes 0 to out new (kind ∷ (int32 oid ++ (letter ∷ []))) → FitsRoom 0 out (kind ∷ (int32 oid ++ (letter ∷ more))) → FitsRoom to new more
after_head out new to kind oid letter more w room =
    left 0 to out new (kind ∷ (int32 oid ++ (letter ∷ []))) more w (subst (λ l. FitsRoom 0 out (kind ∷ l)) (sym (append_assoc (int32 oid) (letter ∷ []) more)) room)

pub deletion_room : (t : Table) (row : List Value) (out : List ℕ) (o : OldTuple) → old_by t.identity t row ≡ Some o → ((m : Logical) → delete_message row t ≡ Some m → FitsRoom 0 out (spell_logical m))
    → FitsRoom 0 out (DELETE ∷ (int32 t.oid ++ old_tuple o))
deletion_room t row out o is room = room (logical.Delete (record { oid = t.oid; old = o })) (ap (option_map (λ (old : OldTuple). logical.Delete (record { oid = t.oid; old = old }))) is)

pub ruleset sizes = (length-int16, length-int32, text_length, then_int32)

-- the message at the front of the front is at the front
pub put_in : (r : Option ℕ) (old new rest : List ℕ) (m : Option Logical) → IsWritten r old new m → IsPut r (new ++ rest) m
put_in None old new rest None w = tt
put_in (Some to) old new rest (Some m) w =
    let size = length-take to new in
    let inside : to ≤ length new = omega (arith, w.ends, ap length w.front, size) in
    (omega (arith, inside, length-append new rest), take-append-le to new rest inside ∙ w.front)
put_in None old new rest (Some m) w = absurd w
put_in (Some to) old new rest None w = absurd w
