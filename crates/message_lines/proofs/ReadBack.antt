-- A reader of JSON finds in each line what was written there.
use Rattle.std.proofs.Common.{◌≡◌, ℕ, ◌<◌, ◌≤◌, ◌^◌, Bool, true, false, List, [], ◌∷◌, Option, Some, None, refl, arith}
use Rattle.std.specs.Prelude.{FitsSigned, if◌then◌else◌, ◌&&◌}
use Rattle.std.specs.Int.{w64}
use Rattle.std.proofs.lemmas.Bool.{and_parts}
use Rattle.pgoutput.specs.declared.messages.begin.Begin.{Begin}
use Rattle.pgoutput.specs.declared.messages.commit.Commit.{Commit}
use Rattle.pgoutput.specs.declared.messages.delete.Delete.{Delete}
use Rattle.pgoutput.specs.declared.messages.insert.Insert.{Insert}
use Rattle.pgoutput.specs.declared.messages.message.Message.{Message}
use Rattle.pgoutput.specs.declared.parts.old_tuple.OldTuple.{OldTuple}
use Rattle.pgoutput.specs.declared.parts.old_tuple.OldTuple.TheVariants as old
use Rattle.pgoutput.specs.declared.messages.relation.Column.{Column}
use Rattle.pgoutput.specs.declared.messages.relation.Relation.{Relation}
use Rattle.pgoutput.specs.declared.parts.tuple.Cell.{Cell}
use Rattle.pgoutput.specs.declared.parts.tuple.Cell.TheVariants as cells
use Rattle.pgoutput.specs.declared.messages.update.Update.{Update}
use Rattle.json.specs.Json.{Json, null, number, Items, item, document}
use Rattle.json.specs.Tree.{depth, items_depth, members_depth, HasNumbers, ItemsHaveNumbers, MembersHaveNumbers}
use Rattle.json.proofs.Printed.Decimals.{IsNumber-decimal, IsNumber-signed_decimal}
use Rattle.json.proofs.Printed.Trees.{document-print}
use Rattle.message_lines.specs.declared.parts.told_values.ToldValues.{ToldValues}
use Rattle.message_lines.specs.declared.parts.told_values.ToldValues.TheVariants.{Whole, Key}
use Rattle.message_lines.specs.Line.{text_of}
use Rattle.message_lines.specs.Kinds.{is_number, kind_name, kind_json}
use Rattle.message_lines.specs.Values.{is_no_number, is_numeral, is_told_number, told_text, truth_of, truth_or_text, value_json}
use Rattle.message_lines.specs.Rows.{AreKinds, column_json, is_told, with_cell, cells_items}
use Rattle.message_lines.specs.Changes.{delete_json, insert_json, old_json, old_members, truncate_json, update_json}
use Rattle.message_lines.specs.Marks.{begin_json, commit_json, message_json, summary_json}
use Rattle.message_lines.proofs.Numerals.{numeral_is}

-- ---- Each number is one, and nothing nests deep.

-- what may stand as the value of a column
record Plain (j : Json) : Type 0 where
  numbers : HasNumbers j
  flat : depth j ≤ 0

truth_or_text_plain : (o : Option Bool) (text : List ℕ) → Plain (truth_or_text o text)
truth_or_text_plain (Some b) text = record { numbers = tt; flat = omega arith }
truth_or_text_plain None text = record { numbers = tt; flat = omega arith }

value_plain : (kind : ℕ) (text : List ℕ) → Plain (value_json kind text)
unfolding value_json is_told_number
value_plain kind text = by_test (is_number kind && is_numeral text) refl
  where
    by_word : (b : Bool) → Plain (if b then null else truth_or_text (truth_of kind text) (told_text kind text))
    by_word true = record { numbers = tt; flat = omega arith }
    by_word false = truth_or_text_plain (truth_of kind text) (told_text kind text)

    by_test : (b : Bool) → (is_number kind && is_numeral text) ≡ b → Plain (if b then number text else (if is_no_number kind text then null else truth_or_text (truth_of kind text) (told_text kind text)))
    by_test true is = record { numbers = numeral_is text (and_parts (is_number kind) (is_numeral text) is).1; flat = omega arith }
    by_test false is = by_word (is_no_number kind text)

kind_plain : (o : Option (List ℕ)) (kind : ℕ) → kind < 2 ^ 32 → Plain (kind_json o kind)
kind_plain (Some name) kind lt = record { numbers = tt; flat = omega arith }
kind_plain None kind lt = record { numbers = IsNumber-decimal kind (omega arith); flat = omega arith }

-- a value of a column: its numbers are numbers, and it nests once
record Flat (js : Items) : Type 0 where
  numbers : ItemsHaveNumbers js
  flat : items_depth js ≤ 1

column_numbers : (c : Column) (j : Json) → c.kind < 2 ^ 32 → Plain j → HasNumbers (column_json c j)
column_numbers c j lt plain = (tt, ((kind_plain (kind_name c.kind c.modifier) c.kind lt).numbers, (plain.numbers, tt)))

column_flat : (c : Column) (j : Json) → c.kind < 2 ^ 32 → Plain j → depth (column_json c j) ≤ 1
column_flat c j lt plain =
    let kind = (kind_plain (kind_name c.kind c.modifier) c.kind lt).flat in
    let value = plain.flat in
    omega (arith, kind, value)

column_put : (c : Column) (j : Json) (more : Items) → c.kind < 2 ^ 32 → Plain j → Flat more → Flat (item (column_json c j) more)
column_put c j more lt plain flat =
    let here = column_flat c j lt plain in
    let later = flat.flat in
    record { numbers = (column_numbers c j lt plain, flat.numbers); flat = omega (arith, here, later) }

cell_flat : (part : ToldValues) (c : Column) (cell : Cell) (more : Items) → c.kind < 2 ^ 32 → Flat more → Flat (with_cell part c cell more)
cell_flat part c cells.Unchanged more lt flat = flat
cell_flat part c cells.Null more lt flat = by_told (is_told part c)
  where
    by_told : (b : Bool) → Flat (if b then item (column_json c null) more else more)
    by_told true = column_put c null more lt (record { numbers = tt; flat = omega arith }) flat
    by_told false = flat
cell_flat part c (cells.Text text) more lt flat = column_put c (value_json c.kind text) more lt (value_plain c.kind text) flat

row_flat : (part : ToldValues) (columns : List Column) (row : List Cell) → AreKinds columns → Flat (cells_items part columns row)
unfolding cells_items
row_flat part [] row kinds = record { numbers = tt; flat = omega arith }
row_flat part (c ∷ columns) [] kinds = record { numbers = tt; flat = omega arith }
row_flat part (c ∷ columns) (cell ∷ row) kinds = cell_flat part c cell (cells_items part columns row) kinds.0 (row_flat part columns row kinds.1)

-- ---- The lines.

reads : (j : Json) → HasNumbers j → depth j ≤ 128 → document (text_of j) ≡ Some j
reads j numbers flat = document-print j numbers flat

pub begin_reads : (m : Begin) → m.xid < 2 ^ 32 → FitsSigned w64 m.time → document (text_of (begin_json m)) ≡ Some (begin_json m)
begin_reads m xid time = reads (begin_json m) (tt, (IsNumber-decimal m.xid (omega arith), (tt, (IsNumber-signed_decimal m.time time.sfits, tt)))) (omega arith)

pub commit_reads : (m : Commit) → FitsSigned w64 m.time → document (text_of (commit_json m)) ≡ Some (commit_json m)
commit_reads m time = reads (commit_json m) (tt, (tt, (tt, (IsNumber-signed_decimal m.time time.sfits, tt)))) (omega arith)

pub message_reads : (m : Message) → document (text_of (message_json m)) ≡ Some (message_json m)
message_reads m = reads (message_json m) (tt, (tt, (tt, (tt, (tt, tt))))) (omega arith)

pub insert_reads : (lsn : ℕ) (r : Relation) (m : Insert) → AreKinds r.columns → document (text_of (insert_json lsn r m)) ≡ Some (insert_json lsn r m)
insert_reads lsn r m kinds =
    let row = row_flat Whole r.columns m.new kinds in
    let flat = row.flat in
    reads (insert_json lsn r m) (tt, (tt, (tt, (tt, (row.numbers, tt))))) (omega (arith, flat))

old_numbers : (r : Relation) (o : OldTuple) → AreKinds r.columns → HasNumbers (old_json r o)
old_numbers r (old.Key row) kinds = (row_flat Key r.columns row kinds).numbers
old_numbers r (old.Full row) kinds = (row_flat Whole r.columns row kinds).numbers

old_flat : (r : Relation) (o : OldTuple) → AreKinds r.columns → depth (old_json r o) ≤ 2
old_flat r (old.Key row) kinds = let flat = (row_flat Key r.columns row kinds).flat in omega (arith, flat)
old_flat r (old.Full row) kinds = let flat = (row_flat Whole r.columns row kinds).flat in omega (arith, flat)

olds_numbers : (r : Relation) (o : Option OldTuple) → AreKinds r.columns → MembersHaveNumbers (old_members r o)
olds_numbers r None kinds = tt
olds_numbers r (Some o) kinds = (old_numbers r o kinds, tt)

olds_flat : (r : Relation) (o : Option OldTuple) → AreKinds r.columns → members_depth (old_members r o) ≤ 2
olds_flat r None kinds = omega arith
olds_flat r (Some o) kinds = let flat = old_flat r o kinds in omega (arith, flat)

pub update_reads : (lsn : ℕ) (r : Relation) (m : Update) → AreKinds r.columns → document (text_of (update_json lsn r m)) ≡ Some (update_json lsn r m)
update_reads lsn r m kinds =
    let row = row_flat Whole r.columns m.new kinds in
    let flat = row.flat in
    let before = olds_flat r m.old kinds in
    reads (update_json lsn r m) (tt, (tt, (tt, (tt, (row.numbers, olds_numbers r m.old kinds))))) (omega (arith, flat, before))

pub delete_reads : (lsn : ℕ) (r : Relation) (m : Delete) → AreKinds r.columns → document (text_of (delete_json lsn r m)) ≡ Some (delete_json lsn r m)
delete_reads lsn r m kinds =
    let flat = old_flat r m.old kinds in
    reads (delete_json lsn r m) (tt, (tt, (tt, (tt, (old_numbers r m.old kinds, tt))))) (omega (arith, flat))

pub truncate_reads : (lsn : ℕ) (r : Relation) → document (text_of (truncate_json lsn r)) ≡ Some (truncate_json lsn r)
truncate_reads lsn r = reads (truncate_json lsn r) (tt, (tt, (tt, (tt, tt)))) (omega arith)

pub summary_reads : (transactions changes position : ℕ) → transactions < 2 ^ 32 → changes < 2 ^ 64
    → document (text_of (summary_json transactions changes position)) ≡ Some (summary_json transactions changes position)
summary_reads transactions changes position few fits =
    reads (summary_json transactions changes position) ((IsNumber-decimal transactions (omega arith), (IsNumber-decimal changes fits, (tt, tt))), tt) (omega arith)
