-- Where a fault stands in each message.
use Rattle.std.proofs.Common.{◌≡◌, ℕ, ◌<◌, ◌^◌, Bool, true, false, cond, eqb, List, [], ◌∷◌, ◌++◌, length, Option, Some, None, Err, refl, ap, ◌∙◌}
use Rattle.std.specs.Prelude.{◌||◌, ◌==◌}
use Rattle.std.specs.List.{flat_map, list_any, AllByRecursion}
use Rattle.pqformat.specs.Fields.{int16}
use Rattle.pgoutput.specs.declared.fault.PgoutputError.{PgoutputError}
use Rattle.pgoutput.specs.declared.fault.PgoutputError.TheVariants.{BadMark}
use Rattle.pgoutput.specs.declared.parts.tuple.Cell.{Cell}
use Rattle.pgoutput.specs.declared.parts.tuple.Cell.TheVariants as cells
use Rattle.pgoutput.specs.declared.parts.tuple.TheConstants.{NULL, UNCHANGED, TEXT}
use Rattle.pgoutput.specs.declared.messages.relation.Identity.TheVariants.{Default}
use Rattle.pgoutput.specs.declared.messages.relation.TheConstants.{IDENTITY_DEFAULT, IDENTITY_NOTHING, IDENTITY_FULL, IDENTITY_INDEX, KEY_FLAG, NO_FLAG}
use Rattle.pgoutput.specs.declared.messages.commit.TheConstants.{COMMIT_FLAGS}
use Rattle.pgoutput.specs.declared.messages.insert.TheConstants.{NEW}
use Rattle.pgoutput.specs.declared.messages.truncate.TheConstants.{NO_OPTIONS, CASCADE, RESTART_IDENTITY, CASCADE_AND_RESTART_IDENTITY}
use Rattle.pgoutput.specs.declared.messages.message.TheConstants.{TRANSACTIONAL, NOT_TRANSACTIONAL}
use Rattle.pgoutput.specs.Reading.{one_of}
use Rattle.pgoutput.specs.Begin.{begin, FitsBegin, begin_at}
use Rattle.pgoutput.specs.Commit.{commit, FitsCommit, commit_at}
use Rattle.pgoutput.specs.Relation.{column, FitsColumn, column_at, columns_at, relation, FitsRelation, relation_at, identity_of, identity_letter, is_key_of, key_flag}
use Rattle.pgoutput.specs.Tuple.{cell, FitsCell, cell_at, FitsSentCell, sent_cell_at, tuple, FitsTuple, tuple_at, FitsSentTuple, sent_tuple_at}
use Rattle.pgoutput.specs.Insert.{insert, FitsInsert, insert_at}
use Rattle.pgoutput.specs.Truncate.{options_letter, options_of, options}
use Rattle.pgoutput.specs.Message.{is_transactional_of, message_flags}
use Rattle.pgoutput.specs.Layout as layout
use Rattle.pgoutput.specs.Layout.{Field, spell_field, spell_fields, IsAtFault, mark, flags, identities, cell_letters, row_letters, old_letters, begin_fields, commit_fields, column_fields, relation_fields, cell_fields, tuple_fields, sent_letters, sent_cell_fields, sent_fields, insert_fields, row_fields, update_fields, old_fields, delete_fields, truncate_fields, oid_field, transactional_flags}
use Rattle.pgoutput.specs.Layout.Field.{Letter, Count16, Count32, Name, Text}
use Rattle.pgoutput.proofs.Wires as wires
use Rattle.pgoutput.proofs.Wires.{FitRows, FitTuples, Rows, Tuples, rows, tuples}
use Rattle.pgoutput.proofs.Stopping.{Told, field, last_field, free_field, told_of, spell-cons}
use Rattle.pgoutput.proofs.StoppingLists.{no_choice, choice, chosen_stands, letter_stands, choice_told, none_of_two, none_of_three}
use Rattle.pgoutput.proofs.StoppingFields.{number32, number64, signed32, signed64, list}
use Rattle.pgoutput.proofs.StoppingTexts.{name, text, letter, one_letter, nothing}

pub begin_told : Told begin_at begin FitsBegin begin_fields
unfolding begin_at
begin_told = told_of wires.begin_wire (
    field number64 (λ m. m.position) _ _ _ _ _ (λ position _.
    field signed64 (λ m. m.time) _ _ _ _ _ (λ time _.
    last_field number32 (λ m. m.xid) _ (λ xid. record { position = position; time = time; xid = xid })
    (λ _. refl) (λ _ _. (refl, (refl, tt))))))

pub commit_told : Told commit_at commit FitsCommit commit_fields
unfolding commit_at
commit_told = told_of wires.commit_wire (
    free_field (one_letter COMMIT_FLAGS) (λ _. tt) (λ _. tt) _ _ _ _ _ (λ letter _.
    field number64 (λ m. m.position) _ _ _ _ _ (λ position _.
    field number64 (λ m. m.end) _ _ _ _ _ (λ end _.
    last_field signed64 (λ m. m.time) _ (λ time. record { position = position; end = end; time = time })
    (λ _. refl) (λ _ _. (refl, (refl, (refl, tt))))))))

-- ---- letters: that a byte is none of them, and that it stands for nothing

abbrev two : {X : Type 0} → (a b : Bool) → (x y : X) → Option X
two a b x y = cond a (Some x) (cond b (Some y) None)

two_none : {X : Type 0} (a b : Bool) (x y : X) → two a b x y ≡ None → (a || (b || false)) ≡ false
two_none true b x y e = absurd cc
two_none false true x y e = absurd cc
two_none false false x y e = refl

two_other : {X : Type 0} (a b : Bool) (x y : X) → (a || (b || false)) ≡ false → two a b x y ≡ None
two_other true b x y e = absurd cc
two_other false true x y e = absurd cc
two_other false false x y e = refl

abbrev four : {X : Type 0} → (a b c d : Bool) → (x y z w : X) → Option X
four a b c d x y z w = cond a (Some x) (cond b (Some y) (cond c (Some z) (cond d (Some w) None)))

four_none : {X : Type 0} (a b c d : Bool) (x y z w : X) → four a b c d x y z w ≡ None → (a || (b || (c || (d || false)))) ≡ false
four_none true b c d x y z w e = absurd cc
four_none false true c d x y z w e = absurd cc
four_none false false true d x y z w e = absurd cc
four_none false false false true x y z w e = absurd cc
four_none false false false false x y z w e = refl

four_other : {X : Type 0} (a b c d : Bool) (x y z w : X) → (a || (b || (c || (d || false)))) ≡ false → four a b c d x y z w ≡ None
four_other true b c d x y z w e = absurd cc
four_other false true c d x y z w e = absurd cc
four_other false false true d x y z w e = absurd cc
four_other false false false true x y z w e = absurd cc
four_other false false false false x y z w e = refl

flag : Told (one_of is_key_of) (λ b. key_flag b ∷ []) (λ _. Unit {0}) (λ b. Letter flags (key_flag b) ∷ [])
flag = letter is_key_of key_flag flags wires.flag_wire true
    (λ b e. two_none (eqb b KEY_FLAG) (eqb b NO_FLAG) true false e) (λ b e. two_other (eqb b KEY_FLAG) (eqb b NO_FLAG) true false e)

identity : Told (one_of identity_of) (λ i. identity_letter i ∷ []) (λ _. Unit {0}) (λ i. Letter identities (identity_letter i) ∷ [])
identity = letter identity_of identity_letter identities wires.identity_wire Default
    (λ b e. four_none (eqb b IDENTITY_DEFAULT) (eqb b IDENTITY_NOTHING) (eqb b IDENTITY_FULL) (eqb b IDENTITY_INDEX) _ _ _ _ e)
    (λ b e. four_other (eqb b IDENTITY_DEFAULT) (eqb b IDENTITY_NOTHING) (eqb b IDENTITY_FULL) (eqb b IDENTITY_INDEX) _ _ _ _ e)

pub truncate_options : Told (one_of options_of) (λ o. options_letter o ∷ []) (λ _. Unit {0}) (λ o. Letter layout.options (options_letter o) ∷ [])
truncate_options = letter options_of options_letter layout.options wires.options_wire (options false false)
    (λ b e. four_none (eqb b NO_OPTIONS) (eqb b CASCADE) (eqb b RESTART_IDENTITY) (eqb b CASCADE_AND_RESTART_IDENTITY) _ _ _ _ e)
    (λ b e. four_other (eqb b NO_OPTIONS) (eqb b CASCADE) (eqb b RESTART_IDENTITY) (eqb b CASCADE_AND_RESTART_IDENTITY) _ _ _ _ e)

pub is_transactional : Told (one_of is_transactional_of) (λ b. message_flags b ∷ []) (λ _. Unit {0}) (λ b. Letter transactional_flags (message_flags b) ∷ [])
is_transactional = letter is_transactional_of message_flags transactional_flags wires.is_transactional_wire true
    (λ b e. two_none (eqb b TRANSACTIONAL) (eqb b NOT_TRANSACTIONAL) true false e) (λ b e. two_other (eqb b TRANSACTIONAL) (eqb b NOT_TRANSACTIONAL) true false e)

-- ---- relation

column_told : Told column_at column FitsColumn column_fields
unfolding column_at
column_told = told_of wires.column_wire (
    free_field flag (λ _. tt) (λ m. m.is_key) _ _ _ _ _ (λ is_key _.
    field name (λ m. m.name) _ _ _ _ _ (λ name _.
    field number32 (λ m. m.kind) _ _ _ _ _ (λ kind _.
    last_field signed32 (λ m. m.modifier) _ (λ modifier. record { is_key = is_key; name = name; kind = kind; modifier = modifier })
    (λ _. refl) (λ _ _. (refl, (refl, (refl, tt))))))))

columns_told : Told columns_at (λ cs. int16 (length cs) ++ flat_map column cs) (λ cs. (length cs < 2 ^ 15) × AllByRecursion FitsColumn cs) (λ cs. Count16 (length cs) ∷ flat_map column_fields cs)
unfolding columns_at
columns_told = list column_told

pub relation_told : Told relation_at relation FitsRelation relation_fields
unfolding relation_at
relation_told = told_of wires.relation_wire (
    field number32 (λ m. m.oid) _ _ _ _ _ (λ oid _.
    field name (λ m. m.namespace) _ _ _ _ _ (λ namespace _.
    field name (λ m. m.name) _ _ _ _ _ (λ name _.
    free_field identity (λ _. tt) (λ m. m.identity) _ _ _ _ _ (λ identity _.
    last_field columns_told (λ m. m.columns) _ (λ columns. record { oid = oid; namespace = namespace; name = name; identity = identity; columns = columns })
    (λ _. refl) (λ _ _. (refl, (refl, (refl, (refl, tt))))))))))

-- ---- tuples

cell_spelled : (x : Cell) → spell_fields (cell_fields x) ≡ cell x
cell_spelled cells.Null = refl
cell_spelled cells.Unchanged = refl
cell_spelled (cells.Text t) = spell-cons (Letter cell_letters TEXT) (Count32 (length t) ∷ Text t ∷ []) ∙ ap (λ (l : List ℕ). TEXT ∷ l) (text.spelled t)

other_cell : (b : ℕ) (bytes : List ℕ) → list_any (λ l. b == l) cell_letters ≡ false → cell_at (b ∷ bytes) ≡ Err BadMark
unfolding cell_at
other_cell b bytes why = none_of_three (eqb b NULL) (eqb b UNCHANGED) (eqb b TEXT) _ _ _ _ why

cell_stands : (x : Cell) → FitsCell x → (before : List Field) (next : Field) (after : List Field) (rest : List ℕ) (e : PgoutputError) → cell_fields x ≡ before ++ next ∷ after → IsAtFault e next rest → cell_at (spell_fields before ++ rest) ≡ Err e
unfolding cell_at
cell_stands cells.Null fits before next after rest e parts at = chosen_stands nothing NULL (Letter cell_letters NULL) (λ _. cells.Null) cell_at refl (λ bytes. refl) (letter_stands cell_at cell_letters NULL refl other_cell) tt tt before next after rest e parts at
cell_stands cells.Unchanged fits before next after rest e parts at = chosen_stands nothing UNCHANGED (Letter cell_letters UNCHANGED) (λ _. cells.Unchanged) cell_at refl (λ bytes. refl) (letter_stands cell_at cell_letters UNCHANGED refl other_cell) tt tt before next after rest e parts at
cell_stands (cells.Text t) fits before next after rest e parts at = chosen_stands text TEXT (Letter cell_letters TEXT) (λ t. cells.Text t) cell_at refl (λ bytes. refl) (letter_stands cell_at cell_letters TEXT refl other_cell) t fits before next after rest e parts at

cell_told : Told cell_at cell FitsCell cell_fields
unfolding cell_at
cell_told = choice_told cell_letters NULL [] wires.cell_wire (
    choice NULL (Letter cell_letters NULL) refl nothing (λ _. cells.Null) cell_fields FitsCell (λ _. refl) (λ _ fits. fits) (
    choice UNCHANGED (Letter cell_letters UNCHANGED) refl nothing (λ _. cells.Unchanged) cell_fields FitsCell (λ _. refl) (λ _ fits. fits) (
    choice TEXT (Letter cell_letters TEXT) refl text (λ t. cells.Text t) cell_fields FitsCell (λ _. refl) (λ _ fits. fits) (
    no_choice BadMark cell_fields FitsCell))))
    (record { value = cells.Null; fits = tt }) refl cell_spelled cell_stands

pub tuple_told : Told tuple_at tuple FitsTuple tuple_fields
unfolding tuple_at
tuple_told = list cell_told

-- ---- the tuple of an Insert

sent_cell_spelled : (x : Cell) → spell_fields (sent_cell_fields x) ≡ cell x
sent_cell_spelled cells.Null = refl
sent_cell_spelled cells.Unchanged = refl
sent_cell_spelled (cells.Text t) = spell-cons (Letter sent_letters TEXT) (Count32 (length t) ∷ Text t ∷ []) ∙ ap (λ (l : List ℕ). TEXT ∷ l) (text.spelled t)

other_sent_cell : (b : ℕ) (bytes : List ℕ) → list_any (λ l. b == l) sent_letters ≡ false → sent_cell_at (b ∷ bytes) ≡ Err BadMark
unfolding sent_cell_at
other_sent_cell b bytes why = none_of_two (eqb b NULL) (eqb b TEXT) _ _ _ why

sent_cell_stands : (x : Cell) → FitsSentCell x → (before : List Field) (next : Field) (after : List Field) (rest : List ℕ) (e : PgoutputError) → sent_cell_fields x ≡ before ++ next ∷ after → IsAtFault e next rest
    → sent_cell_at (spell_fields before ++ rest) ≡ Err e
unfolding sent_cell_at
sent_cell_stands cells.Null fits before next after rest e parts at =
    chosen_stands nothing NULL (Letter sent_letters NULL) (λ _. cells.Null) sent_cell_at refl (λ bytes. refl) (letter_stands sent_cell_at sent_letters NULL refl other_sent_cell) tt tt before next after rest e parts at
sent_cell_stands cells.Unchanged fits before next after rest e parts at = absurd fits
sent_cell_stands (cells.Text t) fits before next after rest e parts at =
    chosen_stands text TEXT (Letter sent_letters TEXT) (λ t. cells.Text t) sent_cell_at refl (λ bytes. refl) (letter_stands sent_cell_at sent_letters TEXT refl other_sent_cell) t fits before next after rest e parts at

sent_cell_told : Told sent_cell_at cell FitsSentCell sent_cell_fields
unfolding sent_cell_at
sent_cell_told = choice_told sent_letters NULL [] wires.sent_cell_wire (
    choice NULL (Letter sent_letters NULL) refl nothing (λ _. cells.Null) sent_cell_fields FitsSentCell (λ _. refl) (λ _ fits. fits) (
    choice TEXT (Letter sent_letters TEXT) refl text (λ t. cells.Text t) sent_cell_fields FitsSentCell (λ _. refl) (λ _ fits. fits) (
    no_choice BadMark sent_cell_fields FitsSentCell)))
    (record { value = cells.Null; fits = tt }) refl sent_cell_spelled sent_cell_stands

sent_tuple_told : Told sent_tuple_at tuple FitsSentTuple sent_fields
unfolding sent_tuple_at
sent_tuple_told = list sent_cell_told

pub insert_told : Told insert_at insert FitsInsert insert_fields
unfolding insert_at
insert_told = told_of wires.insert_wire (
    field number32 (λ m. m.oid) _ _ _ _ _ (λ oid _.
    free_field (one_letter NEW) (λ _. tt) (λ _. tt) _ _ _ _ _ (λ letter _.
    last_field sent_tuple_told (λ m. m.new) _ (λ new. record { oid = oid; new = new })
    (λ _. refl) (λ _ _. (refl, (refl, tt))))))
