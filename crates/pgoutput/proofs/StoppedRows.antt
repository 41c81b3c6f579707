-- Where a fault stands in the messages of old and new rows, in Truncate and Message, and in any message.
use Rattle.std.proofs.Common.{◌≡◌, ℕ, ◌<◌, ◌^◌, false, eqb, List, [], ◌∷◌, ◌++◌, length, Option, Some, None, Err, refl, sym, ap, subst, ◌∙◌, arith, inl, inr}
use Rattle.std.specs.Prelude.{◌⊎◌, ◌==◌}
use Rattle.std.specs.List.{flat_map, list_any, AllByRecursion}
use Rattle.pqformat.specs.Fields.{int32}
use Rattle.pqformat.proofs.Codec.{IsBytes, IsBytes-rest}
use Rattle.pgoutput.specs.declared.fault.PgoutputError.{PgoutputError}
use Rattle.pgoutput.specs.declared.fault.PgoutputError.TheVariants.{Short, UnknownKind, BadMark}
use Rattle.pgoutput.specs.declared.parts.tuple.Cell.{Cell}
use Rattle.pgoutput.specs.declared.logical.Logical.{Logical}
use Rattle.pgoutput.specs.declared.logical.Logical.TheVariants as logical
use Rattle.pgoutput.specs.declared.messages.begin.TheConstants.{BEGIN}
use Rattle.pgoutput.specs.declared.messages.commit.TheConstants.{COMMIT}
use Rattle.pgoutput.specs.declared.messages.relation.TheConstants.{RELATION}
use Rattle.pgoutput.specs.declared.messages.insert.TheConstants.{INSERT, NEW}
use Rattle.pgoutput.specs.declared.messages.update.TheConstants.{UPDATE}
use Rattle.pgoutput.specs.declared.messages.delete.TheConstants.{DELETE}
use Rattle.pgoutput.specs.declared.messages.truncate.TheConstants.{TRUNCATE}
use Rattle.pgoutput.specs.declared.parts.old_tuple.OldTuple.{OldTuple}
use Rattle.pgoutput.specs.declared.parts.old_tuple.OldTuple.TheVariants as olds
use Rattle.pgoutput.specs.declared.parts.old_tuple.TheConstants.{KEY, OLD}
use Rattle.pgoutput.specs.declared.messages.message.TheConstants.{MESSAGE}
use Rattle.pgoutput.specs.OldTuple.{old_tuple, FitsOldTuple, old_tuple_at}
use Rattle.pgoutput.specs.Update.{update, FitsUpdate, tuples_at, rows_at, update_at}
use Rattle.pgoutput.specs.Delete.{delete, FitsDelete, delete_at}
use Rattle.pgoutput.specs.Truncate.{options_letter, truncate, FitsTruncate, truncate_at}
use Rattle.pgoutput.specs.Message.{message, message_at, FitsMessage}
use Rattle.pgoutput.specs.Logical.{logical_at, fields_at, is_kind, spell_logical, FitsLogical}
use Rattle.pgoutput.specs.Layout as layout
use Rattle.pgoutput.specs.Layout.{Field, spell_field, spell_fields, IsAtFault, Stops, StopsIn, mark, row_letters, old_letters, tuple_fields, row_fields, update_fields, old_fields, delete_fields, truncate_fields, oid_field, message_fields, fields_after, fields_of}
use Rattle.pgoutput.specs.Layout.Field.{Number, Letter, Count32}
use Rattle.pgoutput.proofs.Wires as wires
use Rattle.pgoutput.proofs.Wires.{FitRows, FitTuples, Rows, Tuples, rows, tuples, logical_chosen, logical_codec}
use Rattle.pgoutput.proofs.Stopping.{Told, field, last_field, free_field, told_of, counted, spell-cons}
use Rattle.pgoutput.proofs.StoppingLists.{ChosenTold, repeated, no_choice, choice, chosen_stands, letter_stands, choice_told, none_of_two, none_of_three}
use Rattle.pgoutput.proofs.StoppingFields.{number32, number64, number_at_fault, count32}
use Rattle.pgoutput.proofs.StoppingTexts.{name, content_told, one_letter}
use Rattle.pgoutput.proofs.Stopped.{begin_told, commit_told, relation_told, tuple_told, insert_told, truncate_options, is_transactional}

-- ---- old rows

other_old : (b : ℕ) (bytes : List ℕ) → list_any (λ l. b == l) old_letters ≡ false → old_tuple_at (b ∷ bytes) ≡ Err BadMark
unfolding old_tuple_at
other_old b bytes why = none_of_two (eqb b KEY) (eqb b OLD) _ _ _ why

old_spelled : (x : OldTuple) → spell_fields (old_fields x) ≡ old_tuple x
old_spelled (olds.Key cells) = spell-cons (Letter old_letters KEY) (tuple_fields cells) ∙ ap (λ (l : List ℕ). KEY ∷ l) (tuple_told.spelled cells)
old_spelled (olds.Full cells) = spell-cons (Letter old_letters OLD) (tuple_fields cells) ∙ ap (λ (l : List ℕ). OLD ∷ l) (tuple_told.spelled cells)

old_stands : (x : OldTuple) → FitsOldTuple x → (before : List Field) (next : Field) (after : List Field) (rest : List ℕ) (e : PgoutputError) → old_fields x ≡ before ++ next ∷ after → IsAtFault e next rest → old_tuple_at (spell_fields before ++ rest) ≡ Err e
unfolding old_tuple_at
old_stands (olds.Key cells) fits before next after rest e parts at = chosen_stands tuple_told KEY (Letter old_letters KEY) (λ cells. olds.Key cells) old_tuple_at refl (λ bytes. refl) (letter_stands old_tuple_at old_letters KEY refl other_old) cells fits before next after rest e parts at
old_stands (olds.Full cells) fits before next after rest e parts at = chosen_stands tuple_told OLD (Letter old_letters OLD) (λ cells. olds.Full cells) old_tuple_at refl (λ bytes. refl) (letter_stands old_tuple_at old_letters OLD refl other_old) cells fits before next after rest e parts at

old_told : Told old_tuple_at old_tuple FitsOldTuple old_fields
unfolding old_tuple_at
old_told = choice_told old_letters KEY (tuple_fields tuple_told.some.value) wires.old_tuple_wire (
    choice KEY (Letter old_letters KEY) refl tuple_told (λ cells. olds.Key cells) old_fields FitsOldTuple (λ _. refl) (λ _ fits. fits) (
    choice OLD (Letter old_letters OLD) refl tuple_told (λ cells. olds.Full cells) old_fields FitsOldTuple (λ _. refl) (λ _ fits. fits) (
    no_choice BadMark old_fields FitsOldTuple)))
    (record { value = olds.Key tuple_told.some.value; fits = tuple_told.some.fits }) refl old_spelled old_stands

delete_told : Told delete_at delete FitsDelete delete_fields
unfolding delete_at
delete_told = told_of wires.delete_wire (
    field number32 (λ m. m.oid) _ _ _ _ _ (λ oid _.
    last_field old_told (λ m. m.old) _ (λ old. record { oid = oid; old = old })
    (λ _. refl) (λ _ _. (refl, tt))))

-- ---- old and new rows

abbrev tuples_fields : Tuples → List Field
tuples_fields t = tuple_fields t.0 ++ mark NEW ∷ tuple_fields t.1

tuples_told : Told tuples_at tuples FitTuples tuples_fields
unfolding tuples_at
tuples_told = told_of wires.tuples_wire (
    field tuple_told (λ t. t.0) _ _ _ _ _ (λ old _.
    free_field (one_letter NEW) (λ _. tt) (λ _. tt) _ _ _ _ _ (λ letter _.
    last_field tuple_told (λ t. t.1) _ (λ new. (old, new))
    (λ _. refl) (λ _ _. (refl, (refl, tt))))))

other_row : (b : ℕ) (bytes : List ℕ) → list_any (λ l. b == l) row_letters ≡ false → rows_at (b ∷ bytes) ≡ Err BadMark
unfolding rows_at
other_row b bytes why = none_of_three (eqb b NEW) (eqb b KEY) (eqb b OLD) _ _ _ _ why

abbrev fields_of_rows : Rows → List Field
fields_of_rows r = row_fields r.0 r.1

rows_spelled : (old : Option OldTuple) (new : List Cell) → spell_fields (row_fields old new) ≡ rows (old, new)
rows_spelled None new = spell-cons (Letter row_letters NEW) (tuple_fields new) ∙ ap (λ (l : List ℕ). NEW ∷ l) (tuple_told.spelled new)
rows_spelled (Some (olds.Key old)) new = spell-cons (Letter row_letters KEY) (tuples_fields (old, new)) ∙ ap (λ (l : List ℕ). KEY ∷ l) (tuples_told.spelled (old, new))
rows_spelled (Some (olds.Full old)) new = spell-cons (Letter row_letters OLD) (tuples_fields (old, new)) ∙ ap (λ (l : List ℕ). OLD ∷ l) (tuples_told.spelled (old, new))

rows_stands : (old : Option OldTuple) (new : List Cell) → FitRows (old, new) → (before : List Field) (next : Field) (after : List Field) (rest : List ℕ) (e : PgoutputError) → row_fields old new ≡ before ++ next ∷ after → IsAtFault e next rest → rows_at (spell_fields before ++ rest) ≡ Err e
unfolding rows_at
rows_stands None new fits before next after rest e parts at = chosen_stands tuple_told NEW (Letter row_letters NEW) (λ new. (None, new)) rows_at refl (λ bytes. refl) (letter_stands rows_at row_letters NEW refl other_row) new fits.1 before next after rest e parts at
rows_stands (Some (olds.Key old)) new fits before next after rest e parts at = chosen_stands tuples_told KEY (Letter row_letters KEY) (λ t. (Some (olds.Key t.0), t.1)) rows_at refl (λ bytes. refl) (letter_stands rows_at row_letters KEY refl other_row) (old, new) fits before next after rest e parts at
rows_stands (Some (olds.Full old)) new fits before next after rest e parts at = chosen_stands tuples_told OLD (Letter row_letters OLD) (λ t. (Some (olds.Full t.0), t.1)) rows_at refl (λ bytes. refl) (letter_stands rows_at row_letters OLD refl other_row) (old, new) fits before next after rest e parts at

rows_told : Told rows_at rows FitRows fields_of_rows
unfolding rows_at
rows_told = choice_told row_letters NEW (tuple_fields tuple_told.some.value) wires.rows_wire (
    choice NEW (Letter row_letters NEW) refl tuple_told (λ new. (None, new)) fields_of_rows FitRows (λ _. refl) (λ _ fits. (tt, fits)) (
    choice KEY (Letter row_letters KEY) refl tuples_told (λ t. (Some (olds.Key t.0), t.1)) fields_of_rows FitRows (λ _. refl) (λ _ fits. fits) (
    choice OLD (Letter row_letters OLD) refl tuples_told (λ t. (Some (olds.Full t.0), t.1)) fields_of_rows FitRows (λ _. refl) (λ _ fits. fits) (
    no_choice BadMark fields_of_rows FitRows))))
    (record { value = (None, tuple_told.some.value); fits = (tt, tuple_told.some.fits) }) refl (λ r. rows_spelled r.0 r.1) (λ r. rows_stands r.0 r.1)

update_told : Told update_at update FitsUpdate update_fields
unfolding update_at
update_told = told_of wires.update_wire (
    field number32 (λ m. m.oid) _ _ _ _ _ (λ oid _.
    last_field rows_told (λ m. (m.old, m.new)) _ (λ r. record { oid = oid; old = r.0; new = r.1 })
    (λ _. refl) (λ _ _. (refl, tt))))

-- ---- truncate

truncate_told : Told truncate_at truncate FitsTruncate truncate_fields
unfolding truncate_at
truncate_told = counted count32 (λ m. length m.oids) _ (λ m. (options_letter m.options ∷ []) ++ flat_map int32 m.oids) (λ m. AllByRecursion (λ oid. oid < 2 ^ 32) m.oids)
    (λ m. Letter layout.options (options_letter m.options) ∷ flat_map oid_field m.oids) wires.truncate_wire (λ n.
    told_of (wires.oids_wire n) (
    free_field truncate_options (λ _. tt) (λ m. m.options) _ _ _ _ _ (λ options _.
    last_field (repeated number32 n) (λ m. m.oids) _ (λ oids. record { options = options; oids = oids })
    (λ _. refl) (λ _ _. (refl, tt)))))

-- ---- message

message_told : Told message_at message FitsMessage message_fields
unfolding message_at
message_told = told_of wires.message_wire (
    free_field is_transactional (λ _. tt) (λ m. m.is_transactional) _ _ _ _ _ (λ is_transactional _.
    field number64 (λ m. m.position) _ _ _ _ _ (λ position _.
    field name (λ m. m.prefix) _ _ _ _ _ (λ prefix _.
    last_field content_told (λ m. m.content) _ (λ content. record { is_transactional = is_transactional; position = position; prefix = prefix; content = content })
    (λ _. refl) (λ _ _. (refl, (refl, (refl, tt))))))))

-- ---- any message

abbrev kind : ℕ → Field
kind k = Number (k ∷ [])

after_kind : (k : ℕ) (fields : List Field) (text : List ℕ) → spell_fields fields ≡ text → spell_fields (kind k ∷ fields) ≡ k ∷ text
after_kind k fields text spelled = spell-cons (kind k) fields ∙ ap (λ (l : List ℕ). k ∷ l) spelled

pub logical_spelled : (m : Logical) → spell_fields (fields_of m) ≡ spell_logical m
logical_spelled (logical.Begin m) = after_kind BEGIN (layout.begin_fields m) _ (begin_told.spelled m)
logical_spelled (logical.Commit m) = after_kind COMMIT (layout.commit_fields m) _ (commit_told.spelled m)
logical_spelled (logical.Relation m) = after_kind RELATION (layout.relation_fields m) _ (relation_told.spelled m)
logical_spelled (logical.Insert m) = after_kind INSERT (layout.insert_fields m) _ (insert_told.spelled m)
logical_spelled (logical.Update m) = after_kind UPDATE (layout.update_fields m) _ (update_told.spelled m)
logical_spelled (logical.Delete m) = after_kind DELETE (layout.delete_fields m) _ (delete_told.spelled m)
logical_spelled (logical.Truncate m) = after_kind TRUNCATE (layout.truncate_fields m) _ (truncate_told.spelled m)
logical_spelled (logical.Message m) = after_kind MESSAGE (layout.message_fields m) _ (message_told.spelled m)

logical_told : ChosenTold UnknownKind fields_at fields_of FitsLogical is_kind
logical_told =
    choice BEGIN (kind BEGIN) refl begin_told (λ m. logical.Begin m) fields_of FitsLogical (λ _. refl) (λ _ fits. fits) (
    choice COMMIT (kind COMMIT) refl commit_told (λ m. logical.Commit m) fields_of FitsLogical (λ _. refl) (λ _ fits. fits) (
    choice RELATION (kind RELATION) refl relation_told (λ m. logical.Relation m) fields_of FitsLogical (λ _. refl) (λ _ fits. fits) (
    choice INSERT (kind INSERT) refl insert_told (λ m. logical.Insert m) fields_of FitsLogical (λ _. refl) (λ _ fits. fits) (
    choice UPDATE (kind UPDATE) refl update_told (λ m. logical.Update m) fields_of FitsLogical (λ _. refl) (λ _ fits. fits) (
    choice DELETE (kind DELETE) refl delete_told (λ m. logical.Delete m) fields_of FitsLogical (λ _. refl) (λ _ fits. fits) (
    choice TRUNCATE (kind TRUNCATE) refl truncate_told (λ m. logical.Truncate m) fields_of FitsLogical (λ _. refl) (λ _ fits. fits) (
    choice MESSAGE (kind MESSAGE) refl message_told (λ m. logical.Message m) fields_of FitsLogical (λ _. refl) (λ _ fits. fits) (
    no_choice UnknownKind fields_of FitsLogical))))))))

-- where reading a message fails, but for its kind byte
pub logical_stops : (bytes : List ℕ) (e : PgoutputError) → IsBytes bytes → logical_at bytes ≡ Err e → StopsIn e bytes ⊎ (e ≡ UnknownKind)
unfolding logical_at
logical_stops [] e fits is =
    let same : Short ≡ e = cc in
    let m = begin_told.some in
    let early : IsAtFault Short (kind BEGIN) [] = omega arith in
    let here : StopsIn Short [] = record { value = logical.Begin m.value; in_range = m.fits; before = []; next = kind BEGIN; after = layout.begin_fields m.value; rest = []; parts = refl; text = refl; at_fault = early } in
    inl (subst (λ (f : PgoutputError). StopsIn f []) same here)
logical_stops (b ∷ bytes) e fits is = elim (logical_told.stops b bytes e (IsBytes-rest b bytes fits) is) [
  | inl s ↦ inl s
  | inr other ↦ inr other.0
]

-- no byte at all stands where the kind byte is due
no_kind : (k : ℕ) (e : PgoutputError) (rest : List ℕ) → IsAtFault e (kind k) rest → logical_at rest ≡ Err e
unfolding logical_at
no_kind k e [] at = let a = number_at_fault (k ∷ []) [] e at in ap Err (sym a.0)
no_kind k e (b ∷ rest) at = let a = number_at_fault (k ∷ []) (b ∷ rest) e at in absurd (omega arith)

stands_so : (m : Logical) → FitsLogical m → (before : List Field) (next : Field) (after : List Field) (rest : List ℕ) (e : PgoutputError) → fields_of m ≡ before ++ next ∷ after → IsAtFault e next rest → logical_at (spell_fields before ++ rest) ≡ Err e
unfolding logical_at
stands_so (logical.Begin m) fits before next after rest e parts at = chosen_stands begin_told BEGIN (kind BEGIN) (λ m. logical.Begin m) logical_at refl (λ bytes. refl) (no_kind BEGIN) m fits before next after rest e parts at
stands_so (logical.Commit m) fits before next after rest e parts at = chosen_stands commit_told COMMIT (kind COMMIT) (λ m. logical.Commit m) logical_at refl (λ bytes. refl) (no_kind COMMIT) m fits before next after rest e parts at
stands_so (logical.Relation m) fits before next after rest e parts at = chosen_stands relation_told RELATION (kind RELATION) (λ m. logical.Relation m) logical_at refl (λ bytes. refl) (no_kind RELATION) m fits before next after rest e parts at
stands_so (logical.Insert m) fits before next after rest e parts at = chosen_stands insert_told INSERT (kind INSERT) (λ m. logical.Insert m) logical_at refl (λ bytes. refl) (no_kind INSERT) m fits before next after rest e parts at
stands_so (logical.Update m) fits before next after rest e parts at = chosen_stands update_told UPDATE (kind UPDATE) (λ m. logical.Update m) logical_at refl (λ bytes. refl) (no_kind UPDATE) m fits before next after rest e parts at
stands_so (logical.Delete m) fits before next after rest e parts at = chosen_stands delete_told DELETE (kind DELETE) (λ m. logical.Delete m) logical_at refl (λ bytes. refl) (no_kind DELETE) m fits before next after rest e parts at
stands_so (logical.Truncate m) fits before next after rest e parts at = chosen_stands truncate_told TRUNCATE (kind TRUNCATE) (λ m. logical.Truncate m) logical_at refl (λ bytes. refl) (no_kind TRUNCATE) m fits before next after rest e parts at
stands_so (logical.Message m) fits before next after rest e parts at = chosen_stands message_told MESSAGE (kind MESSAGE) (λ m. logical.Message m) logical_at refl (λ bytes. refl) (no_kind MESSAGE) m fits before next after rest e parts at

pub logical_stands : (bytes : List ℕ) (e : PgoutputError) → StopsIn e bytes → logical_at bytes ≡ Err e
logical_stands bytes e s = ap logical_at s.text ∙ stands_so s.value s.in_range s.before s.next s.after s.rest e s.parts s.at_fault
