-- Each message is read as it is spelled, with its faults.
use Rattle.std.proofs.Common.{◌≡◌, ℕ, suc, ◌<◌, ◌^◌, Bool, true, false, List, [], ◌∷◌, ◌++◌, length, take, Option, Some, None, Result, Ok, Err, refl, arith}
use Rattle.std.specs.List.{flat_map, AllByRecursion}
use Rattle.pqformat.specs.Fields.{int16, int32, bytes_at}
use Rattle.std.proofs.lemmas.Bool.Decides.{nat_tests}
use Rattle.pqformat.specs.Steps.{◌>>=◌, repeat_at}
use Rattle.pgoutput.specs.declared.fault.PgoutputError.{PgoutputError}
use Rattle.pgoutput.specs.declared.fault.PgoutputError.TheVariants.{Short, UnknownKind, BadMark}
use Rattle.pgoutput.specs.declared.messages.truncate.Truncate.{Truncate}
use Rattle.pgoutput.specs.Reading.{short, one_of}
use Rattle.pgoutput.specs.declared.parts.tuple.Cell.{Cell}
use Rattle.pgoutput.specs.declared.parts.tuple.Cell.TheVariants as cells
use Rattle.pgoutput.specs.declared.parts.tuple.TheConstants.{NULL, UNCHANGED, TEXT}
use Rattle.pgoutput.specs.declared.messages.relation.Identity.{Identity}
use Rattle.pgoutput.specs.declared.messages.relation.Identity.TheVariants.{Default, Nothing, Full, Index}
use Rattle.pgoutput.specs.declared.logical.Logical.{Logical}
use Rattle.pgoutput.specs.declared.logical.Logical.TheVariants as logical
use Rattle.pgoutput.specs.declared.messages.begin.TheConstants.{BEGIN}
use Rattle.pgoutput.specs.declared.messages.commit.TheConstants.{COMMIT, COMMIT_FLAGS}
use Rattle.pgoutput.specs.declared.messages.relation.TheConstants.{RELATION}
use Rattle.pgoutput.specs.declared.messages.insert.TheConstants.{INSERT, NEW}
use Rattle.pgoutput.specs.declared.parts.old_tuple.OldTuple.{OldTuple}
use Rattle.pgoutput.specs.declared.parts.old_tuple.OldTuple.TheVariants as olds
use Rattle.pgoutput.specs.declared.parts.old_tuple.TheConstants.{KEY, OLD}
use Rattle.pgoutput.specs.declared.messages.update.TheConstants.{UPDATE}
use Rattle.pgoutput.specs.declared.messages.delete.TheConstants.{DELETE}
use Rattle.pgoutput.specs.declared.messages.truncate.TheConstants.{TRUNCATE}
use Rattle.pgoutput.specs.declared.messages.message.TheConstants.{MESSAGE}
use Rattle.pgoutput.specs.Begin.{begin, FitsBegin, begin_at}
use Rattle.pgoutput.specs.Commit.{commit, FitsCommit, commit_at}
use Rattle.pgoutput.specs.Relation.{column, FitsColumn, column_at, columns_at, relation, FitsRelation, relation_at, identity_of, identity_letter, is_key_of, key_flag}
use Rattle.pgoutput.specs.Tuple.{cell, FitsCell, cell_at, FitsSentCell, sent_cell_at, tuple, FitsTuple, tuple_at, FitsSentTuple, sent_tuple_at}
use Rattle.pgoutput.specs.Insert.{insert, FitsInsert, insert_at}
use Rattle.pgoutput.specs.OldTuple.{old_tuple, FitsOldTuple, old_tuple_at}
use Rattle.pgoutput.specs.Update.{old_if_any, update, FitsIfAny, FitsUpdate, tuples_at, rows_at, update_at}
use Rattle.pgoutput.specs.Delete.{delete, FitsDelete, delete_at}
use Rattle.pgoutput.specs.Truncate.{letter_of, options, options_letter, options_of, oid_at, truncate, FitsTruncate, truncate_at}
use Rattle.pgoutput.specs.Message.{content, content_at, is_transactional_of, message, message_at, message_flags, FitsContent, FitsMessage}
use Rattle.pgoutput.specs.Logical.{logical_at, fields_at, is_kind, spell_logical, FitsLogical}
use Rattle.pqformat.proofs.Codec.{Codec, choice_codec}
use Rattle.pgoutput.proofs.Engine.{Wire, field, last_field, free_field, wire_of, with_range, counted, repeated, Chosen, choice, no_choice, choice_wire, choice_cut}
use Rattle.pgoutput.proofs.Plain.{number32, number64, count32, signed32, signed64, bytes_of, name_wire, text_wire, list_wire, letter_wire, expected_wire, nothing}

pub begin_wire : Wire begin_at begin FitsBegin
unfolding begin_at
begin_wire = wire_of (
    field number64 (λ m. m.position) _ _ _ _ (λ position.
    field signed64 (λ m. m.time) _ _ _ _ (λ time.
    last_field number32 (λ m. m.xid) _ (λ xid. record { position = position; time = time; xid = xid })
    (λ _. refl) (λ _ _. (refl, (refl, tt))) (λ m known. rw (← known.0, ← known.1.0) refl))))

pub commit_wire : Wire commit_at commit FitsCommit
unfolding commit_at
commit_wire = wire_of (
    free_field (expected_wire COMMIT_FLAGS) (λ _. tt) (λ _. tt) _ _ _ _ (λ flags.
    field number64 (λ m. m.position) _ _ _ _ (λ position.
    field number64 (λ m. m.end) _ _ _ _ (λ end.
    last_field signed64 (λ m. m.time) _ (λ time. record { position = position; end = end; time = time })
    (λ _. refl) (λ _ _. (refl, (refl, (refl, tt)))) (λ m known. rw (← known.0, ← known.1.0) refl)))))

is_key_there : (b : ℕ) (x : Bool) → is_key_of b ≡ Some x → key_flag x ≡ b
is_key_there b true e = grind (arith, nat_tests)
is_key_there b false e = grind (arith, nat_tests)

is_key_back : (x : Bool) → is_key_of (key_flag x) ≡ Some x
is_key_back true = refl
is_key_back false = refl

pub flag_wire : Wire (one_of is_key_of) (λ b. key_flag b ∷ []) (λ _. Unit {0})
flag_wire = letter_wire is_key_of key_flag is_key_there is_key_back

pub column_wire : Wire column_at column FitsColumn
unfolding column_at
column_wire = wire_of (
    free_field flag_wire (λ _. tt) (λ m. m.is_key) _ _ _ _ (λ is_key.
    field name_wire (λ m. m.name) _ _ _ _ (λ name.
    field number32 (λ m. m.kind) _ _ _ _ (λ kind.
    last_field signed32 (λ m. m.modifier) _ (λ modifier. record { is_key = is_key; name = name; kind = kind; modifier = modifier })
    (λ _. refl) (λ _ _. (refl, (refl, (refl, tt)))) (λ m known. rw (← known.0, ← known.1.0, ← known.1.1.0) refl)))))

columns_wire : Wire columns_at (λ cs. int16 (length cs) ++ flat_map column cs) (λ cs. (length cs < 2 ^ 15) × AllByRecursion FitsColumn cs)
unfolding columns_at
columns_wire = list_wire column_wire

identity_there : (b : ℕ) (x : Identity) → identity_of b ≡ Some x → identity_letter x ≡ b
identity_there b Default e = grind (arith, nat_tests)
identity_there b Nothing e = grind (arith, nat_tests)
identity_there b Full e = grind (arith, nat_tests)
identity_there b Index e = grind (arith, nat_tests)

identity_back : (x : Identity) → identity_of (identity_letter x) ≡ Some x
identity_back Default = refl
identity_back Nothing = refl
identity_back Full = refl
identity_back Index = refl

pub identity_wire : Wire (one_of identity_of) (λ i. identity_letter i ∷ []) (λ _. Unit {0})
identity_wire = letter_wire identity_of identity_letter identity_there identity_back

pub relation_wire : Wire relation_at relation FitsRelation
unfolding relation_at
relation_wire = wire_of (
    field number32 (λ m. m.oid) _ _ _ _ (λ oid.
    field name_wire (λ m. m.namespace) _ _ _ _ (λ namespace.
    field name_wire (λ m. m.name) _ _ _ _ (λ name.
    free_field identity_wire (λ _. tt) (λ m. m.identity) _ _ _ _ (λ identity.
    last_field columns_wire (λ m. m.columns) _ (λ columns. record { oid = oid; namespace = namespace; name = name; identity = identity; columns = columns })
    (λ _. refl) (λ _ _. (refl, (refl, (refl, (refl, tt))))) (λ m known. rw (← known.0, ← known.1.0, ← known.1.1.0, ← known.1.1.1.0) refl))))))

cell_again : (x : Cell) (rest : List ℕ) → FitsCell x → cell_at (cell x ++ rest) ≡ Ok (x, rest)
unfolding cell_at
cell_again cells.Null rest fits = refl
cell_again cells.Unchanged rest fits = refl
cell_again (cells.Text t) rest fits = rw (text_wire.codec.again t rest fits) refl

cell_cut : (x : Cell) (n : ℕ) → FitsCell x → suc n < length (cell x) → cell_at (take (suc n) (cell x)) ≡ Err Short
unfolding cell_at
cell_cut cells.Null n fits lt = absurd (omega arith)
cell_cut cells.Unchanged n fits lt = absurd (omega arith)
cell_cut (cells.Text t) n fits lt = rw (text_wire.cut t n fits (omega arith)) refl

pub cell_wire : Wire cell_at cell FitsCell
unfolding cell_at
cell_wire = choice_wire (
    choice NULL nothing (λ _. cells.Null) cell FitsCell (λ _. refl) (λ _ fits. fits) (
    choice UNCHANGED nothing (λ _. cells.Unchanged) cell FitsCell (λ _. refl) (λ _ fits. fits) (
    choice TEXT text_wire (λ t. cells.Text t) cell FitsCell (λ _. refl) (λ _ fits. fits) (
    no_choice BadMark cell FitsCell)))) tt cell_again cell_cut

tuple_wire : Wire tuple_at tuple FitsTuple
unfolding tuple_at
tuple_wire = list_wire cell_wire

sent_cell_again : (x : Cell) (rest : List ℕ) → FitsSentCell x → sent_cell_at (cell x ++ rest) ≡ Ok (x, rest)
unfolding sent_cell_at
sent_cell_again cells.Null rest fits = refl
sent_cell_again cells.Unchanged rest fits = absurd fits
sent_cell_again (cells.Text t) rest fits = rw (text_wire.codec.again t rest fits) refl

sent_cell_cut : (x : Cell) (n : ℕ) → FitsSentCell x → suc n < length (cell x) → sent_cell_at (take (suc n) (cell x)) ≡ Err Short
unfolding sent_cell_at
sent_cell_cut cells.Null n fits lt = absurd (omega arith)
sent_cell_cut cells.Unchanged n fits lt = absurd fits
sent_cell_cut (cells.Text t) n fits lt = rw (text_wire.cut t n fits (omega arith)) refl

pub sent_cell_wire : Wire sent_cell_at cell FitsSentCell
unfolding sent_cell_at
sent_cell_wire = choice_wire (
    choice NULL nothing (λ _. cells.Null) cell FitsSentCell (λ _. refl) (λ _ fits. fits) (
    choice TEXT text_wire (λ t. cells.Text t) cell FitsSentCell (λ _. refl) (λ _ fits. fits) (
    no_choice BadMark cell FitsSentCell))) tt sent_cell_again sent_cell_cut

sent_tuple_wire : Wire sent_tuple_at tuple FitsSentTuple
unfolding sent_tuple_at
sent_tuple_wire = list_wire sent_cell_wire

pub insert_wire : Wire insert_at insert FitsInsert
unfolding insert_at
insert_wire = wire_of (
    field number32 (λ m. m.oid) _ _ _ _ (λ oid.
    free_field (expected_wire NEW) (λ _. tt) (λ _. tt) _ _ _ _ (λ letter.
    last_field sent_tuple_wire (λ m. m.new) _ (λ new. record { oid = oid; new = new })
    (λ _. refl) (λ _ _. (refl, (refl, tt))) (λ m known. rw (← known.1.0) refl))))

-- ---- old rows

old_tuple_again : (old : OldTuple) (rest : List ℕ) → FitsOldTuple old → old_tuple_at (old_tuple old ++ rest) ≡ Ok (old, rest)
unfolding old_tuple_at
old_tuple_again (olds.Key cells) rest fits = rw (tuple_wire.codec.again cells rest fits) refl
old_tuple_again (olds.Full cells) rest fits = rw (tuple_wire.codec.again cells rest fits) refl

old_tuple_cut : (old : OldTuple) (n : ℕ) → FitsOldTuple old → suc n < length (old_tuple old) → old_tuple_at (take (suc n) (old_tuple old)) ≡ Err Short
unfolding old_tuple_at
old_tuple_cut (olds.Key cells) n fits lt = rw (tuple_wire.cut cells n fits (omega arith)) refl
old_tuple_cut (olds.Full cells) n fits lt = rw (tuple_wire.cut cells n fits (omega arith)) refl

pub old_tuple_wire : Wire old_tuple_at old_tuple FitsOldTuple
unfolding old_tuple_at
old_tuple_wire = choice_wire (
    choice KEY tuple_wire (λ cells. olds.Key cells) old_tuple FitsOldTuple (λ _. refl) (λ _ fits. fits) (
    choice OLD tuple_wire (λ cells. olds.Full cells) old_tuple FitsOldTuple (λ _. refl) (λ _ fits. fits) (
    no_choice BadMark old_tuple FitsOldTuple))) tt old_tuple_again old_tuple_cut

pub delete_wire : Wire delete_at delete FitsDelete
unfolding delete_at
delete_wire = wire_of (
    field number32 (λ m. m.oid) _ _ _ _ (λ oid.
    last_field old_tuple_wire (λ m. m.old) _ (λ old. record { oid = oid; old = old })
    (λ _. refl) (λ _ _. (refl, tt)) (λ m known. rw (← known.0) refl)))

-- ---- old and new rows

abbrev pub Tuples : Type 0
Tuples = List Cell × List Cell

abbrev pub tuples : Tuples → List ℕ
tuples t = tuple t.0 ++ ((NEW ∷ []) ++ tuple t.1)

abbrev pub FitTuples : Tuples → Type 0
FitTuples t = FitsTuple t.0 × FitsTuple t.1

pub tuples_wire : Wire tuples_at tuples FitTuples
unfolding tuples_at
tuples_wire = wire_of (
    field tuple_wire (λ t. t.0) _ _ _ _ (λ old.
    free_field (expected_wire NEW) (λ _. tt) (λ _. tt) _ _ _ _ (λ letter.
    last_field tuple_wire (λ t. t.1) _ (λ new. (old, new))
    (λ _. refl) (λ _ _. (refl, (refl, tt))) (λ t known. rw (← known.1.0) refl))))

abbrev pub Rows : Type 0
Rows = Option OldTuple × List Cell

abbrev pub rows : Rows → List ℕ
rows r = old_if_any r.0 ++ ((NEW ∷ []) ++ tuple r.1)

abbrev pub FitRows : Rows → Type 0
FitRows r = FitsIfAny r.0 × FitsTuple r.1

rows_again : (old : Option OldTuple) (new : List Cell) (rest : List ℕ) → FitRows (old, new) → rows_at (rows (old, new) ++ rest) ≡ Ok ((old, new), rest)
unfolding rows_at
rows_again None new rest fits = rw (tuple_wire.codec.again new rest fits.1) refl
rows_again (Some (olds.Key old)) new rest fits = rw (tuples_wire.codec.again (old, new) rest fits) refl
rows_again (Some (olds.Full old)) new rest fits = rw (tuples_wire.codec.again (old, new) rest fits) refl

rows_cut : (old : Option OldTuple) (new : List Cell) (n : ℕ) → FitRows (old, new) → suc n < length (rows (old, new)) → rows_at (take (suc n) (rows (old, new))) ≡ Err Short
unfolding rows_at
rows_cut None new n fits lt = rw (tuple_wire.cut new n fits.1 (omega arith)) refl
rows_cut (Some (olds.Key old)) new n fits lt = rw (tuples_wire.cut (old, new) n fits (omega arith)) refl
rows_cut (Some (olds.Full old)) new n fits lt = rw (tuples_wire.cut (old, new) n fits (omega arith)) refl

pub rows_wire : Wire rows_at rows FitRows
unfolding rows_at
rows_wire = choice_wire (
    choice NEW tuple_wire (λ new. (None, new)) rows FitRows (λ _. refl) (λ _ fits. (tt, fits)) (
    choice KEY tuples_wire (λ t. (Some (olds.Key t.0), t.1)) rows FitRows (λ _. refl) (λ _ fits. fits) (
    choice OLD tuples_wire (λ t. (Some (olds.Full t.0), t.1)) rows FitRows (λ _. refl) (λ _ fits. fits) (
    no_choice BadMark rows FitRows)))) tt (λ r. rows_again r.0 r.1) (λ r. rows_cut r.0 r.1)

pub update_wire : Wire update_at update FitsUpdate
unfolding update_at
update_wire = wire_of (
    field number32 (λ m. m.oid) _ _ _ _ (λ oid.
    last_field rows_wire (λ m. (m.old, m.new)) _ (λ r. record { oid = oid; old = r.0; new = r.1 })
    (λ _. refl) (λ _ _. (refl, tt)) (λ m known. rw (← known.0) refl)))

-- ---- truncate

options_there : (b : ℕ) (cascade restart_identity : Bool) → options_of b ≡ Some (options cascade restart_identity) → letter_of cascade restart_identity ≡ b
options_there b false false e = grind (arith, nat_tests)
options_there b true false e = grind (arith, nat_tests)
options_there b false true e = grind (arith, nat_tests)
options_there b true true e = grind (arith, nat_tests)

options_back : (cascade restart_identity : Bool) → options_of (letter_of cascade restart_identity) ≡ Some (options cascade restart_identity)
options_back false false = refl
options_back true false = refl
options_back false true = refl
options_back true true = refl

pub options_wire : Wire (one_of options_of) (λ o. options_letter o ∷ []) (λ _. Unit {0})
options_wire = letter_wire options_of options_letter (λ b o. options_there b o.cascade o.restart_identity) (λ o. options_back o.cascade o.restart_identity)

abbrev Counted : ℕ → Truncate → Type 0
Counted n m = (length m.oids ≡ n) × AllByRecursion (λ oid. oid < 2 ^ 32) m.oids

abbrev oids_after : ℕ → List ℕ → Result (Truncate × List ℕ) PgoutputError
oids_after n bytes = do
  options ← one_of options_of bytes
  oids ← repeat_at oid_at n options.1
  Ok (record { options = options.0; oids = oids.0 }, oids.1)

pub oids_wire : (n : ℕ) → Wire (oids_after n) (λ m. (options_letter m.options ∷ []) ++ flat_map int32 m.oids) (Counted n)
oids_wire n = wire_of (
    free_field options_wire (λ _. tt) (λ m. m.options) _ _ _ _ (λ options.
    last_field (repeated number32 n) (λ m. m.oids) _ (λ oids. record { options = options; oids = oids })
    (λ _. refl) (λ _ _. (refl, tt)) (λ m known. rw (← known.0) refl)))

pub truncate_wire : Wire truncate_at truncate FitsTruncate
unfolding truncate_at
truncate_wire = counted count32 (λ m. length m.oids) _ (λ m. (options_letter m.options ∷ []) ++ flat_map int32 m.oids) (λ m. AllByRecursion (λ oid. oid < 2 ^ 32) m.oids) oids_wire

-- ---- message

is_transactional_there : (b : ℕ) (x : Bool) → is_transactional_of b ≡ Some x → message_flags x ≡ b
is_transactional_there b true e = grind (arith, nat_tests)
is_transactional_there b false e = grind (arith, nat_tests)

is_transactional_back : (x : Bool) → is_transactional_of (message_flags x) ≡ Some x
is_transactional_back true = refl
is_transactional_back false = refl

pub is_transactional_wire : Wire (one_of is_transactional_of) (λ b. message_flags b ∷ []) (λ _. Unit {0})
is_transactional_wire = letter_wire is_transactional_of message_flags is_transactional_there is_transactional_back

-- of a content nothing more is asked than its length
abbrev pub NoMore : List ℕ → Type 0
NoMore bytes = Unit {0}

pub bytes_wire : (n : ℕ) → Wire (λ bytes. short (bytes_at n bytes)) (λ bytes. bytes) (λ bytes. (length bytes ≡ n) × NoMore bytes)
bytes_wire n = with_range (λ bytes. (length bytes ≡ n) × NoMore bytes) (bytes_of n) (λ bytes is. (is, tt)) (λ bytes is. is.0)

pub counted_wire : Wire content_at content (λ bytes. FitsContent bytes × NoMore bytes)
unfolding content_at
counted_wire = counted count32 length _ (λ bytes. bytes) NoMore bytes_wire

pub content_wire : Wire content_at content FitsContent
content_wire = with_range FitsContent counted_wire (λ bytes fits. fits.0) (λ bytes fits. (fits, tt))

pub message_wire : Wire message_at message FitsMessage
unfolding message_at
message_wire = wire_of (
    free_field is_transactional_wire (λ _. tt) (λ m. m.is_transactional) _ _ _ _ (λ is_transactional.
    field number64 (λ m. m.position) _ _ _ _ (λ position.
    field name_wire (λ m. m.prefix) _ _ _ _ (λ prefix.
    last_field content_wire (λ m. m.content) _ (λ content. record { is_transactional = is_transactional; position = position; prefix = prefix; content = content })
    (λ _. refl) (λ _ _. (refl, (refl, (refl, tt)))) (λ m known. rw (← known.0, ← known.1.0, ← known.1.1.0) refl)))))

-- ---- any message

logical_again : (m : Logical) (rest : List ℕ) → FitsLogical m → logical_at (spell_logical m ++ rest) ≡ Ok (m, rest)
unfolding logical_at
logical_again (logical.Begin m) rest fits = rw (begin_wire.codec.again m rest fits) refl
logical_again (logical.Commit m) rest fits = rw (commit_wire.codec.again m rest fits) refl
logical_again (logical.Relation m) rest fits = rw (relation_wire.codec.again m rest fits) refl
logical_again (logical.Insert m) rest fits = rw (insert_wire.codec.again m rest fits) refl
logical_again (logical.Update m) rest fits = rw (update_wire.codec.again m rest fits) refl
logical_again (logical.Delete m) rest fits = rw (delete_wire.codec.again m rest fits) refl
logical_again (logical.Truncate m) rest fits = rw (truncate_wire.codec.again m rest fits) refl
logical_again (logical.Message m) rest fits = rw (message_wire.codec.again m rest fits) refl

logical_cut : (m : Logical) (n : ℕ) → FitsLogical m → suc n < length (spell_logical m) → logical_at (take (suc n) (spell_logical m)) ≡ Err Short
unfolding logical_at
logical_cut (logical.Begin m) n fits lt = rw (begin_wire.cut m n fits (omega arith)) refl
logical_cut (logical.Commit m) n fits lt = rw (commit_wire.cut m n fits (omega arith)) refl
logical_cut (logical.Relation m) n fits lt = rw (relation_wire.cut m n fits (omega arith)) refl
logical_cut (logical.Insert m) n fits lt = rw (insert_wire.cut m n fits (omega arith)) refl
logical_cut (logical.Update m) n fits lt = rw (update_wire.cut m n fits (omega arith)) refl
logical_cut (logical.Delete m) n fits lt = rw (delete_wire.cut m n fits (omega arith)) refl
logical_cut (logical.Truncate m) n fits lt = rw (truncate_wire.cut m n fits (omega arith)) refl
logical_cut (logical.Message m) n fits lt = rw (message_wire.cut m n fits (omega arith)) refl

pub logical_chosen : Chosen UnknownKind fields_at spell_logical FitsLogical is_kind
logical_chosen =
    choice BEGIN begin_wire (λ m. logical.Begin m) spell_logical FitsLogical (λ _. refl) (λ _ fits. fits) (
    choice COMMIT commit_wire (λ m. logical.Commit m) spell_logical FitsLogical (λ _. refl) (λ _ fits. fits) (
    choice RELATION relation_wire (λ m. logical.Relation m) spell_logical FitsLogical (λ _. refl) (λ _ fits. fits) (
    choice INSERT insert_wire (λ m. logical.Insert m) spell_logical FitsLogical (λ _. refl) (λ _ fits. fits) (
    choice UPDATE update_wire (λ m. logical.Update m) spell_logical FitsLogical (λ _. refl) (λ _ fits. fits) (
    choice DELETE delete_wire (λ m. logical.Delete m) spell_logical FitsLogical (λ _. refl) (λ _ fits. fits) (
    choice TRUNCATE truncate_wire (λ m. logical.Truncate m) spell_logical FitsLogical (λ _. refl) (λ _ fits. fits) (
    choice MESSAGE message_wire (λ m. logical.Message m) spell_logical FitsLogical (λ _. refl) (λ _ fits. fits) (
    no_choice UnknownKind spell_logical FitsLogical))))))))

pub logical_codec : Codec logical_at spell_logical FitsLogical
unfolding logical_at
logical_codec = choice_codec Short logical_chosen.chooses logical_again

pub logical_ends : (m : Logical) (n : ℕ) → FitsLogical m → n < length (spell_logical m) → logical_at (take n (spell_logical m)) ≡ Err Short
unfolding logical_at
logical_ends = choice_cut fields_at spell_logical FitsLogical logical_cut
