-- The frames of each side are read as they are spelled.
use Rattle.std.proofs.Common.{◌≡◌, ℕ, ◌^◌, ◌<◌, Bool, true, false, cond, eqb, ltb, List, [], ◌∷◌, ◌++◌, length, Some, Result, Ok, Err, refl, sym, ap, subst, ◌∙◌, append_assoc, arith, lit≤}
use Rattle.std.specs.Str.{is_utf8}
use Rattle.std.specs.Int.{w32}
use Rattle.std.specs.List.{flat_map, AllByRecursion, list_all}
use Rattle.std.proofs.lemmas.Bool.{eqb-true, ltb-true, lt-ltb}
use Rattle.std.proofs.lemmas.Bool.Decides.{nat_tests}
use Rattle.std.proofs.lemmas.List.{append-nil}
use Rattle.frames.specs.declared.fault.FrameFault.{FrameFault}
use Rattle.frames.specs.declared.fault.FrameFault.TheVariants.{UnknownType, NotUtf8}
use Rattle.frames.specs.declared.backend.authentication_ok.TheConstants.{AUTHENTICATION}
use Rattle.frames.specs.declared.backend.parameter_status.TheConstants.{PARAMETER_STATUS}
use Rattle.frames.specs.declared.backend.backend_key_data.TheConstants.{BACKEND_KEY_DATA}
use Rattle.frames.specs.declared.backend.ready_for_query.TheConstants.{READY_FOR_QUERY}
use Rattle.frames.specs.declared.backend.ready_for_query.TransactionStatus.{TransactionStatus}
use Rattle.frames.specs.declared.backend.ready_for_query.TransactionStatus.TheVariants.{Idle, InTransaction, Failed}
use Rattle.frames.specs.declared.backend.command_complete.TheConstants.{COMMAND_COMPLETE}
use Rattle.frames.specs.declared.backend.row_description.TheConstants.{ROW_DESCRIPTION}
use Rattle.frames.specs.declared.backend.row_description.ColumnDescription.{ColumnDescription}
use Rattle.frames.specs.declared.backend.row_description.ColumnType.{ColumnType}
use Rattle.frames.specs.declared.backend.data_row.TheConstants.{DATA_ROW}
use Rattle.frames.specs.declared.backend.data_row.DataValue.{DataValue}
use Rattle.frames.specs.declared.backend.data_row.DataValue.TheVariants as values
use Rattle.frames.specs.declared.backend.error_response.TheConstants.{ERROR_RESPONSE}
use Rattle.frames.specs.declared.backend.error_response.ErrorField.{ErrorField}
use Rattle.frames.specs.declared.backend.copy_both_response.TheConstants.{COPY_BOTH_RESPONSE}
use Rattle.frames.specs.declared.backend.copy_both_response.CopyBothResponse.{CopyBothResponse}
use Rattle.frames.specs.declared.copy_data.CopyData.{CopyData}
use Rattle.frames.specs.declared.copy_data.TheConstants.{COPY_DATA}
use Rattle.frames.specs.declared.copy_done.TheConstants.{COPY_DONE}
use Rattle.frames.specs.declared.frontend.copy_fail.TheConstants.{COPY_FAIL}
use Rattle.frames.specs.declared.frontend.query.TheConstants.{QUERY, QUERY_LIMIT}
use Rattle.frames.specs.declared.frontend.terminate.TheConstants.{TERMINATE}
use Rattle.frames.specs.declared.parts.frame.TheConstants.{FRAME_LIMIT}
use Rattle.frames.specs.declared.front.Front.{Front}
use Rattle.frames.specs.declared.front.Front.TheVariants as fronts
use Rattle.frames.specs.declared.back.Back.{Back}
use Rattle.frames.specs.declared.back.Back.TheVariants as backs
use Rattle.pqformat.specs.Fields.{int32, string, has_zero, number_at, bytes_at}
use Rattle.pqformat.specs.Steps.{◌>>=◌, repeat_at, until_at, closed_list}
use Rattle.frames.specs.Body.{whole, checked_text, always, there, text_at}
use Rattle.frames.specs.Parameter.{is_parameter_text}
use Rattle.frames.specs.Plain.{authentication_at, status_letter, status_of, status_at, counted_items, counted_at, copy_both, copy_both_at}
use Rattle.frames.specs.RowDescription.{column, column_type, column_at, type_at, FitsColumn, FitsType, is_column_text}
use Rattle.frames.specs.DataRow.{data_value, value_at, sized_value, no_length, FitsValue}
use Rattle.frames.specs.ErrorResponse.{error_field, error_field_at, FitsErrorField, is_error_text}
use Rattle.frames.specs.CopyData.{copy_data, copy_data_at}
use Rattle.frames.specs.Front.{front_kind, front_body, front_limit, front_at, IsShapedFront, is_front_text}
use Rattle.frames.specs.Back.{back_kind, back_body, back_limit, back_at, list_at, IsShapedBack, is_back_text}
use Rattle.pqformat.proofs.Codec as codec
use Rattle.pqformat.proofs.Codec.{IsBytes, Takes, Takes-then, Codec, bind_ok, ok_is, done, field, last_field, codec_of, tested, repeated}
use Rattle.pqformat.proofs.Numbers.{number16, number32, signed16, signed32, byte_codec, bytes_codec, string_codec, letter_codec, count_codec}
use Rattle.frames.proofs.Cases.{Cases, Body, body_of_codec, case, no_case, whole_again, made}
use Rattle.frames.proofs.ClosedLists.{until_body}
use Rattle.frames.proofs.StartupBodies.{parameter_codec, key_codec, empty_body}
use Rattle.frames.proofs.Readers.{AreBodies}

-- all bytes are those of CopyData, so nothing stands after it
copy_data_body : Body copy_data_at copy_data (λ _. Unit {0})
copy_data_body = record { takes = takes; again = λ m fits. refl }
  where
    takes : (bytes : List ℕ) (m : CopyData) (rest : List ℕ) → IsBytes bytes → copy_data_at bytes ≡ Ok (m, rest) → Takes bytes (copy_data m) rest × Unit {0}
    takes bytes m rest fits e =
        let read : CopyData × List ℕ = (record { bytes = bytes }, []) in
        let P : CopyData × List ℕ → Type 0 = λ y. Takes bytes (copy_data y.0) y.1 × Unit {0} in
        subst P (ok_is (Unit {0}) read (m, rest) e) (record { parts = sym (append-nil bytes); rest_fits = λ i. omega arith }, tt)

text_body : Body text_at string (λ text. has_zero text ≡ false)
text_body = body_of_codec (string_codec tt)

front_cases : Cases front_kind front_body IsShapedFront is_front_text front_limit front_at
front_cases =
    case QUERY QUERY_LIMIT text_body is_utf8 (λ text. fronts.Query (record { text = text })) (λ text fits. (refl, refl, fits)) (λ _. refl) (
    case TERMINATE FRAME_LIMIT empty_body always (λ _. fronts.Terminate) (λ _ _. (refl, refl, tt)) (λ _. refl) (
    case COPY_DATA FRAME_LIMIT copy_data_body always (λ m. fronts.CopyData m) (λ _ _. (refl, refl, tt)) (λ _. refl) (
    case COPY_DONE FRAME_LIMIT empty_body always (λ _. fronts.CopyDone) (λ _ _. (refl, refl, tt)) (λ _. refl) (
    case COPY_FAIL FRAME_LIMIT text_body is_utf8 (λ reason. fronts.CopyFail (record { reason = reason })) (λ reason fits. (refl, refl, fits)) (λ _. refl) (
    no_case front_kind front_body IsShapedFront is_front_text UnknownType)))))

front_again : (f : Front) → IsShapedFront f → front_at (front_kind f) (front_body f) ≡ checked_text is_front_text f
front_again (fronts.Query m) shaped = ap (λ (r : Result (List ℕ) FrameFault). r >>= λ text. done FrameFault (fronts.Query (record { text = text }))) (whole_again text_body is_utf8 m.text shaped) ∙ made (λ text. fronts.Query (record { text = text })) (is_utf8 m.text) m.text
front_again fronts.Terminate shaped = refl
front_again (fronts.CopyData m) shaped = refl
front_again fronts.CopyDone shaped = refl
front_again (fronts.CopyFail m) shaped = ap (λ (r : Result (List ℕ) FrameFault). r >>= λ reason. done FrameFault (fronts.CopyFail (record { reason = reason }))) (whole_again text_body is_utf8 m.reason shaped) ∙ made (λ reason. fronts.CopyFail (record { reason = reason })) (is_utf8 m.reason) m.reason

pub front_bodies : AreBodies front_limit front_kind front_body IsShapedFront is_front_text front_at
front_bodies = record { cases = front_cases; again = front_again }

-- ---- the frames of a server

authentication_codec : Codec authentication_at int32 (λ n. (n < 2 ^ 32) × (eqb n 0 ≡ true))
authentication_codec = tested (number32 tt) (λ n. eqb n 0) tt

status_there : (b : ℕ) (s : TransactionStatus) → status_of b ≡ Some s → status_letter s ≡ b
status_there b Idle e = grind (arith, nat_tests)
status_there b InTransaction e = grind (arith, nat_tests)
status_there b Failed e = grind (arith, nat_tests)

status_again : (s : TransactionStatus) → status_of (status_letter s) ≡ Some s
status_again Idle = refl
status_again InTransaction = refl
status_again Failed = refl

status_codec : Codec status_at (λ s. status_letter s ∷ []) (λ _. Unit {0})
status_codec = letter_codec tt tt status_of status_letter status_there status_again

counted_codec : {A : Type 0} {f : List ℕ → Result (A × List ℕ) (Unit {0})} {t : A → List ℕ} {F : A → Type 0} → Codec f t F → Codec (counted_at f) (counted_items t) (λ xs. (length xs < 2 ^ 15) × AllByRecursion F xs)
counted_codec {A} {f} {t} {F} c = codec.counted (count_codec (2 ^ 15) (2 ^ 16) tt (number16 tt) (lit≤ tt)) length (λ n. repeat_at f n) (flat_map t) (AllByRecursion F) (λ n. repeated c n)

type_codec : Codec type_at column_type FitsType
unfolding type_at
type_codec = codec_of (
    field (number32 tt) (λ (t : ColumnType). t.oid) _ _ _ _ (λ oid.
    field (signed16 tt) (λ (t : ColumnType). t.size) _ _ _ _ (λ size.
    last_field (signed32 tt) (λ (t : ColumnType). t.modifier) _ (λ modifier. record { oid = oid; size = size; modifier = modifier })
    (λ _. refl) (λ _ _. (refl, (refl, tt))) (λ t known. rw (← known.0, ← known.1.0) refl))))

column_codec : Codec column_at column FitsColumn
unfolding column_at
column_codec = codec_of (
    field (string_codec tt) (λ (c : ColumnDescription). c.name) _ _ _ _ (λ name.
    field (number32 tt) (λ (c : ColumnDescription). c.table) _ _ _ _ (λ table.
    field (signed16 tt) (λ (c : ColumnDescription). c.attribute) _ _ _ _ (λ attribute.
    field type_codec (λ (c : ColumnDescription). c.data_type) _ _ _ _ (λ data_type.
    last_field (number16 tt) (λ (c : ColumnDescription). c.format) _ (λ format. record { name = name; table = table; attribute = attribute; data_type = data_type; format = format })
    (λ _. refl) (λ _ _. (refl, (refl, (refl, (refl, tt))))) (λ c known. rw (← known.0, ← known.1.0, ← known.1.1.0, ← known.1.1.1.0) refl))))))

abbrev as_value : List ℕ → List ℕ → DataValue × List ℕ
as_value bytes rest = (values.Bytes bytes, rest)

abbrev as_null : List ℕ → DataValue × List ℕ
as_null rest = (values.Null, rest)

abbrev missing : Unit {0}
missing = tt

value_takes : (bytes : List ℕ) (v : DataValue) (rest : List ℕ) → IsBytes bytes → value_at bytes ≡ Ok (v, rest) → Takes bytes (data_value v) rest × FitsValue v
unfolding value_at
value_takes bytes v rest fits e =
    let n = bind_ok (there (number_at w32 bytes)) (λ n. sized_value n.0 n.1) (v, rest) e in
    let head = (number32 tt).takes bytes n.0.0 n.0.1 fits n.1 in
    by_null n.0.0 n.0.1 head.0 (eqb n.0.0 no_length) (λ is. eqb-true n.0.0 no_length is) n.2
  where
    Taken : DataValue × List ℕ → Type 0
    Taken y = Takes bytes (data_value y.0) y.1 × FitsValue y.0

    by_size : (n : ℕ) (after : List ℕ) → Takes bytes (int32 n) after → (b : Bool) → (b ≡ true → n < 2 ^ 31)
        → cond b (there (bytes_at n after) >>= λ b. Ok (as_value b.0 b.1)) (Err tt) ≡ Ok (v, rest) → Taken (v, rest)
    by_size n after head true less e =
        let b = bind_ok (there (bytes_at n after)) (λ b. Ok (as_value b.0 b.1)) (v, rest) e in
        let t = (bytes_codec tt n).takes after b.0.0 b.0.1 head.rest_fits b.1 in
        let made : DataValue × List ℕ = (values.Bytes b.0.0, b.0.1) in
        let both : Takes bytes (int32 n ++ b.0.0) b.0.1 = Takes-then bytes (int32 n) after b.0.0 b.0.1 head t.0 in
        let small : n < 2 ^ 31 = less refl in
        let P : ℕ → Type 0 = λ i. Takes bytes (int32 i ++ b.0.0) b.0.1 × (i < 2 ^ 31) in
        subst Taken (ok_is (Unit {0}) made (v, rest) b.2) (subst P (sym t.1) (both, small))
    by_size n after head false less e = absurd cc

    by_null : (n : ℕ) (after : List ℕ) → Takes bytes (int32 n) after → (b : Bool) → (b ≡ true → n ≡ no_length)
        → cond b (Ok (as_null after)) (cond (ltb n (2 ^ 31)) (there (bytes_at n after) >>= λ b. Ok (as_value b.0 b.1)) (Err tt)) ≡ done (Unit {0}) (v, rest) → Taken (v, rest)
    by_null n after head true is e =
        let read : DataValue × List ℕ = (values.Null, after) in
        let P : ℕ → Type 0 = λ i. Takes bytes (int32 i) after × Unit {0} in
        subst Taken (ok_is (Unit {0}) read (v, rest) e) (subst P (is refl) (head, tt))
    by_null n after head false is e = by_size n after head (ltb n (2 ^ 31)) (λ less. ltb-true n (2 ^ 31) less) e

value_again : (v : DataValue) (rest : List ℕ) → FitsValue v → value_at (data_value v ++ rest) ≡ Ok (v, rest)
unfolding value_at
value_again values.Null rest fits = rw ((number32 missing).again no_length rest (omega arith)) refl
value_again (values.Bytes bytes) rest fits =
    let n = length bytes in
    let grouped : (int32 n ++ bytes) ++ rest ≡ int32 n ++ (bytes ++ rest) = append_assoc (int32 n) bytes rest in
    let head = (number32 missing).again n (bytes ++ rest) (omega (arith, fits)) in
    let no_null : eqb n no_length ≡ false = by_test (eqb n no_length) (λ is. eqb-true n no_length is) in
    let small : ltb n (2 ^ 31) ≡ true = lt-ltb n (2 ^ 31) fits in
    ap (λ (l : List ℕ). there (number_at w32 l) >>= λ n. sized_value n.0 n.1) grouped ∙ rw (head, no_null, small, (bytes_codec missing n).again bytes rest refl) refl
  where
    by_test : (b : Bool) → (b ≡ true → length bytes ≡ no_length) → b ≡ false
    by_test true is = absurd (omega (arith, is refl, fits))
    by_test false is = refl

value_codec : Codec value_at data_value FitsValue
value_codec = record { takes = value_takes; again = value_again }

error_codec : Codec error_field_at error_field (λ f. (f.code < 256) × (has_zero f.text ≡ false))
unfolding error_field_at
error_codec = codec_of (
    field (byte_codec tt) (λ (f : ErrorField). f.code) _ _ _ _ (λ code.
    last_field (string_codec tt) (λ (f : ErrorField). f.text) _ (λ text. record { code = code; text = text })
    (λ _. refl) (λ _ _. (refl, tt)) (λ f known. rw (← known.0) refl)))

long_field : (f : ErrorField) → 0 < length (error_field f)
long_field f = omega arith

errors_body : Body (λ body. until_at tt error_field_at (length body) body) (closed_list error_field) (AllByRecursion FitsErrorField)
errors_body = until_body error_codec long_field

copy_both_codec : Codec copy_both_at copy_both (λ m. (m.format < 256) × ((length m.formats < 2 ^ 15) × AllByRecursion (λ n. n < 2 ^ 16) m.formats))
unfolding copy_both_at
copy_both_codec = codec_of (
    field (byte_codec tt) (λ (m : CopyBothResponse). m.format) _ _ _ _ (λ format.
    last_field (counted_codec (number16 tt)) (λ (m : CopyBothResponse). m.formats) _ (λ formats. record { format = format; formats = formats })
    (λ _. refl) (λ _ _. (refl, tt)) (λ m known. rw (← known.0) refl)))

back_cases : Cases back_kind back_body IsShapedBack is_back_text back_limit back_at
unfolding back_at list_at
back_cases =
    case AUTHENTICATION FRAME_LIMIT (body_of_codec authentication_codec) always (λ _. backs.AuthenticationOk) (λ n fits. (refl, ap int32 (sym (eqb-true n 0 fits.1)), (tt, tt))) (λ _. refl) (
    case PARAMETER_STATUS FRAME_LIMIT (body_of_codec parameter_codec) is_parameter_text (λ m. backs.ParameterStatus m) (λ _ fits. (refl, refl, (tt, fits))) (λ _. refl) (
    case BACKEND_KEY_DATA FRAME_LIMIT (body_of_codec key_codec) always (λ m. backs.BackendKeyData (record { process = m.0; key = m.1 })) (λ _ fits. (refl, refl, (tt, fits))) (λ _. refl) (
    case READY_FOR_QUERY FRAME_LIMIT (body_of_codec status_codec) always (λ s. backs.ReadyForQuery s) (λ _ _. (refl, refl, (tt, tt))) (λ _. refl) (
    case COMMAND_COMPLETE FRAME_LIMIT text_body is_utf8 (λ tag. backs.CommandComplete (record { tag = tag })) (λ _ fits. (refl, refl, (tt, fits))) (λ _. refl) (
    case COPY_BOTH_RESPONSE FRAME_LIMIT (body_of_codec copy_both_codec) always (λ m. backs.CopyBothResponse m) (λ _ fits. (refl, refl, (fits.1.0, (fits.0, fits.1.1)))) (λ _. refl) (
    case COPY_DATA FRAME_LIMIT copy_data_body always (λ m. backs.CopyData m) (λ _ _. (refl, refl, (tt, tt))) (λ _. refl) (
    case COPY_DONE FRAME_LIMIT empty_body always (λ _. backs.CopyDone) (λ _ _. (refl, refl, (tt, tt))) (λ _. refl) (
    case ROW_DESCRIPTION FRAME_LIMIT (body_of_codec (counted_codec column_codec)) (list_all is_column_text) (λ columns. backs.RowDescription (record { columns = columns })) (λ _ fits. (refl, refl, fits)) (λ _. refl) (
    case DATA_ROW FRAME_LIMIT (body_of_codec (counted_codec value_codec)) always (λ values. backs.DataRow (record { values = values })) (λ _ fits. (refl, refl, (fits, tt))) (λ _. refl) (
    case ERROR_RESPONSE FRAME_LIMIT errors_body (list_all is_error_text) (λ fields. backs.ErrorResponse (record { fields = fields })) (λ _ fits. (refl, refl, (tt, fits))) (λ _. refl) (
    no_case back_kind back_body IsShapedBack is_back_text UnknownType)))))))))))

-- a frame that is made of a body read whole
made_again : {X : Type 0} {read : List ℕ → Result (X × List ℕ) (Unit {0})} {text : X → List ℕ} {Shaped : X → Type 0} → Body read text Shaped → (test : X → Bool) (make : X → Back) (x : X)
    → Shaped x → (whole test (read (text x)) >>= λ y. done FrameFault (make y)) ≡ cond (test x) (Ok (make x)) (Err NotUtf8)
made_again {X} body test make x shaped = ap (λ (r : Result X FrameFault). r >>= λ y. done FrameFault (make y)) (whole_again body test x shaped) ∙ made make (test x) x

back_again : (f : Back) → IsShapedBack f → back_at (back_kind f) (back_body f) ≡ checked_text is_back_text f
unfolding back_at list_at
back_again backs.AuthenticationOk shaped = made_again (body_of_codec authentication_codec) always (λ _. backs.AuthenticationOk) 0 (omega arith, refl)
back_again (backs.ParameterStatus m) shaped = made_again (body_of_codec parameter_codec) is_parameter_text (λ m. backs.ParameterStatus m) m shaped.1
back_again (backs.BackendKeyData m) shaped =
    let key : ℕ × ℕ = (m.process, m.key) in
    made_again (body_of_codec key_codec) always (λ k. backs.BackendKeyData (record { process = k.0; key = k.1 })) key shaped.1
back_again (backs.ReadyForQuery s) shaped = made_again (body_of_codec status_codec) always (λ s. backs.ReadyForQuery s) s tt
back_again (backs.CommandComplete m) shaped = made_again text_body is_utf8 (λ tag. backs.CommandComplete (record { tag = tag })) m.tag shaped.1
back_again (backs.CopyBothResponse m) shaped = made_again (body_of_codec copy_both_codec) always (λ m. backs.CopyBothResponse m) m (shaped.1.0, (shaped.0, shaped.1.1))
back_again (backs.CopyData m) shaped = refl
back_again backs.CopyDone shaped = refl
back_again (backs.RowDescription m) shaped = made_again (body_of_codec (counted_codec column_codec)) (list_all is_column_text) (λ columns. backs.RowDescription (record { columns = columns })) m.columns shaped
back_again (backs.DataRow m) shaped = made_again (body_of_codec (counted_codec value_codec)) always (λ values. backs.DataRow (record { values = values })) m.values shaped.0
back_again (backs.ErrorResponse m) shaped = made_again errors_body (list_all is_error_text) (λ fields. backs.ErrorResponse (record { fields = fields })) m.fields shaped.1

pub back_bodies : AreBodies back_limit back_kind back_body IsShapedBack is_back_text back_at
back_bodies = record { cases = back_cases; again = back_again }
