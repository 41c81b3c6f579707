-- The frames of words, as they are written: a head with the body's length, and the body.
use Rattle.std.proofs.Common.{◌≡◌, ℕ, ℤ, ◌+◌, List, [], ◌∷◌, ◌++◌, length, sym, ap, ◌∙◌, append_assoc, arith}
use Rattle.std.specs.Prelude.{Bool}
use Rattle.std.specs.Int.{w64, cast_unsigned}
use Rattle.std.proofs.lemmas.List.{length-append, append-nil}
use Rattle.std.proofs.lemmas.List.Concat.{flat_map-cons, flat_map-append}
use Rattle.pqformat.specs.Fields.{int32, int64}
use Rattle.frames.specs.declared.copy_data.TheConstants.{COPY_DATA}
use Rattle.pqformat.proofs.Numbers.{length-int32, length-int64}
use Rattle.frames.specs.Frame.{frame}
use Rattle.copyboth.specs.XLogData.{xlogdata}
use Rattle.copyboth.specs.Keepalive.{keepalive, ask_byte}
use Rattle.pgoutput.specs.declared.logical.Logical.{Logical}
use Rattle.pgoutput.specs.Logical.{spell_logical}
use Rattle.pgoutput.specs.declared.messages.relation.Relation.{Relation}
use Rattle.pgoutput.specs.declared.copy_both_message.CopyBothMessage.{CopyBothMessage}
use Rattle.pgoutput.specs.declared.published.Published.{Published}
use Rattle.pgoutput.specs.Words.{word_bytes, frames_of}
use Rattle.pgoutput.specs.Items.{xlogdata_word, keepalive_word, begin_message, commit_message, changes_words, transaction_words}
use Rattle.walsender.specs.Spelled.{begin_with, commit_with}
use Rattle.walsender.specs.declared.commit_frames.header.Header.{Header}

length-xlogdata : (start end : ℕ) (clock : ℤ) (payload : List ℕ) → length (xlogdata start end clock payload) ≡ 25 + length payload
length-xlogdata start end clock payload =
    omega (
      arith,
      length-int64 start,
      length-int64 end,
      length-int64 (cast_unsigned w64 clock),
      length-append (int64 start) (int64 end ++ (int64 (cast_unsigned w64 clock) ++ payload)),
      length-append (int64 end) (int64 (cast_unsigned w64 clock) ++ payload),
      length-append (int64 (cast_unsigned w64 clock)) payload,
    )

length-keepalive : (end : ℕ) (clock : ℤ) (ask : Bool) → length (keepalive end clock ask) ≡ 18
length-keepalive end clock ask =
    omega (arith, length-int64 end, length-int64 (cast_unsigned w64 clock), length-append (int64 end) (int64 (cast_unsigned w64 clock) ++ (ask_byte ask ∷ [])), length-append (int64 (cast_unsigned w64 clock)) (ask_byte ask ∷ []))

-- a body after its head
after_head : (old headed whole body : List ℕ) (n : ℕ) → n ≡ length body → headed ≡ old ++ (COPY_DATA ∷ int32 (4 + n)) → whole ≡ headed ++ body → whole ≡ old ++ (COPY_DATA ∷ (int32 (4 + length body) ++ body))
after_head old headed whole body n len head tail =
    tail ∙ ap (λ (l : List ℕ). l ++ body) head ∙ append_assoc old (COPY_DATA ∷ int32 (4 + n)) body ∙ ap (λ (k : ℕ). old ++ (COPY_DATA ∷ (int32 (4 + k) ++ body))) len

pub xlogdata_whole : (old headed whole message : List ℕ) (position : ℕ) (clock : ℤ) → headed ≡ old ++ (COPY_DATA ∷ int32 (4 + (25 + length message)))
    → whole ≡ headed ++ xlogdata position position clock message → whole ≡ old ++ frame COPY_DATA (xlogdata position position clock message)
xlogdata_whole old headed whole message position clock head tail =
    after_head old headed whole (xlogdata position position clock message) (25 + length message) (sym (length-xlogdata position position clock message)) head tail

pub keepalive_whole : (old headed whole : List ℕ) (position : ℕ) (clock : ℤ) (ask : Bool) → headed ≡ old ++ (COPY_DATA ∷ int32 (4 + 18)) → whole ≡ headed ++ keepalive position clock ask → whole ≡ old ++ word_bytes (keepalive_word position clock ask)
keepalive_whole old headed whole position clock ask head tail = after_head old headed whole (keepalive position clock ask) 18 (sym (length-keepalive position clock ask)) head tail

-- ---- blocks

frames_append : (ws vs : List CopyBothMessage) → frames_of (ws ++ vs) ≡ frames_of ws ++ frames_of vs
frames_append ws vs = flat_map-append word_bytes ws vs

pub frames_one : (w : CopyBothMessage) → frames_of (w ∷ []) ≡ word_bytes w
frames_one w = flat_map-cons word_bytes w [] ∙ append-nil (word_bytes w)

pub block_is : (relation : ℕ → Relation) (relations_sent : List ℕ) (clock : ℤ) (t : Published) → frames_of (transaction_words relation relations_sent clock t)
    ≡ (word_bytes (xlogdata_word t.start clock (begin_message t)) ++ frames_of (changes_words relation relations_sent clock t.changes)) ++ word_bytes (xlogdata_word t.end clock (commit_message t))
block_is relation relations_sent clock t =
    let begun = xlogdata_word t.start clock (begin_message t) in
    let ended = xlogdata_word t.end clock (commit_message t) in
    let changes = changes_words relation relations_sent clock t.changes in
    flat_map-cons word_bytes begun (changes ++ (ended ∷ [])) ∙ ap (λ (l : List ℕ). word_bytes begun ++ l) (frames_append changes (ended ∷ []) ∙ ap (λ (l : List ℕ). frames_of changes ++ l) (frames_one ended))
    ∙ sym (append_assoc (word_bytes begun) (frames_of changes) (word_bytes ended))

pub begin_length : (h : Header) → length (spell_logical (begin_with h)) ≡ 21
begin_length h = omega (arith, length-int64 h.start, length-int64 (cast_unsigned w64 h.time), length-int32 h.xid, length-append (int64 h.start) (int64 (cast_unsigned w64 h.time) ++ int32 h.xid), length-append (int64 (cast_unsigned w64 h.time)) (int32 h.xid))

pub commit_length : (h : Header) → length (spell_logical (commit_with h)) ≡ 26
commit_length h = omega (arith, length-int64 h.start, length-int64 h.end, length-int64 (cast_unsigned w64 h.time), length-append (int64 h.start) (int64 h.end ++ int64 (cast_unsigned w64 h.time)), length-append (int64 h.end) (int64 (cast_unsigned w64 h.time)))

pub block_whole : (relation : ℕ → Relation) (relations_sent : List ℕ) (clock : ℤ) (t : Published) (old begun changed ended : List ℕ) (m n : Logical) → m ≡ begin_message t → n ≡ commit_message t
    → begun ≡ old ++ word_bytes (xlogdata_word t.start clock m) → changed ≡ begun ++ frames_of (changes_words relation relations_sent clock t.changes) → ended ≡ changed ++ word_bytes (xlogdata_word t.end clock n)
    → ended ≡ old ++ frames_of (transaction_words relation relations_sent clock t)
block_whole relation relations_sent clock t old begun changed ended m n is_m is_n e f g =
    let first = word_bytes (xlogdata_word t.start clock (begin_message t)) in
    let middle = frames_of (changes_words relation relations_sent clock t.changes) in
    let last = word_bytes (xlogdata_word t.end clock (commit_message t)) in
    let one : begun ≡ old ++ first = e ∙ ap (λ (k : Logical). old ++ word_bytes (xlogdata_word t.start clock k)) is_m in
    let two : changed ≡ old ++ (first ++ middle) = f ∙ ap (λ (l : List ℕ). l ++ middle) one ∙ append_assoc old first middle in
    let three : ended ≡ old ++ ((first ++ middle) ++ last) = g ∙ ap (λ (k : Logical). changed ++ word_bytes (xlogdata_word t.end clock k)) is_n ∙ ap (λ (l : List ℕ). l ++ last) two ∙ append_assoc old (first ++ middle) last in
    three ∙ ap (λ (l : List ℕ). old ++ l) (sym (block_is relation relations_sent clock t))
