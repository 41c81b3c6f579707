-- A subscriber, and what each word of the stream makes of it.
use Rattle.std.specs.Prelude.{◌≡◌, ℕ, ◌==◌, Bool, true, false, pos, List, [], ◌∷◌, ◌++◌, length, max, nat_eq, nat_le, nat_lt, Option, Some, None, Result, Ok, Err, if◌then◌else◌}
use Rattle.std.specs.Option.{ok_or}
use Rattle.std.specs.Map.{lookup}
use Rattle.indexmap.specs.IndexMap.{insert_entry}
use Rattle.pqformat.specs.Steps.{◌>>=◌}
use Rattle.pgoutput.specs.declared.messages.begin.Begin.{Begin}
use Rattle.pgoutput.specs.declared.messages.commit.Commit.{Commit}
use Rattle.pgoutput.specs.declared.messages.relation.Relation.{Relation}
use Rattle.pgoutput.specs.declared.messages.message.Message.{Message}
use Rattle.pgoutput.specs.declared.parts.tuple.Cell.{Cell}
use Rattle.pgoutput.specs.declared.parts.old_tuple.OldTuple.{OldTuple}
use Rattle.pgoutput.specs.OldTuple.{cells_of}
use Rattle.pgoutput.specs.declared.logical.Logical.{Logical}
use Rattle.pgoutput.specs.declared.logical.Logical.TheVariants as logical
use Rattle.pgoutput.specs.declared.copy_both_message.CopyBothMessage.{CopyBothMessage}
use Rattle.pgoutput.specs.declared.copy_both_message.CopyBothMessage.TheVariants as words
use Rattle.pgoutput.specs.declared.copy_both_message.Keepalive.{Keepalive}
use Rattle.pgoutput.specs.declared.published.Published.{Published}
use Rattle.pgoutput.specs.declared.published.PublishedChange.{PublishedChange}
use Rattle.client.specs.declared.fault.ClientFault.{ClientFault}
use Rattle.client.specs.declared.fault.ClientFault.TheVariants.{CommitEnd, Order, UnknownRelation, Memory}

-- a transaction of which the Commit hasn't come
pub record HalfTransaction : Type 0 where
  pub begin : Begin
  pub changes : List PublishedChange

-- a subscriber: its position in the log, the transactions that it has applied, how many columns each table has that it was
-- told of since it connected, and the transaction that it is in
pub record Subscriber : Type 0 where
  pub position : ℕ
  pub applied : List Published
  pub tables : List (ℕ × ℕ)
  pub half : Option HalfTransaction

-- as it is when it connects
abbrev pub subscriber_at_rest : ℕ → List Published → Subscriber
subscriber_at_rest position applied = record { position = position; applied = applied; tables = []; half = None }

-- ---- tables that were told

abbrev pub tables_with_relation : List (ℕ × ℕ) → Relation → List (ℕ × ℕ)
tables_with_relation tables m = insert_entry nat_eq tables m.oid (length m.columns)

abbrev pub columns_of : List (ℕ × ℕ) → ℕ → Result ℕ ClientFault
columns_of tables oid = ok_or (lookup (nat_eq oid) tables) UnknownRelation

-- a tuple has as many cells as its table has columns
abbrev pub fits : ℕ → List Cell → Result (Unit {0}) ClientFault
fits columns cells = if length cells == columns then Ok tt else Err Order

abbrev pub fits_old : ℕ → Option OldTuple → Result (Unit {0}) ClientFault
fits_old columns None = Ok tt
fits_old columns (Some old) = fits columns (cells_of old)

abbrev pub are_told : List (ℕ × ℕ) → List ℕ → Result (Unit {0}) ClientFault
are_told tables [] = Ok tt
are_told tables (oid ∷ oids) = columns_of tables oid >>= λ _. are_told tables oids

-- whether a row has as many cells as its table was told to have columns
abbrev pub judgement_of_row : List (ℕ × ℕ) → ℕ → List Cell → Result (Unit {0}) ClientFault
judgement_of_row tables oid cells = columns_of tables oid >>= λ n. fits n cells

-- whether a change fits the tables that were told
abbrev pub judgement_of_change : List (ℕ × ℕ) → Logical → Result (Unit {0}) ClientFault
judgement_of_change tables (logical.Insert m) = judgement_of_row tables m.oid m.new
judgement_of_change tables (logical.Update m) = columns_of tables m.oid >>= λ n. fits_old n m.old >>= λ _. fits n m.new
judgement_of_change tables (logical.Delete m) = judgement_of_row tables m.oid (cells_of m.old)
judgement_of_change tables (logical.Truncate m) = are_told tables m.oids
judgement_of_change tables _ = Ok tt

-- ---- words. Outside a transaction only Begin, keepalives and notes come in order, inside one all but Begin and notes.

abbrev pub after_begin : Option HalfTransaction → Subscriber → Begin → Result Subscriber ClientFault
after_begin None s m = Ok (record s { half = Some (record { begin = m; changes = [] }) })
after_begin (Some half) s m = Err Order

abbrev pub after_relation : Option HalfTransaction → Subscriber → Relation → Result Subscriber ClientFault
after_relation None s m = Err Order
after_relation (Some half) s m = Ok (record s { tables = tables_with_relation s.tables m })

-- a change goes after the others
abbrev pub with_change : HalfTransaction → ℕ → Logical → HalfTransaction
with_change half position message = record half { changes = half.changes ++ record { position = position; message = message } ∷ [] }

abbrev pub after_change : Option HalfTransaction → Subscriber → ℕ → Logical → Result Subscriber ClientFault
after_change None s position message = Err Order
after_change (Some half) s position message = judgement_of_change s.tables message >>= λ _. Ok (record s { half = Some (with_change half position message) })

abbrev pub transaction_of : HalfTransaction → Commit → Published
transaction_of half m = record { is_note = false; start = half.begin.position; end = m.end; time = half.begin.time; xid = half.begin.xid; changes = half.changes }

-- A transaction that is whole is applied, unless its commit record starts below the position: then it was applied before.
abbrev pub after_transaction : Subscriber → HalfTransaction → Commit → Subscriber
after_transaction s half m = record s {
  half = None;
  position = max s.position m.end;
  applied = s.applied ++ (if nat_le s.position half.begin.position then transaction_of half m ∷ [] else []);
}

-- Its end lies past where its commit record starts: so what was applied is below the position, and is never applied again.
abbrev pub after_end : Subscriber → HalfTransaction → Commit → Result Subscriber ClientFault
after_end s half m = if nat_lt half.begin.position m.end then Ok (after_transaction s half m) else Err CommitEnd

abbrev pub after_commit : Option HalfTransaction → Subscriber → Commit → Result Subscriber ClientFault
after_commit None s m = Err Order
after_commit (Some half) s m = if m.position == half.begin.position then after_end s half m else Err Order

-- a note, a message outside of transactions, as it is applied
abbrev pub note_of : ℕ → Message → Published
note_of end m = record { is_note = true; start = m.position; end = end; time = pos 0; xid = 0; changes = record { position = m.position; message = logical.Message m } ∷ [] }

-- It is whole by itself, and is applied unless it starts below the position.
abbrev pub after_note : Option HalfTransaction → Subscriber → ℕ → Message → Result Subscriber ClientFault
after_note None s end m = Ok (record s {
  position = max s.position end;
  applied = s.applied ++ (if nat_le s.position m.position then note_of end m ∷ [] else []);
})
after_note (Some half) s end m = Err Order

abbrev pub after_logical_message : (is_transactional : Bool) → Subscriber → (start end : ℕ) → Message → Result Subscriber ClientFault
after_logical_message true s start end m = after_change s.half s start (logical.Message m)
after_logical_message false s start end m = after_note s.half s end m

-- the message of an XLogData, with its two positions
abbrev pub after_message : Subscriber → (start end : ℕ) → Logical → Result Subscriber ClientFault
after_message s start end (logical.Begin m) = after_begin s.half s m
after_message s start end (logical.Relation m) = after_relation s.half s m
after_message s start end (logical.Commit m) = after_commit s.half s m
after_message s start end (logical.Message m) = after_logical_message m.is_transactional s start end m
after_message s start end message = after_change s.half s start message

-- A keepalive inside a transaction is passed over: what it tells may lie after what is still to come of the transaction.
abbrev pub after_keepalive : Option HalfTransaction → Subscriber → Keepalive → Subscriber
after_keepalive None s k = record s { position = max s.position k.position }
after_keepalive (Some half) s k = s

abbrev pub after_word : Subscriber → CopyBothMessage → Result Subscriber ClientFault
after_word s (words.Keepalive k) = Ok (after_keepalive s.half s k)
after_word s (words.XLogData x) = after_message s x.start x.end x.message

-- one word after the other
abbrev pub after_words : Subscriber → List CopyBothMessage → Result Subscriber ClientFault
after_words s [] = Ok s
after_words s (w ∷ ws) = after_word s w >>= λ t. after_words t ws

-- What a call answers that makes of one subscriber another: Ok where it did, and else nothing changed. Memory may run out at
-- any word.
abbrev pub Makes : Result (Unit {0}) ClientFault → Subscriber → Subscriber → Result Subscriber ClientFault → Type 0
Makes (Ok u) old new after = after ≡ Ok new
Makes (Err Memory) old new after = new ≡ old
Makes (Err e) old new after = (new ≡ old) × (after ≡ Err e)
