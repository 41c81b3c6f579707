-- What was printed stands before what a subscriber has applied, and it goes on as it would with that.
use Rattle.std.proofs.Common.{◌≡◌, ℕ, Bool, true, false, cond, eqb, List, [], ◌∷◌, ◌++◌, Option, Some, None, Result, Ok, Err, refl, ap, ◌∙◌, append_assoc}
use Rattle.std.specs.Prelude.{max, nat_le, nat_lt}
use Rattle.pqformat.specs.Steps.{◌>>=◌}
use Rattle.pgoutput.specs.declared.messages.begin.Begin.{Begin}
use Rattle.pgoutput.specs.declared.messages.commit.Commit.{Commit}
use Rattle.pgoutput.specs.declared.messages.message.Message.{Message}
use Rattle.pgoutput.specs.declared.messages.relation.Relation.{Relation}
use Rattle.pgoutput.specs.declared.logical.Logical.{Logical}
use Rattle.pgoutput.specs.declared.logical.Logical.TheVariants as logical
use Rattle.pgoutput.specs.declared.copy_both_message.CopyBothMessage.{CopyBothMessage}
use Rattle.pgoutput.specs.declared.copy_both_message.CopyBothMessage.TheVariants as words
use Rattle.pgoutput.specs.declared.copy_both_message.Keepalive.{Keepalive}
use Rattle.pgoutput.specs.declared.published.Published.{Published}
use Rattle.client.specs.declared.fault.ClientFault.{ClientFault}
use Rattle.client.specs.declared.fault.ClientFault.TheVariants as faults
use Rattle.client.specs.Subscriber.{Subscriber, HalfTransaction, judgement_of_change, after_begin, after_relation, after_change, after_commit, after_end, after_transaction, after_keepalive, with_change, note_of, after_note, after_logical_message, transaction_of, after_message, after_word, after_words}
use Rattle.client.specs.Taking.{ApplierState, Reached, Stops, Takes, TakesFrom}
use Rattle.client.specs.Law.{Follows}
use Rattle.client.proofs.Laws.{follows_ok, follows_err}
use Rattle.follower.specs.Once.{before, with_printed}

abbrev after : List Published → Result Subscriber ClientFault → Result Subscriber ClientFault
after printed (Ok s) = Ok (before printed s)
after printed (Err e) = Err e

-- ---- By a word.

keepalive_before : (printed : List Published) (half : Option HalfTransaction) (s : Subscriber) (k : Keepalive) → after_keepalive half (before printed s) k ≡ before printed (after_keepalive half s k)
keepalive_before printed None s k = refl
keepalive_before printed (Some half) s k = refl

begin_before : (printed : List Published) (half : Option HalfTransaction) (s : Subscriber) (m : Begin) → after_begin half (before printed s) m ≡ after printed (after_begin half s m)
begin_before printed None s m = refl
begin_before printed (Some half) s m = refl

relation_before : (printed : List Published) (half : Option HalfTransaction) (s : Subscriber) (m : Relation) → after_relation half (before printed s) m ≡ after printed (after_relation half s m)
relation_before printed None s m = refl
relation_before printed (Some half) s m = refl

change_before : (printed : List Published) (half : Option HalfTransaction) (s : Subscriber) (position : ℕ) (m : Logical) → after_change half (before printed s) position m ≡ after printed (after_change half s position m)
change_before printed None s position m = refl
change_before printed (Some half) s position m = by_judging (judgement_of_change s.tables m)
  where
    with : Subscriber → Subscriber
    with u = record u { half = Some (with_change half position m) }

    by_judging : (r : Result (Unit {0}) ClientFault) → (r >>= λ _. Ok (with (before printed s))) ≡ after printed (r >>= λ _. Ok (with s))
    by_judging (Ok u) = refl
    by_judging (Err e) = refl

commit_before : (printed : List Published) (half : Option HalfTransaction) (s : Subscriber) (m : Commit) → after_commit half (before printed s) m ≡ after printed (after_commit half s m)
commit_before printed None s m = refl
commit_before printed (Some half) s m = by_test (eqb m.position half.begin.position)
  where
    gained_now : List Published
    gained_now = cond (nat_le s.position half.begin.position) (transaction_of half m ∷ []) []

    by_end : (b : Bool) → cond b (Ok (after_transaction (before printed s) half m)) (Err faults.CommitEnd) ≡ after printed (cond b (Ok (after_transaction s half m)) (Err faults.CommitEnd))
    by_end true = ap (λ (l : List Published). Ok (record s { half = None; position = max s.position m.end; applied = l })) (append_assoc printed s.applied gained_now)
    by_end false = refl

    by_test : (b : Bool) → cond b (after_end (before printed s) half m) (Err faults.Order) ≡ after printed (cond b (after_end s half m) (Err faults.Order))
    by_test true = by_end (nat_lt half.begin.position m.end)
    by_test false = refl

note_before : (printed : List Published) (half : Option HalfTransaction) (s : Subscriber) (end : ℕ) (m : Message) → after_note half (before printed s) end m ≡ after printed (after_note half s end m)
note_before printed None s end m =
    ap (λ (l : List Published). Ok (record s { position = max s.position end; applied = l })) (append_assoc printed s.applied (cond (nat_le s.position m.position) (note_of end m ∷ []) []))
note_before printed (Some half) s end m = refl

heard_before : (printed : List Published) (is_transactional : Bool) (s : Subscriber) (start end : ℕ) (m : Message) → after_logical_message is_transactional (before printed s) start end m ≡ after printed (after_logical_message is_transactional s start end m)
heard_before printed true s start end m = change_before printed s.half s start (logical.Message m)
heard_before printed false s start end m = note_before printed s.half s end m

message_before : (printed : List Published) (s : Subscriber) (position end : ℕ) (m : Logical) → after_message (before printed s) position end m ≡ after printed (after_message s position end m)
message_before printed s position end (logical.Begin m) = begin_before printed s.half s m
message_before printed s position end (logical.Relation m) = relation_before printed s.half s m
message_before printed s position end (logical.Commit m) = commit_before printed s.half s m
message_before printed s position end (logical.Insert m) = change_before printed s.half s position (logical.Insert m)
message_before printed s position end (logical.Update m) = change_before printed s.half s position (logical.Update m)
message_before printed s position end (logical.Delete m) = change_before printed s.half s position (logical.Delete m)
message_before printed s position end (logical.Truncate m) = change_before printed s.half s position (logical.Truncate m)
message_before printed s position end (logical.Message m) = heard_before printed m.is_transactional s position end m

word_before : (printed : List Published) (s : Subscriber) (w : CopyBothMessage) → after_word (before printed s) w ≡ after printed (after_word s w)
word_before printed s (words.Keepalive k) = ap (λ (t : Subscriber). Ok t) (keepalive_before printed s.half s k)
word_before printed s (words.XLogData x) = message_before printed s x.start x.end x.message

-- ---- By words.

rest_before : (printed : List Published) (r : Result Subscriber ClientFault) (ws : List CopyBothMessage)
    → ((t : Subscriber) → after_words (before printed t) ws ≡ after printed (after_words t ws))
    → (after printed r >>= λ t. after_words t ws) ≡ after printed (r >>= λ t. after_words t ws)
rest_before printed (Ok t) ws same = same t
rest_before printed (Err e) ws same = refl

words_before : (printed : List Published) (s : Subscriber) (ws : List CopyBothMessage) → after_words (before printed s) ws ≡ after printed (after_words s ws)
words_before printed s [] = refl
words_before printed s (w ∷ ws) =
    ap (λ (r : Result Subscriber ClientFault). r >>= λ t. after_words t ws) (word_before printed s w) ∙ rest_before printed (after_word s w) ws (λ t. words_before printed t ws)

reached_before : (printed : List Published) (s : Subscriber) (bytes : List ℕ) (t : Subscriber) (rest : List ℕ) → Reached s bytes t rest → Reached (before printed s) bytes (before printed t) rest
reached_before printed s bytes t rest r = record {
  words = r.words;
  text = r.text;
  spells = r.spells;
  is = r.is;
  steps = words_before printed s r.words ∙ ap (after printed) r.steps;
}

stops_before : (printed : List Published) (e : ClientFault) (s : Subscriber) (rest : List ℕ) → Stops e s rest → Stops e (before printed s) rest
stops_before printed faults.Order s rest h = (h.0, h.1, h.2, h.3, h.4, word_before printed s h.0 ∙ ap (after printed) h.5)
stops_before printed faults.UnknownRelation s rest h = (h.0, h.1, h.2, h.3, h.4, word_before printed s h.0 ∙ ap (after printed) h.5)
stops_before printed faults.CommitEnd s rest h = (h.0, h.1, h.2, h.3, h.4, word_before printed s h.0 ∙ ap (after printed) h.5)
stops_before printed faults.Frame s rest h = h
stops_before printed faults.Server s rest h = h
stops_before printed faults.Memory s rest h = h

-- ---- By a call.

pub takes_before : (printed : List Published) (old new : ApplierState) (bytes : List ℕ) (result : Result (Unit {0}) ClientFault) → Takes old new bytes result
    → Takes (with_printed printed old) (with_printed printed new) bytes result
takes_before printed old new bytes result takes = by_fault old.fault result takes
  where
    by_fault : (fault : Option ClientFault) (result : Result (Unit {0}) ClientFault) → TakesFrom fault old new bytes result → TakesFrom fault (with_printed printed old) (with_printed printed new) bytes result
    by_fault (Some fault) result takes = (takes.0, ap (with_printed printed) takes.1)
    by_fault None (Ok u) takes = record {
      reached = reached_before printed old.subscriber (old.unread ++ bytes) new.subscriber new.unread takes.reached;
      waits = takes.waits;
      sound = takes.sound;
    }
    by_fault None (Err e) takes = record {
      stops = record {
        rest = takes.stops.rest;
        reached = reached_before printed old.subscriber (old.unread ++ bytes) new.subscriber takes.stops.rest takes.stops.reached;
        stops = stops_before printed e new.subscriber takes.stops.rest takes.stops.stops;
      };
      fails = takes.fails;
    }

follows_takes : (old new : ApplierState) (bytes : List ℕ) (result : Result (Unit {0}) ClientFault) → Takes old new bytes result → Follows old new bytes result
follows_takes old new bytes result takes = by_fault old.fault refl result takes
  where
    by_fault : (fault : Option ClientFault) → old.fault ≡ fault → (result : Result (Unit {0}) ClientFault) → TakesFrom fault old new bytes result → Follows old new bytes result
    by_fault (Some fault) is result takes = λ relation base text more items rests had fit forward e. let sound : old.fault ≡ None = had.sound in absurd cc
    by_fault None is (Ok u) takes = follows_ok old new bytes takes.reached takes.waits takes.sound
    by_fault None is (Err e) takes = follows_err old new bytes e takes.stops

-- The law of an applier holds of it with all that was printed before.
pub follows_printed : (printed : List Published) (old new : ApplierState) (bytes : List ℕ) (result : Result (Unit {0}) ClientFault) → Takes old new bytes result
    → Follows (with_printed printed old) (with_printed printed new) bytes result
follows_printed printed old new bytes result takes = follows_takes (with_printed printed old) (with_printed printed new) bytes result (takes_before printed old new bytes result takes)
