-- A subscriber's position never goes back, whatever it takes.
use Rattle.std.proofs.Common.{◌≡◌, ◌≤◌, ℕ, max, Bool, true, false, cond, eqb, List, [], ◌∷◌, ◌++◌, Option, Some, None, Result, Ok, Err, refl, ap, subst, arith}
use Rattle.std.specs.Prelude.{nat_le, nat_lt}
use Rattle.pqformat.specs.Steps.{◌>>=◌}
use Rattle.pqformat.proofs.Codec.{ok_is}
use Rattle.pgoutput.specs.declared.messages.begin.Begin.{Begin}
use Rattle.pgoutput.specs.declared.messages.commit.Commit.{Commit}
use Rattle.pgoutput.specs.declared.messages.relation.Relation.{Relation}
use Rattle.pgoutput.specs.declared.messages.message.Message.{Message}
use Rattle.pgoutput.specs.declared.logical.Logical.{Logical}
use Rattle.pgoutput.specs.declared.logical.Logical.TheVariants as logical
use Rattle.pgoutput.specs.declared.copy_both_message.CopyBothMessage.{CopyBothMessage}
use Rattle.pgoutput.specs.declared.copy_both_message.CopyBothMessage.TheVariants as words
use Rattle.pgoutput.specs.declared.copy_both_message.Keepalive.{Keepalive}
use Rattle.client.specs.declared.fault.ClientFault.{ClientFault}
use Rattle.client.specs.declared.fault.ClientFault.TheVariants.{CommitEnd, Order}
use Rattle.client.specs.Subscriber.{HalfTransaction, Subscriber, after_begin, after_change, after_commit, after_end, after_keepalive, after_logical_message, after_message, after_note, after_relation, after_transaction, after_word, after_words, judgement_of_change, note_of, tables_with_relation, with_change}
use Rattle.client.specs.Taking.{ApplierState, Reached, Takes, TakesFrom}
use Rattle.client.specs.Law.{Follows}
use Rattle.client.proofs.Laws.{follows_err, follows_ok}

-- where it made another of it, that one
abbrev went : Subscriber → Result Subscriber ClientFault
went s = Ok s

higher : (s made t : Subscriber) → s.position ≤ made.position → went made ≡ went t → s.position ≤ t.position
higher s made t le is = let same = ok_is ClientFault made t is in omega (arith, le, ap (λ (x : Subscriber). x.position) same)

kept_alive_on : (half : Option HalfTransaction) (s t : Subscriber) (k : Keepalive) → went (after_keepalive half s k) ≡ went t → s.position ≤ t.position
kept_alive_on None s t k is = higher s (record s { position = max s.position k.position }) t (omega arith) is
kept_alive_on (Some half) s t k is = higher s s t (omega arith) is

begun_on : (half : Option HalfTransaction) (s t : Subscriber) (m : Begin) → after_begin half s m ≡ Ok t → s.position ≤ t.position
begun_on None s t m is = higher s (record s { half = Some (record { begin = m; changes = [] }) }) t (omega arith) is
begun_on (Some half) s t m is = absurd cc

told_on : (half : Option HalfTransaction) (s t : Subscriber) (m : Relation) → after_relation half s m ≡ Ok t → s.position ≤ t.position
told_on None s t m is = absurd cc
told_on (Some half) s t m is = higher s (record s { tables = tables_with_relation s.tables m }) t (omega arith) is

committed_on : (half : Option HalfTransaction) (s t : Subscriber) (m : Commit) → after_commit half s m ≡ Ok t → s.position ≤ t.position
committed_on None s t m is = absurd cc
committed_on (Some half) s t m is = by_test (eqb m.position half.begin.position) is
  where
    by_end : (b : Bool) → cond b (Ok (after_transaction s half m)) (Err CommitEnd) ≡ Ok t → s.position ≤ t.position
    by_end true e = higher s (after_transaction s half m) t (omega arith) e
    by_end false e = absurd cc

    by_test : (b : Bool) → cond b (after_end s half m) (Err Order) ≡ Ok t → s.position ≤ t.position
    by_test true e = by_end (nat_lt half.begin.position m.end) e
    by_test false e = absurd cc

changed_on : (half : Option HalfTransaction) (s t : Subscriber) (position : ℕ) (m : Logical) → after_change half s position m ≡ Ok t → s.position ≤ t.position
changed_on None s t position m is = absurd cc
changed_on (Some half) s t position m is = by_judged (judgement_of_change s.tables m) is
  where
    by_judged : (r : Result (Unit {0}) ClientFault) → (r >>= λ _. Ok (record s { half = Some (with_change half position m) })) ≡ Ok t → s.position ≤ t.position
    by_judged (Ok u) e = higher s (record s { half = Some (with_change half position m) }) t (omega arith) e
    by_judged (Err fault) e = absurd cc

noted_on : (half : Option HalfTransaction) (s t : Subscriber) (end : ℕ) (m : Message) → after_note half s end m ≡ Ok t → s.position ≤ t.position
noted_on None s t end m is = higher s (record s { position = max s.position end; applied = s.applied ++ cond (nat_le s.position m.position) (note_of end m ∷ []) [] }) t (omega arith) is
noted_on (Some half) s t end m is = absurd cc

heard_on : (is_transactional : Bool) (s t : Subscriber) (start end : ℕ) (m : Message) → after_logical_message is_transactional s start end m ≡ Ok t → s.position ≤ t.position
heard_on true s t start end m is = changed_on s.half s t start (logical.Message m) is
heard_on false s t start end m is = noted_on s.half s t end m is

message_on : (s t : Subscriber) (start end : ℕ) (m : Logical) → after_message s start end m ≡ Ok t → s.position ≤ t.position
message_on s t start end (logical.Begin m) is = begun_on s.half s t m is
message_on s t start end (logical.Relation m) is = told_on s.half s t m is
message_on s t start end (logical.Commit m) is = committed_on s.half s t m is
message_on s t start end (logical.Message m) is = heard_on m.is_transactional s t start end m is
message_on s t start end (logical.Insert m) is = changed_on s.half s t start (logical.Insert m) is
message_on s t start end (logical.Update m) is = changed_on s.half s t start (logical.Update m) is
message_on s t start end (logical.Delete m) is = changed_on s.half s t start (logical.Delete m) is
message_on s t start end (logical.Truncate m) is = changed_on s.half s t start (logical.Truncate m) is

word_on : (s t : Subscriber) (w : CopyBothMessage) → after_word s w ≡ Ok t → s.position ≤ t.position
word_on s t (words.Keepalive k) is = kept_alive_on s.half s t k is
word_on s t (words.XLogData x) is = message_on s t x.start x.end x.message is

words_on : (s t : Subscriber) (ws : List CopyBothMessage) → after_words s ws ≡ Ok t → s.position ≤ t.position
words_on s t [] is = higher s s t (omega arith) is
words_on s t (w ∷ ws) is = by_word (after_word s w) refl is (λ u later. words_on u t ws later)
  where
    by_word : (r : Result Subscriber ClientFault) → after_word s w ≡ r → (r >>= λ u. after_words u ws) ≡ Ok t → ((u : Subscriber) → after_words u ws ≡ Ok t → u.position ≤ t.position) → s.position ≤ t.position
    by_word (Ok u) first later rest = omega (arith, word_on s u w first, rest u later)
    by_word (Err e) first later rest = absurd cc

pub reached_raises : (old new : Subscriber) (bytes rest : List ℕ) → Reached old bytes new rest → old.position ≤ new.position
reached_raises old new bytes rest reached = words_on old new reached.words reached.steps

-- ---- What a call makes of an applier.

pub takes_raises : (old new : ApplierState) (bytes : List ℕ) (result : Result (Unit {0}) ClientFault) → Takes old new bytes result → old.subscriber.position ≤ new.subscriber.position
takes_raises old new bytes result takes = by_fault old.fault result takes
  where
    by_fault : (fault : Option ClientFault) (result : Result (Unit {0}) ClientFault) → TakesFrom fault old new bytes result → old.subscriber.position ≤ new.subscriber.position
    by_fault (Some fault) result takes = omega (arith, ap (λ (a : ApplierState). a.subscriber.position) takes.1)
    by_fault None (Ok u) takes = reached_raises old.subscriber new.subscriber (old.unread ++ bytes) new.unread takes.reached
    by_fault None (Err e) takes = reached_raises old.subscriber new.subscriber (old.unread ++ bytes) takes.stops.rest takes.stops.reached

-- over a stream it follows
pub takes_follows : (old new : ApplierState) (bytes : List ℕ) (result : Result (Unit {0}) ClientFault) → old.fault ≡ None → Takes old new bytes result → Follows old new bytes result
takes_follows old new bytes result sound takes = by_result result (let P : Option ClientFault → Type 0 = λ f. TakesFrom f old new bytes result in subst P sound takes)
  where
    by_result : (result : Result (Unit {0}) ClientFault) → TakesFrom None old new bytes result → Follows old new bytes result
    by_result (Ok u) takes = follows_ok old new bytes takes.reached takes.waits takes.sound
    by_result (Err e) takes = follows_err old new bytes e takes.stops
