-- What a subscriber gains by the bytes that it takes, each transaction once.
use Rattle.std.proofs.Common.{◌≡◌, ℕ, ◌≤◌, Bool, true, false, cond, eqb, List, [], ◌∷◌, ◌++◌, Option, Some, None, Result, Ok, Err, refl, sym, ap, subst, ◌∙◌, append_assoc, arith}
use Rattle.std.specs.Prelude.{◌<◌, max, nat_le, nat_lt}
use Rattle.std.proofs.lemmas.Bool.{leb-true}
use Rattle.std.proofs.lemmas.Bool.Decides.{nat_tests}
use Rattle.std.proofs.lemmas.List.{append-nil}
use Rattle.pqformat.specs.Steps.{◌>>=◌}
use Rattle.pqformat.proofs.Codec.{ok_is}
use Rattle.pgoutput.specs.declared.messages.begin.Begin.{Begin}
use Rattle.pgoutput.specs.declared.messages.commit.Commit.{Commit}
use Rattle.pgoutput.specs.declared.messages.message.Message.{Message}
use Rattle.pgoutput.specs.declared.messages.relation.Relation.{Relation}
use Rattle.pgoutput.specs.declared.logical.Logical.{Logical}
use Rattle.pgoutput.specs.declared.logical.Logical.TheVariants as logical
use Rattle.pgoutput.specs.declared.copy_both_message.CopyBothMessage.{CopyBothMessage}
use Rattle.pgoutput.specs.declared.copy_both_message.CopyBothMessage.TheVariants as words
use Rattle.pgoutput.specs.declared.copy_both_message.Keepalive.{Keepalive}
use Rattle.pgoutput.specs.declared.published.Published.{Published}
use Rattle.client.specs.declared.fault.ClientFault.{ClientFault}
use Rattle.client.specs.declared.fault.ClientFault.TheVariants as faults
use Rattle.client.specs.Subscriber.{Subscriber, HalfTransaction, judgement_of_change, after_begin, tables_with_relation, after_relation, after_change, after_commit, after_end, after_transaction, after_keepalive, with_change, note_of, after_note, after_logical_message, transaction_of, after_message, after_word, after_words}
use Rattle.client.specs.Taking.{ApplierState, Reached, Takes, TakesFrom}
use Rattle.follower.specs.Once.{EachOnce, Gains}

-- ---- One stretch after the other.

once_from : (from mid to : ℕ) (ts : List Published) → from ≤ mid → EachOnce mid ts to → EachOnce from ts to
once_from from mid to [] le once = omega (arith, le, once)
once_from from mid to (t ∷ ts) le once = (omega (arith, le, once.0), once.1, once_from (max from t.end) (max mid t.end) to ts (omega (arith, le)) once.2)

once_then : (from mid to : ℕ) (ts us : List Published) → EachOnce from ts mid → EachOnce mid us to → EachOnce from (ts ++ us) to
once_then from mid to [] us first then = once_from from mid to us first then
once_then from mid to (t ∷ ts) us first then = (first.0, first.1, once_then (max from t.end) mid to ts us first.2 then)

pub gains_none : (s t : Subscriber) → t.applied ≡ s.applied → s.position ≤ t.position → Gains s t
gains_none s t same more = record { fresh = []; applied = same ∙ sym (append-nil s.applied); once = more }

pub gains_nothing : (s : Subscriber) → Gains s s
gains_nothing s = gains_none s s refl (omega arith)

pub gains_then : (s t u : Subscriber) → Gains s t → Gains t u → Gains s u
gains_then s t u first then = record {
  fresh = first.fresh ++ then.fresh;
  applied = then.applied ∙ ap (λ (l : List Published). l ++ then.fresh) first.applied ∙ append_assoc s.applied first.fresh then.fresh;
  once = once_then s.position t.position u.position first.fresh then.fresh first.once then.once;
}

-- ---- By a word.

abbrev done : Subscriber → Result Subscriber ClientFault
done s = Ok s

-- the steps that change nothing of what was applied
gains_same : (s u t : Subscriber) → done u ≡ done t → u.applied ≡ s.applied → s.position ≤ u.position → Gains s t
gains_same s u t is same more = subst (λ (v : Subscriber). Gains s v) (ok_is ClientFault u t is) (gains_none s u same more)

gains_keepalive : (half : Option HalfTransaction) (s : Subscriber) (k : Keepalive) → Gains s (after_keepalive half s k)
gains_keepalive None s k = gains_none s (after_keepalive None s k) refl (omega arith)
gains_keepalive (Some half) s k = gains_nothing s

gains_begin : (half : Option HalfTransaction) (s t : Subscriber) (m : Begin) → after_begin half s m ≡ Ok t → Gains s t
gains_begin None s t m is = gains_same s (record s { half = Some (record { begin = m; changes = [] }) }) t is refl (omega arith)
gains_begin (Some half) s t m is = absurd cc

gains_relation : (half : Option HalfTransaction) (s t : Subscriber) (m : Relation) → after_relation half s m ≡ Ok t → Gains s t
gains_relation None s t m is = absurd cc
gains_relation (Some half) s t m is = gains_same s (record s { tables = tables_with_relation s.tables m }) t is refl (omega arith)

gains_change : (half : Option HalfTransaction) (s t : Subscriber) (position : ℕ) (m : Logical) → after_change half s position m ≡ Ok t → Gains s t
gains_change None s t position m is = absurd cc
gains_change (Some half) s t position m is = by_judging (judgement_of_change s.tables m) is
  where
    with : Subscriber
    with = record s { half = Some (with_change half position m) }

    by_judging : (r : Result (Unit {0}) ClientFault) → (r >>= λ _. Ok with) ≡ Ok t → Gains s t
    by_judging (Ok u) is = gains_same s with t is refl (omega arith)
    by_judging (Err e) is = absurd cc

gains_finished : (s : Subscriber) (half : HalfTransaction) (m : Commit) → half.begin.position < m.end → Gains s (after_transaction s half m)
gains_finished s half m forward = by_test (nat_le s.position half.begin.position) refl
  where
    one : List Published
    one = transaction_of half m ∷ []

    by_test : (b : Bool) → nat_le s.position half.begin.position ≡ b → Gains s (record s { half = None; position = max s.position m.end; applied = s.applied ++ cond b one [] })
    by_test true is = record { fresh = one; applied = refl; once = (leb-true s.position half.begin.position is, λ _. forward, omega arith) }
    by_test false is = record { fresh = []; applied = refl; once = omega arith }

gains_commit : (half : Option HalfTransaction) (s t : Subscriber) (m : Commit) → after_commit half s m ≡ Ok t → Gains s t
gains_commit None s t m is = absurd cc
gains_commit (Some half) s t m is = by_test (eqb m.position half.begin.position) is
  where
    by_end : (b : Bool) → nat_lt half.begin.position m.end ≡ b → cond b (Ok (after_transaction s half m)) (Err faults.CommitEnd) ≡ Ok t → Gains s t
    by_end true forward is = subst (λ (v : Subscriber). Gains s v) (ok_is ClientFault (after_transaction s half m) t is) (gains_finished s half m (grind (arith, nat_tests, forward)))
    by_end false forward is = absurd cc

    by_test : (b : Bool) → cond b (after_end s half m) (Err faults.Order) ≡ Ok t → Gains s t
    by_test true is = by_end (nat_lt half.begin.position m.end) refl is
    by_test false is = absurd cc

gains_note : (half : Option HalfTransaction) (s t : Subscriber) (end : ℕ) (m : Message) → after_note half s end m ≡ Ok t → Gains s t
gains_note None s t end m is = subst (λ (v : Subscriber). Gains s v) (ok_is ClientFault (with (nat_le s.position m.position)) t is) (by_test (nat_le s.position m.position) refl)
  where
    one : List Published
    one = note_of end m ∷ []

    with : Bool → Subscriber
    with b = record s { position = max s.position end; applied = s.applied ++ cond b one [] }

    by_test : (b : Bool) → nat_le s.position m.position ≡ b → Gains s (with b)
    by_test true is = record { fresh = one; applied = refl; once = (leb-true s.position m.position is, λ kind. (let never : true ≡ false = kind in absurd cc), omega arith) }
    by_test false is = record { fresh = []; applied = refl; once = omega arith }
gains_note (Some half) s t end m is = absurd cc

gains_heard : (is_transactional : Bool) (s t : Subscriber) (start end : ℕ) (m : Message) → after_logical_message is_transactional s start end m ≡ Ok t → Gains s t
gains_heard true s t start end m is = gains_change s.half s t start (logical.Message m) is
gains_heard false s t start end m is = gains_note s.half s t end m is

gains_message : (s t : Subscriber) (position end : ℕ) (m : Logical) → after_message s position end m ≡ Ok t → Gains s t
gains_message s t position end (logical.Begin m) is = gains_begin s.half s t m is
gains_message s t position end (logical.Relation m) is = gains_relation s.half s t m is
gains_message s t position end (logical.Commit m) is = gains_commit s.half s t m is
gains_message s t position end (logical.Insert m) is = gains_change s.half s t position (logical.Insert m) is
gains_message s t position end (logical.Update m) is = gains_change s.half s t position (logical.Update m) is
gains_message s t position end (logical.Delete m) is = gains_change s.half s t position (logical.Delete m) is
gains_message s t position end (logical.Truncate m) is = gains_change s.half s t position (logical.Truncate m) is
gains_message s t position end (logical.Message m) is = gains_heard m.is_transactional s t position end m is

gains_word : (s t : Subscriber) (w : CopyBothMessage) → after_word s w ≡ Ok t → Gains s t
gains_word s t (words.Keepalive k) is = subst (λ (v : Subscriber). Gains s v) (ok_is ClientFault (after_keepalive s.half s k) t is) (gains_keepalive s.half s k)
gains_word s t (words.XLogData x) is = gains_message s t x.start x.end x.message is

-- ---- By words, and by bytes.

went : {A B : Type 0} (r : Result A ClientFault) (f : A → Result B ClientFault) (y : B) → (r >>= f) ≡ Ok y → (x : A) × (r ≡ Ok x) × (f x ≡ Ok y)
went (Ok x) f y is = (x, refl, is)
went (Err e) f y is = absurd cc

gains_words : (s t : Subscriber) (ws : List CopyBothMessage) → after_words s ws ≡ Ok t → Gains s t
gains_words s t [] is = gains_same s s t is refl (omega arith)
gains_words s t (w ∷ ws) is =
    let first = went (after_word s w) (λ u. after_words u ws) t is in
    gains_then s first.0 t (gains_word s first.0 w first.1) (gains_words first.0 t ws first.2)

gains_reached : (s : Subscriber) (bytes : List ℕ) (t : Subscriber) (rest : List ℕ) → Reached s bytes t rest → Gains s t
gains_reached s bytes t rest r = gains_words s t r.words r.steps

-- whatever bytes a call takes
pub gains_taken : (old new : ApplierState) (bytes : List ℕ) (result : Result (Unit {0}) ClientFault) → Takes old new bytes result → Gains old.subscriber new.subscriber
gains_taken old new bytes result takes = by_fault old.fault result takes
  where
    by_fault : (fault : Option ClientFault) (result : Result (Unit {0}) ClientFault) → TakesFrom fault old new bytes result → Gains old.subscriber new.subscriber
    by_fault (Some fault) result takes = subst (λ (a : ApplierState). Gains old.subscriber a.subscriber) (sym takes.1) (gains_nothing old.subscriber)
    by_fault None (Ok u) takes = gains_reached old.subscriber (old.unread ++ bytes) new.subscriber new.unread takes.reached
    by_fault None (Err e) takes = gains_reached old.subscriber (old.unread ++ bytes) new.subscriber takes.stops.rest takes.stops.reached
