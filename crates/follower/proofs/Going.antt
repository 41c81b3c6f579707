-- One deed after the other.
use Rattle.std.specs.Prelude.{OnOk, OnErr}
use Rattle.std.proofs.Common.{◌≡◌, ◌⊎◌, inl, inr, ℕ, ℤ, Bool, List, [], ◌∷◌, ◌++◌, Option, Result, Ok, Err, refl, sym, ap, subst, ◌∙◌, take}
use Rattle.std.specs.List.{AllByRecursion}
use Rattle.std.specs.Io.KnownBytes.{Appends, Keeps}
use Rattle.frames.specs.Frame.{frame}
use Rattle.frames.specs.declared.copy_done.TheConstants.{COPY_DONE}
use Rattle.client.specs.declared.fault.ClientFault.{ClientFault}
use Rattle.client.specs.Taking.{ApplierState, Takes}
use Rattle.follower.specs.Once.{applier_without_applied}
use Rattle.follower.specs.declared.receiving.delivery.Delivery.{Delivery}
use Rattle.follower.specs.Standing.{Standing, Deed, Waits, Receives, Prints, Sums, Breaks, Tells, Ends, Does, Runs, IsOfAStream, Goes, GoesOver, HandsOver, FailsToHand, connected, standing, status_at}

runs_then : (a : Standing) (ds es : List Deed) (b c : Standing) → Runs a ds b → Runs b es c → Runs a (ds ++ es) c
runs_then a [] es b c p q = subst (λ (s : Standing). Runs s es c) p q
runs_then a (d ∷ ds) es b c p q = (p.0, p.1, runs_then p.0 ds es b c p.2 q)

all_then : (ds es : List Deed) → AllByRecursion IsOfAStream ds → AllByRecursion IsOfAStream es → AllByRecursion IsOfAStream (ds ++ es)
all_then [] es p q = q
all_then (d ∷ ds) es p q = (p.0, all_then ds es p.1 q)

pub goes_then : (a b c : Standing) → Goes a b → Goes b c → Goes a c
goes_then a b c p q = record { deeds = p.deeds ++ q.deeds; runs = runs_then a p.deeds q.deeds b c p.runs q.runs; stream = all_then p.deeds q.deeds p.stream q.stream }

pub goes_nowhere : (a : Standing) → Goes a a
goes_nowhere a = record { deeds = []; runs = refl; stream = tt }

pub goes_by : (a b : Standing) (deed : Deed) → Does deed a b → IsOfAStream deed → Goes a b
goes_by a b deed does is = record { deeds = deed ∷ []; runs = (b, does, refl); stream = (is, tt) }

-- ---- Printing.

abbrev stands : List ℕ → Option (List ℕ) → Option (List ℕ) → Option (List ℕ) → ApplierState → Bool → Standing
stands unread written kept sent a is_broken = record { applier = a; unread = unread; written = written; kept = kept; sent = sent; is_broken = is_broken }

-- one whose receiver and output are the same stands where the other does
same_place : (unread : List ℕ) (written kept sent : Option (List ℕ)) (old new : Delivery) → new.receiver ≡ old.receiver → new.is_broken ≡ old.is_broken → standing new unread written kept sent ≡ standing old unread written kept sent
same_place unread written kept sent old new same still =
    ap (λ (a : ApplierState). stands unread written kept sent a new.is_broken) (ap (λ i. i.applier) same) ∙ ap (stands unread written kept sent old.receiver.applier) still

pub goes_same : (unread : List ℕ) (written kept sent : Option (List ℕ)) (old new : Delivery) → new.receiver ≡ old.receiver → new.is_broken ≡ old.is_broken → Goes (standing old unread written kept sent) (standing new unread written kept sent)
goes_same unread written kept sent old new same still =
    subst (λ (s : Standing). Goes (standing old unread written kept sent) s) (sym (same_place unread written kept sent old new same still)) (goes_nowhere (standing old unread written kept sent))

-- lines were handed over, and what waited is taken for printed
pub printing : (lines unread : List ℕ) (old ready handed : Delivery) (a : ApplierState) (before after before_kept kept sent : Option (List ℕ)) → ready.receiver ≡ old.receiver → ready.is_broken ≡ old.is_broken → handed.receiver ≡ ready.receiver
    → a ≡ applier_without_applied handed.receiver.applier → HandsOver lines ready.is_broken handed.is_broken before after kept
    → Goes (standing old unread before before_kept sent) (stands unread after kept sent a handed.is_broken)
printing lines unread old ready handed a before after before_kept kept sent same still handing without hands =
    goes_by (standing old unread before before_kept sent) (stands unread after kept sent a handed.is_broken) (Prints lines)
    (record {
      sound = sym still ∙ hands.sound;
      applier = without ∙ ap (λ i. applier_without_applied i.applier) (handing ∙ same);
      unread = refl;
      written = hands.written;
      kept = hands.kept;
      sent = refl;
      still = hands.still;
    }) tt

-- they were not, and nothing is taken for printed
pub failing : {V : Type 0} → (contents keeping : V → Option (List ℕ)) (lines unread : List ℕ) (old ready handed : Delivery) (before after : V) (sent : Option (List ℕ))
    → ready.receiver ≡ old.receiver → ready.is_broken ≡ old.is_broken → handed.receiver ≡ ready.receiver
    → ((handed ≡ ready) × (after ≡ before)) ⊎ FailsToHand lines ready.is_broken handed.is_broken (contents before) (contents after)
    → Goes (standing old unread (contents before) (keeping before) sent) (standing handed unread (contents after) (keeping after) sent)
failing {V} contents keeping lines unread old ready handed before after sent same still handing (inl nothing) =
    let here = goes_same unread (contents before) (keeping before) sent old handed (handing ∙ same) (ap (λ (d : Delivery). d.is_broken) nothing.0 ∙ still) in
    subst (λ (v : V). Goes (standing old unread (contents before) (keeping before) sent) (standing handed unread (contents v) (keeping v) sent)) (sym nothing.1) here
failing {V} contents keeping lines unread old ready handed before after sent same still handing (inr fails) =
    goes_by (standing old unread (contents before) (keeping before) sent) (standing handed unread (contents after) (keeping after) sent) (Breaks lines)
    (record {
      sound = sym still ∙ fails.sound;
      applier = ap (λ i. i.applier) (handing ∙ same);
      unread = refl;
      count = fails.count;
      written = fails.written;
      sent = refl;
      breaks = fails.breaks;
    }) tt

-- the last lines, where nothing waits
summed : (lines unread : List ℕ) (old handed : Delivery) (before after before_kept kept sent : Option (List ℕ)) → old.receiver.applier.subscriber.applied ≡ [] → handed.receiver ≡ old.receiver
    → HandsOver lines old.is_broken handed.is_broken before after kept → Goes (standing old unread before before_kept sent) (standing handed unread after kept sent)
summed lines unread old handed before after before_kept kept sent none same hands =
    goes_by (standing old unread before before_kept sent) (standing handed unread after kept sent) (Sums lines) (
      none,
      record {
        sound = hands.sound;
        applier = ap (λ i. i.applier) same ∙ ap (λ l. record old.receiver.applier { subscriber = record old.receiver.applier.subscriber { applied = l } }) none;
        unread = refl;
        written = hands.written;
        kept = hands.kept;
        sent = refl;
        still = hands.still;
      },
    ) tt

pub summing : {V T E : Type 0} → (contents keeping : V → Option (List ℕ)) (lines unread : List ℕ) (old handed : Delivery) (before after : V) (sent : Option (List ℕ)) (result : Result T E)
    → old.receiver.applier.subscriber.applied ≡ [] → handed.receiver ≡ old.receiver
    → OnOk result (HandsOver lines old.is_broken handed.is_broken (contents before) (contents after) (keeping after))
    → OnErr result (((handed ≡ old) × (after ≡ before)) ⊎ FailsToHand lines old.is_broken handed.is_broken (contents before) (contents after))
    → Goes (standing old unread (contents before) (keeping before) sent) (standing handed unread (contents after) (keeping after) sent)
summing contents keeping lines unread old handed before after sent (Ok u) none same ok err = summed lines unread old handed (contents before) (contents after) (keeping before) (keeping after) sent none same ok
summing contents keeping lines unread old handed before after sent (Err e) none same ok err = failing contents keeping lines unread old old handed before after sent refl refl same err

-- ---- Sending.

pub telling : (clock : ℤ) (ask : Bool) (unread : List ℕ) (d : Delivery) (written kept before after : Option (List ℕ)) → d.receiver.applier.subscriber.applied ≡ [] → kept ≡ written
    → ((count : ℕ) × Appends before after (take count (status_at d.receiver.applier.subscriber.position clock ask)))
    → Goes (standing d unread written kept before) (standing d unread written kept after)
telling clock ask unread d written kept before after none safe part =
    goes_by (standing d unread written kept before) (standing d unread written kept after) (Tells clock ask part.0) (record { printed = none; kept = safe; sent = part.1; same = refl }) tt

pub ending : (bytes unread : List ℕ) (d : Delivery) (written kept before after : Option (List ℕ)) → d.receiver.applier.subscriber.applied ≡ [] → kept ≡ written → bytes ≡ frame COPY_DONE []
    → ((count : ℕ) × Appends before after (take count bytes))
    → Goes (standing d unread written kept before) (standing d unread written kept after)
ending bytes unread d written kept before after none safe is part =
    goes_by (standing d unread written kept before) (standing d unread written kept after) (Ends part.0)
    (record { printed = none; kept = safe; sent = subst (λ (l : List ℕ). Appends before after (take part.0 l)) is part.1; same = refl }) tt

-- ---- Taking.

pub receiving : (bytes rest : List ℕ) (old : Delivery) (a : ApplierState) (written kept sent : Option (List ℕ)) (result : Result (Unit {0}) ClientFault) → Takes old.receiver.applier a bytes result
    → Goes (standing old (bytes ++ rest) written kept sent) (stands rest written kept sent a old.is_broken)
receiving bytes rest old a written kept sent result takes =
    goes_by (standing old (bytes ++ rest) written kept sent) (stands rest written kept sent a old.is_broken) (Receives bytes result) (takes, refl, refl) tt

pub waiting : (unread more now : List ℕ) (d : Delivery) (written kept before after : Option (List ℕ)) → now ≡ unread ++ more → Keeps before after
    → Goes (standing d unread written kept before) (standing d now written kept after)
waiting unread more now d written kept before after is keeps =
    goes_by (standing d unread written kept before) (standing d now written kept after) Waits
    (more, keeps, ap (λ (l : List ℕ). stands l written kept after d.receiver.applier d.is_broken) is) tt

-- ---- Over a connection.

pub begun_over : (unread now left : List ℕ) (old begun new : Delivery) (before asked after before_kept asked_kept after_kept before_sent asked_sent after_sent : Option (List ℕ)) → Keeps before asked → begun ≡ connected old
    → Goes (standing begun now asked asked_kept asked_sent) (standing new left after after_kept after_sent)
    → GoesOver (standing old unread before before_kept before_sent) (standing new left after after_kept after_sent)
begun_over unread now left old begun new before asked after before_kept asked_kept after_kept before_sent asked_sent after_sent keeps is goes = record {
  asked = standing old now asked asked_kept asked_sent;
  asks = (keeps, refl);
  goes = inr (standing begun now asked asked_kept asked_sent, ap (λ (d : Delivery). standing d now asked asked_kept asked_sent) is, goes);
}

pub refused_over : (unread : List ℕ) (old new : Delivery) (before after before_kept after_kept before_sent after_sent : Option (List ℕ)) → Keeps before after → (new ≡ old) ⊎ (new ≡ connected old)
    → GoesOver (standing old unread before before_kept before_sent) (standing new [] after after_kept after_sent)
refused_over unread old new before after before_kept after_kept before_sent after_sent keeps (inl same) = record {
  asked = standing old [] after after_kept after_sent;
  asks = (keeps, refl);
  goes = inl (ap (λ (d : Delivery). standing d [] after after_kept after_sent) same);
}
refused_over unread old new before after before_kept after_kept before_sent after_sent keeps (inr is) =
    begun_over unread [] [] old new new before after after before_kept after_kept after_kept before_sent after_sent after_sent keeps is (goes_nowhere (standing new [] after after_kept after_sent))
