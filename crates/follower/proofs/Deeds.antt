-- Over all deeds: each transaction once, and all that stands whole in what came.
use Rattle.std.proofs.Common.{◌≡◌, ℕ, List, [], ◌∷◌, ◌++◌, Option, Ok, Err, refl, sym, ap, subst, ◌∙◌, append_assoc}
use Rattle.std.proofs.lemmas.List.{append-nil}
use Rattle.pgoutput.specs.declared.messages.relation.Relation.{Relation}
use Rattle.pgoutput.specs.declared.published.Published.{Published}
use Rattle.pgoutput.specs.Items.{Item, bytes_of_items, FitItems}
use Rattle.client.specs.declared.fault.ClientFault.{ClientFault}
use Rattle.client.specs.Subscriber.{Subscriber, subscriber_at_rest}
use Rattle.client.specs.Taking.{ApplierState, Reached, HasTaken, TakesFrom}
use Rattle.client.specs.Law.{AreForward, GainedAll}
use Rattle.client.proofs.Laws.{follows_ok}
use Rattle.client.proofs.Reaching.{reached_none, reached_on}
use Rattle.follower.specs.Once.{EachOnce, Gains, applier_at_connection, applier_without_applied, before, with_printed}
use Rattle.follower.specs.Standing.{Standing, Deed, Asks, Connects, Waits, Receives, Prints, Sums, Breaks, Tells, Ends, Does, DoesPrint, Runs}
use Rattle.follower.specs.Promise.{begun_at, printed_in, AreReceived, received_bytes}
use Rattle.follower.proofs.Gaining.{gains_nothing, gains_then, gains_taken}
use Rattle.follower.proofs.Printed.{takes_before}

abbrev pub applier_of : Standing → ApplierState
applier_of s = s.applier

-- ---- Each once.

abbrev GainsIn : (old : Standing) (deeds : List Deed) (new : Standing) → Runs old deeds new → Type 0
GainsIn old deeds new run = Gains old.applier.subscriber (before (printed_in old deeds new run) new.applier.subscriber)

-- what was there is printed first
printing : (old next new : ApplierState) (printed : List Published) → next ≡ applier_without_applied old → Gains next.subscriber (before printed new.subscriber) → Gains old.subscriber (before (old.subscriber.applied ++ printed) new.subscriber)
printing old next new printed is gains =
    let these = subst (λ (a : ApplierState). Gains a.subscriber (before printed new.subscriber)) is gains in
    record {
      fresh = these.fresh;
      applied = append_assoc old.subscriber.applied printed new.subscriber.applied ∙ ap (λ (l : List Published). old.subscriber.applied ++ l) these.applied;
      once = these.once;
    }

-- a connection that begins changes neither what was applied nor the position
connecting : (old next : ApplierState) (t : Subscriber) → next ≡ applier_at_connection old → Gains next.subscriber t → Gains old.subscriber t
connecting old next t is gains =
    let these = subst (λ (a : ApplierState). Gains a.subscriber t) is gains in
    record { fresh = these.fresh; applied = these.applied; once = these.once }

-- where the receiver is as it was
passing : (old next : ApplierState) (t : Subscriber) → next ≡ old → Gains next.subscriber t → Gains old.subscriber t
passing old next t is gains = subst (λ (a : ApplierState). Gains a.subscriber t) is gains

-- nothing waits as the last lines are printed
pub summed : (old next : Standing) (lines : List ℕ) → old.applier.subscriber.applied ≡ [] → DoesPrint lines old next → next.applier ≡ old.applier
summed old next lines none prints = prints.applier ∙ ap (λ (l : List Published). record old.applier { subscriber = record old.applier.subscriber { applied = l } }) (sym none)

gains_in : (old : Standing) (deeds : List Deed) (new : Standing) (run : Runs old deeds new) → GainsIn old deeds new run
gains_in old [] new run = subst (λ (s : Standing). Gains old.applier.subscriber s.applier.subscriber) (sym run) (gains_nothing old.applier.subscriber)
gains_in old (Asks ∷ deeds) new run = passing old.applier run.0.applier (before (printed_in run.0 deeds new run.2) new.applier.subscriber) (ap applier_of run.1.1) (gains_in run.0 deeds new run.2)
gains_in old (Connects ∷ deeds) new run = connecting old.applier run.0.applier (before (printed_in run.0 deeds new run.2) new.applier.subscriber) (ap applier_of run.1) (gains_in run.0 deeds new run.2)
gains_in old (Waits ∷ deeds) new run = passing old.applier run.0.applier (before (printed_in run.0 deeds new run.2) new.applier.subscriber) (ap applier_of run.1.2) (gains_in run.0 deeds new run.2)
gains_in old (Receives bytes result ∷ deeds) new run =
    gains_then old.applier.subscriber run.0.applier.subscriber (before (printed_in run.0 deeds new run.2) new.applier.subscriber) (gains_taken old.applier run.0.applier bytes result run.1.0) (gains_in run.0 deeds new run.2)
gains_in old (Prints lines ∷ deeds) new run = printing old.applier run.0.applier new.applier (printed_in run.0 deeds new run.2) run.1.applier (gains_in run.0 deeds new run.2)
gains_in old (Sums lines ∷ deeds) new run = passing old.applier run.0.applier (before (printed_in run.0 deeds new run.2) new.applier.subscriber) (summed old run.0 lines run.1.0 run.1.1) (gains_in run.0 deeds new run.2)
gains_in old (Breaks lines ∷ deeds) new run = passing old.applier run.0.applier (before (printed_in run.0 deeds new run.2) new.applier.subscriber) run.1.applier (gains_in run.0 deeds new run.2)
gains_in old (Tells clock ask count ∷ deeds) new run = passing old.applier run.0.applier (before (printed_in run.0 deeds new run.2) new.applier.subscriber) (ap applier_of run.1.same) (gains_in run.0 deeds new run.2)
gains_in old (Ends count ∷ deeds) new run = passing old.applier run.0.applier (before (printed_in run.0 deeds new run.2) new.applier.subscriber) (ap applier_of run.1.same) (gains_in run.0 deeds new run.2)

pub each_once : (start : ℕ) (written kept sent : Option (List ℕ)) (deeds : List Deed) (now : Standing) (run : Runs (begun_at start written kept sent) deeds now)
    → EachOnce start (printed_in (begun_at start written kept sent) deeds now run ++ now.applier.subscriber.applied) now.applier.subscriber.position
each_once start written kept sent deeds now run =
    let gains = gains_in (begun_at start written kept sent) deeds now run in
    subst (λ (l : List Published). EachOnce start l now.applier.subscriber.position) (sym gains.applied) gains.once

-- ---- None is lost.

-- what is printed joins what was printed
pub forgetting : (printed : List Published) (a : ApplierState) → with_printed (printed ++ a.subscriber.applied) (applier_without_applied a) ≡ with_printed printed a
forgetting printed a = ap (λ (l : List Published). record a { subscriber = record a.subscriber { applied = l } }) (append-nil (printed ++ a.subscriber.applied))

-- bytes that are taken stand after those before them
hearing : (base : Subscriber) (text bytes : List ℕ) (old new : ApplierState) (u : Unit {0}) → HasTaken base old text → TakesFrom old.fault old new bytes (Ok u) → HasTaken base new (text ++ bytes)
hearing base text bytes old new u had takes =
    let taken = subst (λ (fault : Option ClientFault). TakesFrom fault old new bytes (Ok u)) had.sound takes in
    record { reached = reached_on base text old.subscriber old.unread bytes new.subscriber new.unread had.reached taken.reached; waits = taken.waits; sound = taken.sound }

keeps : (base : Subscriber) (text : List ℕ) (printed : List Published) (old : Standing) (deeds : List Deed) (new : Standing) (run : Runs old deeds new) → AreReceived deeds
    → HasTaken base (with_printed printed old.applier) text → HasTaken base (with_printed (printed ++ printed_in old deeds new run) new.applier) (text ++ received_bytes deeds)
keeps base text printed old [] new run are had =
    rw (append-nil text, append-nil printed) (subst (λ (s : Standing). HasTaken base (with_printed printed s.applier) text) (sym run) had)
keeps base text printed old (Asks ∷ deeds) new run are had = absurd are
keeps base text printed old (Connects ∷ deeds) new run are had = absurd are
keeps base text printed old (Receives bytes (Err e) ∷ deeds) new run are had = absurd are
keeps base text printed old (Receives bytes (Ok u) ∷ deeds) new run are had =
    let next = hearing base text bytes (with_printed printed old.applier) (with_printed printed run.0.applier) u had (takes_before printed old.applier run.0.applier bytes (Ok u) run.1.0) in
    rw (← append_assoc text bytes (received_bytes deeds)) (keeps base (text ++ bytes) printed run.0 deeds new run.2 are next)
keeps base text printed old (Prints lines ∷ deeds) new run are had =
    let same : with_printed (printed ++ old.applier.subscriber.applied) run.0.applier ≡ with_printed printed old.applier = ap (with_printed (printed ++ old.applier.subscriber.applied)) run.1.applier ∙ forgetting printed old.applier in
    let next = subst (λ (a : ApplierState). HasTaken base a text) (sym same) had in
    rw (← append_assoc printed old.applier.subscriber.applied (printed_in run.0 deeds new run.2)) (keeps base text (printed ++ old.applier.subscriber.applied) run.0 deeds new run.2 are next)
keeps base text printed old (Waits ∷ deeds) new run are had =
    keeps base text printed run.0 deeds new run.2 are (subst (λ (a : ApplierState). HasTaken base (with_printed printed a) text) (sym (ap applier_of run.1.2)) had)
keeps base text printed old (Sums lines ∷ deeds) new run are had =
    keeps base text printed run.0 deeds new run.2 are (subst (λ (a : ApplierState). HasTaken base (with_printed printed a) text) (sym (summed old run.0 lines run.1.0 run.1.1)) had)
keeps base text printed old (Breaks lines ∷ deeds) new run are had =
    keeps base text printed run.0 deeds new run.2 are (subst (λ (a : ApplierState). HasTaken base (with_printed printed a) text) (sym run.1.applier) had)
keeps base text printed old (Tells clock ask count ∷ deeds) new run are had =
    keeps base text printed run.0 deeds new run.2 are (subst (λ (a : ApplierState). HasTaken base (with_printed printed a) text) (sym (ap applier_of run.1.same)) had)
keeps base text printed old (Ends count ∷ deeds) new run are had =
    keeps base text printed run.0 deeds new run.2 are (subst (λ (a : ApplierState). HasTaken base (with_printed printed a) text) (sym (ap applier_of run.1.same)) had)

-- what was taken of a stream has been gained
all_gained : (base : Subscriber) (a : ApplierState) (text : List ℕ) → base ≡ subscriber_at_rest base.position base.applied → HasTaken base a text → (relation : ℕ → Relation) (items : List Item) (more : List ℕ) → FitItems relation items → AreForward items
    → text ++ more ≡ bytes_of_items relation [] items → GainedAll relation base text items a.subscriber
all_gained base a text rests had relation items more fit forward e =
    let still : Reached a.subscriber (a.unread ++ []) a.subscriber a.unread = subst (λ (l : List ℕ). Reached a.subscriber l a.subscriber a.unread) (sym (append-nil a.unread)) (reached_none a.subscriber a.unread) in
    let ends = follows_ok a a [] still had.waits had.sound relation base text more items rests had fit forward (ap (λ (l : List ℕ). l ++ more) (append-nil text) ∙ e) in
    subst (λ (l : List ℕ). GainedAll relation base l items a.subscriber) (append-nil text) ends.1

pub none_lost : (printed : List Published) (old begun : Standing) (deeds : List Deed) (now : Standing) (run : Runs begun deeds now) (relation : ℕ → Relation) (items : List Item) (more : List ℕ)
    → Does Connects old begun → AreReceived deeds → FitItems relation items → AreForward items → received_bytes deeds ++ more ≡ bytes_of_items relation [] items
    → GainedAll relation (before printed begun.applier.subscriber) (received_bytes deeds) items (before (printed ++ printed_in begun deeds now run) now.applier.subscriber)
none_lost printed old begun deeds now run relation items more connects are fit forward e =
    let rested : (a : ApplierState) → a ≡ applier_at_connection old.applier → HasTaken (before printed a.subscriber) (with_printed printed a) []
    = λ a is. subst (λ (b : ApplierState). HasTaken (before printed b.subscriber) (with_printed printed b) []) (sym is)
    (record { reached = reached_none (before printed (applier_at_connection old.applier).subscriber) []; waits = refl; sound = refl }) in
    let rests : (a : ApplierState) → a ≡ applier_at_connection old.applier → before printed a.subscriber ≡ subscriber_at_rest a.subscriber.position (printed ++ a.subscriber.applied)
    = λ a is. subst (λ (b : ApplierState). before printed b.subscriber ≡ subscriber_at_rest b.subscriber.position (printed ++ b.subscriber.applied)) (sym is) refl in
    let is = ap applier_of connects in
    let base = before printed begun.applier.subscriber in
    all_gained base (with_printed (printed ++ printed_in begun deeds now run) now.applier) (received_bytes deeds) (rests begun.applier is) (keeps base [] printed begun deeds now run are (rested begun.applier is)) relation items more fit forward e
