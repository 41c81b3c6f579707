-- Over a stream nothing but want of memory stops a subscriber, and what stands whole in the bytes is what it gained.
use Rattle.std.proofs.Common.{◌≡◌, ℕ, ◌<◌, List, [], ◌∷◌, ◌++◌, length, Option, None, Result, Ok, Err, refl, sym, ap, subst, ◌∙◌, append_assoc, arith, inl, inr}
use Rattle.std.specs.List.{AllByRecursion}
use Rattle.std.proofs.lemmas.List.{length-append}
use Rattle.std.proofs.lemmas.List.Concat.{flat_map-cons, flat_map-append}
use Rattle.pqformat.specs.Steps.{◌>>=◌}
use Rattle.frames.specs.Back.{framed_back}
use Rattle.frames.specs.declared.fault.FrameFault.{FrameFault}
use Rattle.frames.specs.declared.back.Back.{Back}
use Rattle.pqformat.proofs.Codec.{ok_is}
use Rattle.pgoutput.specs.declared.messages.relation.Relation.{Relation}
use Rattle.pgoutput.specs.declared.copy_both_message.CopyBothMessage.{CopyBothMessage}
use Rattle.pgoutput.specs.Words.{word_bytes, frames_of, FitsWord}
use Rattle.pgoutput.specs.Items.{Item, item_words, words_of, bytes_of_items, FitItems}
use Rattle.pgoutput.proofs.Ranges.{words_fit}
use Rattle.client.specs.declared.fault.ClientFault.{ClientFault}
use Rattle.client.specs.declared.fault.ClientFault.TheVariants as faults
use Rattle.client.specs.Words.{Waits, IsNoWord, IsError, Holds}
use Rattle.client.specs.Subscriber.{Subscriber, subscriber_at_rest, after_word, after_words}
use Rattle.client.specs.Taking.{ApplierState, Reached, IsRefused, Stops, StopsAfter}
use Rattle.client.specs.Law.{AreForward, relations_sent_with, IsLess, Gained, Follows}
use Rattle.client.proofs.Reaching.{after_append, reached_on}
use Rattle.client.proofs.Fronts.{says_word, shows, same_word, not_empty, Aligned, aligned}
use Rattle.client.proofs.Blocks.{at, Told}
use Rattle.client.proofs.Standing.{IsBegun, Stands, stands, all_go}

-- ---- nothing stops it but want of memory

empty_front : (a b : List ℕ) → a ++ b ≡ [] → a ≡ []
empty_front [] b e = refl
empty_front (x ∷ a) b e = absurd cc

abbrev Framed : Type 0
Framed = Result (Option (Back × ℕ)) FrameFault

-- at the front stands a word, or nothing whole
readable : (rest more : List ℕ) (vs : List CopyBothMessage) → AllByRecursion FitsWord vs → rest ++ more ≡ frames_of vs → (Holds IsNoWord (Unit {0}) (framed_back rest) → ⊥) × (Holds IsError ⊥ (framed_back rest) → ⊥)
readable rest more [] fits e =
    let none : framed_back rest ≡ Ok None = ap framed_back (empty_front rest more e) in
    (λ bad. subst (λ (r : Framed). Holds IsNoWord (Unit {0}) r) none bad, λ bad. subst (λ (r : Framed). Holds IsError ⊥ r) none bad)
readable rest more (v ∷ vs) fits e = elim (shows v rest more (frames_of vs) fits.0 (e ∙ flat_map-cons word_bytes v vs)) [
  | inl waits ↦ (λ bad. subst (λ (r : Framed). Holds IsNoWord (Unit {0}) r) waits.1 bad, λ bad. subst (λ (r : Framed). Holds IsError ⊥ r) waits.1 bad)
  | inr whole ↦ (λ bad. (subst (λ (r : Framed). Holds IsNoWord (Unit {0}) r) whole.1 bad) v (says_word v fits.0), λ bad. subst (λ (r : Framed). Holds IsError ⊥ r) whole.1 bad)
]

-- and the word is taken
taken : (e : ClientFault) (s end : Subscriber) (rest more : List ℕ) (vs : List CopyBothMessage) → AllByRecursion FitsWord vs → rest ++ more ≡ frames_of vs → after_words s vs ≡ Ok end → IsRefused e s rest → ⊥
taken e s end rest more [] fits is steps refused = not_empty refused.1 refused.0 (refused.2 ++ more) refused.3 (sym (append_assoc refused.1 refused.2 more) ∙ ap (λ (l : List ℕ). l ++ more) (sym refused.4) ∙ is)
taken e s end rest more (v ∷ vs) fits is steps refused =
    let parted : refused.1 ++ (refused.2 ++ more) ≡ word_bytes v ++ frames_of vs = sym (append_assoc refused.1 refused.2 more) ∙ ap (λ (l : List ℕ). l ++ more) (sym refused.4) ∙ is ∙ flat_map-cons word_bytes v vs in
    let same = same_word refused.1 refused.0 v (refused.2 ++ more) (frames_of vs) refused.3 fits.0 parted in
    let fails : after_word s v ≡ Err e = ap (after_word s) (sym same.0) ∙ refused.5 in
    let both : (Err e >>= λ t. after_words t vs) ≡ Ok end = ap (λ (r : Result Subscriber ClientFault). r >>= λ t. after_words t vs) (sym fails) ∙ steps in
    absurd cc

only_memory : (e : ClientFault) (s end : Subscriber) (rest more : List ℕ) (vs : List CopyBothMessage) → AllByRecursion FitsWord vs → rest ++ more ≡ frames_of vs → after_words s vs ≡ Ok end → Stops e s rest → e ≡ faults.Memory
only_memory faults.Frame s end rest more vs fits is steps stops = absurd ((readable rest more vs fits is).0 stops)
only_memory faults.Server s end rest more vs fits is steps stops = absurd ((readable rest more vs fits is).1 stops)
only_memory faults.Order s end rest more vs fits is steps stops = absurd (taken faults.Order s end rest more vs fits is steps stops)
only_memory faults.UnknownRelation s end rest more vs fits is steps stops = absurd (taken faults.UnknownRelation s end rest more vs fits is steps stops)
only_memory faults.CommitEnd s end rest more vs fits is steps stops = absurd (taken faults.CommitEnd s end rest more vs fits is steps stops)
only_memory faults.Memory s end rest more vs fits is steps stops = refl

-- ---- what it gained

none_told : (relation : ℕ → Relation) → Told relation [] []
none_told relation oid sent = absurd cc

-- the words that were taken begin those of the items
abbrev Begins : (ℕ → Relation) → List Item → (base : Subscriber) (bytes : List ℕ) (new : Subscriber) (rest more : List ℕ) → Reached base bytes new rest → Type 0
Begins relation items base bytes new rest more r = Aligned r.text r.words (words_of relation [] items) (rest ++ more)

begun_by : (relation : ℕ → Relation) (items : List Item) (base : Subscriber) (bytes : List ℕ) (new : Subscriber) (rest more : List ℕ) (r : Reached base bytes new rest)
    → FitItems relation items → bytes ++ more ≡ bytes_of_items relation [] items → Begins relation items base bytes new rest more r
begun_by relation items base bytes new rest more r fit e =
    aligned r.text r.words (words_of relation [] items) (rest ++ more) r.spells (words_fit relation [] items fit) (sym (append_assoc r.text rest more) ∙ ap (λ (l : List ℕ). l ++ more) (sym r.is) ∙ e)

no_fault : (relation : ℕ → Relation) (items : List Item) (base : Subscriber) (bytes : List ℕ) (new : Subscriber) (more : List ℕ) (e : ClientFault) → base ≡ subscriber_at_rest base.position base.applied → FitItems relation items → AreForward items
    → bytes ++ more ≡ bytes_of_items relation [] items → StopsAfter base bytes new e → e ≡ faults.Memory
no_fault relation items base bytes new more e rests fit forward is stops =
    let r = stops.reached in
    let b = begun_by relation items base bytes new stops.rest more r fit is in
    let all = all_go relation [] base.position base.applied [] items fit forward (none_told relation) in
    let whole : after_words base (r.words ++ b.more) ≡ Ok all.0 = ap (after_words base) (sym b.is) ∙ ap (λ (s : Subscriber). after_words s (words_of relation [] items)) rests ∙ all.1 in
    let later : after_words new b.more ≡ Ok all.0 = sym (after_append base r.words b.more new r.steps) ∙ whole in
    only_memory e new all.0 stops.rest more b.more b.fits b.rest later stops.stops

-- the items that stand whole in what was taken
standing : (relation : ℕ → Relation) (items : List Item) (base : Subscriber) (bytes : List ℕ) (new : Subscriber) (rest more : List ℕ) (r : Reached base bytes new rest) → FitItems relation items → AreForward items
    → (b : Begins relation items base bytes new rest more r) → Stands relation [] base.position base.applied (at base.position base.applied [] None) r.words b.more items
standing relation items base bytes new rest more r fit forward b = stands relation [] base.position base.applied [] r.words b.more items fit forward (none_told relation) (sym b.is)

same_subscriber : (relation : ℕ → Relation) (items : List Item) (base : Subscriber) (bytes : List ℕ) (new : Subscriber) (rest : List ℕ) (vs : List CopyBothMessage) (r : Reached base bytes new rest) → base ≡ subscriber_at_rest base.position base.applied
    → (s : Stands relation [] base.position base.applied (at base.position base.applied [] None) r.words vs items) → new ≡ s.new
same_subscriber relation items base bytes new rest vs r rests s = ok_is ClientFault new s.new (sym r.steps ∙ ap (λ (b : Subscriber). after_words b r.words) rests ∙ s.steps)

abbrev gains_of : (relation : ℕ → Relation) (items : List Item) (base : Subscriber) (bytes : List ℕ) (new : Subscriber) (rest more : List ℕ) (r : Reached base bytes new rest) → base ≡ subscriber_at_rest base.position base.applied
    → (b : Begins relation items base bytes new rest more r) (s : Stands relation [] base.position base.applied (at base.position base.applied [] None) r.words b.more items) → Gained relation base bytes items new
gains_of relation items base bytes new rest more r rests b s = record {
  done = s.done;
  others = s.others;
  part = frames_of s.part ++ rest;
  is = s.is;
  text = r.is ∙ ap (λ (l : List ℕ). l ++ rest) (b.front ∙ ap frames_of s.words ∙ flat_map-append word_bytes (words_of relation [] s.done) s.part) ∙ append_assoc (bytes_of_items relation [] s.done) (frames_of s.part) rest;
  position = ap (λ (t : Subscriber). t.position) (same_subscriber relation items base bytes new rest b.more r rests s) ∙ s.position;
  applied = ap (λ (t : Subscriber). t.applied) (same_subscriber relation items base bytes new rest b.more r rests s) ∙ s.applied;
}

-- what waits is less than the next word
waits_less : (v : CopyBothMessage) (rest more tail : List ℕ) → FitsWord v → rest ++ more ≡ word_bytes v ++ tail → Waits rest → length rest < length (word_bytes v)
waits_less v rest more tail fits e waits = elim (shows v rest more tail fits e) [
  | inl less ↦ less.0
  | inr whole ↦ let both : framed_back rest ≡ Ok None = waits in let other = whole.1 in absurd cc
]

less : (relation : ℕ → Relation) (relations_sent : List ℕ) (part vs : List CopyBothMessage) (rest more : List ℕ) (others : List Item) → IsBegun relation relations_sent part vs others → AllByRecursion FitsWord vs → rest ++ more ≡ frames_of vs → Waits rest
    → IsLess relation relations_sent (frames_of part ++ rest) others
less relation relations_sent part vs rest more [] begun fits e waits =
    ap (λ (ws : List CopyBothMessage). frames_of ws ++ rest) begun.0 ∙ empty_front rest more (e ∙ ap frames_of begun.1)
less relation relations_sent part vs rest more (item ∷ items) begun fits e waits =
    let fit : AllByRecursion FitsWord (begun.0 ∷ begun.2) = subst (λ (ws : List CopyBothMessage). AllByRecursion FitsWord ws) begun.4 fits in
    let short = waits_less begun.0 rest more (frames_of begun.2) fit.0 (e ∙ ap frames_of begun.4 ∙ flat_map-cons word_bytes begun.0 begun.2) waits in
    let whole : frames_of (item_words relation relations_sent item) ≡ frames_of part ++ (word_bytes begun.0 ++ frames_of begun.1) =
    ap frames_of begun.3 ∙ flat_map-append word_bytes part (begun.0 ∷ begun.1) ∙ ap (λ (l : List ℕ). frames_of part ++ l) (flat_map-cons word_bytes begun.0 begun.1) in
    omega (
      arith,
      short,
      ap (length {A = ℕ}) whole,
      length-append (frames_of part) rest,
      length-append (frames_of part) (word_bytes begun.0 ++ frames_of begun.1),
      length-append (word_bytes begun.0) (frames_of begun.1),
    )

-- ---- the law of a call

pub follows_ok : (old new : ApplierState) (bytes : List ℕ) → Reached old.subscriber (old.unread ++ bytes) new.subscriber new.unread → Waits new.unread → new.fault ≡ None → Follows old new bytes (Ok tt)
follows_ok old new bytes went waits sound relation base before more items rests had fit forward e =
    let r = reached_on base before old.subscriber old.unread bytes new.subscriber new.unread had.reached went in
    let b = begun_by relation items base (before ++ bytes) new.subscriber new.unread more r fit e in
    let s = standing relation items base (before ++ bytes) new.subscriber new.unread more r fit forward b in (
      record { reached = r; waits = waits; sound = sound },
      record {
        gains = gains_of relation items base (before ++ bytes) new.subscriber new.unread more r rests b s;
        all = less relation (relations_sent_with [] s.done) s.part b.more new.unread more s.others s.begun b.fits b.rest waits;
      },
    )

pub follows_err : (old new : ApplierState) (bytes : List ℕ) (fault : ClientFault) → StopsAfter old.subscriber (old.unread ++ bytes) new.subscriber fault → Follows old new bytes (Err fault)
follows_err old new bytes fault stops relation base before more items rests had fit forward e =
    let r = reached_on base before old.subscriber old.unread bytes new.subscriber stops.rest had.reached stops.reached in
    let b = begun_by relation items base (before ++ bytes) new.subscriber stops.rest more r fit e in
    let s = standing relation items base (before ++ bytes) new.subscriber stops.rest more r fit forward b in (
      no_fault relation items base (before ++ bytes) new.subscriber more fault rests fit forward e (record { rest = stops.rest; reached = r; stops = stops.stops }),
      gains_of relation items base (before ++ bytes) new.subscriber stops.rest more r rests b s,
    )
