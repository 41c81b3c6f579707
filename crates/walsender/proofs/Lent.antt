-- What waits stays in the arena while the regrouping goes on, and what was made ready last may be given back before it.
use Rattle.std.proofs.Common.{◌≡◌, ◌⊎◌, inl, inr, ◌<◌, ◌≤◌, ◌+◌, ◌-◌, ◌==◌, ℕ, Bool, true, false, List, [], ◌∷◌, ◌++◌, drop, length, map, refl, sym, ap, ◌∙◌, arith}
use Rattle.std.specs.Prelude.{◌&&◌, nat_lt, not, reverse}
use Rattle.std.proofs.lemmas.Bool.{eqb-false, eqb-true, ltb-false, ltb-true, ne_eqb}
use Rattle.std.proofs.lemmas.List.{length-append, length-drop, length-take}
use Rattle.wal.specs.declared.record.Record.{Record}
use Rattle.publication.specs.Publications.{PublicationSet}
use Rattle.reorder.specs.Pool.{AreApart, StaysLent}
use Rattle.reorder.specs.Ready.{ReadyState, ready_entries}
use Rattle.reorder.specs.Chunks.{IsHeldBy, IsOwned, IsTidy}
use Rattle.reorder.specs.Taking.{HasTaken, ReorderState}
use Rattle.reorder.specs.Settled.{AreLentIn, after_giving_all_back, after_giving_back, ready_chunks}
use Rattle.reorder.proofs.Settling.{entries_given_back, entries_lent, taken_settled}
use Rattle.reorder.proofs.Filling.{chunks_each_given_back, chunks_each_lent, settled_tidy, tidy_settled}
use Rattle.walsender.specs.Waiting.{bytes_after, ready_states}
use Rattle.walsender.specs.Outgoing.{IsOutgoing, frames_left, held_behind, held_of, lent_of, sent_of}
use Rattle.walsender.specs.declared.held.outgoing.Outgoing.{Outgoing}
use Rattle.walsender.specs.declared.held.committed_transaction.CommittedTransaction.{CommittedTransaction}
use Rattle.walsender.proofs.Emptied.{none_held}
use Rattle.walsender.proofs.Lasting.{lents_same}
use Rattle.walsender.proofs.Queueing.{bytes_low, bytes_same, sent_same, waits_some}
use Rattle.walsender.proofs.Sections.{all_back, all_front}

-- ---- the last one first

pub lent_first : (s : ReorderState) (ws : List ReadyState) (ready : ReadyState) → AreLentIn s (ws ++ ready ∷ []) → AreLentIn s (ready ∷ ws)
lent_first s [] ready are = are
lent_first s (w ∷ ws) ready are =
    let rest : AreLentIn s (ready ∷ ws) = lent_first s ws ready are.2 in
    let P : ReadyState → Type 0 = λ other. AreApart w.strands other.strands in
    let apart : AreApart w.strands ready.strands = (all_back P ws (ready ∷ []) are.1).0 in
    (rest.0, ((λ x y head at_x at_y. apart y x head at_y at_x), rest.1), (are.0, all_front P ws (ready ∷ []) are.1, rest.2))

tidy_first : (s : ReorderState) (ws : List ReadyState) (ready : ReadyState) (count : ℕ) → IsTidy count (ws ++ ready ∷ []) s.strands → IsTidy count (ready ∷ ws) s.strands
tidy_first s ws ready count tidy = record { chunks = tidy.chunks; owned = λ head within entries at. by_owner head (tidy.owned head within entries at); only = tidy.only }
  where
    later : (w : ReadyState) (ws : List ReadyState) (head : ℕ) → IsHeldBy (ready ∷ ws) head → IsHeldBy (ready ∷ w ∷ ws) head
    later w ws head (inl here) = inl here
    later w ws head (inr held) = inr (inr held)

    moved : (ws : List ReadyState) (head : ℕ) → IsHeldBy (ws ++ ready ∷ []) head → IsHeldBy (ready ∷ ws) head
    moved [] head held = held
    moved (w ∷ ws) head (inl first) = inr (inl first)
    moved (w ∷ ws) head (inr held) = later w ws head (moved ws head held)

    by_owner : (head : ℕ) → IsOwned s.strands.pool head ⊎ IsHeldBy (ws ++ ready ∷ []) head → IsOwned s.strands.pool head ⊎ IsHeldBy (ready ∷ ws) head
    by_owner head (inl o) = inl o
    by_owner head (inr held) = inr (moved ws head held)

pub tidy_back : (s : ReorderState) (ws : List ReadyState) (ready : ReadyState) (count : ℕ) → AreLentIn s (ws ++ ready ∷ []) → IsTidy count [] (after_giving_all_back s (ws ++ ready ∷ [])).strands → IsTidy count [] (after_giving_all_back (after_giving_back s ready) ws).strands
tidy_back s ws ready count are tidy = settled_tidy s (ready ∷ ws) count (lent_first s ws ready are) (tidy_first s ws ready count (tidy_settled s (ws ++ ready ∷ []) count are tidy))

pub taken_back : (s : ReorderState) (ws : List ReadyState) (ready : ReadyState) (rs : List Record) → AreLentIn s (ws ++ ready ∷ []) → HasTaken s rs → HasTaken (after_giving_all_back (after_giving_back s ready) ws) rs
taken_back s ws ready rs are taken = taken_settled s (ready ∷ ws) rs (lent_first s ws ready are) taken

-- ---- all that is held, where the regrouping changes

-- what waits stays in it
pub record Keeps (selection : PublicationSet) (s s' : ReorderState) (o : Outgoing) : Type 0 where
  pub good : IsOutgoing selection s' o
  pub held : held_of selection s' o ≡ held_of selection s o
  pub sent : sent_of selection s' o ≡ sent_of selection s o
  pub lent : lent_of s' o ≡ lent_of s o

keeps : (selection : PublicationSet) (s s' : ReorderState) (o : Outgoing) → IsOutgoing selection s o → AreLentIn s' (ready_states o.waiting.items)
    → map (ready_entries s'.strands.pool) (ready_states o.waiting.items) ≡ map (ready_entries s.strands.pool) (ready_states o.waiting.items)
    → map (ready_chunks s'.strands.pool.arena) (ready_states o.waiting.items) ≡ map (ready_chunks s.strands.pool.arena) (ready_states o.waiting.items) → Keeps selection s s' o
keeps selection s s' o good lent same chunks = record {
  good = record { lent = lent; within = good.within; placed = good.placed; from = good.from; to = good.to; room = good.room; sent = good.sent; capacity = good.capacity; some = good.some };
  held = ap (λ (l : List ℕ). o.front.items ++ (frames_left o ++ l)) (bytes_same selection s.strands.pool s'.strands.pool (reverse o.relations_sent.items) o.made.items o.waiting.items same);
  sent = sent_same selection s.strands.pool s'.strands.pool (reverse o.relations_sent.items) o.waiting.items same;
  lent = lents_same s.strands.pool.arena s'.strands.pool.arena o.waiting.items chunks;
}

-- a record is taken
pub keeps_lent : (selection : PublicationSet) (s s' : ReorderState) (o : Outgoing) → IsOutgoing selection s o → StaysLent s.strands.pool s'.strands.pool → Keeps selection s s' o
keeps_lent selection s s' o good stays = let e = entries_lent s s' (ready_states o.waiting.items) good.lent stays in
    keeps selection s s' o good e.0 e.1 (chunks_each_lent s s' (ready_states o.waiting.items) good.lent stays)

-- what was made ready last is given back
pub keeps_given_back : (selection : PublicationSet) (s s' : ReorderState) (o : Outgoing) (ready : ReadyState) → IsOutgoing selection s o → AreLentIn s (ready_states o.waiting.items ++ ready ∷ []) → s' ≡ after_giving_back s ready → Keeps selection s s' o
keeps_given_back selection s s' o ready good lent is =
    let first = lent_first s (ready_states o.waiting.items) ready lent in
    let e = entries_given_back s s' ready (ready_states o.waiting.items) first is in
    keeps selection s s' o good e.0 e.1 (chunks_each_given_back s s' ready (ready_states o.waiting.items) first is)

-- ---- where nothing is held

-- whether anything is held is whether anything is in the front, a frame left, a byte made or a transaction waiting
pub holds_as : (selection : PublicationSet) (s : ReorderState) (o : Outgoing) → IsOutgoing selection s o
    → not ((length o.front.items == 0) && (not (nat_lt o.from o.to) && ((length o.made.items == 0) && (length o.waiting.items == 0)))) ≡ not (length (held_of selection s o) == 0)
holds_as selection s o good = by_tests (length o.front.items == 0) refl (nat_lt o.from o.to) refl (length o.made.items == 0) refl (length o.waiting.items == 0) refl
  where
    behind : List ℕ
    behind = held_behind selection s o

    size : length (held_of selection s o) ≡ length o.front.items + (length (frames_left o) + length behind)
    size = omega (arith, length-append o.front.items (frames_left o ++ behind), length-append (frames_left o) behind)

    frames : length (frames_left o) ≡ o.to - o.from
    frames =
        let from = good.from in
        let to = good.to in
        omega (arith, length-take (o.to - o.from) (drop o.from o.frames.items), length-drop o.from o.frames.items)

    low : length o.made.items ≤ length behind
    low = bytes_low selection s.strands.pool (reverse o.relations_sent.items) o.made.items o.waiting.items good.within

    some_after : (ws : List CommittedTransaction) → o.waiting.items ≡ ws → (length ws == 0) ≡ false → 0 < length behind
    some_after [] is never = absurd (let f : true ≡ false = never in cc)
    some_after (w ∷ ws) is never =
        let long : length behind ≡ length (bytes_after selection s.strands.pool (reverse o.relations_sent.items) o.made.items (w ∷ ws)) =
        ap (λ (l : List CommittedTransaction). length (bytes_after selection s.strands.pool (reverse o.relations_sent.items) o.made.items l)) is in
        omega (arith, long, waits_some selection s.strands.pool (reverse o.relations_sent.items) o.made.items w ws)

    some : 0 < length (held_of selection s o) → true ≡ not (length (held_of selection s o) == 0)
    some long = ap not (sym (ne_eqb (length (held_of selection s o)) 0 (λ none. omega (arith, none, long))))

    by_tests : (a : Bool) → (length o.front.items == 0) ≡ a → (b : Bool) → nat_lt o.from o.to ≡ b → (d : Bool) → (length o.made.items == 0) ≡ d → (e : Bool) → (length o.waiting.items == 0) ≡ e
        → not (a && (not b && (d && e))) ≡ not (length (held_of selection s o) == 0)
    by_tests false is_a b is_b d is_d e is_e = some (omega (arith, eqb-false (length o.front.items) 0 is_a, size))
    by_tests true is_a true is_b d is_d e is_e = some (omega (arith, ltb-true o.from o.to is_b, size, frames))
    by_tests true is_a false is_b false is_d e is_e = some (omega (arith, eqb-false (length o.made.items) 0 is_d, size, low))
    by_tests true is_a false is_b true is_d false is_e = some (omega (arith, some_after o.waiting.items refl is_e, size))
    by_tests true is_a false is_b true is_d true is_e =
        let order = ltb-false o.from o.to is_b in
        let only : held_of selection s o ≡ o.front.items = none_held selection s o good order (eqb-true (length o.made.items) 0 is_d) (eqb-true (length o.waiting.items) 0 is_e) in
        ap (λ (n : ℕ). not (n == 0)) (sym (ap (length {A = ℕ}) only ∙ eqb-true (length o.front.items) 0 is_a))
