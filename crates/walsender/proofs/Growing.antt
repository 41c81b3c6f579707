-- What the fields of what is on its way out do to all that is held.
use Rattle.std.proofs.Common.{◌≡◌, ◌<◌, ◌≤◌, ℕ, ◌+◌, ◌-◌, List, [], ◌++◌, Result, Ok, Err, OnOk, drop, length, map, take, sym, ap, subst, ◌∙◌, append_assoc, arith}
use Rattle.std.specs.Prelude.{OnErr, reverse}
use Rattle.std.specs.List.{AllByRecursion}
use Rattle.std.specs.declared.alloc.AllocError.{AllocError}
use Rattle.std.proofs.Common.{⊎_elim, inl, inr}
use Rattle.std.proofs.lemmas.List.{length-append}
use Rattle.publication.specs.Publications.{PublicationSet}
use Rattle.reorder.specs.Ready.{ReadyState}
use Rattle.reorder.specs.Settled.{AreLentIn, after_giving_all_back}
use Rattle.reorder.specs.Taking.{ReorderState}
use Rattle.walsender.specs.Waiting.{AreSelected, AreWithin, bytes_after, places, ready_states, sent_after}
use Rattle.walsender.specs.Outgoing.{AddsBytes, HasRoom, IsOutgoing, IsSameQueue, IsSized, frames_left, held_behind, held_of, lent_in, lent_of, sent_of, settled_of}
use Rattle.walsender.specs.declared.held.outgoing.Outgoing.{Outgoing}
use Rattle.walsender.specs.declared.held.outgoing.TheConstants.{FRAMES_LENGTH}
use Rattle.walsender.specs.declared.held.committed_transaction.CommittedTransaction.{CommittedTransaction}
use Rattle.walsender.proofs.Queueing.{bytes_more, within_more}

-- ---- frames that there was no room for

-- where there was no room, there are no frames
none_there : (o : Outgoing) → o.from ≤ o.to → o.to ≤ length o.frames.items → length o.frames.items ≡ 0 → o.to ≡ 0
none_there o from to none = omega (arith, from, to, none)

pub frames_same : (o o' : Outgoing) → o.from ≤ o.to → o.to ≤ length o.frames.items → IsSized o o' → o'.from ≡ o.from → o'.to ≡ o.to → frames_left o' ≡ frames_left o
frames_same o o' low high sized from to =
    ap (λ (n : ℕ). take (n - o'.from) (drop o'.from o'.frames.items)) to ∙ ap (λ (n : ℕ). take (o.to - n) (drop n o'.frames.items)) from
    ∙ ⊎_elim (λ (e : o'.frames.items ≡ o.frames.items). ap (λ (l : List ℕ). take (o.to - o.from) (drop o.from l)) e)
    (λ (p : (length o.frames.items ≡ 0) × (length o'.frames.items ≡ FRAMES_LENGTH)).
    let none : o.to - o.from ≡ 0 = omega (arith, none_there o low high p.0) in
    ap (λ (n : ℕ). take n (drop o.from o'.frames.items)) none ∙ sym (ap (λ (n : ℕ). take n (drop o.from o.frames.items)) none)) sized

module _ (o o' : Outgoing) (low : o.from ≤ o.to) (high : o.to ≤ length o.frames.items) (sized : IsSized o o') where
  pub size_kept : o.to ≤ length o'.frames.items
  size_kept =
      ⊎_elim (λ (e : o'.frames.items ≡ o.frames.items). omega (arith, high, ap (length {A = ℕ}) e))
      (λ (p : (length o.frames.items ≡ 0) × (length o'.frames.items ≡ FRAMES_LENGTH)). omega (arith, none_there o low high p.0)) sized

  pub room_made : HasRoom o → 0 < length o'.frames.items → length o'.frames.items ≡ FRAMES_LENGTH
  room_made room some =
      ⊎_elim (λ (e : o'.frames.items ≡ o.frames.items). ⊎_elim (λ (f : length o.frames.items ≡ FRAMES_LENGTH). ap (length {A = ℕ}) e ∙ f)
      (λ (p : (length o.frames.items ≡ 0) × (o.made.items ≡ []) × (o.waiting.items ≡ [])). absurd (omega (arith, some, ap (length {A = ℕ}) e, p.0))) room)
      (λ (p : (length o.frames.items ≡ 0) × (length o'.frames.items ≡ FRAMES_LENGTH)). p.1) sized

  room_kept : HasRoom o → o'.made.items ≡ o.made.items → o'.waiting.items ≡ o.waiting.items → HasRoom o'
  room_kept room made waiting =
      ⊎_elim (λ (e : o'.frames.items ≡ o.frames.items). ⊎_elim (λ (f : length o.frames.items ≡ FRAMES_LENGTH). inl (ap (length {A = ℕ}) e ∙ f))
      (λ (p : (length o.frames.items ≡ 0) × (o.made.items ≡ []) × (o.waiting.items ≡ [])). inr (ap (length {A = ℕ}) e ∙ p.0, made ∙ p.1, waiting ∙ p.2)) room)
      (λ (p : (length o.frames.items ≡ 0) × (length o'.frames.items ≡ FRAMES_LENGTH)). inl p.1) sized

-- ---- bytes that are added

module _ (selection : PublicationSet) (s : ReorderState) (o o' : Outgoing) (good : IsOutgoing selection s o) (sized : IsSized o o') (rest : IsSameQueue o o') where
  abbrev behind : List ℕ → List ℕ
  behind made = bytes_after selection s.strands.pool (reverse o.relations_sent.items) made o.waiting.items

  held_as : (made : List ℕ) → o'.made.items ≡ made → held_of selection s o' ≡ o.front.items ++ (frames_left o ++ behind made)
  held_as made is =
      ap (λ (l : List ℕ). l ++ (frames_left o' ++ held_behind selection s o')) rest.front
      ∙ ap (λ (l : List ℕ). o.front.items ++ (l ++ held_behind selection s o')) (frames_same o o' good.from good.to sized rest.from rest.to)
      ∙ ap (λ (l : List ℕ). o.front.items ++ (frames_left o ++ bytes_after selection s.strands.pool (reverse l) o'.made.items o'.waiting.items)) rest.sent
      ∙ ap (λ (ws : List CommittedTransaction). o.front.items ++ (frames_left o ++ bytes_after selection s.strands.pool (reverse o.relations_sent.items) o'.made.items ws)) rest.waiting
      ∙ ap (λ (l : List ℕ). o.front.items ++ (frames_left o ++ behind l)) is

  pub sent_kept : sent_of selection s o' ≡ sent_of selection s o
  sent_kept =
      ap (λ (l : List ℕ). sent_after selection s.strands.pool (reverse l) o'.waiting.items) rest.sent
      ∙ ap (λ (ws : List CommittedTransaction). sent_after selection s.strands.pool (reverse o.relations_sent.items) ws) rest.waiting

  pub lent_kept : lent_of s o' ≡ lent_of s o
  lent_kept = ap (map (lent_in s.strands.pool.arena)) rest.waiting

  pub settled_kept : settled_of s o' ≡ settled_of s o
  settled_kept = ap (λ (ws : List CommittedTransaction). after_giving_all_back s (ready_states ws)) rest.waiting

  good_as : AreWithin (length o'.made.items) o.waiting.items → HasRoom o' → IsOutgoing selection s o'
  good_as within room = record {
    lent = subst (λ (ws : List CommittedTransaction). AreLentIn s (ready_states ws)) (sym rest.waiting) good.lent;
    within = subst (λ (ws : List CommittedTransaction). AreWithin (length o'.made.items) ws) (sym rest.waiting) within;
    placed = ap places rest.waiting ∙ good.placed ∙ sym rest.placed;
    from = omega (arith, rest.from, rest.to, good.from);
    to = omega (arith, rest.to, size_kept o o' good.from good.to sized);
    room = room;
    sent = subst (λ (l : List ℕ). AreSelected selection (reverse l)) (sym rest.sent) good.sent;
    capacity = λ some. let low = good.capacity (subst (λ (ws : List CommittedTransaction). 0 < length ws) rest.waiting some) in omega (arith, low, rest.capacity);
    some = subst (λ (ws : List CommittedTransaction). AllByRecursion (λ (ready : ReadyState). 0 < length ready.places) (ready_states ws)) (sym rest.waiting) good.some;
  }

  pub stays : o'.made.items ≡ o.made.items → IsOutgoing selection s o' × (held_of selection s o' ≡ held_of selection s o)
  stays made = (good_as (subst (λ (l : List ℕ). AreWithin (length l) o.waiting.items) (sym made) good.within) (room_kept o o' good.from good.to sized good.room made rest.waiting), held_as o.made.items made)

  pub adds : (bytes : List ℕ) → o'.made.items ≡ o.made.items ++ bytes → 0 < length o'.frames.items → IsOutgoing selection s o' × (held_of selection s o' ≡ held_of selection s o ++ bytes)
  adds bytes made some =
      let size : length o'.made.items ≡ length o.made.items + length bytes = ap (length {A = ℕ}) made ∙ length-append o.made.items bytes in
      let more : behind (o.made.items ++ bytes) ≡ behind o.made.items ++ bytes = bytes_more selection s.strands.pool (reverse o.relations_sent.items) o.made.items bytes o.waiting.items good.within in (
        good_as (subst (λ (n : ℕ). AreWithin n o.waiting.items) (sym size) (within_more (length o.made.items) (length bytes) o.waiting.items good.within)) (inl (room_made o o' good.from good.to sized good.room some)),
        held_as (o.made.items ++ bytes) made ∙ ap (λ (l : List ℕ). o.front.items ++ (frames_left o ++ l)) more
            ∙ ap (λ (l : List ℕ). o.front.items ++ l) (sym (append_assoc (frames_left o) (behind o.made.items) bytes)) ∙ sym (append_assoc o.front.items (frames_left o ++ behind o.made.items) bytes),
      )

-- a keepalive, or the message of a note
pub bytes_added : (selection : PublicationSet) (s : ReorderState) (o o' : Outgoing) (bytes : List ℕ) (result : Result (Unit {0}) AllocError) → IsOutgoing selection s o → AddsBytes bytes result o o'
    → IsOutgoing selection s o' × OnOk result (held_of selection s o' ≡ held_of selection s o ++ bytes) × OnErr result (held_of selection s o' ≡ held_of selection s o)
bytes_added selection s o o' bytes (Ok u) good a = let g = adds selection s o o' good a.frames a.rest bytes a.ok.0 a.ok.1 in (g.0, g.1, tt)
bytes_added selection s o o' bytes (Err e) good a = let g = stays selection s o o' good a.frames a.rest a.err in (g.0, tt, g.1)
