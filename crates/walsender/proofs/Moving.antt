-- What is held, as bytes are moved out of it or gathered at its front.
use Rattle.std.proofs.Common.{◌≡◌, ◌<◌, ◌≤◌, ℕ, ◌+◌, ◌-◌, Bool, true, false, List, [], ◌∷◌, ◌++◌, Option, drop, length, take, refl, sym, ap, subst, ◌∙◌, append-nil, arith}
use Rattle.std.specs.Prelude.{MatchBool, min, reverse}
use Rattle.std.specs.Io.KnownBytes.{Appends}
use Rattle.std.proofs.KnownBytes.{Appends-trans}
use Rattle.std.proofs.Math.Seq.{take-add, take-append-add}
use Rattle.std.proofs.lemmas.List.{drop-drop, drop-take, drop-append-le, drop_at, take-append-le, length-append, length-drop, length-take, length-take-le, drop_all}
use borrow.Rule.Slice.PartMut.{put_mid}
use Rattle.publication.specs.Publications.{PublicationSet}
use Rattle.reorder.specs.Taking.{ReorderState}
use Rattle.walsender.proofs.Emptied.{empty_is}
use Rattle.walsender.specs.Waiting.{bytes_after}
use Rattle.walsender.specs.Outgoing.{HoldsSame, IsOutgoing, MovesOut, frames_left, held_behind, held_of, lent_of}
use Rattle.walsender.specs.declared.held.outgoing.Outgoing.{Outgoing}
use Rattle.walsender.specs.declared.held.committed_transaction.CommittedTransaction.{CommittedTransaction}
use Rattle.walsender.proofs.Lasting.{last_then}
use Rattle.walsender.proofs.Queueing.{waits_some}

-- ---- one after another

pub moves_same : (selection : PublicationSet) (count : ℕ) (s s' s'' : ReorderState) (o o' o'' : Outgoing) → MovesOut selection count s s' o o' → HoldsSame selection s' s'' o' o'' → MovesOut selection count s s'' o o''
moves_same selection count s s' s'' o o' o'' a b = record {
  good = b.good;
  held = b.held ∙ a.held;
  sent = b.sent ∙ a.sent;
  settled = b.settled ∙ a.settled;
  lent = last_then (lent_of s o) (lent_of s' o') (lent_of s'' o'') a.lent b.lent;
}

pub moves_both : (selection : PublicationSet) (count more : ℕ) (s s' s'' : ReorderState) (o o' o'' : Outgoing) → MovesOut selection count s s' o o' → MovesOut selection more s' s'' o' o'' → MovesOut selection (count + more) s s'' o o''
moves_both selection count more s s' s'' o o' o'' a b = record {
  good = b.good;
  held = b.held ∙ ap (drop more) a.held ∙ drop-drop more count (held_of selection s o);
  sent = b.sent ∙ a.sent;
  settled = b.settled ∙ a.settled;
  lent = last_then (lent_of s o) (lent_of s' o') (lent_of s'' o'') a.lent b.lent;
}

-- ---- bytes at the front, and frames

module _ (selection : PublicationSet) (s : ReorderState) (o o' : Outgoing) (good : IsOutgoing selection s o) where
  -- bytes of the front are gone
  pub front_gone : (count : ℕ) → count ≤ length o.front.items → o'.front.items ≡ drop count o.front.items → o' ≡ record o { front = o'.front } → MovesOut selection count s s o o'
  front_gone count low items same = subst (λ (x : Outgoing). MovesOut selection count s s o x) (sym same) record {
    good = record { lent = good.lent; within = good.within; placed = good.placed; from = good.from; to = good.to; room = good.room; sent = good.sent; capacity = good.capacity; some = good.some };
    held = ap (λ (l : List ℕ). l ++ (frames_left o ++ held_behind selection s o)) items ∙ sym (drop-append-le count o.front.items (frames_left o ++ held_behind selection s o) low);
    sent = refl;
    settled = refl;
    lent = ([], refl);
  }

  left_gone : (count : ℕ) → count ≤ o.to - o.from → take (o.to - (o.from + count)) (drop (o.from + count) o.frames.items) ≡ drop count (frames_left o)
  left_gone count low =
      let size : o.to - o.from ≡ count + (o.to - (o.from + count)) = omega (arith, low) in
      ap (take (o.to - (o.from + count))) (sym (drop-drop count o.from o.frames.items))
      ∙ sym (drop-take count (o.to - (o.from + count)) (drop o.from o.frames.items))
      ∙ ap (λ (n : ℕ). drop count (take n (drop o.from o.frames.items))) (sym size)

  pub length_left : length (frames_left o) ≡ o.to - o.from
  length_left = length-take-le (o.to - o.from) (drop o.from o.frames.items) (let low = good.from in let high = good.to in omega (arith, low, high, length-drop o.from o.frames.items))

  -- bytes of the frames are gone, where there is nothing at the front
  pub frames_gone : (count : ℕ) → count ≤ o.to - o.from → o.front.items ≡ [] → o' ≡ record o { from = o.from + count } → MovesOut selection count s s o o'
  frames_gone count low none same = subst (λ (x : Outgoing). MovesOut selection count s s o x) (sym same) record {
    good = record { lent = good.lent; within = good.within; placed = good.placed; from = (let from = good.from in omega (arith, from, low)); to = good.to; room = good.room; sent = good.sent; capacity = good.capacity; some = good.some };
    held =
        ap (λ (l : List ℕ). l ++ (take (o.to - (o.from + count)) (drop (o.from + count) o.frames.items) ++ held_behind selection s o)) none
        ∙ ap (λ (l : List ℕ). l ++ held_behind selection s o) (left_gone count low)
        ∙ sym (drop-append-le count (frames_left o) (held_behind selection s o) (omega (arith, low, length_left)))
        ∙ ap (λ (l : List ℕ). drop count (l ++ (frames_left o ++ held_behind selection s o))) (sym none);
    sent = refl;
    settled = refl;
    lent = ([], refl);
  }

  -- frames that are there lie in front of what is held, where there is nothing at the front
  pub frames_first : (count : ℕ) → count ≤ o.to - o.from → o.front.items ≡ [] → take count (held_of selection s o) ≡ take count (frames_left o)
  frames_first count low none =
      ap (λ (l : List ℕ). take count (l ++ (frames_left o ++ held_behind selection s o))) none
      ∙ take-append-le count (frames_left o) (held_behind selection s o) (omega (arith, low, length_left))

  pub frames_low : o.front.items ≡ [] → o.to - o.from ≤ length (held_of selection s o)
  frames_low none = omega (
    arith,
    length_left,
    ap (λ (l : List ℕ). length (l ++ (frames_left o ++ held_behind selection s o))) none,
    length-append (frames_left o) (held_behind selection s o),
  )

  pub front_low : length o.front.items ≤ length (held_of selection s o)
  front_low = omega (arith, length-append o.front.items (frames_left o ++ held_behind selection s o))

  -- ---- what waits has bytes after the front

  pub after_waits : 0 < length o.waiting.items → length o.front.items < length (held_of selection s o)
  after_waits some = by_list o.waiting.items refl some
    where
      by_list : (ws : List CommittedTransaction) → o.waiting.items ≡ ws → 0 < length ws → length o.front.items < length (held_of selection s o)
      by_list [] is some = absurd (omega (arith, some))
      by_list (w ∷ ws) is some =
          let long : length (held_behind selection s o) ≡ length (bytes_after selection s.strands.pool (reverse o.relations_sent.items) o.made.items (w ∷ ws)) =
          ap (λ (l : List CommittedTransaction). length (bytes_after selection s.strands.pool (reverse o.relations_sent.items) o.made.items l)) is in
          omega (
            arith,
            long,
            waits_some selection s.strands.pool (reverse o.relations_sent.items) o.made.items w ws,
            length-append o.front.items (frames_left o ++ held_behind selection s o),
            length-append (frames_left o) (held_behind selection s o),
          )

-- ---- moved into a slice

-- a part of a slice from there to its end
pub put_end : (count : ℕ) (xs ys : List ℕ) → put_mid count (length xs - count) xs ys ≡ take count xs ++ ys
put_end count xs ys =
    ap (λ (l : List ℕ). take count xs ++ (ys ++ l)) (drop_all (length xs - count) (drop count xs) (omega (arith, length-drop count xs)))
    ∙ ap (λ (l : List ℕ). take count xs ++ l) (append-nil ys)

-- So many bytes were moved into a slice: all that was at the front, where there is room left.
pub record Drained (selection : PublicationSet) (s : ReorderState) (o : Outgoing) (out : List ℕ) (s' : ReorderState) (o' : Outgoing) (out' : List ℕ) (count : ℕ) : Type 0 where
  pub low : count ≤ length out
  pub size : length out' ≡ length out
  pub held_low : count ≤ length (held_of selection s o)
  pub moved : take count out' ≡ take count (held_of selection s o)
  pub others : drop count out' ≡ drop count out
  pub moves : MovesOut selection count s s' o o'
  pub front : count < length out → o'.front.items ≡ []

pub drained_front : (selection : PublicationSet) (s : ReorderState) (o o' : Outgoing) (out out' : List ℕ) (count : ℕ) → IsOutgoing selection s o → length out' ≡ length out → count ≡ min (length out) (length o.front.items)
    → take count out' ≡ take count o.front.items → drop count out' ≡ drop count out → o'.front.items ≡ drop count o.front.items → o' ≡ record o { front = o'.front } → Drained selection s o out s o' out' count
drained_front selection s o o' out out' count good size is moved others rest same =
    let within : count ≤ length o.front.items = omega (arith, is) in
    record {
      low = omega (arith, is);
      size = size;
      held_low = omega (arith, is, front_low selection s o o' good);
      moved = moved ∙ sym (take-append-le count o.front.items (frames_left o ++ held_behind selection s o) within);
      others = others;
      moves = front_gone selection s o o' good count within rest same;
      front = λ some. rest ∙ drop_all count o.front.items (omega (arith, is, some));
    }

pub drained_same : (selection : PublicationSet) (s s' s'' : ReorderState) (o o' o'' : Outgoing) (out out' : List ℕ) (count : ℕ) → Drained selection s o out s' o' out' count → HoldsSame selection s' s'' o' o'' → o''.front ≡ o'.front
    → Drained selection s o out s'' o'' out' count
drained_same selection s s' s'' o o' o'' out out' count d same front = record {
  low = d.low;
  size = d.size;
  held_low = d.held_low;
  moved = d.moved;
  others = d.others;
  moves = moves_same selection count s s' s'' o o' o'' d.moves same;
  front = λ some. subst (λ f. f.items ≡ []) (sym front) (d.front some);
}

pub drained_more : (selection : PublicationSet) (s s' : ReorderState) (o o' o'' : Outgoing) (out out' part part' out'' : List ℕ) (count more : ℕ) → Drained selection s o out s' o' out' count → count < length out
    → part ≡ drop count out' → more ≡ min (length part) (o'.to - o'.from) → take more part' ≡ take more (frames_left o') → drop more part' ≡ drop more part → length part' ≡ length part
    → o'' ≡ record o' { from = o'.from + more } → out'' ≡ take count out' ++ part' → Drained selection s o out s' o'' out'' (count + more)
drained_more selection s s' o o' o'' out out' part part' out'' count more d some is_part is moved others size same is_out =
    let whole = held_of selection s o in
    let none : o'.front.items ≡ [] = d.front some in
    let left : length part ≡ length out' - count = ap (length {A = ℕ}) is_part ∙ length-drop count out' in
    let within : more ≤ o'.to - o'.from = omega (arith, is) in
    let short : more ≤ length part' = omega (arith, is, size) in
    let begun : length (take count out') ≡ count = length-take-le count out' (omega (arith, d.size, d.low)) in
    let rest : length (held_of selection s' o') ≡ length whole - count = ap (length {A = ℕ}) d.moves.held ∙ length-drop count whole in
    let seam : take (count + more) out'' ≡ take count out' ++ take more part' =
    ap (take (count + more)) is_out ∙ ap (λ (n : ℕ). take (n + more) (take count out' ++ part')) (sym begun) ∙ take-append-add (take count out') part' more in
    let behind : drop count out'' ≡ part' = ap (drop count) is_out ∙ drop_at (take count out') part' count begun in
    record {
      low = omega (arith, is, left, d.size, some);
      size = ap (length {A = ℕ}) is_out ∙ length-append (take count out') part' ∙ (let low = d.low in let sized = d.size in omega (arith, begun, size, left, low, sized));
      held_low = omega (arith, within, rest, frames_low selection s' o' o' d.moves.good none, d.held_low);
      moved =
          seam ∙ ap (λ (l : List ℕ). l ++ take more part') d.moved ∙ ap (λ (l : List ℕ). take count whole ++ l) (moved ∙ sym (frames_first selection s' o' o' d.moves.good more within none) ∙ ap (take more) d.moves.held)
          ∙ sym (take-add count more whole);
      others =
          sym (drop-drop more count out'') ∙ ap (drop more) behind ∙ others ∙ ap (drop more) (is_part ∙ d.others) ∙ drop-drop more count out;
      moves = moves_both selection count more s s' s' o o' o'' d.moves (frames_gone selection s' o' o'' d.moves.good more within none same);
      front = λ low. ap (λ (x : Outgoing). x.front.items) same ∙ none;
    }

-- nothing is left
pub drained_all : (selection : PublicationSet) (s s' : ReorderState) (o o' : Outgoing) (out out' : List ℕ) (count : ℕ) → Drained selection s o out s' o' out' count → count < length out → held_of selection s' o' ≡ o'.front.items
    → count ≡ min (length out) (length (held_of selection s o))
drained_all selection s s' o o' out out' count d some only =
    let whole = held_of selection s o in
    let none : length whole - count ≡ 0 = sym (length-drop count whole) ∙ ap (length {A = ℕ}) (sym d.moves.held ∙ only ∙ d.front some) in
    let low = d.held_low in
    omega (arith, none, low, some)

-- ---- written

-- So many bytes were written.
pub record Written (selection : PublicationSet) (s s' : ReorderState) (o o' : Outgoing) (known known' : Option (List ℕ)) : Type 0 where
  pub count : ℕ
  pub low : count ≤ length (held_of selection s o)
  pub moves : MovesOut selection count s s' o o'
  pub given : Appends known known' (take count (held_of selection s o))

pub written_front : (selection : PublicationSet) (s : ReorderState) (o o' : Outgoing) (known known' : Option (List ℕ)) (count : ℕ) → IsOutgoing selection s o → count ≤ length o.front.items → Appends known known' (take count o.front.items)
    → o'.front.items ≡ drop count o.front.items → o' ≡ record o { front = o'.front } → Written selection s s o o' known known'
written_front selection s o o' known known' count good low given rest same = record {
  count = count;
  low = omega (arith, low, front_low selection s o o' good);
  moves = front_gone selection s o o' good count low rest same;
  given = subst (Appends known known') (sym (take-append-le count o.front.items (frames_left o ++ held_behind selection s o) low)) given;
}

pub written_same : (selection : PublicationSet) (s s' s'' : ReorderState) (o o' o'' : Outgoing) (known known' : Option (List ℕ)) → Written selection s s' o o' known known' → HoldsSame selection s' s'' o' o'' → Written selection s s'' o o'' known known'
written_same selection s s' s'' o o' o'' known known' w same = record { count = w.count; low = w.low; moves = moves_same selection w.count s s' s'' o o' o'' w.moves same; given = w.given }

pub written_more : (selection : PublicationSet) (s s' : ReorderState) (o o' o'' : Outgoing) (known known' known'' : Option (List ℕ)) (more : ℕ) → Written selection s s' o o' known known' → o'.front.items ≡ [] → more ≤ length (frames_left o')
    → Appends known' known'' (take more (frames_left o')) → o'' ≡ record o' { from = o'.from + more } → Written selection s s' o o'' known known''
written_more selection s s' o o' o'' known known' known'' more w none low given same =
    let whole = held_of selection s o in
    let within : more ≤ o'.to - o'.from = omega (arith, low, length_left selection s' o' o' w.moves.good) in
    let rest : length (held_of selection s' o') ≡ length whole - w.count = ap (length {A = ℕ}) w.moves.held ∙ length-drop w.count whole in
    let first : take more (frames_left o') ≡ take more (drop w.count whole) = sym (frames_first selection s' o' o' w.moves.good more within none) ∙ ap (take more) w.moves.held in
    record {
      count = w.count + more;
      low = (let low = w.low in omega (arith, within, rest, frames_low selection s' o' o' w.moves.good none, low));
      moves = moves_both selection w.count more s s' s' o o' o'' w.moves (frames_gone selection s' o' o'' w.moves.good more within none same);
      given = subst (Appends known known'') (sym (take-add w.count more whole)) (Appends-trans known known' known'' _ _ w.given (subst (Appends known' known'') first given));
    }

-- ---- gathered

-- what is held after the front gets less where something waits
pub falls : (selection : PublicationSet) (s s' : ReorderState) (o o' : Outgoing) (b : Bool) → IsOutgoing selection s o → HoldsSame selection s s' o o' → 0 < length o.waiting.items
    → MatchBool b (length o.front.items < length o'.front.items) (held_of selection s' o' ≡ o'.front.items)
    → length (held_of selection s' o') - length o'.front.items < length (held_of selection s o) - length o.front.items
falls selection s s' o o' true good same some more =
    let low = after_waits selection s o o good some in
    let held = ap (length {A = ℕ}) same.held in
    let high = front_low selection s' o' o' same.good in
    omega (arith, low, held, high, more)
falls selection s s' o o' false good same some only =
    let low = after_waits selection s o o good some in
    let all = ap (length {A = ℕ}) only in
    omega (arith, low, all)

-- ---- what is held still

length_held : (selection : PublicationSet) (s : ReorderState) (o : Outgoing) → length (held_of selection s o) ≡ length o.front.items + (length (frames_left o) + length (held_behind selection s o))
length_held selection s o = length-append o.front.items (frames_left o ++ held_behind selection s o) ∙ ap (λ (n : ℕ). length o.front.items + n) (length-append (frames_left o) (held_behind selection s o))

pub front_held : (selection : PublicationSet) (s : ReorderState) (o : Outgoing) → 0 < length o.front.items → 0 < length (held_of selection s o)
front_held selection s o some = let size = length_held selection s o in omega (arith, size, some)

-- where not all that is left of the frames was taken
pub frames_held : (selection : PublicationSet) (s : ReorderState) (o : Outgoing) (n : ℕ) → n < length (frames_left o) → 0 < length (held_of selection s (record o { from = o.from + n }))
frames_held selection s o n some =
    let size = length_held selection s (record o { from = o.from + n }) in
    omega (arith, some, size, length-take (o.to - o.from) (drop o.from o.frames.items), length-drop o.from o.frames.items, length-take (o.to - (o.from + n)) (drop (o.from + n) o.frames.items), length-drop (o.from + n) o.frames.items)

-- where all of it was, and there was some
pub held_falls : (selection : PublicationSet) (s s' : ReorderState) (o o' : Outgoing) (n : ℕ) → HoldsSame selection s s' o o' → o'.from < o'.to → n ≡ length (frames_left o') → length (held_of selection s' (record o' { from = o'.from + n })) < length (held_of selection s o)
held_falls selection s s' o o' n same some all =
    let o'' : Outgoing = record o' { from = o'.from + n } in
    let before = length_held selection s' o' in
    let after = length_held selection s' o'' in
    let left : length (frames_left o'') ≡ 0 = (let low = length-take (o'.to - (o'.from + n)) (drop (o'.from + n) o'.frames.items) in let l = length_left selection s' o' o' same.good in omega (arith, low, l, all)) in
    let more : 0 < length (frames_left o') = (let l = length_left selection s' o' o' same.good in omega (arith, l, some)) in
    let held = ap (length {A = ℕ}) same.held in
    omega (arith, before, after, left, more, held)

-- where the front is all that is held, it is so without its first bytes
pub only_front : (selection : PublicationSet) (s : ReorderState) (o o' : Outgoing) (n : ℕ) → held_of selection s o ≡ o.front.items → frames_left o' ++ held_behind selection s o' ≡ frames_left o ++ held_behind selection s o → o'.front.items ≡ drop n o.front.items → held_of selection s o' ≡ drop n (held_of selection s o)
only_front selection s o o' n only rest is =
    let behind = frames_left o ++ held_behind selection s o in
    let size = length-append o.front.items behind in
    let all = ap (length {A = ℕ}) only in
    let none : behind ≡ [] = empty_is behind (omega (arith, size, all)) in
    ap (λ (l : List ℕ). l ++ (frames_left o' ++ held_behind selection s o')) is ∙ ap (λ (l : List ℕ). drop n o.front.items ++ l) (rest ∙ none) ∙ append-nil (drop n o.front.items) ∙ ap (drop n) (sym only)
