-- What a log publishes in its order, and what a stream of it gives.
use Rattle.std.proofs.Common.{◌≡◌, ℕ, ◌≤◌, max, List, [], ◌∷◌, ◌++◌, refl, sym, ap, subst, ◌∙◌, append_assoc, arith}
use Rattle.std.specs.List.{AllByRecursion}
use Rattle.std.proofs.lemmas.Bool.{le-leb}
use Rattle.pgoutput.specs.declared.messages.relation.Relation.{Relation}
use Rattle.pgoutput.specs.declared.published.Published.{Published}
use Rattle.pgoutput.specs.Items.{Block, Item, KeepaliveItem, transactions_of}
use Rattle.pgoutput.specs.Stream.{AreSafeKeepalives}
use Rattle.client.specs.Law.{Gained, IsForward, gained_transactions, position_after}
use Rattle.client.specs.Subscriber.{Subscriber}
use Rattle.follower.specs.Served.{AllBelow, AllFrom, InLogOrder}

-- ---- Transactions in order.

from_both : (p : ℕ) (ts us : List Published) → AllFrom p ts → AllFrom p us → AllFrom p (ts ++ us)
from_both p [] us first second = second
from_both p (t ∷ ts) us first second = (first.0, from_both p ts us first.1 second)

pub all_first : {A : Type 0} (P : A → Type 0) (xs ys : List A) → AllByRecursion P (xs ++ ys) → AllByRecursion P xs
all_first P [] ys all = tt
all_first P (x ∷ xs) ys all = (all.0, all_first P xs ys all.1)

pub from_second : (p : ℕ) (ts us : List Published) → AllFrom p (ts ++ us) → AllFrom p us
from_second p [] us all = all
from_second p (t ∷ ts) us all = from_second p ts us all.1

below_both : (p : ℕ) (ts us : List Published) → AllBelow p ts → AllBelow p us → AllBelow p (ts ++ us)
below_both p [] us first second = second
below_both p (t ∷ ts) us first second = (first.0, below_both p ts us first.1 second)

pub below_higher : (p q : ℕ) (ts : List Published) → p ≤ q → AllBelow p ts → AllBelow q ts
below_higher p q [] le all = tt
below_higher p q (t ∷ ts) le all = (omega (arith, le, all.0), below_higher p q ts le all.1)

-- what starts at two places or later does so at the greater
pub from_greater : (p q place : ℕ) (ts : List Published) → place ≤ max p q → AllFrom p ts → AllFrom q ts → AllFrom place ts
from_greater p q place [] le first second = tt
from_greater p q place (t ∷ ts) le first second = (omega (arith, le, first.0, second.0), from_greater p q place ts le first.1 second.1)

pub order_from : (from : ℕ) (ts : List Published) → InLogOrder from ts → AllFrom from ts
order_from from [] order = tt
order_from from (t ∷ ts) order =
    let rest = order_from t.end ts order.2 in
    (order.0, from_greater t.end t.end from ts (omega (arith, order.0, order.1)) rest rest)

pub order_at : (p from : ℕ) (ts : List Published) → InLogOrder from ts → AllFrom p ts → InLogOrder p ts
order_at p from [] order all = tt
order_at p from (t ∷ ts) order all = (all.0, order.1, order.2)

pub order_behind : (p from : ℕ) (ts us : List Published) → InLogOrder from (ts ++ us) → AllFrom p us → InLogOrder p us
order_behind p from [] us order all = order_at p from us order all
order_behind p from (t ∷ ts) us order all = order_behind p t.end ts us order.2 all

pub all_forward : (from : ℕ) (ts us : List Published) → InLogOrder from (ts ++ us) → AllByRecursion IsForward ts
all_forward from [] us order = tt
all_forward from (t ∷ ts) us order = (λ _. order.1, all_forward t.end ts us order.2)

-- A place parts a list in one way.
pub same_rest : (p : ℕ) (ts us vs ws : List Published) → ts ++ us ≡ vs ++ ws → AllBelow p ts → AllFrom p us → AllBelow p vs → AllFrom p ws → us ≡ ws
same_rest p [] us [] ws e below_t from_u below_v from_w = e
same_rest p [] [] (v ∷ vs) ws e below_t from_u below_v from_w = absurd cc
same_rest p [] (u ∷ us) (v ∷ vs) ws e below_t from_u below_v from_w =
    let same : u ≡ v = cc in
    absurd (omega (arith, from_u.0, below_v.0, ap (λ (t : Published). t.start) same))
same_rest p (t ∷ ts) us [] [] e below_t from_u below_v from_w = absurd cc
same_rest p (t ∷ ts) us [] (w ∷ ws) e below_t from_u below_v from_w =
    let same : t ≡ w = cc in
    absurd (omega (arith, from_w.0, below_t.0, ap (λ (t : Published). t.start) same))
same_rest p (t ∷ ts) us (v ∷ vs) ws e below_t from_u below_v from_w =
    let rest : ts ++ us ≡ vs ++ ws = cc in
    same_rest p ts us vs ws rest below_t.1 from_u below_v.1 from_w

-- ---- What a stream gives.

sent_both : (a b : List Item) → transactions_of (a ++ b) ≡ transactions_of a ++ transactions_of b
sent_both [] b = refl
sent_both (KeepaliveItem k ∷ a) b = sent_both a b
sent_both (Block clock t ∷ a) b = ap (λ (l : List Published). t ∷ l) (sent_both a b)

position_grows : (p : ℕ) (items : List Item) → p ≤ position_after p items
position_grows p [] = omega arith
position_grows p (KeepaliveItem k ∷ items) = omega (arith, position_grows (max p k.position) items)
position_grows p (Block clock t ∷ items) = omega (arith, position_grows (max p t.end) items)

-- Of items in order from a position on all are gained, and the new position parts them from what is to come.
record AreGained (p : ℕ) (done others : List Item) (unsent : List Published) : Type 0 where
  all : gained_transactions p done ≡ transactions_of done
  below : AllBelow (position_after p done) (transactions_of done)
  ahead : AllFrom (position_after p done) (transactions_of others ++ unsent)

all_gained : (limit p : ℕ) (done others : List Item) (unsent : List Published) → InLogOrder p (transactions_of (done ++ others) ++ unsent) → AllFrom limit unsent → AreSafeKeepalives limit (done ++ others) → AreGained p done others unsent
all_gained limit p [] others unsent order later safe = record { all = refl; below = tt; ahead = order_from p (transactions_of others ++ unsent) order }
all_gained limit p (KeepaliveItem k ∷ done) others unsent order later safe =
    let rest = transactions_of (done ++ others) ++ unsent in
    let told = from_both k.position (transactions_of (done ++ others)) unsent safe.1 (from_greater limit limit k.position unsent (omega (arith, safe.0)) later later) in
    let q = max p k.position in
    let next = all_gained limit q done others unsent (order_at q p rest order (from_greater p k.position q rest (omega arith) (order_from p rest order) told)) later safe.2 in
    record { all = next.all; below = next.below; ahead = next.ahead }
all_gained limit p (Block clock t ∷ done) others unsent order later safe =
    let rest = transactions_of (done ++ others) ++ unsent in
    let q = max p t.end in
    let behind = order_from t.end rest order.2 in
    let next = all_gained limit q done others unsent (order_at q t.end rest order.2 (from_greater t.end t.end q rest (omega (arith, order.0, order.1)) behind behind)) later safe in
    record {
      all = rw (le-leb p t.start order.0) (ap (λ (l : List Published). t ∷ l) next.all);
      below = (omega (arith, order.1, position_grows q done), next.below);
      ahead = next.ahead;
    }

-- A subscriber has a beginning of what is published, and its position parts that from what is to come.
pub record IsParted (published : List Published) (s : Subscriber) : Type 0 where
  pub later : List Published
  pub is : published ≡ s.applied ++ later
  pub below : AllBelow s.position s.applied
  pub ahead : AllFrom s.position later

-- a connection that began at a subscriber, and the stream on it
pub record IsStreamTo (published : List Published) (items : List Item) (base : Subscriber) : Type 0 where
  pub limit : ℕ
  pub unsent : List Published
  pub parts : published ≡ base.applied ++ (transactions_of items ++ unsent)
  pub below : AllBelow base.position base.applied
  pub order : InLogOrder base.position (transactions_of items ++ unsent)
  pub unsent_from : AllFrom limit unsent
  pub safe : AreSafeKeepalives limit items

pub parted_by : (published : List Published) (relation : ℕ → Relation) (items : List Item) (base new : Subscriber) (bytes : List ℕ) → IsStreamTo published items base → Gained relation base bytes items new → IsParted published new
parted_by published relation items base new bytes stream gains =
    let p = position_after base.position gains.done in
    let all = all_gained stream.limit base.position gains.done gains.others stream.unsent (subst (λ (l : List Item). InLogOrder base.position (transactions_of l ++ stream.unsent)) gains.is stream.order) stream.unsent_from
    (subst (AreSafeKeepalives stream.limit) gains.is stream.safe) in
    let applied : new.applied ≡ base.applied ++ transactions_of gains.done = gains.applied ∙ ap (λ (l : List Published). base.applied ++ l) all.all in
    let sent : transactions_of items ≡ transactions_of gains.done ++ transactions_of gains.others = ap transactions_of gains.is ∙ sent_both gains.done gains.others in
    let later = transactions_of gains.others ++ stream.unsent in
    let below : AllBelow p (base.applied ++ transactions_of gains.done) =
    below_both p base.applied (transactions_of gains.done) (below_higher base.position p base.applied (position_grows base.position gains.done) stream.below) all.below in
    record {
      later = later;
      is = stream.parts ∙ ap (λ (l : List Published). base.applied ++ (l ++ stream.unsent)) sent ∙ ap (λ (l : List Published). base.applied ++ l) (append_assoc (transactions_of gains.done) (transactions_of gains.others) stream.unsent)
          ∙ sym (append_assoc base.applied (transactions_of gains.done) later) ∙ ap (λ (l : List Published). l ++ later) (sym applied);
      below = subst (λ (q : ℕ). AllBelow q new.applied) (sym gains.position) (subst (AllBelow p) (sym applied) below);
      ahead = subst (λ (q : ℕ). AllFrom q later) (sym gains.position) all.ahead;
    }
