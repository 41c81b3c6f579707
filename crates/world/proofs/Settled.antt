-- A subscriber that follows a stream has applied exactly what is published below its position, wherever it stood as the stream began.
use Rattle.std.proofs.Common.{◌≡◌, ◌≤◌, ◌<◌, ℕ, max, Bool, true, false, cond, List, [], ◌∷◌, ◌++◌, refl, sym, ap, subst, ◌∙◌, append_assoc, arith}
use Rattle.std.specs.Prelude.{not, nat_le}
use Rattle.std.specs.List.{AllByRecursion}
use Rattle.std.proofs.lemmas.Bool.{le-leb, leb-true, lt-leb}
use Rattle.std.proofs.lemmas.Bool.Decides.{nat_tests}
use Rattle.std.proofs.lemmas.List.{append-nil}
use Rattle.wal.specs.declared.record.TheConstants.{FIRST_POSITION}
use Rattle.wal.specs.declared.record.Record.{Record}
use Rattle.wal.specs.Log.{IsSized, IsWellFormedLog, end_of}
use Rattle.wal.proofs.Laws.{all_when, end_of-append}
use Rattle.publication.specs.Publications.{PublicationSet}
use Rattle.publication.specs.Selection.{relation}
use Rattle.pgoutput.specs.declared.published.Published.{Published}
use Rattle.pgoutput.specs.Items.{Block, Item, KeepaliveItem, transactions_of}
use Rattle.pgoutput.specs.Stream.{AreSafeKeepalives}
use Rattle.pgoutput.proofs.Lists.{all_of_both}
use Rattle.walsender.specs.Published.{published_from, published_transactions}
use Rattle.walsender.proofs.Batches.{published_from-append}
use Rattle.walsender.proofs.Sections.{all_back, all_front, follows_parts, starts_below}
use Rattle.client.specs.Subscriber.{Subscriber}
use Rattle.client.specs.Law.{AreForward, Gained, IsForward, gained_transactions, position_after}
use Rattle.world.specs.Acting.{read_by}
use Rattle.world.proofs.Orders.{InOrder, all_below, all_from, below, below-append, in_order, in_order_after, in_order_within, late_all, late_part, none_below, parted}

-- ---- Items one by one.

raised_all : (p q : ℕ) (ts : List Published) → p ≤ q → AllByRecursion (λ (t : Published). t.start < p) ts → AllByRecursion (λ (t : Published). t.start < q) ts
raised_all p q ts le all = all_when (λ (t : Published). t.start < p) (λ (t : Published). t.start < q) (λ t lt. omega (arith, lt, le)) ts all

-- a position that is raised to where all of them start or earlier has no more of them below it
raised_same : (p q : ℕ) (ts : List Published) → AllByRecursion (λ (t : Published). q ≤ t.start) ts → below (max p q) ts ≡ below p ts
raised_same p q [] all = refl
raised_same p q (t ∷ ts) all = by_test (nat_le p t.start) refl (raised_same p q ts all.1)
  where
    by_test : (b : Bool) → nat_le p t.start ≡ b → below (max p q) ts ≡ below p ts → cond (not (nat_le (max p q) t.start)) (t ∷ below (max p q) ts) (below (max p q) ts) ≡ cond (not b) (t ∷ below p ts) (below p ts)
    by_test true is rest = rw (le-leb (max p q) t.start (omega (arith, leb-true p t.start is, all.0))) rest
    by_test false is rest =
        let less : t.start < p = grind (arith, nat_tests, is) in
        rw (lt-leb (max p q) t.start (omega (arith, less))) (ap (λ l. t ∷ l) rest)

-- a block: below its end stands its transaction too, which is gained unless it stood below already
block_kept : (p : ℕ) (early : List Published) (t : Published) (behind : List Published) → AllByRecursion (λ (u : Published). u.start < p) early → t.start < t.end → AllByRecursion (λ (u : Published). t.end ≤ u.start) behind
    → below (max p t.end) (early ++ t ∷ behind) ≡ below p (early ++ t ∷ behind) ++ cond (nat_le p t.start) (t ∷ []) []
block_kept p early t behind all lt later =
    below-append (max p t.end) early (t ∷ behind)
    ∙ ap (λ l. l ++ below (max p t.end) (t ∷ behind)) (all_below (max p t.end) early (raised_all p (max p t.end) early (omega arith) all))
    ∙ ap (λ l. early ++ l) (rw (lt-leb (max p t.end) t.start (omega (arith, lt))) (ap (λ l. t ∷ l) (raised_same p t.end behind later)))
    ∙ by_test (nat_le p t.start) refl
    ∙ ap (λ l. l ++ cond (nat_le p t.start) (t ∷ []) []) (sym (below-append p early (t ∷ behind) ∙ ap (λ l. l ++ below p (t ∷ behind)) (all_below p early all)))
  where
    by_test : (b : Bool) → nat_le p t.start ≡ b → early ++ t ∷ below p behind ≡ (early ++ below p (t ∷ behind)) ++ cond (nat_le p t.start) (t ∷ []) []
    by_test true is =
        let none : below p behind ≡ [] = none_below p behind (all_when (λ (u : Published). t.end ≤ u.start) (λ (u : Published). p ≤ u.start) (λ u le. omega (arith, le, lt, leb-true p t.start is)) behind later) in
        rw (is, none) (ap (λ l. l ++ t ∷ []) (sym (append-nil early)))
    by_test false is = rw is (sym (append-nil (early ++ t ∷ below p behind)))

pub followed : (limit from to p : ℕ) (early : List Published) (done others : List Item) (later : List Published) → AllByRecursion (λ (t : Published). t.start < p) early
    → InOrder from to (transactions_of (done ++ others) ++ later) → AllByRecursion (λ (t : Published). limit ≤ t.start) later → AreSafeKeepalives limit (done ++ others)
    → below (position_after p done) (early ++ (transactions_of (done ++ others) ++ later)) ≡ below p (early ++ (transactions_of (done ++ others) ++ later)) ++ gained_transactions p done
followed limit from to p early [] others later all order behind safe = sym (append-nil (below p (early ++ (transactions_of others ++ later))))
followed limit from to p early (KeepaliveItem k ∷ done) others later all order behind safe =
    let rest = transactions_of (done ++ others) ++ later in
    let lates : AllByRecursion (λ (t : Published). k.position ≤ t.start) rest =
    all_of_both (λ (t : Published). k.position ≤ t.start) (transactions_of (done ++ others)) later safe.1
    (all_when (λ (t : Published). limit ≤ t.start) (λ (t : Published). k.position ≤ t.start) (λ t le. omega (arith, le, safe.0)) later behind) in
    let higher = raised_all p (max p k.position) early (omega arith) all in
    let same : below (max p k.position) (early ++ rest) ≡ below p (early ++ rest) =
    below-append (max p k.position) early rest ∙ ap (λ l. l ++ below (max p k.position) rest) (all_below (max p k.position) early higher ∙ sym (all_below p early all))
    ∙ ap (λ l. below p early ++ l) (raised_same p k.position rest lates) ∙ sym (below-append p early rest) in
    followed limit from to (max p k.position) early done others later higher order behind safe.2 ∙ ap (λ l. l ++ gained_transactions (max p k.position) done) same
followed limit from to p early (Block clock t ∷ done) others later all order behind safe =
    let rest = transactions_of (done ++ others) ++ later in
    let q = max p t.end in
    let more = early ++ t ∷ [] in
    let assoc : more ++ rest ≡ early ++ t ∷ rest = append_assoc early (t ∷ []) rest in
    let higher : AllByRecursion (λ (u : Published). u.start < q) more = all_of_both (λ (u : Published). u.start < q) early (t ∷ []) (raised_all p q early (omega arith) all) (omega (arith, order.1), tt) in
    ap (below (position_after q done)) (sym assoc)
    ∙ followed limit t.end to q more done others later higher order.2 behind safe
    ∙ ap (λ l. below q l ++ gained_transactions q done) assoc
    ∙ ap (λ l. l ++ gained_transactions q done) (block_kept p early t rest all order.1 (all_from t.end to rest order.2))
    ∙ append_assoc (below p (early ++ t ∷ rest)) (cond (nat_le p t.start) (t ∷ []) []) (gained_transactions q done)

-- the position stays within what was read
position_within : (limit from to p : ℕ) (done others : List Item) → p ≤ to → limit ≤ to → AreSafeKeepalives limit (done ++ others) → InOrder from to (transactions_of (done ++ others)) → position_after p done ≤ to
position_within limit from to p [] others le within safe order = le
position_within limit from to p (KeepaliveItem k ∷ done) others le within safe order = position_within limit from to (max p k.position) done others (omega (arith, le, within, safe.0)) within safe.2 order
position_within limit from to p (Block clock t ∷ done) others le within safe order =
    position_within limit t.end to (max p t.end) done others (omega (arith, le, in_order_within t.end to (transactions_of (done ++ others)) order.2)) within safe order.2

-- ---- A log, and a part of it that was read.

-- of what is published from a position on it has applied what commits below its own, and it stands no further than the log
pub record IsSettled (log : List Record) (from : ℕ) (selection : PublicationSet) (s : Subscriber) : Type 0 where
  pub within : s.position ≤ end_of FIRST_POSITION log
  pub applied : s.applied ≡ below s.position (published_transactions selection log from)

end_later : (log more : List Record) → IsWellFormedLog (log ++ more) → end_of FIRST_POSITION log ≤ end_of FIRST_POSITION (log ++ more)
end_later log more good =
    let parts = follows_parts FIRST_POSITION log more good.follows in
    let rest = starts_below (end_of FIRST_POSITION log) more parts.1 (all_back IsSized log more good.sizes) in
    omega (arith, end_of-append FIRST_POSITION log more, rest.0)

-- what is published of the records after a log, in order
after_log : (selection : PublicationSet) (from : ℕ) (log more : List Record) → IsWellFormedLog (log ++ more) → InOrder (end_of FIRST_POSITION log) (end_of FIRST_POSITION (log ++ more)) (published_from selection from log more)
after_log selection from log more good =
    let parts = follows_parts FIRST_POSITION log more good.follows in
    let Ends : ℕ → Type 0 = λ n. InOrder (end_of FIRST_POSITION log) n (published_from selection from log more) in
    subst Ends (sym (end_of-append FIRST_POSITION log more)) (in_order selection from (end_of FIRST_POSITION log) log more parts.1 (all_back IsSized log more good.sizes))

-- a subscriber at 0 that has applied nothing
pub all_from_zero : (ts : List Published) → AllByRecursion (λ (t : Published). 0 ≤ t.start) ts
all_from_zero [] = tt
all_from_zero (t ∷ ts) = (omega arith, all_from_zero ts)

pub settled_new : (log : List Record) (from : ℕ) (selection : PublicationSet) (s : Subscriber) → s.position ≡ 0 → s.applied ≡ [] → IsSettled log from selection s
settled_new log from selection s at none = record {
  within = omega (arith, at);
  applied = none ∙ sym (ap (λ (p : ℕ). below p (published_transactions selection log from)) at ∙ none_below 0 (published_transactions selection log from) (all_from_zero (published_transactions selection log from)));
}

-- what was read is the front of the log
read_front : (p : ℕ) (log : List Record) → (rest : List Record) × (log ≡ read_by p log ++ rest)
read_front p [] = ([], refl)
read_front p (r ∷ log) = by_test (nat_le r.end p) (read_front p log)
  where
    by_test : (b : Bool) → (rest : List Record) × (log ≡ read_by p log ++ rest) → (rest : List Record) × (r ∷ log ≡ cond b (r ∷ read_by p log) [] ++ rest)
    by_test true more = (more.0, ap (λ l. r ∷ l) more.1)
    by_test false more = (r ∷ log, refl)

-- what is published before a start position is below one that the start doesn't pass
early_below : (from start p : ℕ) (ts : List Published) → start ≤ max from p → AllByRecursion (λ (t : Published). from ≤ t.start) ts → AllByRecursion (λ (t : Published). t.start < p) (below start ts)
early_below from start p [] le all = tt
early_below from start p (t ∷ ts) le all = by_test (nat_le start t.start) refl (early_below from start p ts le all.1)
  where
    by_test : (b : Bool) → nat_le start t.start ≡ b → AllByRecursion (λ (u : Published). u.start < p) (below start ts) → AllByRecursion (λ (u : Published). u.start < p) (cond (not b) (t ∷ below start ts) (below start ts))
    by_test true is rest = rest
    by_test false is rest = let less : t.start < start = grind (arith, nat_tests, is) in (omega (arith, less, le, all.0), rest)

published_after : (selection : PublicationSet) (from : ℕ) (log : List Record) → AllByRecursion (λ (t : Published). from ≤ t.start) (published_transactions selection log from)
published_after selection from log = let All : List Published → Type 0 = λ ts. AllByRecursion (λ (t : Published). from ≤ t.start) ts in subst All (late_part selection from from [] log (omega arith)) (late_all from (published_transactions selection log from))

-- What a stream's items are, of a part of the log that ends at the position.
pub record IsReadTo (log : List Record) (selection : PublicationSet) (start position : ℕ) (items : List Item) : Type 0 where
  pub at : position ≡ end_of FIRST_POSITION (read_by position log)
  pub sends : transactions_of items ≡ published_transactions selection (read_by position log) start
  pub safe : AreSafeKeepalives position items

-- What a log publishes ends past where it starts.
all_forward : (from to : ℕ) (ts : List Published) → InOrder from to ts → AllByRecursion IsForward ts
all_forward from to [] order = tt
all_forward from to (t ∷ ts) order = (λ _. order.1, all_forward t.end to ts order.2)

pub items_forward : (selection : PublicationSet) (log : List Record) (start position : ℕ) (items : List Item) → IsWellFormedLog log → transactions_of items ≡ published_transactions selection (read_by position log) start → AreForward items
items_forward selection log start position items good sends =
    let front = read_by position log in
    let rest = (read_front position log).0 in
    let whole : IsWellFormedLog (front ++ rest) = subst IsWellFormedLog (read_front position log).1 good in
    let goes = follows_parts FIRST_POSITION front rest whole.follows in
    subst (AllByRecursion IsForward) (sym sends)
    (all_forward FIRST_POSITION (end_of FIRST_POSITION front) (published_transactions selection front start) (in_order selection start FIRST_POSITION [] front goes.0 (all_front IsSized front rest whole.sizes)))

-- A subscriber that was settled where the stream begins, or further, is settled by what it gains of the stream.
pub settled_by : (selection : PublicationSet) (log : List Record) (from start position : ℕ) (base new : Subscriber) (bytes : List ℕ) (items : List Item) → IsWellFormedLog log → IsSettled log from selection base → from ≤ start → start ≤ max from base.position
    → IsReadTo log selection start position items → Gained (relation selection) base bytes items new → IsSettled log from selection new
settled_by selection log from start position base new bytes items good settled later asked read gains =
    let front = read_by position log in
    let rest = (read_front position log).0 in
    let parts : log ≡ front ++ rest = (read_front position log).1 in
    let whole : IsWellFormedLog (front ++ rest) = subst IsWellFormedLog parts good in
    let goes = follows_parts FIRST_POSITION front rest whole.follows in
    let early = below start (published_transactions selection front from) in
    let behind = published_from selection from front rest in
    let sent : transactions_of (gains.done ++ gains.others) ≡ published_transactions selection front start = ap transactions_of (sym gains.is) ∙ read.sends in
    let all : published_transactions selection log from ≡ early ++ (transactions_of (gains.done ++ gains.others) ++ behind) =
    ap (λ l. published_transactions selection l from) parts ∙ published_from-append selection from [] front rest
    ∙ ap (λ l. l ++ behind) (parted start FIRST_POSITION (end_of FIRST_POSITION front) (published_transactions selection front from) (in_order selection from FIRST_POSITION [] front goes.0 (all_front IsSized front rest whole.sizes))
    ∙ ap (λ l. early ++ l) (late_part selection from start [] front later ∙ sym sent))
    ∙ append_assoc early (transactions_of (gains.done ++ gains.others)) behind in
    let order_front : InOrder FIRST_POSITION (end_of FIRST_POSITION front) (transactions_of (gains.done ++ gains.others)) =
    (let Order : List Published → Type 0 = λ ts. InOrder FIRST_POSITION (end_of FIRST_POSITION front) ts in subst Order (sym sent) (in_order selection start FIRST_POSITION [] front goes.0 (all_front IsSized front rest whole.sizes))) in
    let order_after = after_log selection from front rest whole in
    let order = in_order_after FIRST_POSITION (end_of FIRST_POSITION front) (end_of FIRST_POSITION (front ++ rest)) (transactions_of (gains.done ++ gains.others)) behind order_front order_after in
    let lates : AllByRecursion (λ (t : Published). position ≤ t.start) behind =
    (let Late : ℕ → Type 0 = λ n. AllByRecursion (λ (t : Published). n ≤ t.start) behind in subst Late (sym read.at) (all_from (end_of FIRST_POSITION front) (end_of FIRST_POSITION (front ++ rest)) behind order_after)) in
    let safe : AreSafeKeepalives position (gains.done ++ gains.others) = subst (AreSafeKeepalives position) gains.is read.safe in
    let grows = followed position FIRST_POSITION (end_of FIRST_POSITION (front ++ rest)) base.position early gains.done gains.others behind
    (early_below from start base.position (published_transactions selection front from) asked (published_after selection from front)) order lates safe in
    let end = end_later front rest whole in
    let last : end_of FIRST_POSITION (front ++ rest) ≡ end_of FIRST_POSITION log = ap (end_of FIRST_POSITION) (sym parts) in
    let within = position_within position FIRST_POSITION (end_of FIRST_POSITION log) base.position gains.done gains.others settled.within (omega (arith, read.at, end, last)) safe
    (let Wide : ℕ → Type 0 = λ n. InOrder FIRST_POSITION n (transactions_of (gains.done ++ gains.others)) in wider FIRST_POSITION (end_of FIRST_POSITION front) (end_of FIRST_POSITION log) (transactions_of (gains.done ++ gains.others)) (omega (arith, end, last)) order_front) in
    record {
      within = omega (arith, gains.position, within);
      applied = gains.applied ∙ ap (λ l. l ++ gained_transactions base.position gains.done) (settled.applied ∙ ap (below base.position) all) ∙ sym grows ∙ ap (below (position_after base.position gains.done)) (sym all)
          ∙ ap (λ (p : ℕ). below p (published_transactions selection log from)) (sym gains.position);
    }
  where
    wider : (at to further : ℕ) (ts : List Published) → to ≤ further → InOrder at to ts → InOrder at further ts
    wider at to further [] le order = omega (arith, le, order)
    wider at to further (t ∷ ts) le order = (order.0, order.1, wider t.end to further ts le order.2)
