-- What is read of a list with commas, item by item.
use Rattle.std.proofs.Common.{◌≡◌, ℕ, zero, suc, ◌≤◌, ◌<◌, Bool, true, false, cond, List, [], ◌∷◌, ◌++◌, length, Result, Ok, Err, refl, sym, ap, subst, ◌∙◌, append_assoc, arith}
use Rattle.replcmd.specs.declared.fault.CmdFault.{CmdFault}
use Rattle.replcmd.specs.declared.fault.CmdFault.TheVariants.{Syntax, BadName, BadPosition, Unsupported, BadOption, Memory}
use Rattle.replcmd.specs.Reading.{◌>>=◌, separated_items, Fails}

abbrev pub found : {X S : Type 0} → X → S → Result (X × S) CmdFault
found x s = Ok (x, s)

abbrev two : {X S : Type 0} → X → S → X × S
two x s = (x, s)

pub same_found : {X S : Type 0} (a : X) (b : S) (c : X) (d : S) → found a b ≡ found c d → (a ≡ c) × (b ≡ d)
same_found {X} {S} a b c d e =
    let both : two a b ≡ two c d = cc in
    (ap (λ (x : X × S). x.0) both, ap (λ (x : X × S). x.1) both)

pub bind_ok : {A B : Type 0} (r : Result A CmdFault) (f : A → Result B CmdFault) (y : B) → (r >>= f) ≡ Ok y → (x : A) × (r ≡ Ok x) × (f x ≡ Ok y)
bind_ok (Ok x) f y e = (x, refl, e)
bind_ok (Err d) f y e = absurd cc

-- a fault stays one, whatever follows
pub fails_on : {A B : Type 0} (e : CmdFault) (r : Result A CmdFault) (f : A → Result B CmdFault) → Fails e r → Fails e (r >>= f)
fails_on Memory r f is = tt
fails_on Syntax r f is = rw is refl
fails_on BadName r f is = rw is refl
fails_on BadPosition r f is = rw is refl
fails_on Unsupported r f is = rw is refl
fails_on (BadOption option) r f is = rw is refl

-- ---- a loop that reads items

abbrev pub with_front : {X S : Type 0} → List X → Result (List X × S) CmdFault → Result (List X × S) CmdFault
with_front front r = r >>= λ x. Ok (front ++ x.0, x.1)

module _ {X Y : Type 0} (item : List Y → Result (X × List Y) CmdFault) (more : List Y → Result (Bool × List Y) CmdFault) where
  -- an item takes from its text, and so does a comma
  pub record Shortens : Type 0 where
    pub by_item : (s : List Y) (x : X) (mid : List Y) → item s ≡ found x mid → length mid ≤ length s
    pub by_more : (s next : List Y) → more s ≡ found true next → length next < length s

  -- these items were read, and the rest of the text completes the whole
  pub record Going (front : List X) (s : List Y) (whole : Result (List X × List Y) CmdFault) : Type 0 where
    pub steps : ℕ
    pub enough : length s < steps
    pub so_far : with_front front (separated_items item more steps s) ≡ whole

  step_so : (front : List X) (x : X) (r : Result (List X × List Y) CmdFault)
      → with_front front (r >>= λ others. found (x ∷ others.0) others.1) ≡ with_front (front ++ (x ∷ [])) r
  step_so front x (Ok y) = ap (λ (l : List X). found l y.1) (sym (append_assoc front (x ∷ []) y.0))
  step_so front x (Err e) = refl

  pub goes_on : Shortens → (front : List X) (s : List Y) (whole : Result (List X × List Y) CmdFault) (x : X) (mid next : List Y) → Going front s whole
      → item s ≡ found x mid → more mid ≡ found true next → Going (front ++ (x ∷ [])) next whole
  unfolding separated_items
  goes_on short front s whole x mid next going read comma = by_steps going.steps going.enough going.so_far
    where
      by_steps : (n : ℕ) → length s < n → with_front front (separated_items item more n s) ≡ whole → Going (front ++ (x ∷ [])) next whole
      by_steps zero lt e = absurd (omega arith)
      by_steps (suc n) lt e =
          let first = short.by_item s x mid read in
          let second = short.by_more mid next comma in
          let step : with_front front (separated_items item more (suc n) s) ≡ with_front (front ++ (x ∷ [])) (separated_items item more n next) =
          rw (read, comma) (step_so front x (separated_items item more n next)) in
          record { steps = n; enough = omega arith; so_far = sym step ∙ e }

  pub is_done : (front : List X) (s : List Y) (whole : Result (List X × List Y) CmdFault) (x : X) (mid rest : List Y) → Going front s whole
      → item s ≡ found x mid → more mid ≡ found false rest → whole ≡ found (front ++ (x ∷ [])) rest
  unfolding separated_items
  is_done front s whole x mid rest going read close = by_steps going.steps going.enough going.so_far
    where
      by_steps : (n : ℕ) → length s < n → with_front front (separated_items item more n s) ≡ whole → whole ≡ found (front ++ (x ∷ [])) rest
      by_steps zero lt e = absurd (omega arith)
      by_steps (suc n) lt e =
          let step : with_front front (separated_items item more (suc n) s) ≡ found (front ++ (x ∷ [])) rest = rw (read, close) refl in
          sym e ∙ step

  pub item_fails : (front : List X) (s : List Y) (whole : Result (List X × List Y) CmdFault) (d : CmdFault) → Going front s whole → item s ≡ Err d → whole ≡ Err d
  unfolding separated_items
  item_fails front s whole d going read = by_steps going.steps going.enough going.so_far
    where
      by_steps : (n : ℕ) → length s < n → with_front front (separated_items item more n s) ≡ whole → whole ≡ Err d
      by_steps zero lt e = absurd (omega arith)
      by_steps (suc n) lt e =
          let step : with_front front (separated_items item more (suc n) s) ≡ Err d = rw read refl in
          sym e ∙ step

  pub more_fails : (front : List X) (s : List Y) (whole : Result (List X × List Y) CmdFault) (x : X) (mid : List Y) (d : CmdFault) → Going front s whole
      → item s ≡ found x mid → more mid ≡ Err d → whole ≡ Err d
  unfolding separated_items
  more_fails front s whole x mid d going read neither = by_steps going.steps going.enough going.so_far
    where
      by_steps : (n : ℕ) → length s < n → with_front front (separated_items item more n s) ≡ whole → whole ≡ Err d
      by_steps zero lt e = absurd (omega arith)
      by_steps (suc n) lt e =
          let step : with_front front (separated_items item more (suc n) s) ≡ Err d = rw (read, neither) refl in
          sym e ∙ step

  pub item_stops : (front : List X) (s : List Y) (whole : Result (List X × List Y) CmdFault) (d : CmdFault) → Going front s whole → Fails d (item s) → Fails d whole
  item_stops front s whole Memory going is = tt
  item_stops front s whole Syntax going is = item_fails front s whole Syntax going is
  item_stops front s whole BadName going is = item_fails front s whole BadName going is
  item_stops front s whole BadPosition going is = item_fails front s whole BadPosition going is
  item_stops front s whole Unsupported going is = item_fails front s whole Unsupported going is
  item_stops front s whole (BadOption option) going is = item_fails front s whole (BadOption option) going is

  pub more_stops : (front : List X) (s : List Y) (whole : Result (List X × List Y) CmdFault) (x : X) (mid : List Y) (d : CmdFault) → Going front s whole
      → item s ≡ found x mid → Fails d (more mid) → Fails d whole
  more_stops front s whole x mid Memory going read is = tt
  more_stops front s whole x mid Syntax going read is = more_fails front s whole x mid Syntax going read is
  more_stops front s whole x mid BadName going read is = more_fails front s whole x mid BadName going read is
  more_stops front s whole x mid BadPosition going read is = more_fails front s whole x mid BadPosition going read is
  more_stops front s whole x mid Unsupported going read is = more_fails front s whole x mid Unsupported going read is
  more_stops front s whole x mid (BadOption option) going read is = more_fails front s whole x mid (BadOption option) going read is

  start_so : (r : Result (List X × List Y) CmdFault) → with_front [] r ≡ r
  start_so (Ok x) = refl
  start_so (Err e) = refl

  pub starts : (s : List Y) → Going [] s (separated_items item more (suc (length s)) s)
  starts s = record { steps = suc (length s); enough = omega arith; so_far = start_so (separated_items item more (suc (length s)) s) }

  -- ---- the items as a relation

  abbrev pub Lists : List Y → List X → List Y → Type 0
  Lists s [] rest = ⊥
  Lists s (x ∷ []) rest = (mid : List Y) × (item s ≡ found x mid) × (more mid ≡ found false rest)
  Lists s (x ∷ y ∷ xs) rest = (mid : List Y) × (next : List Y) × (item s ≡ found x mid) × (more mid ≡ found true next) × Lists next (y ∷ xs) rest

  pub lists_take : (n : ℕ) (s : List Y) (xs : List X) (rest : List Y) → separated_items item more n s ≡ found xs rest → Lists s xs rest
  unfolding separated_items
  lists_take zero s xs rest e = absurd cc
  lists_take (suc n) s xs rest e =
      let a = bind_ok (item s) (λ first. more first.1 >>= λ goes. cond goes.0 (separated_items item more n goes.1 >>= λ others. found (first.0 ∷ others.0) others.1) (found (first.0 ∷ []) goes.1)) (xs, rest) e in
      let b = bind_ok (more a.0.1) (λ goes. cond goes.0 (separated_items item more n goes.1 >>= λ others. found (a.0.0 ∷ others.0) others.1) (found (a.0.0 ∷ []) goes.1)) (xs, rest) a.2 in
      by_more a.0.0 a.0.1 a.1 b.0.0 b.0.1 b.1 b.2 (λ ys e. lists_take n b.0.1 ys rest e)
    where
      by_more : (x : X) (mid : List Y) → item s ≡ found x mid → (t : Bool) (next : List Y) → more mid ≡ found t next
          → cond t (separated_items item more n next >>= λ others. found (x ∷ others.0) others.1) (found (x ∷ []) next) ≡ found xs rest
          → ((ys : List X) → separated_items item more n next ≡ found ys rest → Lists next ys rest) → Lists s xs rest
      by_more x mid read true next comma e inner =
          let c = bind_ok (separated_items item more n next) (λ others. found (x ∷ others.0) others.1) (xs, rest) e in
          let same = same_found (x ∷ c.0.0) c.0.1 xs rest c.2 in
          let others : separated_items item more n next ≡ found c.0.0 rest = c.1 ∙ ap (λ (r : List Y). found c.0.0 r) same.1 in
          subst (λ (l : List X). Lists s l rest) same.0 (longer c.0.0 (inner c.0.0 others))
        where
          longer : (ys : List X) → Lists next ys rest → Lists s (x ∷ ys) rest
          longer [] none = absurd none
          longer (y ∷ ys) some = (mid, next, read, comma, some)
      by_more x mid read false next close e inner =
          let same = same_found (x ∷ []) next xs rest e in
          subst (λ (l : List X). Lists s l rest) same.0 (mid, read, close ∙ ap (λ (r : List Y). found false r) same.1)

  pub lists_again : Shortens → (n : ℕ) (s : List Y) (xs : List X) (rest : List Y) → length s < n → Lists s xs rest → separated_items item more n s ≡ found xs rest
  unfolding separated_items
  lists_again short zero s xs rest lt lists = absurd (omega arith)
  lists_again short (suc n) s [] rest lt lists = absurd lists
  lists_again short (suc n) s (x ∷ []) rest lt lists = rw (lists.1, lists.2) refl
  lists_again short (suc n) s (x ∷ y ∷ xs) rest lt lists =
      let first = short.by_item s x lists.0 lists.2 in
      let second = short.by_more lists.0 lists.1 lists.3 in
      rw (lists.2, lists.3, lists_again short n lists.1 (y ∷ xs) rest (omega arith) lists.4) refl
