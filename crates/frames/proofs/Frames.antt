-- The laws of a regular frame, whatever its body: what reading a type byte, a length and a body finds, that it finds
-- what was spelled, what it waits for, and where its faults stand.
use Rattle.std.proofs.Common.{◌≡◌, ℕ, ◌+◌, ◌-◌, ◌^◌, ◌<◌, ◌≤◌, Bool, true, false, cond, ltb, List, [], ◌∷◌, ◌++◌, length, take, drop, Option, Some, None, Result, Ok, Err, refl, sym, ap, subst, ◌∙◌, append_assoc, arith, inl, inr}
use Rattle.std.specs.Prelude.{◌⊎◌, option_map}
use Rattle.std.specs.Option.{ok_or}
use Rattle.std.specs.Int.{w32}
use Rattle.std.proofs.lemmas.Bool.{ltb-true, ltb-false, le-ltb, lt-ltb, cases_lt}
use Rattle.std.proofs.lemmas.List.{take_at, drop_at, take-append-drop, take-append-le, length-append, length-drop}
use Rattle.pqformat.specs.Fields.{int32, bytes_at, number_at}
use Rattle.pqformat.specs.Steps.{◌>>=◌}
use Rattle.frames.specs.declared.fault.FrameFault.{FrameFault}
use Rattle.frames.specs.declared.fault.FrameFault.TheVariants.{BadLength, UnknownType, TooLong}
use Rattle.frames.specs.Frame.{frame, FitsLength, with_size, with_kind, sized_at, body_at, raw_at, BeginsWith}
use Rattle.pqformat.proofs.Codec.{IsBytes, IsBytes-take, IsBytes-rest, bind_ok, found_some, some_is, ok_is}
use Rattle.pqformat.proofs.Numbers.{number32, bytes_codec, length-int32}

-- ---- steps

pub went_on : {A E : Type 0} (b : Bool) (d : E) (r : Result A E) (y : A) → cond b (Err d) r ≡ Ok y → (b ≡ false) × (r ≡ Ok y)
went_on true d r y e = absurd cc
went_on false d r y e = (refl, e)

pub mapped : {A B : Type 0} (f : A → B) (o : Option A) (y : B) → option_map f o ≡ Some y → (x : A) × (o ≡ Some x) × (f x ≡ y)
mapped f None y e = absurd cc
mapped f (Some x) y e = (x, refl, cc)

-- a number that stands at the front
pub number_there : (n : ℕ) (rest : List ℕ) → n < 2 ^ 32 → number_at w32 (int32 n ++ rest) ≡ Some (n, rest)
number_there n rest lt = found_some (number_at w32 (int32 n ++ rest)) UnknownType (n, rest) ((number32 UnknownType).again n rest lt)

pub bytes_there : (text rest : List ℕ) → bytes_at (length text) (text ++ rest) ≡ Some (text, rest)
bytes_there text rest = found_some (bytes_at (length text) (text ++ rest)) UnknownType (text, rest) ((bytes_codec UnknownType (length text)).again text rest refl)

-- ---- a frame at the front

pub record IsRaw (limit : ℕ → Option ℕ) (bytes : List ℕ) (kind : ℕ) (body : List ℕ) (n : ℕ) : Type 0 where
  pub most : ℕ
  pub allowed : limit kind ≡ Some most
  pub within : 4 + length body ≤ most
  pub fits_length : FitsLength body
  pub size : n ≡ 5 + length body
  pub rest : List ℕ
  pub text : bytes ≡ frame kind body ++ rest
  pub body_fits : IsBytes body

record IsSized (most : ℕ) (bytes body : List ℕ) (n : ℕ) : Type 0 where
  within : 4 + length body ≤ most
  fits_length : FitsLength body
  size : n ≡ 5 + length body
  rest : List ℕ
  text : bytes ≡ (int32 (4 + length body) ++ body) ++ rest
  body_fits : IsBytes body

sized_takes : (most : ℕ) (bytes body : List ℕ) (n : ℕ) → IsBytes bytes → sized_at most (number_at w32 bytes) ≡ Ok (Some (body, n)) → IsSized most bytes body n
sized_takes most bytes body n fits e = by_number (number_at w32 bytes) refl e
  where
    by_number : (o : Option (ℕ × List ℕ)) → number_at w32 bytes ≡ o → sized_at most o ≡ Ok (Some (body, n)) → IsSized most bytes body n
    by_number None is e = absurd cc
    by_number (Some m) is e =
        let found : Option (List ℕ × ℕ) = option_map (λ body. (body.0, 1 + m.0)) (bytes_at (m.0 - 4) m.1) in
        let answer : List ℕ × ℕ = (body, n) in
        let long = went_on (ltb m.0 4) BadLength (cond (ltb most m.0) (Err TooLong) (Ok found)) (Some answer) e in
        let short = went_on (ltb most m.0) TooLong (Ok found) (Some answer) long.1 in
        let x = mapped (λ (b : List ℕ × List ℕ). (b.0, 1 + m.0)) (bytes_at (m.0 - 4) m.1) answer (ok_is FrameFault found (Some answer) short.1) in
        let head = (number32 UnknownType).takes bytes m.0 m.1 fits (ap (λ (o : Option (ℕ × List ℕ)). ok_or o UnknownType) is) in
        let tail = (bytes_codec UnknownType (m.0 - 4)).takes m.1 x.0.0 x.0.1 head.0.rest_fits (ap (λ (o : Option (List ℕ × List ℕ)). ok_or o UnknownType) x.1) in
        let four : 4 ≤ m.0 = ltb-false _ _ long.0 in
        let most_is : m.0 ≤ most = ltb-false _ _ short.0 in
        let body_is : x.0.0 ≡ body = ap (λ (p : List ℕ × ℕ). p.0) x.2 in
        let n_is : 1 + m.0 ≡ n = ap (λ (p : List ℕ × ℕ). p.1) x.2 in
        let len : 4 + length body ≡ m.0 = rw (← body_is) (omega (arith, tail.1)) in
        let bytes_fit : IsBytes x.0.0 = subst (λ (l : List ℕ). IsBytes l) (ap (λ (l : List ℕ). take (length x.0.0) l) tail.0.parts ∙ take_at x.0.0 x.0.1 (length x.0.0) refl) (IsBytes-take (length x.0.0) m.1 head.0.rest_fits) in
        record {
          within = omega arith;
          fits_length = omega (arith, head.1);
          size = omega arith;
          rest = x.0.1;
          text = head.0.parts ∙ ap (λ (l : List ℕ). int32 m.0 ++ l) tail.0.parts ∙ sym (append_assoc (int32 m.0) x.0.0 x.0.1)
              ∙ ap (λ (l : List ℕ). (int32 m.0 ++ l) ++ x.0.1) body_is ∙ ap (λ (k : ℕ). (int32 k ++ body) ++ x.0.1) (sym len);
          body_fits = rw (← body_is) bytes_fit;
        }

pub raw_takes : (limit : ℕ → Option ℕ) (bytes : List ℕ) (kind : ℕ) (body : List ℕ) (n : ℕ) → IsBytes bytes → raw_at limit bytes ≡ Ok (Some ((kind, body), n)) → IsRaw limit bytes kind body n
raw_takes limit [] kind body n fits e = absurd cc
raw_takes limit (b ∷ bytes) kind body n fits e =
    let answer : (ℕ × List ℕ) × ℕ = ((kind, body), n) in
    let found = bind_ok (body_at (limit b) bytes) (λ found. Ok (with_kind b found)) (Some answer) e in
    let x = mapped (λ (p : List ℕ × ℕ). ((b, p.0), p.1)) found.0 answer (ok_is FrameFault (option_map (λ (p : List ℕ × ℕ). ((b, p.0), p.1)) found.0) (Some answer) found.2) in
    let most = bind_ok (ok_or (limit b) UnknownType) (λ most. sized_at most (number_at w32 bytes)) found.0 found.1 in
    let is : sized_at most.0 (number_at w32 bytes) ≡ Ok (Some (x.0.0, x.0.1)) = most.2 ∙ ap Ok x.1 in
    let s = sized_takes most.0 bytes x.0.0 x.0.1 (IsBytes-rest b bytes fits) is in
    let made : IsRaw limit (b ∷ bytes) b x.0.0 x.0.1 = record {
      most = most.0;
      allowed = found_some (limit b) UnknownType most.0 most.1;
      within = s.within;
      fits_length = s.fits_length;
      size = s.size;
      rest = s.rest;
      text = ap (λ (l : List ℕ). b ∷ l) s.text;
      body_fits = s.body_fits;
    } in
    let P : (ℕ × List ℕ) × ℕ → Type 0 = λ p. IsRaw limit (b ∷ bytes) p.0.0 p.0.1 p.1 in
    subst P x.2 made

pub raw_again : (limit : ℕ → Option ℕ) (kind most : ℕ) (body rest : List ℕ) → limit kind ≡ Some most → 4 + length body ≤ most → FitsLength body
    → raw_at limit (frame kind body ++ rest) ≡ Ok (Some ((kind, body), 5 + length body))
raw_again limit kind most body rest allowed within fits =
    let n = 4 + length body in
    let regrouped : (int32 n ++ body) ++ rest ≡ int32 n ++ (body ++ rest) = append_assoc (int32 n) body rest in
    let number : number_at w32 ((int32 n ++ body) ++ rest) ≡ Some (n, body ++ rest) = ap (number_at w32) regrouped ∙ number_there n (body ++ rest) fits in
    let short : ltb n 4 ≡ false = le-ltb _ _ (omega arith) in
    let long : ltb most n ≡ false = le-ltb _ _ within in
    let size : n - 4 ≡ length body = omega arith in
    let total : 1 + n ≡ 5 + length body = omega arith in
    rw (allowed, number, short, long, size, bytes_there body rest, total) refl

pub raw_waits : (limit : ℕ → Option ℕ) (kind most : ℕ) (body bytes more : List ℕ) → limit kind ≡ Some most → 4 + length body ≤ most → FitsLength body
    → frame kind body ≡ bytes ++ more → length bytes < 5 + length body → raw_at limit bytes ≡ Ok None
raw_waits limit kind most body [] more allowed within fits text less = refl
raw_waits limit kind most body (b ∷ bytes) more allowed within fits text less =
    let n = 4 + length body in
    let same : kind ≡ b = cc in
    let tail : int32 n ++ body ≡ bytes ++ more = cc in
    let limited : limit b ≡ Some most = ap limit (sym same) ∙ allowed in
    rw limited (by_length n refl tail (cases_lt (length bytes) 4))
  where
    waiting : Result (Option ((ℕ × List ℕ) × ℕ)) FrameFault
    waiting = Ok None

    by_length : (n : ℕ) → n ≡ 4 + length body → int32 n ++ body ≡ bytes ++ more → (length bytes < 4) ⊎ (4 ≤ length bytes)
        → (sized_at most (number_at w32 bytes) >>= λ found. Ok (with_kind b found)) ≡ waiting
    by_length n n_is tail (inl lt) =
        let short : ltb (length bytes) 4 ≡ true = lt-ltb _ _ lt in
        rw short refl
    by_length n n_is tail (inr le) =
        let front : take 4 bytes ≡ int32 n = sym (take-append-le 4 bytes more le) ∙ ap (take 4) (sym tail) ∙ take_at (int32 n) body 4 (length-int32 n) in
        let whole : bytes ≡ int32 n ++ drop 4 bytes = sym (take-append-drop 4 bytes) ∙ ap (λ (l : List ℕ). l ++ drop 4 bytes) front in
        let number : number_at w32 bytes ≡ Some (n, drop 4 bytes) = ap (number_at w32) whole ∙ number_there n (drop 4 bytes) (omega arith) in
        let short : ltb n 4 ≡ false = le-ltb _ _ (omega arith) in
        let long : ltb most n ≡ false = le-ltb _ _ (omega arith) in
        let part : ltb (length (drop 4 bytes)) (n - 4) ≡ true = lt-ltb _ _ (omega (arith, length-drop 4 bytes)) in
        rw (number, short, long, part) refl

-- ---- where a fault stands

-- what reading a length and a body is refused for
abbrev pub StandsBefore : (ℕ → Option ℕ) → FrameFault → List ℕ → Type 0
StandsBefore limit UnknownType bytes = (kind : ℕ) × (rest : List ℕ) × (bytes ≡ kind ∷ rest) × (limit kind ≡ None)
StandsBefore limit BadLength bytes = BeginsWith limit bytes (λ most n. n < 4)
StandsBefore limit TooLong bytes = BeginsWith limit bytes (λ most n. most < n)
StandsBefore limit _ bytes = ⊥

unsized : (limit : ℕ → Option ℕ) (kind most : ℕ) (bytes : List ℕ) (e : FrameFault) → limit kind ≡ Some most → IsBytes bytes
    → sized_at most (number_at w32 bytes) ≡ Err e → StandsBefore limit e (kind ∷ bytes)
unsized limit kind most bytes e allowed fits is = by_number (number_at w32 bytes) refl is
  where
    by_long : (m : ℕ × List ℕ) → bytes ≡ int32 m.0 ++ m.1 → m.0 < 2 ^ 32 → (b : Bool) → (b ≡ true → most < m.0)
        → cond b (Err TooLong) (Ok (with_size m.0 (bytes_at (m.0 - 4) m.1))) ≡ Err e → StandsBefore limit e (kind ∷ bytes)
    by_long m text lt true over is =
        let P : FrameFault → Type 0 = λ f. StandsBefore limit f (kind ∷ bytes) in
        let same : TooLong ≡ e = cc in
        subst P same (kind, most, m.0, m.1, allowed, lt, ap (λ (l : List ℕ). kind ∷ l) text, over refl)
    by_long m text lt false over is = absurd cc

    by_short : (m : ℕ × List ℕ) → bytes ≡ int32 m.0 ++ m.1 → m.0 < 2 ^ 32 → (b : Bool) → (b ≡ true → m.0 < 4)
        → cond b (Err BadLength) (cond (ltb most m.0) (Err TooLong) (Ok (with_size m.0 (bytes_at (m.0 - 4) m.1)))) ≡ Err e → StandsBefore limit e (kind ∷ bytes)
    by_short m text lt true under is =
        let P : FrameFault → Type 0 = λ f. StandsBefore limit f (kind ∷ bytes) in
        let same : BadLength ≡ e = cc in
        subst P same (kind, most, m.0, m.1, allowed, lt, ap (λ (l : List ℕ). kind ∷ l) text, under refl)
    by_short m text lt false under is = by_long m text lt (ltb most m.0) (λ over. ltb-true _ _ over) is

    by_number : (o : Option (ℕ × List ℕ)) → number_at w32 bytes ≡ o → sized_at most o ≡ Err e → StandsBefore limit e (kind ∷ bytes)
    by_number None there is = absurd cc
    by_number (Some m) there is =
        let head = (number32 UnknownType).takes bytes m.0 m.1 fits (ap (λ (o : Option (ℕ × List ℕ)). ok_or o UnknownType) there) in
        by_short m head.0.parts head.1 (ltb m.0 4) (λ under. ltb-true _ _ under) is

pub raw_faults : (limit : ℕ → Option ℕ) (bytes : List ℕ) (e : FrameFault) → IsBytes bytes → raw_at limit bytes ≡ Err e → StandsBefore limit e bytes
raw_faults limit [] e fits is = absurd cc
raw_faults limit (kind ∷ bytes) e fits is = by_limit (limit kind) refl (unmapped (body_at (limit kind) bytes) is)
  where
    unmapped : (r : Result (Option (List ℕ × ℕ)) FrameFault) → (r >>= λ found. Ok (with_kind kind found)) ≡ Err e → r ≡ Err e
    unmapped (Ok x) is = absurd cc
    unmapped (Err d) is = cc

    by_limit : (o : Option ℕ) → limit kind ≡ o → body_at o bytes ≡ Err e → StandsBefore limit e (kind ∷ bytes)
    by_limit None none is =
        let P : FrameFault → Type 0 = λ f. StandsBefore limit f (kind ∷ bytes) in
        let same : UnknownType ≡ e = cc in
        subst P same (kind, bytes, refl, none)
    by_limit (Some most) allowed is = unsized limit kind most bytes e allowed (IsBytes-rest kind bytes fits) is

-- ---- one frame and another

pub length-frame : (kind : ℕ) (body : List ℕ) → length (frame kind body) ≡ 5 + length body
length-frame kind body = omega (arith, length-append (int32 (4 + length body)) body, length-int32 (4 + length body))

pub frame_begins : (k l : ℕ) (a b x y : List ℕ) → FitsLength a → FitsLength b → frame k a ++ x ≡ frame l b ++ y → (k ≡ l) × (a ≡ b) × (x ≡ y)
frame_begins k l a b x y fits_a fits_b e =
    let heads : k ≡ l = cc in
    let tails : (int32 (4 + length a) ++ a) ++ x ≡ (int32 (4 + length b) ++ b) ++ y = cc in
    let regrouped : int32 (4 + length a) ++ (a ++ x) ≡ int32 (4 + length b) ++ (b ++ y) = sym (append_assoc (int32 (4 + length a)) a x) ∙ tails ∙ append_assoc (int32 (4 + length b)) b y in
    let pair_a : ℕ × List ℕ = (4 + length a, a ++ x) in
    let pair_b : ℕ × List ℕ = (4 + length b, b ++ y) in
    let read : Some pair_a ≡ Some pair_b = sym (number_there (4 + length a) (a ++ x) fits_a) ∙ ap (number_at w32) regrouped ∙ number_there (4 + length b) (b ++ y) fits_b in
    let same = some_is pair_a pair_b read in
    let four : 4 + length a ≡ 4 + length b = ap (λ (p : ℕ × List ℕ). p.0) same in
    let len : length a ≡ length b = omega arith in
    let rest : a ++ x ≡ b ++ y = ap (λ (p : ℕ × List ℕ). p.1) same in
    let front : a ≡ b = sym (take_at a x (length a) refl) ∙ ap (take (length a)) rest ∙ take_at b y (length a) (sym len) in
    let back : x ≡ y = sym (drop_at a x (length a) refl) ∙ ap (drop (length a)) rest ∙ drop_at b y (length a) (sym len) in
    (heads, front, back)
