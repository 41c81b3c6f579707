-- A set of frames, told type byte by type byte: each with its limit, the codec of its body and the test of its texts.
use Rattle.std.proofs.Common.{◌≡◌, ℕ, Bool, true, false, cond, eqb, List, [], ◌∷◌, Option, Some, None, Result, Ok, Err, refl, sym, ap, subst, ◌∙◌, inl, inr}
use Rattle.std.specs.Prelude.{◌⊎◌}
use Rattle.std.proofs.lemmas.Bool.{eqb-true}
use Rattle.std.proofs.lemmas.List.{append-nil}
use Rattle.pqformat.specs.Steps.{◌>>=◌}
use Rattle.frames.specs.Body.{nothing_left, checked_text, whole}
use Rattle.frames.specs.Frame.{HasBody}
use Rattle.frames.specs.declared.fault.FrameFault.{FrameFault}
use Rattle.frames.specs.declared.fault.FrameFault.TheVariants.{BadBody, NotUtf8}
use Rattle.pqformat.proofs.Codec.{IsBytes, Takes, Codec, bind_ok, ok_is, done}

-- what a value is refused for by its body
abbrev pub IsBadBody : {X : Type 0} → (X → List ℕ) → (X → Type 0) → (X → Bool) → List ℕ → FrameFault → Type 0
IsBadBody {X} text Shaped is_text body e = (e ≡ BadBody) ⊎ ((e ≡ NotUtf8) × (x : X) × (text x ≡ body) × Shaped x × (is_text x ≡ false))

-- ---- one body

-- the reader of a whole body and its spelling, joined
pub record Body {X : Type 0} (read : List ℕ → Result (X × List ℕ) (Unit {0})) (text : X → List ℕ) (Shaped : X → Type 0) : Type 0 where
  pub takes : (bytes : List ℕ) (x : X) (rest : List ℕ) → IsBytes bytes → read bytes ≡ Ok (x, rest) → Takes bytes (text x) rest × Shaped x
  pub again : (x : X) → Shaped x → read (text x) ≡ Ok (x, [])

pub body_of_codec : {X : Type 0} {read : List ℕ → Result (X × List ℕ) (Unit {0})} {text : X → List ℕ} {Shaped : X → Type 0} → Codec read text Shaped → Body read text Shaped
body_of_codec {X} {read} {text} {Shaped} c = record {
  takes = c.takes;
  again = λ x fits. ap read (sym (append-nil (text x))) ∙ c.again x [] fits;
}

check_takes : {X : Type 0} (is_text : X → Bool) (x y : X) → checked_text is_text x ≡ Ok y → (is_text x ≡ true) × (x ≡ y)
check_takes {X} is_text x y e = by_test (is_text x) e
  where
    by_test : (b : Bool) → cond b (Ok x) (Err NotUtf8) ≡ done FrameFault y → (b ≡ true) × (x ≡ y)
    by_test true e = (refl, cc)
    by_test false e = absurd cc

check_fails : {X : Type 0} (is_text : X → Bool) (x : X) (e : FrameFault) → checked_text is_text x ≡ Err e → (is_text x ≡ false) × (e ≡ NotUtf8)
check_fails {X} is_text x e is = by_test (is_text x) is
  where
    by_test : (b : Bool) → cond b (done FrameFault x) (Err NotUtf8) ≡ Err e → (b ≡ false) × (e ≡ NotUtf8)
    by_test true is = absurd cc
    by_test false is = (refl, cc)

pub whole_takes : {X : Type 0} {read : List ℕ → Result (X × List ℕ) (Unit {0})} {text : X → List ℕ} {Shaped : X → Type 0} → Body read text Shaped → (is_text : X → Bool) (body : List ℕ) (x : X)
    → IsBytes body → whole is_text (read body) ≡ Ok x → (text x ≡ body) × Shaped x × (is_text x ≡ true)
whole_takes {X} {read} {text} {Shaped} c is_text body x fits e = by_read (read body) refl e
  where
    by_rest : (y : X) (rest : List ℕ) → read body ≡ Ok (y, rest) → (nothing_left rest >>= λ _. checked_text is_text y) ≡ Ok x → (text x ≡ body) × Shaped x × (is_text x ≡ true)
    by_rest y [] is e =
        let t = c.takes body y [] fits is in
        let g = check_takes is_text y x e in
        let P : X → Type 0 = λ z. (text z ≡ body) × Shaped z × (is_text z ≡ true) in
        subst P g.1 (sym (t.0.parts ∙ append-nil (text y)), t.1, g.0)
    by_rest y (b ∷ bytes) is e = absurd cc

    by_read : (r : Result (X × List ℕ) (Unit {0})) → read body ≡ r → whole is_text r ≡ Ok x → (text x ≡ body) × Shaped x × (is_text x ≡ true)
    by_read (Ok y) is e = by_rest y.0 y.1 is e
    by_read (Err u) is e = absurd cc

pub whole_again : {X : Type 0} {read : List ℕ → Result (X × List ℕ) (Unit {0})} {text : X → List ℕ} {Shaped : X → Type 0} → Body read text Shaped → (is_text : X → Bool) (x : X)
    → Shaped x → whole is_text (read (text x)) ≡ checked_text is_text x
whole_again {X} {read} {text} {Shaped} c is_text x fits =
    rw (c.again x fits) refl

-- a frame that is made of a checked value
pub made : {X F : Type 0} (make : X → F) (b : Bool) (x : X) → (cond b (done FrameFault x) (Err NotUtf8) >>= λ y. done FrameFault (make y)) ≡ cond b (Ok (make x)) (Err NotUtf8)
made make true x = refl
made make false x = refl

pub whole_fails : {X : Type 0} {read : List ℕ → Result (X × List ℕ) (Unit {0})} {text : X → List ℕ} {Shaped : X → Type 0} → Body read text Shaped → (is_text : X → Bool) (body : List ℕ) (e : FrameFault)
    → IsBytes body → whole is_text (read body) ≡ Err e → IsBadBody text Shaped is_text body e
whole_fails {X} {read} {text} {Shaped} c is_text body e fits is = by_read (read body) refl is
  where
    by_rest : (y : X) (rest : List ℕ) → read body ≡ Ok (y, rest) → (nothing_left rest >>= λ _. checked_text is_text y) ≡ Err e → IsBadBody text Shaped is_text body e
    by_rest y [] there is =
        let t = c.takes body y [] fits there in
        let g = check_fails is_text y e is in
        inr (g.1, y, sym (t.0.parts ∙ append-nil (text y)), t.1, g.0)
    by_rest y (b ∷ bytes) there is = inl cc

    by_read : (r : Result (X × List ℕ) (Unit {0})) → read body ≡ r → whole is_text r ≡ Err e → IsBadBody text Shaped is_text body e
    by_read (Ok y) there is = by_rest y.0 y.1 there is
    by_read (Err u) there is = inl cc

-- ---- all bodies

pub record Cases {F : Type 0} (kind_of : F → ℕ) (body_of : F → List ℕ) (Shaped : F → Type 0) (is_text : F → Bool) (limit : ℕ → Option ℕ) (of : ℕ → List ℕ → Result F FrameFault) : Type 0 where
  pub takes : (kind : ℕ) (body : List ℕ) (f : F) → IsBytes body → of kind body ≡ Ok f → HasBody kind_of body_of Shaped kind body f × (is_text f ≡ true)
  pub fails : (kind most : ℕ) (body : List ℕ) (e : FrameFault) → IsBytes body → limit kind ≡ Some most → of kind body ≡ Err e
      → (e ≡ BadBody) ⊎ ((e ≡ NotUtf8) × (f : F) × HasBody kind_of body_of Shaped kind body f × (is_text f ≡ false))

-- no type byte is left
pub no_case : {F : Type 0} (kind_of : F → ℕ) (body_of : F → List ℕ) (Shaped : F → Type 0) (is_text : F → Bool) (unknown : FrameFault) → Cases kind_of body_of Shaped is_text (λ _. None) (λ _ _. Err unknown)
no_case kind_of body_of Shaped is_text unknown = record { takes = λ kind body f fits e. absurd cc; fails = λ kind most body e fits allowed is. absurd cc }

not_made : {A F : Type 0} (r : Result A FrameFault) (make : A → F) (e : FrameFault) → (r >>= λ a. done FrameFault (make a)) ≡ Err e → r ≡ Err e
not_made (Ok x) make e is = absurd cc
not_made (Err d) make e is = cc

placed : {F : Type 0} (kind_of : F → ℕ) (body_of : F → List ℕ) (Shaped : F → Type 0) (kind k : ℕ) (body text : List ℕ) (f : F) → kind ≡ k → text ≡ body
    → HasBody kind_of body_of Shaped k text f → HasBody kind_of body_of Shaped kind body f
placed kind_of body_of Shaped kind k body text f same is has = (has.0 ∙ sym same, has.1 ∙ is, has.2)

-- type byte k with this limit, and then a body from which the frame is made
pub case : {X F : Type 0} {read : List ℕ → Result (X × List ℕ) (Unit {0})} {text : X → List ℕ} {Fits : X → Type 0} (k most : ℕ) → Body read text Fits → (test : X → Bool)
    → {kind_of : F → ℕ} {body_of : F → List ℕ} {Shaped : F → Type 0} {is_text : F → Bool}
    → (make : X → F) → ((x : X) → Fits x → HasBody kind_of body_of Shaped k (text x) (make x)) → ((x : X) → is_text (make x) ≡ test x)
    → {limits : ℕ → Option ℕ} {others : ℕ → List ℕ → Result F FrameFault} → Cases kind_of body_of Shaped is_text limits others
    → Cases kind_of body_of Shaped is_text (λ kind. cond (eqb kind k) (Some most) (limits kind)) (λ kind body. cond (eqb kind k) (whole test (read body) >>= λ x. Ok (make x)) (others kind body))
case {X} {F} {read} {text} {Fits} k most c test {kind_of} {body_of} {Shaped} {is_text} make is_made tested {limits} {others} rest_of = record {
  takes = λ kind body f fits e. by_test kind body f fits (eqb kind k) (λ is. eqb-true kind k is) e;
  fails = λ kind limit body e fits allowed is. by_fault kind limit body e fits (eqb kind k) (λ is. eqb-true kind k is) allowed is;
} where
  by_test : (kind : ℕ) (body : List ℕ) (f : F) → IsBytes body → (b : Bool) → (b ≡ true → kind ≡ k) → cond b (whole test (read body) >>= λ x. Ok (make x)) (others kind body) ≡ Ok f
      → HasBody kind_of body_of Shaped kind body f × (is_text f ≡ true)
  by_test kind body f fits true is e =
      let a = bind_ok (whole test (read body)) (λ x. Ok (make x)) f e in
      let t = whole_takes c test body a.0 fits a.1 in
      let same : kind ≡ k = is refl in
      let P : F → Type 0 = λ g. HasBody kind_of body_of Shaped kind body g × (is_text g ≡ true) in
      subst P (ok_is FrameFault (make a.0) f a.2) (placed kind_of body_of Shaped kind k body (text a.0) (make a.0) same t.0 (is_made a.0 t.1), tested a.0 ∙ t.2)
  by_test kind body f fits false is e = rest_of.takes kind body f fits e

  by_fault : (kind limit : ℕ) (body : List ℕ) (e : FrameFault) → IsBytes body → (b : Bool) → (b ≡ true → kind ≡ k) → cond b (Some most) (limits kind) ≡ Some limit
      → cond b (whole test (read body) >>= λ x. Ok (make x)) (others kind body) ≡ Err e
      → (e ≡ BadBody) ⊎ ((e ≡ NotUtf8) × (f : F) × HasBody kind_of body_of Shaped kind body f × (is_text f ≡ false))
  by_fault kind limit body e fits true is allowed failed =
      let same : kind ≡ k = is refl in
      elim (whole_fails c test body e fits (not_made (whole test (read body)) make e failed)) [
        | inl bad ↦ inl bad
        | inr x ↦ inr (x.0, make x.1, placed kind_of body_of Shaped kind k body (text x.1) (make x.1) same x.2 (is_made x.1 x.3), tested x.1 ∙ x.4)
      ]
  by_fault kind limit body e fits false is allowed failed = rest_of.fails kind limit body e fits allowed failed
