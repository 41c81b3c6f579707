-- A text in quotes is read as it is spelled.
use Rattle.std.proofs.Common.{◌≡◌, ℕ, Bool, true, false, cond, eqb, ◌<◌, List, [], ◌∷◌, ◌++◌, length, Option, Some, None, refl, sym, ap, subst, ◌∙◌, append_assoc, arith}
use Rattle.std.proofs.lemmas.Bool.{eqb-true, eq-eqb}
use Rattle.std.proofs.lemmas.List.{length-append}
use Rattle.pqformat.specs.Quoting.{with_doubled_quotes, in_quotes, begins, in_front, quoted_at}

pub if_true : {A : Type 0} (t : Bool) (x y : A) → t ≡ true → cond t x y ≡ x
if_true true x y is = refl
if_true false x y is = absurd cc

pub if_false : {A : Type 0} (t : Bool) (x y : A) → t ≡ false → cond t x y ≡ y
if_false true x y is = absurd cc
if_false false x y is = refl

abbrev two : List ℕ → List ℕ → List ℕ × List ℕ
two n rest = (n, rest)

abbrev pub found : List ℕ → List ℕ → Option (List ℕ × List ℕ)
found n rest = Some (n, rest)

same_found : (a b c d : List ℕ) → found a b ≡ found c d → (a ≡ c) × (b ≡ d)
same_found a b c d e =
    let both : two a b ≡ two c d = cc in
    (ap (λ (x : List ℕ × List ℕ). x.0) both, ap (λ (x : List ℕ × List ℕ). x.1) both)

-- a text that goes on after one byte
behind : (b : ℕ) (o : Option (List ℕ × List ℕ)) (n rest : List ℕ) → in_front (b ∷ []) o ≡ found n rest → (m : List ℕ) × (o ≡ found m rest) × (n ≡ b ∷ m)
behind b None n rest e = absurd cc
behind b (Some x) n rest e =
    let same = same_found (b ∷ x.0) x.1 n rest e in
    (x.0, ap (λ (y : List ℕ). found x.0 y) same.1, sym same.0)

abbrev so_far : Bool → ℕ → List ℕ → List ℕ
so_far false quote bytes = bytes
so_far true quote bytes = quote ∷ bytes

pub record QuotedTaken (quote : ℕ) (bytes n rest : List ℕ) : Type 0 where
  pub parts : bytes ≡ with_doubled_quotes quote n ++ (quote ∷ rest)
  pub end : begins (λ b. eqb b quote) rest ≡ false

pub quoted_takes : (after : Bool) (quote : ℕ) (bytes n rest : List ℕ) → quoted_at after quote bytes ≡ found n rest → QuotedTaken quote (so_far after quote bytes) n rest
quoted_takes false quote [] n rest e = absurd cc
quoted_takes true quote [] n rest e =
    let same = same_found [] [] n rest e in
    let P : List ℕ × List ℕ → Type 0 = λ x. QuotedTaken quote (quote ∷ []) x.0 x.1 in
    let both : two [] [] ≡ two n rest = cc in
    subst P both (record { parts = refl; end = refl })
quoted_takes false quote (b ∷ bytes) n rest e = by_test (eqb b quote) (λ is. eqb-true b quote is) refl (λ m more. quoted_takes true quote bytes m rest more) (λ m more. quoted_takes false quote bytes m rest more) e
  where
    by_test : (t : Bool) → (t ≡ true → b ≡ quote) → eqb b quote ≡ t
        → ((m : List ℕ) → quoted_at true quote bytes ≡ found m rest → QuotedTaken quote (quote ∷ bytes) m rest)
        → ((m : List ℕ) → quoted_at false quote bytes ≡ found m rest → QuotedTaken quote bytes m rest)
        → cond t (quoted_at true quote bytes) (in_front (b ∷ []) (quoted_at false quote bytes)) ≡ found n rest → QuotedTaken quote (b ∷ bytes) n rest
    by_test true same is closing inner e =
        let here : quote ≡ b = sym (same refl) in
        subst (λ (c : ℕ). QuotedTaken quote (c ∷ bytes) n rest) here (closing n e)
    by_test false same is closing inner e =
        let x = behind b (quoted_at false quote bytes) n rest e in
        let taken = inner x.0 x.1 in
        let spelled_on : with_doubled_quotes quote (b ∷ x.0) ≡ b ∷ with_doubled_quotes quote x.0 = if_false (eqb b quote) (b ∷ b ∷ with_doubled_quotes quote x.0) (b ∷ with_doubled_quotes quote x.0) is in
        let parts : b ∷ bytes ≡ with_doubled_quotes quote (b ∷ x.0) ++ (quote ∷ rest) = ap (λ (l : List ℕ). b ∷ l) taken.parts ∙ ap (λ (l : List ℕ). l ++ (quote ∷ rest)) (sym spelled_on) in
        subst (λ (m : List ℕ). QuotedTaken quote (b ∷ bytes) m rest) (sym x.2) (record { parts = parts; end = taken.end })
quoted_takes true quote (b ∷ bytes) n rest e = by_test (eqb b quote) (λ is. eqb-true b quote is) refl (λ m more. quoted_takes false quote bytes m rest more) e
  where
    by_test : (t : Bool) → (t ≡ true → b ≡ quote) → eqb b quote ≡ t
        → ((m : List ℕ) → quoted_at false quote bytes ≡ found m rest → QuotedTaken quote bytes m rest)
        → cond t (in_front (b ∷ []) (quoted_at false quote bytes)) (found [] (b ∷ bytes)) ≡ found n rest → QuotedTaken quote (quote ∷ (b ∷ bytes)) n rest
    by_test true same is inner e =
        let x = behind b (quoted_at false quote bytes) n rest e in
        let taken = inner x.0 x.1 in
        let spelled_on : with_doubled_quotes quote (b ∷ x.0) ≡ b ∷ b ∷ with_doubled_quotes quote x.0 = if_true (eqb b quote) (b ∷ b ∷ with_doubled_quotes quote x.0) (b ∷ with_doubled_quotes quote x.0) is in
        let parts : quote ∷ (b ∷ bytes) ≡ with_doubled_quotes quote (b ∷ x.0) ++ (quote ∷ rest) =
        ap (λ (c : ℕ). c ∷ (b ∷ bytes)) (sym (same refl)) ∙ ap (λ (l : List ℕ). b ∷ b ∷ l) taken.parts ∙ ap (λ (l : List ℕ). l ++ (quote ∷ rest)) (sym spelled_on) in
        subst (λ (m : List ℕ). QuotedTaken quote (quote ∷ (b ∷ bytes)) m rest) (sym x.2) (record { parts = parts; end = taken.end })
    by_test false same is inner e =
        let P : List ℕ × List ℕ → Type 0 = λ x. QuotedTaken quote (quote ∷ (b ∷ bytes)) x.0 x.1 in
        let both : two [] (b ∷ bytes) ≡ two n rest = cc in
        subst P both (record { parts = refl; end = is })

pub quoted_again : (quote : ℕ) (n rest : List ℕ) → begins (λ b. eqb b quote) rest ≡ false → quoted_at false quote (with_doubled_quotes quote n ++ (quote ∷ rest)) ≡ found n rest
quoted_again quote [] rest end = if_true (eqb quote quote) (quoted_at true quote rest) (in_front (quote ∷ []) (quoted_at false quote rest)) (eq-eqb quote quote refl) ∙ ended rest end
  where
    ended : (rest : List ℕ) → begins (λ b. eqb b quote) rest ≡ false → quoted_at true quote rest ≡ found [] rest
    ended [] end = refl
    ended (b ∷ rest) end = if_false (eqb b quote) (in_front (b ∷ []) (quoted_at false quote rest)) (found [] (b ∷ rest)) end
quoted_again quote (b ∷ n) rest end = by_test (eqb b quote) refl (quoted_again quote n rest end)
  where
    by_test : (t : Bool) → eqb b quote ≡ t → quoted_at false quote (with_doubled_quotes quote n ++ (quote ∷ rest)) ≡ found n rest
        → quoted_at false quote (cond t (b ∷ b ∷ with_doubled_quotes quote n) (b ∷ with_doubled_quotes quote n) ++ (quote ∷ rest)) ≡ found (b ∷ n) rest
    by_test true is inner =
        if_true (eqb b quote) (quoted_at true quote (b ∷ (with_doubled_quotes quote n ++ (quote ∷ rest)))) (in_front (b ∷ []) (quoted_at false quote (b ∷ (with_doubled_quotes quote n ++ (quote ∷ rest))))) is
        ∙ if_true (eqb b quote) (in_front (b ∷ []) (quoted_at false quote (with_doubled_quotes quote n ++ (quote ∷ rest)))) (found [] (b ∷ (with_doubled_quotes quote n ++ (quote ∷ rest)))) is
        ∙ ap (in_front (b ∷ [])) inner
    by_test false is inner =
        if_false (eqb b quote) (quoted_at true quote (with_doubled_quotes quote n ++ (quote ∷ rest))) (in_front (b ∷ []) (quoted_at false quote (with_doubled_quotes quote n ++ (quote ∷ rest)))) is
        ∙ ap (in_front (b ∷ [])) inner

-- ---- with both quotes

pub record WholeTaken (quote : ℕ) (bytes n rest : List ℕ) : Type 0 where
  pub parts : bytes ≡ in_quotes quote n ++ rest
  pub end : begins (λ b. eqb b quote) rest ≡ false
  pub less : length rest < length bytes

pub whole_takes : (b quote : ℕ) (bytes n rest : List ℕ) → eqb b quote ≡ true → quoted_at false quote bytes ≡ found n rest → WholeTaken quote (b ∷ bytes) n rest
whole_takes b quote bytes n rest same e =
    let taken = quoted_takes false quote bytes n rest e in
    let parts : b ∷ bytes ≡ in_quotes quote n ++ rest =
    ap (λ (c : ℕ). c ∷ bytes) (eqb-true b quote same) ∙ ap (λ (l : List ℕ). quote ∷ l) (taken.parts ∙ sym (append_assoc (with_doubled_quotes quote n) (quote ∷ []) rest)) in
    let less : length rest < length (b ∷ bytes) = omega (arith, ap (length {A = ℕ}) taken.parts, length-append (with_doubled_quotes quote n) (quote ∷ rest)) in
    record { parts = parts; end = taken.end; less = less }

pub whole_again : (quote : ℕ) (n rest : List ℕ) → begins (λ b. eqb b quote) rest ≡ false
    → quoted_at false quote ((with_doubled_quotes quote n ++ quote ∷ []) ++ rest) ≡ found n rest
whole_again quote n rest end = ap (quoted_at false quote) (append_assoc (with_doubled_quotes quote n) (quote ∷ []) rest) ∙ quoted_again quote n rest end
