-- A loop that keeps what passes a test.
use Rattle.std.proofs.Common.{◌≡◌, ◌<◌, ◌+◌, ℕ, Bool, true, false, cond, List, [], ◌∷◌, ◌++◌, get_or, length, drop, sym, ap, ◌∙◌, append_assoc}
use Rattle.std.specs.Prelude.{filter}
use Rattle.std.proofs.lemmas.List.{drop_more}

behind : {A : Type 0} (p : A → Bool) (xs : List A) (i : ℕ) (x : A) → i < length xs → x ≡ get_or xs i x → filter p (drop i xs) ≡ cond (p x) (x ∷ filter p (drop (i + 1) xs)) (filter p (drop (i + 1) xs))
behind p xs i x lt is = ap (filter p) (drop_more xs i x lt ∙ ap (λ y. y ∷ drop (i + 1) xs) (sym is))

pub kept_next : {A : Type 0} (p : A → Bool) (kept more xs : List A) (i : ℕ) (x : A) → i < length xs → x ≡ get_or xs i x → p x ≡ true → more ≡ kept ++ x ∷ [] → kept ++ filter p (drop i xs) ≡ filter p xs
    → more ++ filter p (drop (i + 1) xs) ≡ filter p xs
kept_next p kept more xs i x lt is passes grown so_far =
    let rest = filter p (drop (i + 1) xs) in
    ap (λ l. l ++ rest) grown ∙ append_assoc kept (x ∷ []) rest ∙ ap (λ l. kept ++ l) (sym (behind p xs i x lt is ∙ ap (λ (b : Bool). cond b (x ∷ rest) rest) passes)) ∙ so_far

pub left_next : {A : Type 0} (p : A → Bool) (kept more xs : List A) (i : ℕ) (x : A) → i < length xs → x ≡ get_or xs i x → p x ≡ false → more ≡ kept → kept ++ filter p (drop i xs) ≡ filter p xs
    → more ++ filter p (drop (i + 1) xs) ≡ filter p xs
left_next p kept more xs i x lt is fails same so_far =
    let rest = filter p (drop (i + 1) xs) in
    ap (λ l. l ++ rest) same ∙ ap (λ l. kept ++ l) (sym (behind p xs i x lt is ∙ ap (λ (b : Bool). cond b (x ∷ rest) rest) fails)) ∙ so_far
