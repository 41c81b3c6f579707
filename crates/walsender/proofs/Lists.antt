-- Lists read from the end.
use Rattle.std.proofs.Common.{◌≡◌, Bool, true, false, List, [], ◌∷◌, ◌++◌, reverse, refl, sym, ap, ◌∙◌}
use Rattle.std.specs.Prelude.{◌||◌}
use Rattle.std.specs.List.{list_any}
use Rattle.std.proofs.lemmas.Grind.{reverse_onto}

or_comm : (a b : Bool) → (a || b) ≡ (b || a)
or_comm true true = refl
or_comm true false = refl
or_comm false true = refl
or_comm false false = refl

or_assoc : (a b c : Bool) → ((a || b) || c) ≡ (a || (b || c))
or_assoc true b c = refl
or_assoc false b c = refl

any_append : {A : Type 0} (p : A → Bool) (xs ys : List A) → list_any p (xs ++ ys) ≡ (list_any p xs || list_any p ys)
any_append p [] ys = refl
any_append p (x ∷ xs) ys = ap (λ b. p x || b) (any_append p xs ys) ∙ sym (or_assoc (p x) (list_any p xs) (list_any p ys))

or_false : (a : Bool) → (a || false) ≡ a
or_false true = refl
or_false false = refl

pub any_reverse : {A : Type 0} (p : A → Bool) (xs : List A) → list_any p (reverse xs) ≡ list_any p xs
any_reverse p [] = refl
any_reverse p (x ∷ xs) =
    ap (list_any p) (reverse_onto xs x []) ∙ any_append p (reverse xs) (x ∷ []) ∙ ap (λ b. list_any p (reverse xs) || b) (or_false (p x))
    ∙ or_comm (list_any p (reverse xs)) (p x) ∙ ap (λ b. p x || b) (any_reverse p xs)
