-- Beginnings of one list.
use Rattle.std.proofs.Common.{◌≡◌, ◌≤◌, List, [], ◌∷◌, ◌++◌, length, refl, ap, sym, ◌∙◌, arith, append_assoc, length-append}
use Rattle.std.proofs.lemmas.List.{append-nil}
use mathlib.Core.List.{IsPrefix}

pub begins_itself : {A : Type 0} (xs : List A) → IsPrefix xs xs
begins_itself xs = ([], append-nil xs)

pub begins_longer : {A : Type 0} (xs ys zs : List A) → IsPrefix xs ys → IsPrefix ys zs → IsPrefix xs zs
begins_longer xs ys zs first second = (first.0 ++ second.0, sym (append_assoc xs first.0 second.0) ∙ ap (λ l. l ++ second.0) first.1 ∙ second.1)

pub is_no_longer : {A : Type 0} (xs ys : List A) → IsPrefix xs ys → length xs ≤ length ys
is_no_longer xs ys begins = omega (arith, length-append xs begins.0, ap length begins.1)

-- of two beginnings of one list, the one that is no longer begins the other
pub begins_other : {A : Type 0} (xs ys zs : List A) → IsPrefix xs zs → IsPrefix ys zs → length xs ≤ length ys → IsPrefix xs ys
begins_other [] ys zs p q le = (ys, refl)
begins_other (x ∷ xs) [] zs p q le = absurd (omega (arith, le))
begins_other (x ∷ xs) (y ∷ ys) [] p q le = absurd (cc p.1)
begins_other (x ∷ xs) (y ∷ ys) (z ∷ zs) p q le =
    let inner = begins_other xs ys zs (p.0, cc p.1) (q.0, cc q.1) (omega (arith, le)) in
    let same : x ≡ y = cc (p.1, q.1) in
    (inner.0, cc (same, inner.1))

-- a beginning that is no shorter than the whole is the whole
pub begins_whole : {A : Type 0} (xs ys : List A) → IsPrefix xs ys → length ys ≤ length xs → xs ≡ ys
begins_whole [] [] p le = refl
begins_whole [] (y ∷ ys) p le = absurd (omega (arith, le))
begins_whole (x ∷ xs) [] p le = absurd (cc p.1)
begins_whole (x ∷ xs) (y ∷ ys) p le = let inner = begins_whole xs ys (p.0, cc p.1) (omega (arith, le)) in cc (p.1, inner)
