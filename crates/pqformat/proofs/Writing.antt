-- Texts that are written one after the other into a slice.
use Rattle.std.proofs.Common.{◌≡◌, ℕ, zero, suc, ◌+◌, ◌<◌, ◌≤◌, List, [], ◌∷◌, ◌++◌, length, take, refl, sym, ap, ◌∙◌, append_assoc, append-nil, arith}
use Rattle.std.proofs.lemmas.List.{length-append}
use Rattle.pqformat.specs.Writing.{FitsRoom, Writes}

pub length_front : (n : ℕ) (xs : List ℕ) → n ≤ length xs → length (take n xs) ≡ n
length_front zero xs low = refl
length_front (suc n) [] low = absurd (omega arith)
length_front (suc n) (x ∷ xs) low = ap suc (length_front n xs (omega arith))

pub then : (at middle to : ℕ) (old new last text more : List ℕ) → Writes at middle old new text → Writes middle to new last more → Writes at to old last (text ++ more)
then at middle to old new last text more a b = record {
  ends = omega (arith, a.ends, b.ends, length-append text more);
  front = b.front ∙ ap (λ (l : List ℕ). l ++ more) a.front ∙ append_assoc (take at old) text more;
  same = b.same ∙ a.same;
}

-- there is room for what is left
pub left : (at middle : ℕ) (old new text more : List ℕ) → Writes at middle old new text → FitsRoom at old (text ++ more) → FitsRoom middle new more
left at middle old new text more a fits =
    let size = length-append text more in
    (omega (arith, a.ends, a.same, fits.0, size), omega (arith, a.same, fits.1))

-- and for the first
pub first : (at : ℕ) (old text more : List ℕ) → FitsRoom at old (text ++ more) → FitsRoom at old text
first at old text more fits =
    let size = length-append text more in
    (omega (arith, fits.0, size), fits.1)

pub nothing : (at : ℕ) (old : List ℕ) → Writes at at old old []
nothing at old = record { ends = omega arith; front = sym (append-nil (take at old)); same = refl }
