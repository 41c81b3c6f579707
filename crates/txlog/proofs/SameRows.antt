-- Rows that are found equal are the same.
use Rattle.std.proofs.Common.{◌≡◌, true, false, Bool, List, [], ◌∷◌, refl, ap, sym, ◌∙◌}
use Rattle.std.specs.Prelude.{◌&&◌}
use Rattle.std.specs.Cmp.{booleans_Decides, unsigned_Decides}
use Rattle.std.specs.Cmp.Lexicographic.{pointwise, same_text}
use Rattle.std.proofs.lemmas.Bool.Decides.{Decides-int_eq}
use Rattle.tables.specs.declared.kinds.Value.{Value}
use Rattle.tables.specs.declared.kinds.Value.TheVariants.{Null, Bool as Truth, Int2, Int4, Int8, Text, Uuid}
use Rattle.tables.specs.contracts.kinds.ValuePartialEq.TheImpl.{ghosts}

same_value : (a b : Value) → ghosts.eq a b ≡ true → a ≡ b
same_value Null Null e = refl
same_value (Truth x) (Truth y) e = ap (λ (v : Bool). Truth v) ((booleans_Decides x y).0 e)
same_value (Int2 x) (Int2 y) e = ap (λ v. Int2 v) ((Decides-int_eq x y).0 e)
same_value (Int4 x) (Int4 y) e = ap (λ v. Int4 v) ((Decides-int_eq x y).0 e)
same_value (Int8 x) (Int8 y) e = ap (λ v. Int8 v) ((Decides-int_eq x y).0 e)
same_value (Text x) (Text y) e = ap (λ v. Text v) (same_text x y (sym e))
same_value (Uuid x) (Uuid y) e = ap (λ v. Uuid v) ((unsigned_Decides x y).0 e)
same_value a b e = absurd cc

pub same_row : (xs ys : List Value) → pointwise ghosts.eq xs ys ≡ true → xs ≡ ys
same_row [] [] e = refl
same_row [] (y ∷ ys) e = absurd cc
same_row (x ∷ xs) [] e = absurd cc
same_row (x ∷ xs) (y ∷ ys) e = by_test (ghosts.eq x y) refl (λ more. same_row xs ys more) e
  where
    by_test : (t : Bool) → ghosts.eq x y ≡ t → (pointwise ghosts.eq xs ys ≡ true → xs ≡ ys) → (t && pointwise ghosts.eq xs ys) ≡ true → x ∷ xs ≡ y ∷ ys
    by_test true is inner e = ap (λ (v : Value). v ∷ xs) (same_value x y is) ∙ ap (λ (l : List Value). y ∷ l) (inner e)
    by_test false is inner e = absurd cc
