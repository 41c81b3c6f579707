-- What holds of each element of two lists holds of each of both.
use Rattle.std.proofs.Common.{List, [], ◌∷◌, ◌++◌}
use Rattle.std.specs.List.{AllByRecursion}

pub all_of_both : {A : Type 0} (P : A → Type 0) (xs ys : List A) → AllByRecursion P xs → AllByRecursion P ys → AllByRecursion P (xs ++ ys)
all_of_both P [] ys all_x all_y = all_y
all_of_both P (x ∷ xs) ys all_x all_y = (all_x.0, all_of_both P xs ys all_x.1 all_y)
