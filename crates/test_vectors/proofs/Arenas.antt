-- A strand that an entry was pushed to is one of its arena.
use Rattle.std.proofs.Common.{ℕ, ◌<◌, List, [], ◌∷◌, ◌++◌, Option, Some, None, length, get_or, sym, ap, subst, ◌∙◌, length-set}
use Rattle.std.proofs.lemmas.List.{get_or-set_same}
use Rattle.chgarena.specs.Strands.{Strands, IsOf, IsPushed, entries_of}

pub pushed_made : (a a' : Strands) (o o' : Option ℕ) (entry : List ℕ) → IsPushed a o entry a' o' → IsOf a' o'
pushed_made a a' o o' entry p =
    let entries : List (List ℕ) = entries_of a o ++ entry ∷ [] in
    subst (IsOf a') (sym p.begins) (
      subst (λ (b : Strands). p.head < length b) (sym p.strands) (subst (λ (n : ℕ). p.head < n) (sym (length-set a p.head (Some entries))) p.within),
      entries,
      ap (λ (b : Strands). get_or b p.head None) p.strands ∙ get_or-set_same a p.head (Some entries) None p.within,
    )
