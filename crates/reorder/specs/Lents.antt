-- The strands of what is ready, however few they are.
use Rattle.std.specs.Prelude.{ℕ, List, [], ◌∷◌, Option, Some, None}
use Rattle.reorder.specs.declared.places.lent.Lent.{Lent}
use Rattle.reorder.specs.declared.places.lent.Lent.TheVariants as lents

-- the strands by their xids
abbrev pub strands_in : Lent → List (ℕ × Option ℕ)
strands_in (lents.One xid None) = []
strands_in (lents.One xid (Some head)) = (xid, head) ∷ []
strands_in (lents.Several strands) = strands.entries
