-- Writers in place.
use Rattle.std.proofs.Common.{◌≤◌, ℕ, List, ◌++◌, length, take, refl, sym, ap, ◌∙◌, arith}
use Rattle.std.proofs.lemmas.List.{take_at, take_all, take-take, length-append}
use Rattle.pqformat.specs.Putting.{Extends}

pub extends_itself : (old : List ℕ) → Extends old old
extends_itself old = take_all (length old) old (omega arith)

pub extends_more : (old more : List ℕ) → Extends old (old ++ more)
extends_more old more = take_at old more (length old) refl

pub extends_back : (old more new : List ℕ) → Extends (old ++ more) new → Extends old new
extends_back old more new e =
    let short : length old ≤ length (old ++ more) = omega (arith, length-append old more) in
    sym (take-take (length old) (length (old ++ more)) new short) ∙ ap (take (length old)) e ∙ extends_more old more

-- what a writer in place needs of each of its steps
pub ruleset in_place = (extends_itself, extends_more, extends_back)
