use Rattle.std.proofs.Common.{List, subst, sym}
use Rattle.conditions.specs.declared.flat.step.Step.{Step}
use Rattle.conditions.specs.Shapes.{shape}
use Rattle.conditions.specs.Steps.{LeadDown, turns}
use Rattle.conditions.proofs.Stepping.{all_down}
use Rattle.rowfilter.proofs.filter.Filter.holds.Goals as goal

-- src/filter.rt:80:9
pub holds_by-requires : goal.holds_by-requires
holds_by-requires c = subst (λ (steps : List Step). LeadDown (turns steps)) (sym c.as_slice.ensures) (all_down c.self.inside.steps (shape c.self.inside.expression) c.self.invariant.1)
