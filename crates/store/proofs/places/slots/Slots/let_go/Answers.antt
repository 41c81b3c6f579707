use Rattle.std.proofs.Common.{◌≤◌, length, sym, subst}
use Rattle.std.specs.Cmp.Lexicographic.{pointwise}
use Rattle.std.specs.Prelude.{true, ◌≡◌, nat_eq}
use Rattle.store.specs.declared.places.key.TheConstants.{MAX_KEY_LENGTH}
use Rattle.store.specs.Keeping.{AreShort}
use Rattle.store.specs.Slots.{is_used}
use Rattle.store.proofs.Undoing.{all_left, left_at}
use Rattle.store.proofs.places.slots.Slots.let_go.Goals as goal

pub invariant_of-self : goal.invariant_of-self
invariant_of-self c =
    all_left (λ e. is_used e.1 ≡ true) (λ k. pointwise nat_eq c.args.place.now k.items) c.self.inside.by_place.entries c.swap_remove.new.self.entries c.swap_remove.ensures.entries c.self.invariant

pub returns-clause-slots : goal.returns-clause-slots
returns-clause-slots c other =
    left_at c.args.place.now c.self.inside.by_place.entries c.swap_remove.new.self.entries c.args.self.now other c.self.view_is c.swap_remove.ensures.updates.1 c.swap_remove.ensures.updates.3

pub returns-clause-short : goal.returns-clause-short
returns-clause-short c all =
    all_left (λ e. length e.0 ≤ MAX_KEY_LENGTH) (λ k. pointwise nat_eq c.args.place.now k.items) c.self.inside.by_place.entries c.swap_remove.new.self.entries c.swap_remove.ensures.entries
    (subst AreShort (sym c.self.view_is) all)
