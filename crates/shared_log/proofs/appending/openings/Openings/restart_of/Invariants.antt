use Rattle.std.proofs.Common.{◌≡◌, ◌==◌, ◌||◌, not, drop}
use Rattle.shared_log.specs.Openings.{place_where}
use Rattle.shared_log.proofs.appending.openings.Openings.restart_of.Given as goal

abbrev pub invariant-loop-opening : goal.invariant-loop-opening
invariant-loop-opening l =
    place_where (λ x. not l.fn.ends || not (x == l.fn.top)) (drop l.opening-index l.fn.self.items.items) ≡ place_where (λ x. not l.fn.ends || not (x == l.fn.top)) l.fn.self.items.items
