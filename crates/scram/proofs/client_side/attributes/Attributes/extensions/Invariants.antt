use Rattle.std.proofs.Common.{◌≡◌, length, ◌-◌}
use Rattle.scram.specs.Attributes.{extensions_at}
use Rattle.scram.proofs.client_side.attributes.Attributes.extensions.Given as goal

-- What is left gives what all of it gives.
abbrev pub invariant-loop-count : goal.invariant-loop-count
invariant-loop-count l = extensions_at (l._count-end - l._count) l.self ≡ extensions_at (length l.fn.self) l.fn.self
