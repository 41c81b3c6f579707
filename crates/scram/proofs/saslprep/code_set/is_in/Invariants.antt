use Rattle.std.proofs.Common.{◌≡◌, drop}
use Rattle.std.specs.Prelude.{not, if◌then◌else◌}
use Rattle.scram.specs.CodeSets.{is_in}
use Rattle.scram.proofs.saslprep.code_set.is_in.Given as goal

abbrev pub invariant-loop-bound : goal.invariant-loop-bound
invariant-loop-bound l = (if l.is_in then not (is_in (drop l.bound-index l.fn.set) l.code) else is_in (drop l.bound-index l.fn.set) l.code) ≡ is_in l.fn.set l.fn.code
