use Rattle.std.proofs.Common.{◌≡◌, drop}
use Rattle.scram.specs.CodeSets.{has_any}
use Rattle.scram.proofs.saslprep.code_set.has_any.Given as goal

abbrev pub invariant-loop-code : goal.invariant-loop-code
invariant-loop-code l = has_any l.set (drop l.code-index l.fn.codes) ≡ has_any l.fn.set l.fn.codes
