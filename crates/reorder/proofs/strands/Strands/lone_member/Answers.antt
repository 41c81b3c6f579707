use Rattle.std.proofs.Common.{◌≡◌, ◌==◌, Some, arith, rules, ap, get_or, length}
use Rattle.std.specs.Map.{lookup}
use Rattle.reorder.proofs.Spotting.{one_there}
use Rattle.reorder.proofs.strands.Strands.lone_member.Goals as goal

pub returns-in-len1-clause-lone : goal.returns-in-len1-clause-lone
returns-in-len1-clause-lone c =
    let found : lookup (λ k. c.args.top == k) c.args.self.now.members ≡ Some c.as_slice.result.now = search rules in
    λ xid lone. ap (λ xs. Some (get_or xs 0 0)) (one_there _ xid _ found lone)

pub returns-in_default-clause-lone : goal.returns-in_default-clause-lone
returns-in_default-clause-lone c =
    let found : lookup (λ k. c.args.top == k) c.args.self.now.members ≡ Some c.as_slice.result.now = search rules in
    λ xid lone. absurd (omega (arith, c.in_default.len_below, ap length (one_there _ xid _ found lone)))

pub returns-in_default-2-clause-lone : goal.returns-in_default-2-clause-lone
returns-in_default-2-clause-lone c =
    let found : lookup (λ k. c.args.top == k) c.args.self.now.members ≡ Some c.as_slice.result.now = search rules in
    λ xid lone. absurd (omega (arith, c.in_default.len_at_least, ap length (one_there _ xid _ found lone)))
