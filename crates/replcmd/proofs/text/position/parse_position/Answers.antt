use Rattle.std.proofs.Common.{◌≡◌, ◌+◌, ◌*◌, Ok, ap, arith}
use Rattle.replcmd.proofs.Halves.{refused, no_slash_there, halves_are, not_half, half_is}
use Rattle.replcmd.proofs.text.position.parse_position.Goals as goal

pub returns-in_err-upper-clause-only : goal.returns-in_err-upper-clause-only
returns-in_err-upper-clause-only c = λ n spells. absurd (no_slash_there c.args.text.now c.split_once.result c.split_once.ensures.cases (refused _ _ _ c.in_err-upper.ensures.value) n spells)

pub returns-in_err-upper-2-clause-only : goal.returns-in_err-upper-2-clause-only
returns-in_err-upper-2-clause-only c = λ n spells.
    let same = halves_are c.args.text.now c.split_once.result _ c.split_once.ensures.cases c.in_ok-upper.ensures.ok_part n spells in
    absurd (not_half c.in_ok-upper.upper.now spells.upper c.half.result c.half.ensures (refused _ _ _ c.in_err-upper-2.ensures.value) same.0 spells.is_upper)

pub returns-in_err-lower-clause-only : goal.returns-in_err-lower-clause-only
returns-in_err-lower-clause-only c = λ n spells.
    let same = halves_are c.args.text.now c.split_once.result _ c.split_once.ensures.cases c.in_ok-upper.ensures.ok_part n spells in
    absurd (not_half c.in_ok-upper.lower.now spells.lower c.half-2.result c.half-2.ensures (refused _ _ _ c.in_err-lower.ensures.value) same.1 spells.is_lower)

pub returns-clause-only : goal.returns-clause-only
returns-clause-only c = λ n spells.
    let same = halves_are c.args.text.now c.split_once.result _ c.split_once.ensures.cases c.in_ok-upper.ensures.ok_part n spells in
    let upper = half_is c.in_ok-upper.upper.now spells.upper c.half.result c.in_ok-upper-2.upper c.half.ensures c.in_ok-upper-2.ensures.ok_part same.0 in
    let lower = half_is c.in_ok-upper.lower.now spells.lower c.half-2.result c.in_ok-lower.lower c.half-2.ensures c.in_ok-lower.ensures.ok_part same.1 in
    let value = spells.value in
    let whole : c.in_ok-upper-2.upper * 4294967296 + c.in_ok-lower.lower ≡ n = omega (arith, upper, lower, value) in
    ap Ok whole
