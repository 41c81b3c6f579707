use Rattle.std.proofs.Common.{◌≡◌, ◌≤◌, ℕ, List, length, take, arith}
use Rattle.std.proofs.lemmas.List.{length-take}
use Rattle.shared_log.specs.Readers.{seen_of}
use Rattle.segments.proofs.Kept.{restart_within, still_within}
use Rattle.segments.proofs.log_keeper.LogKeeper.resume.Goals as goal

pub invariant_of-result : goal.invariant_of-result
invariant_of-result g c =
    let passed = c.in_ok-fetch.field-0 in
    let gives = c.in_ok-fetch.ensures.gives in
    let middle = c.resume.new.self in
    let before = seen_of middle in
    let at = c.in_ok-resume.ensures.place in
    let known = take c.args.place before in
    let low : middle.place ≤ length before = omega (arith, at, restart_within known c.args.end, length-take c.args.place before) in
    record { within = still_within before (seen_of c.fetch.new.self) passed.items middle.place c.saturating_sub-behind.result c.fetch.new.self.place c.fetch.ensures.grows low gives.0 (omega (arith, gives.1, passed.ok)) }
