use Rattle.std.proofs.Common.{◌∙◌, ℕ, ap, arith, take}
use Rattle.shared_log.specs.declared.histories.copy.Logged.{Logged}
use Rattle.shared_log.specs.SeenPrefixes.{shown_records}
use Rattle.wal.specs.Restart.{oldest}
use Rattle.shared_log.proofs.Reading.{oldest_there}
use Rattle.shared_log.proofs.following.resuming.oldest_at.Goals as goal

pub returns : goal.returns
returns c =
    let copy = c.args.copy.now in
    ap (λ (l : Logged). l.restart) c.index.ensures ∙ oldest_there (shown_records copy.mark.seen.log) copy.edge copy.records.items c.args.count c.index.result.now c.requires.lies c.if-count-eq0.false c.requires.within

pub returns-then-count-eq0 : goal.returns-then-count-eq0
returns-then-count-eq0 c =
    let copy = c.args.copy.now in
    c.requires.lies.restart ∙ ap (λ (n : ℕ). oldest (take n (shown_records copy.mark.seen.log))) (omega (arith, c.if-count-eq0.true))
