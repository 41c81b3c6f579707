use Rattle.std.proofs.Common.{◌∙◌, ap}
use Rattle.wal.specs.declared.record.Record.{Record}
use Rattle.shared_log.specs.declared.histories.copy.Logged.{Logged}
use Rattle.shared_log.specs.SeenPrefixes.{shown_records}
use Rattle.shared_log.proofs.Reading.{position_there}
use Rattle.shared_log.proofs.following.resuming.position_at.Goals as goal

pub returns : goal.returns
returns c =
    let copy = c.args.copy.now in
    ap (λ (r : Record). r.end) c.deref.ensures ∙ ap (λ (l : Logged). l.entry.value.end) c.index.ensures ∙ position_there (shown_records copy.mark.seen.log) copy.edge copy.records.items c.args.count c.index.result.now c.requires.lies c.if-count-eq0.false c.requires.within
