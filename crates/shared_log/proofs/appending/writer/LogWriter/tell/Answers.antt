use Rattle.std.proofs.Common.{List, ap, subst, ◌∙◌}
use mathlib.Core.List.{IsPrefix}
use Rattle.wal.specs.declared.record.Record.{Record}
use Rattle.shared_log.specs.SeenPrefixes.{settled_records}
use Rattle.shared_log.specs.Writing.{Written}
use Rattle.shared_log.proofs.SeenPrefixes.{settled_grows}
use Rattle.shared_log.proofs.appending.writer.LogWriter.tell.Goals as goal

pub returns-clause-told : goal.returns-clause-told
returns-clause-told g c =
    subst (λ (l : List Record). IsPrefix l (settled_records c.longer.result)) (c.sure.ensures.alike ∙ ap (λ (w : Written). w.records) c.self.view_is) (settled_grows c.sure.result.now c.longer.result c.longer.ensures.that)
