use Rattle.tables.specs.Tables.{table_named}
use Rattle.schedule.proofs.Asking.{delete_refused_by, found_by, key_by}
use Rattle.schedule.proofs.session.Session.delete.Goals as goal

pub returns-in-Err-clause-called : goal.returns-in-Err-clause-called
returns-in-Err-clause-called g c =
    let table = table_named c.args.table.now c.args.publisher.now.tables in (
      delete_refused_by c.in-Some.table.now table c.args.key.now c.in_ok-key.key c.args.self.now.tx c.args.publisher.now c.in-Err.fault
          (found_by c.args.publisher.now.tables c.catalog.result.now c.args.table.now c.as_str.result.now c.in-Some.table.now c.in-Some.ensures.value c.as_str.ensures.value c.catalog.ensures)
          (key_by c.as_slice.result.now c.in-Some.table.now c.args.key.now c.in_ok-key.key c.in_ok-key.ensures c.as_slice.ensures) c.in-Err.ensures.refused,
      c.in-Err.ensures.err,
    )
