use Rattle.tables.specs.Tables.{table_named}
use Rattle.schedule.proofs.Asking.{found_by, key_by, row_by, update_refused_by}
use Rattle.schedule.proofs.session.Session.update.Goals as goal

pub returns-in-Err-clause-called : goal.returns-in-Err-clause-called
returns-in-Err-clause-called g c =
    let table = table_named c.args.table.now c.args.publisher.now.tables in (
      update_refused_by c.in-Some.table.now table c.args.key.now c.args.row.now c.in_ok-key.key c.in_ok-row.row c.args.self.now.tx c.args.publisher.now c.in-Err.fault
          (found_by c.args.publisher.now.tables c.catalog.result.now c.args.table.now c.as_str.result.now c.in-Some.table.now c.in-Some.ensures.value c.as_str.ensures.value c.catalog.ensures)
          (key_by c.as_slice.result.now c.in-Some.table.now c.args.key.now c.in_ok-key.key c.in_ok-key.ensures c.as_slice.ensures)
          (row_by c.as_slice-2.result.now c.in-Some.table.now c.args.row.now c.in_ok-row.row c.in_ok-row.ensures c.as_slice-2.ensures) c.in-Err.ensures.refused,
      c.in-Err.ensures.err,
    )
