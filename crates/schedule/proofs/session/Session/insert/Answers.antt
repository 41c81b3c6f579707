use Rattle.tables.specs.Tables.{table_named}
use Rattle.schedule.proofs.Asking.{found_by, insert_refused_by, row_by}
use Rattle.schedule.proofs.session.Session.insert.Goals as goal

pub returns-in-Err-clause-called : goal.returns-in-Err-clause-called
returns-in-Err-clause-called g c =
    let table = table_named c.args.table.now c.args.publisher.now.tables in (
      insert_refused_by c.in-Some.table.now table c.args.row.now c.in_ok-row.row c.args.self.now.tx c.args.publisher.now c.in-Err.fault
          (found_by c.args.publisher.now.tables c.catalog.result.now c.args.table.now c.as_str.result.now c.in-Some.table.now c.in-Some.ensures.value c.as_str.ensures.value c.catalog.ensures)
          (row_by c.as_slice.result.now c.in-Some.table.now c.args.row.now c.in_ok-row.row c.in_ok-row.ensures c.as_slice.ensures) c.in-Err.ensures.refused,
      c.in-Err.ensures.err,
    )
