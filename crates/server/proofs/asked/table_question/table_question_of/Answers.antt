use Rattle.server.proofs.Unasked.{none_of_table}
use Rattle.server.proofs.asked.table_question.table_question_of.Goals as goal

pub returns-in-None : goal.returns-in-None
returns-in-None c =
    let table = rw (c.in_default.is, c.as_bytes.ensures.value) at c.in_ok-table.ensures in
    let lists = rw (c.in_default-2.is, c.as_bytes-2.ensures.value) at c.in_ok-oid.ensures in
    let attributes = rw (c.in_default-3.is, c.as_bytes-3.ensures.value) at c.in_ok-oid-2.ensures in
    let filters = rw (c.in-None.is, c.as_bytes-4.ensures.value) at c.in_ok-oid-3.ensures in
    none_of_table c.args.text.now table lists attributes filters
