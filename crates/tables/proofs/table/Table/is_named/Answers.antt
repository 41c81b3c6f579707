use Rattle.std.proofs.Common.{◌∷◌, sym}
use Rattle.tables.proofs.Names.{split_at_schema, other_schema}
use Rattle.tables.proofs.table.Table.is_named.Goals as goal

pub returns-in-Some : goal.returns-in-Some
returns-in-Some c =
    let cut = rw (c.as_bytes-schema.ensures.value, c.as_str.ensures.value, c.as_bytes.ensures.value) at c.in-Some.ensures.cases in
    split_at_schema c.args.self.now.schema c.in-Some.rest.now (46 ∷ c.args.self.now.name) c.args.name.now c.is_dotted.result cut.0 cut.1
    (rw c.as_str-in-Some.ensures.value at c.is_dotted.ensures)

pub returns-in-None : goal.returns-in-None
returns-in-None c =
    sym (other_schema c.args.self.now.schema (46 ∷ c.args.self.now.name) c.args.name.now
    (rw (c.as_bytes-schema.ensures.value, c.as_str.ensures.value, c.as_bytes.ensures.value) at c.in-None.ensures.cases))
