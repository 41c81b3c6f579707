use Rattle.std.proofs.Common.{sym, ◌∙◌}
use Rattle.store.specs.Rows.{Key}
use Rattle.store.proofs.Storing.{long_slot}
use Rattle.store.proofs.Changing.{keys_left, keys_long}
use Rattle.store.proofs.store.Store.judge_keys.Goals as goal

pub returns-else-to_is_held-clause-refused : goal.returns-else-to_is_held-clause-refused
returns-else-to_is_held-clause-refused c short =
    let key : Key = record { oid = c.args.oid; values = c.args.key.now } in
    keys_left c.args.self.now c.args.top key c.in-Some.from c.args.to c.judge_places.result c.in-Some.ensures (sym c.is_held.ensures ∙ c.if-is_held.false)
    (sym c.is_held-to_is_held.ensures ∙ c.if-to_is_held.false) c.judge_places.ensures.refused

pub returns-else-to_is_held-2-clause-refused : goal.returns-else-to_is_held-2-clause-refused
returns-else-to_is_held-2-clause-refused c short =
    let key : Key = record { oid = c.args.oid; values = c.args.key.now } in
    keys_long c.args.self.now c.args.top key c.args.to (long_slot c.args.self.now key c.in-None.ensures short) (sym c.is_held-to_is_held.ensures ∙ c.if-to_is_held-2.false)
