use Rattle.store.proofs.places.slots.Slots.empty_noting.Goals as goal

pub returns-in_err-take_rows-clause-noted : goal.returns-in_err-take_rows-clause-noted
returns-in_err-take_rows-clause-noted c start rows h = c.take_rows.ensures.noted c.args.oids.now start rows h

pub returns-clause-noted : goal.returns-clause-noted
returns-clause-noted c start rows h = c.hold_tables.ensures.noted start (c.take_rows.ensures.noted c.args.oids.now start rows h)
