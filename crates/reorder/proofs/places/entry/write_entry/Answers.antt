use Rattle.reorder.proofs.Coding.{body_fits}
use Rattle.reorder.proofs.places.entry.write_entry.Goals as goal

pub returns-clause-fits : goal.returns-clause-fits
returns-clause-fits c =
    rw (c.in_ok-extend_from_slice.ensures.ok, c.in_ok-put_u64.ensures.ok, c.clear.ensures.items)
    (body_fits c.args.position c.body-body.result.now c.args.change.now c.body-body.ensures.short c.body-body.ensures.spells)
