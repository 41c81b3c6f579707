use Rattle.std.proofs.Common.{arith}
use Rattle.store.specs.Rows.{key_text}
use Rattle.store.proofs.Keys.{fits_next, key_length}
use Rattle.store.proofs.places.key.PlaceKey.of_short_key.Goals as goal

pub push_value-requires : goal.push_value-requires
push_value-requires c =
    fits_next c.loop-value.place (key_text (record { oid = c.args.oid; values = c.args.key.now })) c.values-value-items.result.now c.loop-value.value-index c.value-item.result c.loop-value.invariant
    c.loop-value-test.true c.value-item.is (omega (arith, key_length c.args.oid c.args.key.now, c.requires))
