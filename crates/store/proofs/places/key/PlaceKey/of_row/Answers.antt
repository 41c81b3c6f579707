use Rattle.std.proofs.Common.{◌≡◌, length, drop, ◌+◌, sym, ap, ◌∙◌, List}
use Rattle.std.specs.List.{flat_map}
use Rattle.store.specs.declared.places.key.TheConstants.{MAX_KEY_LENGTH}
use Rattle.tables.specs.declared.kinds.Value.{Value}
use Rattle.store.specs.Rows.{key_text, key_values}
use Rattle.tables.specs.Kinds.{spell_value}
use Rattle.store.proofs.Keys.{key_skip, key_more, next_fits, row_key_le}
use Rattle.store.proofs.places.key.PlaceKey.of_row.Goals as goal

whole_row : (c : goal.Then-not-column) → length c.args.columns.now ≡ length c.values-values.result.now
whole_row c = c.requires.whole ∙ ap (λ (vs : List Value). length vs) (sym c.values-values.ensures)

pub loop-i-preserved-then-not-column : goal.loop-i-preserved-then-not-column
loop-i-preserved-then-not-column c =
    key_skip c.args.columns.now c.values-values.result.now c.loop-i.i c.index-columns-i.result c.loop-i.place (key_text (record { oid = c.args.oid; values = key_values c.args.columns.now c.args.row.now }))
    c.loop-i-test.true (whole_row c) c.index-columns-i.is c.if-not-column.true c.loop-i.invariant

pub push_value-requires : goal.push_value-requires
push_value-requires c =
    next_fits c.loop-i.place (flat_map spell_value (key_values (drop (c.loop-i.i + 1) c.args.columns.now) (drop (c.loop-i.i + 1) c.values-values.result.now)))
    (key_text (record { oid = c.args.oid; values = key_values c.args.columns.now c.args.row.now })) c.index-values-i.result MAX_KEY_LENGTH
    (key_more c.args.columns.now c.values-values.result.now c.loop-i.i c.index-columns-i.result c.index-values-i.result c.loop-i.place
    (key_text (record { oid = c.args.oid; values = key_values c.args.columns.now c.args.row.now })) c.loop-i-test.true
    (c.requires.whole ∙ ap (λ (vs : List Value). length vs) (sym c.values-values.ensures)) c.index-columns-i.is c.if-not-column.false c.index-values-i.is c.loop-i.invariant)
    (row_key_le c.args.oid c.args.columns.now c.args.row.now c.requires.short)
