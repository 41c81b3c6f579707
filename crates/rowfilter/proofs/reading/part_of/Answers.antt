use Rattle.std.proofs.Common.{[], map, ◌∙◌}
use Rattle.std.proofs.lemmas.Result.{err_from_is_err_and}
use Rattle.conditions.specs.Views.{state_of}
use Rattle.conditions.proofs.Stacking.{word_read}
use Rattle.conditions.specs.Parts.{parts, word_at}
use Rattle.conditions.specs.Stacks.{Wanting, run}
use Rattle.rowfilter.proofs.Words.{all_read, word_refused}
use Rattle.rowfilter.proofs.reading.part_of.Goals as goal

pub loop-token-preserved : goal.loop-token-preserved
loop-token-preserved c =
    word_read c.args.columns.now c.args.tokens.now c.loop-token.token-index c.token-item.result (state_of c.loop-token.pending.items c.loop-token.place) (state_of c.place_after.new.pending.items c.in_ok-place.place)
    c.loop-token-test.true c.token-item.is c.in_ok-place.ensures ∙ c.loop-token.invariant

pub returns-in_err-place : goal.returns-in_err-place
returns-in_err-place c =
    let err = err_from_is_err_and c.from_residual.result c.from_residual.ensures.1 in
    rw (err.1, err.2)
    (word_refused c.args.columns.now c.args.tokens.now c.loop-token.token-index c.token-item.result (state_of c.loop-token.pending.items c.loop-token.place) c.place_after.new.pending.items c.in_err-place.field-0.0
    (run parts (Wanting []) (map (word_at c.args.columns.now) c.args.tokens.now)) c.loop-token-test.true c.token-item.is c.in_err-place.ensures c.loop-token.invariant)

pub returns : goal.returns
returns c =
    all_read c.args.columns.now c.args.tokens.now c.loop-token.token-index (state_of c.loop-token.pending.items c.loop-token.place) c.whole.result
    (run parts (Wanting []) (map (word_at c.args.columns.now) c.args.tokens.now)) c.loop-token-test.false c.loop-token.invariant c.whole.ensures
