use Rattle.std.proofs.Common.{Option, subst}
use Rattle.connections.specs.declared.words.StreamError.{StreamError}
use Rattle.hub.specs.Streams.{WordsBehind, words_of}
use Rattle.hub.proofs.Streams.{nothing_after}
use Rattle.hub.proofs.stream.stream_loop.tell.Goals as goal

pub returns-in-None-clause-behind : goal.returns-in-None-clause-behind
returns-in-None-clause-behind g c =
    let here = c.args.stream.now.walsender in
    let before = g.W.Write.contents c.args.to.now in
    let Told : Option StreamError → Type 0 = λ stream_error. WordsBehind (words_of stream_error) here here before before in
    subst Told c.in-None.ensures (nothing_after here before)
