use Rattle.std.proofs.Common.{◌≡◌, rules}
use Rattle.pqformat.proofs.Quoting.{found}
use Rattle.server.specs.Reading.{quoted_front}
use Rattle.server_state.specs.declared.publications.row_filters.TheConstants.{NAME_QUOTE}
use Rattle.server_state.proofs.Filters.{or_leaves_text, or_shrinks}
use Rattle.server_state.proofs.publications.row_filters.publications_in.Goals as goal

pub loop-names-smaller : goal.loop-names-smaller
loop-names-smaller c =
    let read : quoted_front NAME_QUOTE c.loop-names.rest.now ≡ found c.in-Some.name c.in-Some.after.now = search rules in
    or_shrinks c.loop-names.rest.now c.in-Some.name c.in-Some.after.now c.in-Some-after_or.next.now read c.in-Some-after_or.ensures

pub loop-names-preserved : goal.loop-names-preserved
loop-names-preserved c =
    let read : quoted_front NAME_QUOTE c.loop-names.rest.now ≡ found c.in-Some.name c.in-Some.after.now = search rules in
    or_leaves_text c.loop-names.rest.now c.in-Some.name c.in-Some.after.now c.in-Some-after_or.next.now c.loop-names.invariant read c.in-Some-after_or.ensures
