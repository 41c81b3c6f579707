use Rattle.std.proofs.Common.{◌+◌, ◌*◌, ◌≤◌, vec_len}
use Rattle.server_state.proofs.publications.row_filters.filter_text.Given as goal

abbrev pub invariant-loop-b : goal.invariant-loop-b
invariant-loop-b l = vec_len l.text ≤ 1 + 2 * l.b-index
