use Rattle.std.proofs.Common.{◌∙◌, ℕ, true, List, ap, sym}
use Rattle.shared_log.specs.declared.histories.entry.Entry.{Entry}
use Rattle.wal.specs.Restart.{oldest}
use Rattle.shared_log.specs.SeenPrefixes.{settled_records}
use Rattle.shared_log.specs.Openings.{place_or, place_where}
use Rattle.shared_log.proofs.Progress.{oldest_of}
use Rattle.shared_log.proofs.appending.state.LogState.oldest.Goals as goal

pub returns : goal.returns
returns g c =
    c.oldest.ensures ∙ ap (λ (n : ℕ). place_or n (place_where (λ x. true) c.self.inside.openings.items.items)) c.self.invariant.counted
    ∙ sym (oldest_of (settled_records c.self.inside.front) c.self.inside.openings.items.items c.self.invariant.progress) ∙ ap (λ (es : List Entry). oldest (settled_records es)) c.self.view_is
