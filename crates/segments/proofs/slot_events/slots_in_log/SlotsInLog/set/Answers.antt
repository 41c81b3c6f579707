use Rattle.std.proofs.Common.{◌∙◌, string_bytes}
use Rattle.std.proofs.lemmas.Map.Text.{btree_map_updates_text}
use Rattle.std.proofs.lemmas.Result.{IfOk-at_ok}
use Rattle.std.specs.Prelude.{◌≡◌}
use Rattle.segments.proofs.slot_events.slots_in_log.SlotsInLog.set.Goals as goal

pub returns : goal.returns
returns c =
    let is_name = IfOk-at_ok (λ s. string_bytes s ≡ c.as_str.result.now) c.in-Ok.is c.from_str.ensures.ok ∙ c.as_str.ensures.value in
    let sets = btree_map_updates_text (string_bytes c.in-Ok.name) c.args.self.now.slots c.insert.new.self _ c.in_ok-insert.ensures.updates in
    rw is_name at sets
