use Rattle.std.proofs.lemmas.Map.Text.{btree_map_updates_text}
use Rattle.segments.proofs.slot_events.slots_in_log.SlotsInLog.forget.Goals as goal

pub returns : goal.returns
returns c = btree_map_updates_text c.args.name.now c.args.self.now.slots c.remove.new.self _ c.remove.ensures.updates
