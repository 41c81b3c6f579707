use Rattle.std.proofs.lemmas.Map.Text.{btree_map_updates_text}
use Rattle.server_state.proofs.kept.owners.Owners.forget.Goals as goal

pub returns : goal.returns
returns c = btree_map_updates_text c.args.name.now c.args.self.now.users c.remove.new.self _ c.remove.ensures.updates
