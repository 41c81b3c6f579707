use Rattle.std.proofs.lemmas.Map.Text.{btree_map_updates_text}
use Rattle.slots.proofs.by_name.directory.Directory.remove.Goals as goal

pub returns-clause-others : goal.returns-clause-others
returns-clause-others c = btree_map_updates_text c.args.name.now c.args.self.now.places c.remove.new.self _ c.remove.ensures.updates
