use Rattle.std.proofs.Common.{string_bytes}
use Rattle.std.proofs.lemmas.Map.Text.{btree_map_updates_text}
use Rattle.std.proofs.lemmas.Result.{IfOk-at_ok}
use Rattle.std.specs.Prelude.{◌≡◌}
use Rattle.slots.proofs.by_name.directory.Directory.add.Goals as goal

pub returns-clause-ok : goal.returns-clause-ok
returns-clause-ok c =
    let is_name = IfOk-at_ok (λ s. string_bytes s ≡ c.args.name.now) c.in_ok-name.was c.from_str.ensures.ok in
    let sets = btree_map_updates_text (string_bytes c.in_ok-name.name) c.args.self.now.places c.insert.new.self _ c.in_ok-insert.ensures.updates in
    rw is_name at sets
