use Rattle.std.proofs.Common.{◌++◌, ℕ, List, nat_eq, sym, ap, ◌∙◌}
use Rattle.std.specs.HashMap.{get}
use Rattle.std.specs.List.{flat_map}
use Rattle.std.proofs.lemmas.List.{append-nil, drop_all}
use Rattle.reorder.specs.Strands.{kept_spots}
use Rattle.reorder.proofs.places.spots.joined_spots.Goals as goal

pub returns : goal.returns
returns c =
    let joined = c.loop-xid.joined.items in
    let none = drop_all c.loop-xid.xid-index c.args.xids.now c.loop-xid-test.false in
    sym (append-nil joined) ∙ ap (λ (xids : List ℕ). joined ++ flat_map (kept_spots c.args.pool.now (get nat_eq c.args.strands.now)) xids) (sym none) ∙ c.loop-xid.invariant
