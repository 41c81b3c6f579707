use Rattle.store.proofs.Undoing.{undoing_next}
use Rattle.store.proofs.places.slots.Slots.undo.Goals as goal

pub loop-undo-preserved : goal.loop-undo-preserved
loop-undo-preserved c can =
    undoing_next c.loop-undo.self c.put_back.new.self c.args.self.now c.loop-undo.undos.items c.pop.new.self.items c.args.undos c.in-Some.undo c.in-Some.ensures.items c.put_back.ensures.slots
    c.put_back.ensures.short (c.loop-undo.invariant can)
