use Rattle.std.proofs.Common.{arith, subst, sym}
use Rattle.slots.specs.Directories.{place_of}
use Rattle.slots.specs.declared.words_kept.step.SeatView.{SeatView}
use Rattle.connections.specs.Names.{IsNoNewSlot}
use Rattle.connections.proofs.Dropping.{dropped}
use Rattle.connections.proofs.Naming.{added_in_table, refused, same_in_table}
use Rattle.connections.proofs.slot.names.Names.create.Goals as goal

pub invariant_of-self-in-Err : goal.invariant_of-self-in-Err
invariant_of-self-in-Err g c =
    record {
      in_table = same_in_table c.args.self.now.directory c.add.new.self c.in-Err.ensures.err c.args.self.now.in_table;
      few = omega (arith, c.add.ensures.count, c.count.ensures, c.if-count-self.false);
    }

pub returns-in-Err-clause-fault : goal.returns-in-Err-clause-fault
returns-in-Err-clause-fault g c =
    let place = c.in_ok-free.free.place in
    let made = c.make.new.seat in
    let (found, left, did) = dropped c.drop_slot.result place made c.drop_slot.new.seat c.drop_slot.ensures in
    subst (λ (seat : SeatView). IsNoNewSlot c.in-Err.fault (place_of c.args.self.now.directory c.args.name.now) c.args.position c.args.self.now.seat seat) (sym c.go_on.ensures.seat)
    (refused c.args.self.now.directory c.args.name.now c.args.position c.args.self.now.seat c.drop_slot.new.seat (place, found, left, made, c.in_ok-make.ensures, did) c.find.result c.find.ensures c.is_some.result c.is_some.ensures c.if-is_some.false c.in-Err.fault c.in-Err.ensures.fault)

pub invariant_of-self-in_default : goal.invariant_of-self-in_default
invariant_of-self-in_default g c =
    record {
      in_table = added_in_table c.args.self.now.directory c.add.new.self c.args.name.now c.in_ok-free.free.place c.in_default.ensures.ok c.in_ok-free.free.within c.args.self.now.in_table;
      few = omega (arith, c.add.ensures.count, c.count.ensures, c.if-count-self.false);
    }
