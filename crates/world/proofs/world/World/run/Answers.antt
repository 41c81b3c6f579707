use Rattle.std.proofs.Common.{◌+◌, ◌∷◌, [], List, length, length-append, take, sym, ap, subst, arith}
use Rattle.std.specs.Prelude.{Result}
use Rattle.schedule.specs.declared.fault.WorldFault.{WorldFault as Fault}
use Rattle.world.specs.declared.printed.answer.Answer.{Answer}
use Rattle.world.specs.State.{WorldState, new_world}
use Rattle.world.specs.Machine.{world_of}
use Rattle.world.specs.Steps.{IsRun, StopsAt}
use Rattle.world.proofs.Confirmed.{run_confirms}
use Rattle.world.proofs.OnceRuns.{runs_once}
use Rattle.world.proofs.Runs.{headline, run_on, stops}
use Rattle.world.proofs.world.World.run.Goals as goal

pub loop-event-preserved : goal.loop-event-preserved
loop-event-preserved g c =
    let start = new_world c.args.config in
    let here = c.loop-event in
    let answer : Answer = c.in_default-step_in.field-0 in
    let Runs : List Answer → Type 0 = λ l. IsRun start (take (here.event-index + 1) c.args.events.now) l (world_of c.step_in.new.machine) in
    record {
      machine = c.step_in.ensures.machine;
      run = subst Runs (sym c.in_default-step_in.ensures.kept) (run_on start (world_of here.machine) (world_of c.step_in.new.machine) c.args.events.now here.event-index here.answers.items c.event-item.result answer c.loop-event-test.true c.event-item.is
          here.invariant.run c.in_default-step_in.ensures.step);
      count = let longer = ap (λ (l : List Answer). length l) c.in_default-step_in.ensures.kept in omega (arith, longer, length-append here.answers.items (answer ∷ []), here.invariant.count);
      room = rw c.in_default-step_in.ensures.capacity here.invariant.room;
    }

pub returns-in-Err-clause-stops : goal.returns-in-Err-clause-stops
returns-in-Err-clause-stops g c =
    let start = new_world c.args.config in
    let here = c.loop-event in
    let fault : Fault = c.in-Err.fault in
    let told = c.in-Err.ensures in
    let stopped : StopsAt start c.args.events.now here.answers.items (world_of here.machine) fault = stops start (world_of here.machine) c.args.events.now here.event-index here.answers.items c.event-item.result fault c.loop-event-test.true c.event-item.is
    here.invariant.count here.invariant.run (λ e. told.bad.0 (ap (λ (f : Fault). Result.Err f) e), λ t. let never = told.bad.1 t in cc) (λ e. told.entry (ap (λ (f : Fault). Result.Err f) e)) (λ e. told.memory (ap (λ (f : Fault). Result.Err f) e)) in
    let Shows : WorldState → Type 0 = λ w. StopsAt start c.args.events.now here.answers.items w fault in
    (rw told.err.1 (subst Shows (sym told.err.0) stopped), headline c.step_in.new.machine c.step_in.ensures.machine)

pub returns-clause-headline : goal.returns-clause-headline
returns-clause-headline g c = headline c.loop-event.machine c.loop-event.invariant.machine

pub returns-clause-confirmed : goal.returns-clause-confirmed
returns-clause-confirmed g c = λ name run. run_confirms name (new_world c.args.config) c.args.events.now c.loop-event.answers.items (world_of c.loop-event.machine) run

pub returns-clause-once : goal.returns-clause-once
returns-clause-once g c =
    let here = c.loop-event in
    runs_once c.args.config c.args.events.now here.answers.items (world_of here.machine) here.invariant.machine.good (headline here.machine here.invariant.machine)
