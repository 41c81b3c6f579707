use Rattle.world.proofs.Asking.{acted_in, kept_starts}
use Rattle.world.proofs.Machines.{pool_kept}
use Rattle.world.proofs.machine.act_at.Goals as goal

pub returns-clause-acts : goal.returns-clause-acts
returns-clause-acts g c = acted_in c.args.publisher.now.log c.args.place c.args.action c.args.starts.now.items c.index_mut.result.now c.act.new.self c.act.result c.requires.opened c.index_mut.ensures.value c.act.ensures.acts

pub returns-clause-err : goal.returns-clause-err
returns-clause-err g c = kept_starts c.args.starts.now.items c.args.place c.index_mut.result.now c.act.new.self c.act.result c.index_mut.ensures.value c.act.ensures.err

pub returns-clause-readers : goal.returns-clause-readers
returns-clause-readers g c = pool_kept c.args.starts.now.items c.args.place c.index_mut.result.now c.act.new.self _ _ c.requires.opened c.index_mut.ensures.value c.act.ensures.readers
