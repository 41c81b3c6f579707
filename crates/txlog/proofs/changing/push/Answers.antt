use Rattle.std.proofs.Common.{refl}
use Rattle.txlog.proofs.Calls.{change_fits}
use Rattle.txlog.proofs.Tops.{changed-top}
use Rattle.txlog.proofs.changing.push.Goals as goal

pub push-requires : goal.push-requires
push-requires g c = record {
  fits = change_fits c.args.log.now.records c.args.at.innermost c.args.change.now c.in_ok-logged.logged c.requires.short c.requires.fits c.in_ok-logged.ensures;
  top = rw c.in_ok-logged.ensures (changed-top c.args.log.now.records c.args.at.xid c.args.at.innermost c.args.change.now c.requires.top);
  good = rw c.in_ok-logged.ensures c.requires.good;
  own = refl;
}
