use Rattle.std.proofs.Common.{None, not, sym, subst}
use Rattle.std.specs.Prelude.{is_some}
use Rattle.store.specs.declared.store_fault.StoreFault.{StoreFault}
use Rattle.store.specs.declared.store_fault.StoreFault.TheVariants as faults
use Rattle.store.specs.Rows.{Key}
use Rattle.store.specs.History.{unless}
use Rattle.store.specs.Keeping.{IsRefusal, key_held, row_at}
use Rattle.store.proofs.Storing.{long_slot}
use Rattle.store.proofs.Changing.{long_fault}
use Rattle.store.proofs.store.Store.judge_key.Goals as goal

pub returns-in-None-clause-refused : goal.returns-in-None-clause-refused
returns-in-None-clause-refused c short =
    let key : Key = record { oid = c.args.oid; values = c.args.key.now } in
    subst (λ (fault : StoreFault). IsRefusal (unless (key_held c.args.self.now c.args.top key) faults.KeyHeld (unless (not (is_some (row_at c.args.self.now key))) faults.NoSuchRow None)) fault)
    (sym c.judge_long.ensures) (long_fault c.args.self.now c.args.top key (long_slot c.args.self.now key c.in-None.ensures short))
