use Rattle.std.proofs.Common.{◌≡◌, List, ℕ, codes, Option, Some, None, Result, refl}
use Rattle.std.specs.Prelude.{IfOk, IfSome}
use Rattle.std.specs.Option.{ok_or}
use Rattle.toml.specs.Data.{Data, get}
use Rattle.toml.specs.View.{view}
use Rattle.catalog.specs.declared.config_fault.CatalogMember.{CatalogMember}
use Rattle.catalog.specs.declared.config_fault.CatalogMember.TheVariants as members
use Rattle.catalog.specs.declared.config_table.UnreadTable.{UnreadTable}
use Rattle.catalog.specs.declared.config_table.UnreadTable.TheVariants.{Wrong}
use Rattle.catalog.specs.Config.{Reads, told_member, columns_in}
use Rattle.tables.specs.Tables.{AreColumns}
use Rattle.catalog.proofs.config_table.columns_beside.Goals as goal

-- what is found in a member is told by that member, where it is none
found : {X : Type 0} (which : CatalogMember) (key : List ℕ) (read : Data → Option X) (d value : Data) (there : Option X) (result : Result X UnreadTable) →
    Some value ≡ get key d → there ≡ read value → result ≡ ok_or there (Wrong which) → Reads result (told_member which key read d)
found {X = X} which key read d value there result got is given = rw (given, ← got, ← is) (by_there there)
  where
    by_there : (there : Option X) → Reads (ok_or there (Wrong which)) (ok_or there which)
    by_there None = refl
    by_there (Some x) = refl

fits : {X : Type 0} (P : X → Type 0) (e : UnreadTable) (there : Option X) (result : Result X UnreadTable) → IfSome there P → result ≡ ok_or there e → IfOk result P
fits P e None result is given = rw given tt
fits P e (Some x) result is given = rw given is

pub returns : goal.returns
returns c = record {
  value = found members.Columns (codes "columns") (columns_in c.args.key.now) (view c.args.table.now) (view c.in-Some.value.now) c.in_ok-columns.columns c.ok_or.result
      c.in-Some.ensures c.in_ok-columns.ensures.value c.ok_or.ensures.value;
  fits = fits AreColumns (Wrong members.Columns) c.in_ok-columns.columns c.ok_or.result c.in_ok-columns.ensures.fits c.ok_or.ensures.value;
}
