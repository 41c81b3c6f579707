use Rattle.std.proofs.Common.{◌≡◌, ℕ, List, codes, false, Ok, refl, sym, rules}
use Rattle.std.specs.Option.{ok_or}
use Rattle.toml.specs.Data.{Data, get}
use Rattle.toml.specs.View.{view}
use Rattle.tables.specs.declared.column.Column.{Column}
use Rattle.tables.specs.declared.identity.Identity.{Identity}
use Rattle.catalog.specs.declared.config_fault.CatalogMember.TheVariants as members
use Rattle.catalog.specs.Config.{told_member, oid_in, name_in, identity_in, columns_at, has_others, table_in}
use Rattle.catalog.proofs.config_table.table_in.Goals as goal

read : (d : Data) (oid : ℕ) (schema name : List ℕ) (identity : Identity) (columns : List Column) →
    told_member members.Oid (codes "oid") oid_in d ≡ Ok oid → told_member members.Schema (codes "schema") name_in d ≡ Ok schema →
    told_member members.Name (codes "name") name_in d ≡ Ok name → ok_or (identity_in (get (codes "identity") d)) members.Identity ≡ Ok identity →
    columns_at d ≡ Ok columns → has_others d ≡ false →
    table_in d ≡ Ok (record { oid = oid; schema = schema; name = name; identity = identity; columns = columns })
unfolding table_in
read d oid schema name identity columns a b e f g h = rw (a, b, e, f, g, h) refl

pub returns : goal.returns
returns c = record {
  value = read (view c.args.value.now) c.in_ok-oid.oid c.in_ok-schema.schema c.in_ok-name.name c.in_ok-identity.identity c.in_ok-columns.columns
      c.in_ok-oid.ensures c.in_ok-schema.ensures.value c.in_ok-name.ensures.value c.in_ok-identity.ensures c.in_ok-columns.ensures.value (sym c.if-has_others.ensures);
  fits = record { oid = search rules; schema = c.in_ok-schema.ensures.named; name = c.in_ok-name.ensures.named; columns = c.in_ok-columns.ensures.fits };
}
