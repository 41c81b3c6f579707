use Rattle.std.proofs.Common.{◌≡◌, ◌++◌, ◌∷◌, drop}
use Rattle.std.specs.List.{flat_map}
use Rattle.pqformat.specs.Fields.{int32}
use Rattle.pqformat.specs.Putting.{Extends}
use Rattle.tables.specs.declared.changes.change_body.TheConstants.{TRUNCATE_TAG}
use Rattle.tables.specs.Spelling.{spell_oids}
use Rattle.tables.proofs.changes.change_body.put_oids.Given as goal

abbrev pub invariant-loop-oid : goal.invariant-loop-oid
invariant-loop-oid l = Extends l.fn.out.items l.out.items
    × (l.out.items ++ flat_map int32 (drop l.oid-index l.oids) ≡ l.fn.out.items ++ TRUNCATE_TAG ∷ spell_oids l.oids)
