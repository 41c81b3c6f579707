-- What a publisher is configured with, as contracts see it.
use Rattle.std.specs.Prelude.{List}
use Rattle.tables.specs.declared.table.Table.{Table}
use Rattle.publication.specs.Publications.{PublicationSet}
use Rattle.configuration.specs.declared.server.Server.{Server}

-- its tables, its publications over them, and its server
pub record Setting : Type 0 where
  pub tables : List Table
  pub publications : PublicationSet
  pub server : Server
