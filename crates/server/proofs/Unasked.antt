-- Where none of some questions is read, the text asks none of them.
use Rattle.std.proofs.Common.{◌≡◌, ℕ, ◌<◌, ◌^◌, List}
use Rattle.std.specs.Prelude.{codes}
use Rattle.server.specs.Questions.{SpellsListed, SpellsQuestion, SpellsTable, attributes_text, column_lists_front, row_filters_front}
use Rattle.server.specs.Reading.{AsksPublished, AsksTable}
use Rattle.server.specs.declared.asked.question.Question.{Question}
use Rattle.server.specs.declared.asked.question.Question.TheVariants.{SearchPath, InitialCopy, Publications, Tables, Columns, Table, ColumnLists, Attributes, RowFilters, Show, DropWhenFree}
use Rattle.server.specs.declared.asked.table_name.TableName.{TableName}

pub none_published : (text : List ℕ) → ((names : List (List ℕ)) → SpellsListed text (codes "SELECT t.pubname FROM\n pg_catalog.pg_publication t WHERE\n t.pubname IN (") (codes ")") names → ⊥)
    → ((names : List (List ℕ)) → SpellsListed text (codes "SELECT DISTINCT t.schemaname, t.tablename \nFROM pg_catalog.pg_publication_tables t\n WHERE t.pubname IN (") (codes ")") names → ⊥)
    → ((names : List (List ℕ)) → SpellsListed text (codes "SELECT DISTINCT t.schemaname, t.tablename \n, t.attnames\nFROM pg_catalog.pg_publication_tables t\n WHERE t.pubname IN (") (codes ")") names → ⊥)
    → (question : Question) → AsksPublished question → SpellsQuestion text question → ⊥
none_published text a b d SearchPath asks spells = asks
none_published text a b d InitialCopy asks spells = asks
none_published text a b d (Publications m) asks spells = a m spells
none_published text a b d (Tables m) asks spells = b m spells
none_published text a b d (Columns m) asks spells = d m spells
none_published text a b d (Table m) asks spells = asks
none_published text a b d (ColumnLists oid m) asks spells = asks
none_published text a b d (Attributes oid) asks spells = asks
none_published text a b d (RowFilters oid m) asks spells = asks
none_published text a b d (Show m) asks spells = asks
none_published text a b d (DropWhenFree m) asks spells = asks

pub none_of_table : (text : List ℕ) → ((table : TableName) → SpellsTable text table → ⊥)
    → ((oid : ℕ) (names : List (List ℕ)) → oid < 2 ^ 32 → SpellsListed text (column_lists_front oid) (codes " )") names → ⊥)
    → ((oid : ℕ) → oid < 2 ^ 32 → text ≡ attributes_text oid → ⊥)
    → ((oid : ℕ) (names : List (List ℕ)) → oid < 2 ^ 32 → SpellsListed text (row_filters_front oid) (codes " )") names → ⊥)
    → (question : Question) → AsksTable question → SpellsQuestion text question → ⊥
none_of_table text a b d e SearchPath asks spells = asks
none_of_table text a b d e InitialCopy asks spells = asks
none_of_table text a b d e (Publications m) asks spells = asks
none_of_table text a b d e (Tables m) asks spells = asks
none_of_table text a b d e (Columns m) asks spells = asks
none_of_table text a b d e (Table m) asks spells = a m spells
none_of_table text a b d e (ColumnLists oid m) asks spells = b oid m spells.0 spells.1
none_of_table text a b d e (Attributes oid) asks spells = d oid spells.0 spells.1
none_of_table text a b d e (RowFilters oid m) asks spells = e oid m spells.0 spells.1
none_of_table text a b d e (Show m) asks spells = asks
none_of_table text a b d e (DropWhenFree m) asks spells = asks
