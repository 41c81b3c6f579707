-- The questions that the clients of PostgreSQL 15 ask beside the commands of the replication protocol, text by text: a subscriber (CREATE,
-- ALTER and DROP SUBSCRIPTION, 31.2, and the copy of a table) and pg_recvlogical. Names stand as string literals (4.1.2.1), in which a quote
-- that is meant stands twice.
use Rattle.std.specs.Prelude.{◌≡◌, ◌⊎◌, ◌<◌, ◌^◌, ℕ, true, List, [], ◌∷◌, ◌++◌, codes}
use Rattle.std.specs.Fmt.{decimal}
use Rattle.pqformat.specs.Quoting.{in_quotes, with_doubled_quotes}
use Rattle.replcmd.specs.Words.{is_slot_name}
use Rattle.server.specs.declared.asked.question.Question.{Question}
use Rattle.server.specs.declared.asked.question.Question.TheVariants.{SearchPath, InitialCopy, Publications, Tables, Columns, Table, ColumnLists, Attributes, RowFilters, Show, DropWhenFree}
use Rattle.server.specs.declared.asked.quoted.TheConstants.{BACKSLASH, LITERAL_QUOTE, NAME_QUOTE}
use Rattle.server.specs.declared.asked.table_name.TableName.{TableName}

-- The literal says this. Behind an E a backslash that is meant stands twice too.
abbrev pub SpellsLiteral : List ℕ → List ℕ → Type 0
SpellsLiteral literal text = (literal ≡ in_quotes LITERAL_QUOTE text) ⊎ (literal ≡ codes "E" ++ in_quotes LITERAL_QUOTE (with_doubled_quotes BACKSLASH text))

-- these stand after the first of a list, up to what closes it
abbrev pub SpellsFurther : List ℕ → List ℕ → List (List ℕ) → Type 0
SpellsFurther end text [] = text ≡ end
SpellsFurther end text (name ∷ names) = (literal rest : List ℕ) × SpellsLiteral literal name × (text ≡ codes ", " ++ (literal ++ rest)) × SpellsFurther end rest names

-- The text is a list of these names, one at least, from after its opening bracket on.
abbrev pub SpellsNames : List ℕ → List ℕ → List (List ℕ) → Type 0
SpellsNames end text [] = ⊥
SpellsNames end text (name ∷ names) = (literal rest : List ℕ) × SpellsLiteral literal name × (text ≡ literal ++ rest) × SpellsFurther end rest names

-- a list of names behind a text, up to what closes it
abbrev pub SpellsListed : List ℕ → List ℕ → List ℕ → List (List ℕ) → Type 0
SpellsListed text front end names = (list : List ℕ) × (text ≡ front ++ list) × SpellsNames end list names

-- ---- of one table

abbrev pub SpellsTable : List ℕ → TableName → Type 0
SpellsTable text table =
    (schema name : List ℕ) × SpellsLiteral schema table.schema × SpellsLiteral name table.name
    × (text ≡ codes "SELECT c.oid, c.relreplident, c.relkind  FROM pg_catalog.pg_class c  INNER JOIN pg_catalog.pg_namespace n        ON (c.relnamespace = n.oid) WHERE n.nspname = " ++ (schema ++ (codes "   AND c.relname = " ++ name)))

abbrev pub column_lists_front : ℕ → List ℕ
column_lists_front oid =
    codes "SELECT DISTINCT  (CASE WHEN (array_length(gpt.attrs, 1) = c.relnatts)   THEN NULL ELSE gpt.attrs END)  FROM pg_publication p,  LATERAL pg_get_publication_tables(p.pubname) gpt,  pg_class c WHERE gpt.relid = "
    ++ (decimal oid ++ codes " AND c.oid = gpt.relid   AND p.pubname IN ( ")

abbrev pub attributes_text : ℕ → List ℕ
attributes_text oid =
    codes "SELECT a.attnum,       a.attname,       a.atttypid,       a.attnum = ANY(i.indkey)  FROM pg_catalog.pg_attribute a  LEFT JOIN pg_catalog.pg_index i       ON (i.indexrelid = pg_get_replica_identity_index("
    ++ (decimal oid ++ (codes ")) WHERE a.attnum > 0::pg_catalog.int2   AND NOT a.attisdropped AND a.attgenerated = ''   AND a.attrelid = " ++ (decimal oid ++ codes " ORDER BY a.attnum")))

abbrev pub row_filters_front : ℕ → List ℕ
row_filters_front oid =
    codes "SELECT DISTINCT pg_get_expr(gpt.qual, gpt.relid)  FROM pg_publication p,  LATERAL pg_get_publication_tables(p.pubname) gpt WHERE gpt.relid = "
    ++ (decimal oid ++ codes "   AND p.pubname IN ( ")

-- ---- all

-- The name of a slot stands in quotes, or without: the first releases of PostgreSQL 15 write each in quotes, 15.18 only one that needs them.
abbrev pub SpellsSlot : List ℕ → List ℕ → Type 0
SpellsSlot named slot = (named ≡ in_quotes NAME_QUOTE slot) ⊎ (named ≡ slot)

-- The text drops this slot once nobody holds it.
abbrev pub SpellsDrop : List ℕ → List ℕ → Type 0
SpellsDrop text slot = (is_slot_name slot ≡ true) × ((named : List ℕ) × (text ≡ codes "DROP_REPLICATION_SLOT " ++ (named ++ codes " WAIT")) × SpellsSlot named slot)

-- The text asks for this parameter. Names of parameters are made as those of slots.
abbrev pub SpellsShow : List ℕ → List ℕ → Type 0
SpellsShow text name = (is_slot_name name ≡ true) × (text ≡ codes "SHOW " ++ name)

-- The whole text asks this.
abbrev pub SpellsQuestion : List ℕ → Question → Type 0
SpellsQuestion text SearchPath = text ≡ codes "SELECT pg_catalog.set_config('search_path', '', false);"
SpellsQuestion text InitialCopy = text ≡ codes "BEGIN READ ONLY ISOLATION LEVEL REPEATABLE READ"
SpellsQuestion text (Publications names) = SpellsListed text (codes "SELECT t.pubname FROM\n pg_catalog.pg_publication t WHERE\n t.pubname IN (") (codes ")") names
SpellsQuestion text (Tables names) =
    SpellsListed text (codes "SELECT DISTINCT t.schemaname, t.tablename \nFROM pg_catalog.pg_publication_tables t\n WHERE t.pubname IN (") (codes ")") names
SpellsQuestion text (Columns names) =
    SpellsListed text (codes "SELECT DISTINCT t.schemaname, t.tablename \n, t.attnames\nFROM pg_catalog.pg_publication_tables t\n WHERE t.pubname IN (") (codes ")") names
SpellsQuestion text (Table table) = SpellsTable text table
SpellsQuestion text (ColumnLists oid names) = (oid < 2 ^ 32) × SpellsListed text (column_lists_front oid) (codes " )") names
SpellsQuestion text (Attributes oid) = (oid < 2 ^ 32) × (text ≡ attributes_text oid)
SpellsQuestion text (RowFilters oid names) = (oid < 2 ^ 32) × SpellsListed text (row_filters_front oid) (codes " )") names
SpellsQuestion text (Show name) = SpellsShow text name
SpellsQuestion text (DropWhenFree slot) = SpellsDrop text slot
