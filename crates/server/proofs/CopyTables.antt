-- The name of a table at the front of a text is read as it is spelled.
use Rattle.std.proofs.Common.{◌≡◌, ℕ, List, ◌++◌, None, refl, sym, ap, subst, ◌∙◌, append_assoc}
use Rattle.std.specs.Prelude.{◌≢◌, codes}
use Rattle.std.specs.Str.{IsUtf8}
use Rattle.std.proofs.lemmas.List.{append_cancel_left}
use Rattle.pqformat.proofs.Quoting.{found}
use Rattle.server.specs.Copies.{SpellsName, name_front}
use Rattle.server.specs.CopyReading.{EndsName, Read, TableAt}
use Rattle.server.specs.declared.asked.table_name.TableName.{TableName}
use Rattle.server.proofs.CopyNames.{Named, name_once, name_read, no_name}
use Rattle.server.proofs.Lists.{after_text}

abbrev table_of : List ℕ → List ℕ → TableName
table_of schema name = record { schema = schema; name = name }

-- a table's name in two parts, and what follows it
record Parts (text : List ℕ) (table : TableName) (rest : List ℕ) : Type 0 where
  schema : List ℕ
  name : List ℕ
  spells_schema : SpellsName schema table.schema
  spells_name : SpellsName name table.name
  is : text ≡ schema ++ (codes "." ++ (name ++ rest))

parts_of : (text : List ℕ) (table : TableName) (rest : List ℕ) → TableAt text table rest → Parts text table rest
parts_of text table rest (named, (schema, name, spells_schema, spells_name, joined), is) = record {
  schema = schema;
  name = name;
  spells_schema = spells_schema;
  spells_name = spells_name;
  is = is ∙ ap (λ (l : List ℕ). l ++ rest) joined ∙ append_assoc schema (codes "." ++ name) rest;
}

pub point : (x : List ℕ) → EndsName (codes "." ++ x)
point x = record { quote = refl; byte = refl }

pub no_schema : (text : List ℕ) → name_front text ≡ None → (table : TableName) (other : List ℕ) → TableAt text table other → EndsName other → ⊥
no_schema text read table other stands ends =
    let p = parts_of text table other stands in
    no_name text p.schema table.schema (codes "." ++ (p.name ++ other)) read p.spells_schema (point (p.name ++ other)) p.is

-- what follows the schema's name
after_schema : (text schema rest : List ℕ) → name_front text ≡ found schema rest → (table : TableName) (other : List ℕ) (p : Parts text table other) → (schema ≡ table.schema) × (rest ≡ codes "." ++ (p.name ++ other))
after_schema text schema rest read table other p = name_once text schema rest p.schema table.schema (codes "." ++ (p.name ++ other)) read p.spells_schema (point (p.name ++ other)) p.is

pub no_point : (text schema rest : List ℕ) → name_front text ≡ found schema rest → ((more : List ℕ) → rest ≢ codes "." ++ more) → (table : TableName) (other : List ℕ) → TableAt text table other → EndsName other → ⊥
no_point text schema rest read dry table other stands ends =
    let p = parts_of text table other stands in
    dry (p.name ++ other) (after_schema text schema rest read table other p).1

-- the second name stands where it is read
second : (text schema rest named : List ℕ) → name_front text ≡ found schema rest → rest ≡ codes "." ++ named → (table : TableName) (other : List ℕ) (p : Parts text table other) → named ≡ p.name ++ other
second text schema rest named read is table other p =
    append_cancel_left (codes ".") named (p.name ++ other) (sym is ∙ (after_schema text schema rest read table other p).1)

pub no_table : (text schema rest named : List ℕ) → name_front text ≡ found schema rest → rest ≡ codes "." ++ named → name_front named ≡ None
    → (table : TableName) (other : List ℕ) → TableAt text table other → EndsName other → ⊥
no_table text schema rest named read is none table other stands ends =
    let p = parts_of text table other stands in
    no_name named p.name table.name other none p.spells_name ends (second text schema rest named read is table other p)

pub table_read : (text schema rest named name end : List ℕ) → name_front text ≡ found schema rest → rest ≡ codes "." ++ named → name_front named ≡ found name end → IsUtf8 text
    → Read (TableAt text) EndsName (record { schema = schema; name = name }) end
table_read text schema rest named name end read is then valid = record { stands = stands; text = left; once = once }
  where
    s : Named text schema rest
    s = name_read text schema rest read

    n : Named named name end
    n = name_read named name end then

    stands : TableAt text (record { schema = schema; name = name }) end
    stands = (
      s.named ++ (codes "." ++ n.named),
      (s.named, n.named, s.spells, n.spells, refl),
      s.is ∙ ap (λ (l : List ℕ). s.named ++ l) (is ∙ ap (λ (l : List ℕ). codes "." ++ l) n.is) ∙ sym (append_assoc s.named (codes "." ++ n.named) end),
    )

    left : IsUtf8 end
    left = n.text (after_text (codes ".") named refl (subst IsUtf8 is (s.text valid)))

    once : (table : TableName) (other : List ℕ) → TableAt text table other → EndsName other → (table_of schema name ≡ table) × (end ≡ other)
    once table other it ends =
        let p = parts_of text table other it in
        let first = after_schema text schema rest read table other p in
        let last = name_once named name end p.name table.name other then p.spells_name ends (second text schema rest named read is table other p) in
        (same first.0 last.0, last.1)
      where
        same : schema ≡ table.schema → name ≡ table.name → table_of schema name ≡ table
        same one two = ap (λ (l : List ℕ). table_of l name) one ∙ ap (λ (l : List ℕ). table_of table.schema l) two
