use Rattle.std.proofs.Common.{◌≡◌, ◌<◌, ◌^◌, ◌++◌, false, ℕ, List, refl, subst}
use Rattle.std.specs.Prelude.{codes}
use Rattle.std.specs.Char.{is_ascii_digit}
use Rattle.std.specs.Fmt.{decimal}
use Rattle.std.specs.Str.{IsUtf8}
use Rattle.pqformat.specs.Quoting.{begins}
use Rattle.server.specs.Questions.{SpellsNames}
use Rattle.server.proofs.Lists.{after_text}
use Rattle.server.proofs.TableReads.{behind_number, listed_no_middle, listed_no_names, listed_no_number, listed_read}
use Rattle.server.proofs.asked.table_question.row_filters_of.Goals as goal

abbrev front : List ℕ
front = codes "SELECT DISTINCT pg_get_expr(gpt.qual, gpt.relid)  FROM pg_publication p,  LATERAL pg_get_publication_tables(p.pubname) gpt WHERE gpt.relid = "

abbrev middle : List ℕ
middle = codes "   AND p.pubname IN ( "

abbrev end : List ℕ
end = codes " )"

apart : (x : List ℕ) → begins is_ascii_digit (middle ++ x) ≡ false
apart x = refl

pub returns-in_default : goal.returns-in_default
returns-in_default c =
    let none : (oid : ℕ) (rest : List ℕ) → oid < 2 ^ 32 → begins is_ascii_digit rest ≡ false → c.args.text.now ≡ front ++ (decimal oid ++ rest) → ⊥ = rw c.in_default.is at c.in_ok-oid.ensures in
    listed_no_number c.args.text.now front middle end apart none

pub returns-in_default-behind : goal.returns-in_default-behind
returns-in_default-behind c =
    let number : (c.in-Some.oid < 2 ^ 32) × (begins is_ascii_digit c.in-Some.rest.now ≡ false) × (c.args.text.now ≡ front ++ (decimal c.in-Some.oid ++ c.in-Some.rest.now)) = rw c.in-Some.is at c.in_ok-oid.ensures in
    listed_no_middle c.args.text.now front middle end c.in-Some.rest.now c.in-Some.oid apart number.0 number.1 number.2 c.in_default-behind.ensures

pub names_of-requires-clause-utf8 : goal.names_of-requires-clause-utf8
names_of-requires-clause-utf8 c =
    let number : (c.in-Some.oid < 2 ^ 32) × (begins is_ascii_digit c.in-Some.rest.now ≡ false) × (c.args.text.now ≡ front ++ (decimal c.in-Some.oid ++ c.in-Some.rest.now)) = rw c.in-Some.is at c.in_ok-oid.ensures in
    after_text middle c.in-Some-behind.list.now refl (subst IsUtf8 c.in-Some-behind.ensures (behind_number c.args.text.now front c.in-Some.rest.now c.in-Some.oid refl number.0 number.2 c.requires))

pub returns-in-Some-2 : goal.returns-in-Some-2
returns-in-Some-2 c =
    let number : (c.in-Some.oid < 2 ^ 32) × (begins is_ascii_digit c.in-Some.rest.now ≡ false) × (c.args.text.now ≡ front ++ (decimal c.in-Some.oid ++ c.in-Some.rest.now)) = rw c.in-Some.is at c.in_ok-oid.ensures in
    let spells : SpellsNames end c.in-Some-behind.list.now c.in-Some-2.names = rw c.in-Some-2.is at c.in_ok-names.ensures in
    (number.0, listed_read c.args.text.now front middle end c.in-Some.rest.now c.in-Some-behind.list.now c.in-Some.oid c.in-Some-2.names number.2 c.in-Some-behind.ensures spells)

pub returns-in-None : goal.returns-in-None
returns-in-None c =
    let number : (c.in-Some.oid < 2 ^ 32) × (begins is_ascii_digit c.in-Some.rest.now ≡ false) × (c.args.text.now ≡ front ++ (decimal c.in-Some.oid ++ c.in-Some.rest.now)) = rw c.in-Some.is at c.in_ok-oid.ensures in
    let none : (names : List (List ℕ)) → SpellsNames end c.in-Some-behind.list.now names → ⊥ = rw c.in-None.is at c.in_ok-names.ensures in
    listed_no_names c.args.text.now front middle end c.in-Some.rest.now c.in-Some-behind.list.now c.in-Some.oid apart number.0 number.1 number.2 c.in-Some-behind.ensures none
