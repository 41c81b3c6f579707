-- The questions of one table are read part by part.
use Rattle.std.proofs.Common.{Bool, ◌≡◌, ℕ, ◌<◌, ◌≤◌, ◌^◌, true, false, List, [], ◌∷◌, ◌++◌, None, refl, sym, ap, subst, ◌∙◌, append-nil, append_assoc, arith}
use Rattle.std.specs.Prelude.{◌≢◌, ◌&&◌, nat_lt, codes, Option, Some, Result, Ok, Err, IfOk, MatchOption}
use Rattle.std.specs.Borrow.{Bor}
use Rattle.std.specs.declared.alloc.AllocError.{AllocError}
use Rattle.std.specs.Char.{is_ascii_digit}
use Rattle.std.specs.Fmt.{decimal}
use Rattle.std.specs.List.{list_all}
use Rattle.std.specs.Str.Parse.{digits_value}
use Rattle.std.specs.Str.{IsUtf8}
use Rattle.std.proofs.lemmas.Bool.Decides.{nat_tests}
use Rattle.std.proofs.lemmas.List.{append_cancel_left}
use Rattle.pqformat.specs.Quoting.{begins}
use Rattle.pqformat.proofs.Quoting.{found}
use Rattle.server.specs.declared.asked.table_name.TableName.{TableName}
use Rattle.server.specs.Questions.{SpellsListed, SpellsNames, SpellsTable, attributes_text}
use Rattle.server.specs.Reading.{literal_front}
use Rattle.server.proofs.Lists.{after_text, same_first}
use Rattle.server.proofs.Literals.{literal_reads, literal_spells}
use Rattle.server.proofs.TableQuestions.{decimal_digits, number_once, number_read}

-- ---- a number

pub number_too_long : (text digits rest : List ℕ) → text ≡ digits ++ rest → list_all is_ascii_digit digits ≡ true → begins is_ascii_digit rest ≡ false → 2 ^ 32 ≤ digits_value 10 digits
    → (oid : ℕ) (other : List ℕ) → oid < 2 ^ 32 → begins is_ascii_digit other ≡ false → text ≡ decimal oid ++ other → ⊥
number_too_long text digits rest is all end long oid other small ends spelled =
    let same = number_read text digits rest oid other is all end small ends spelled in
    omega (arith, same.1)

pub number_unprinted : (text digits rest : List ℕ) (n : ℕ) → text ≡ digits ++ rest → list_all is_ascii_digit digits ≡ true → begins is_ascii_digit rest ≡ false → n ≡ digits_value 10 digits → decimal n ≢ digits
    → (oid : ℕ) (other : List ℕ) → oid < 2 ^ 32 → begins is_ascii_digit other ≡ false → text ≡ decimal oid ++ other → ⊥
number_unprinted text digits rest n is all end value other_text oid other small ends spelled =
    let same = number_read text digits rest oid other is all end small ends spelled in
    other_text (ap decimal (value ∙ same.1) ∙ sym same.0)

-- behind a text
pub number_after : (text front numbered : List ℕ) (r : Result (Option (ℕ × Bor (List ℕ))) AllocError) → text ≡ front ++ numbered
    → IfOk r (λ found. MatchOption found ((oid : ℕ) (rest : List ℕ) → oid < 2 ^ 32 → begins is_ascii_digit rest ≡ false → numbered ≡ decimal oid ++ rest → ⊥) (λ x. (x.0 < 2 ^ 32) × (begins is_ascii_digit x.1.now ≡ false) × (numbered ≡ decimal x.0 ++ x.1.now)))
    → IfOk r (λ found. MatchOption found ((oid : ℕ) (rest : List ℕ) → oid < 2 ^ 32 → begins is_ascii_digit rest ≡ false → text ≡ front ++ (decimal oid ++ rest) → ⊥) (λ x. (x.0 < 2 ^ 32) × (begins is_ascii_digit x.1.now ≡ false) × (text ≡ front ++ (decimal x.0 ++ x.1.now))))
number_after text front numbered (Err e) is fact = tt
number_after text front numbered (Ok None) is fact = λ oid rest small end spelled. fact oid rest small end (append_cancel_left front numbered (decimal oid ++ rest) (sym is ∙ spelled))
number_after text front numbered (Ok (Some x)) is fact = (fact.0, fact.1, is ∙ ap (λ (l : List ℕ). front ++ l) fact.2)

-- ---- lists behind a number

joined : (front middle : List ℕ) (oid : ℕ) (list : List ℕ) → (front ++ (decimal oid ++ middle)) ++ list ≡ front ++ (decimal oid ++ (middle ++ list))
joined front middle oid list = append_assoc front (decimal oid ++ middle) list ∙ ap (λ (l : List ℕ). front ++ l) (append_assoc (decimal oid) middle list)

pub listed_no_number : (text front middle end : List ℕ) → ((x : List ℕ) → begins is_ascii_digit (middle ++ x) ≡ false)
    → ((oid : ℕ) (rest : List ℕ) → oid < 2 ^ 32 → begins is_ascii_digit rest ≡ false → text ≡ front ++ (decimal oid ++ rest) → ⊥)
    → (oid : ℕ) (names : List (List ℕ)) → oid < 2 ^ 32 → SpellsListed text (front ++ (decimal oid ++ middle)) end names → ⊥
listed_no_number text front middle end apart none oid names small spells = none oid (middle ++ spells.0) small (apart spells.0) (spells.1 ∙ joined front middle oid spells.0)

-- the number that was read, and what follows it
same_number : (text front middle end rest : List ℕ) (n : ℕ) → ((x : List ℕ) → begins is_ascii_digit (middle ++ x) ≡ false) → n < 2 ^ 32 → begins is_ascii_digit rest ≡ false → text ≡ front ++ (decimal n ++ rest)
    → (oid : ℕ) (names : List (List ℕ)) → oid < 2 ^ 32 → (spells : SpellsListed text (front ++ (decimal oid ++ middle)) end names) → (n ≡ oid) × (rest ≡ middle ++ spells.0)
same_number text front middle end rest n apart small ends is oid names least spells =
    number_once n oid rest (middle ++ spells.0) small least ends (apart spells.0)
    (append_cancel_left front (decimal n ++ rest) (decimal oid ++ (middle ++ spells.0)) (sym is ∙ spells.1 ∙ joined front middle oid spells.0))

pub listed_no_middle : (text front middle end rest : List ℕ) (n : ℕ) → ((x : List ℕ) → begins is_ascii_digit (middle ++ x) ≡ false) → n < 2 ^ 32 → begins is_ascii_digit rest ≡ false → text ≡ front ++ (decimal n ++ rest)
    → ((more : List ℕ) → rest ≢ middle ++ more) → (oid : ℕ) (names : List (List ℕ)) → oid < 2 ^ 32 → SpellsListed text (front ++ (decimal oid ++ middle)) end names → ⊥
listed_no_middle text front middle end rest n apart small ends is dry oid names least spells = dry spells.0 (same_number text front middle end rest n apart small ends is oid names least spells).1

pub listed_no_names : (text front middle end rest list : List ℕ) (n : ℕ) → ((x : List ℕ) → begins is_ascii_digit (middle ++ x) ≡ false) → n < 2 ^ 32 → begins is_ascii_digit rest ≡ false → text ≡ front ++ (decimal n ++ rest)
    → rest ≡ middle ++ list → ((names : List (List ℕ)) → SpellsNames end list names → ⊥) → (oid : ℕ) (names : List (List ℕ)) → oid < 2 ^ 32 → SpellsListed text (front ++ (decimal oid ++ middle)) end names → ⊥
listed_no_names text front middle end rest list n apart small ends is opens none oid names least spells =
    let same = (same_number text front middle end rest n apart small ends is oid names least spells).1 in
    none names (subst (λ (l : List ℕ). SpellsNames end l names) (append_cancel_left middle spells.0 list (sym same ∙ opens)) spells.2)

pub listed_read : (text front middle end rest list : List ℕ) (n : ℕ) (names : List (List ℕ)) → text ≡ front ++ (decimal n ++ rest) → rest ≡ middle ++ list → SpellsNames end list names → SpellsListed text (front ++ (decimal n ++ middle)) end names
listed_read text front middle end rest list n names is opens spells = (list, is ∙ ap (λ (l : List ℕ). front ++ (decimal n ++ l)) opens ∙ sym (joined front middle n list), spells)

-- digits are ASCII
ascii_digits : (ds : List ℕ) → list_all is_ascii_digit ds ≡ true → list_all (λ b. nat_lt b 128) ds ≡ true
ascii_digits [] all = refl
ascii_digits (d ∷ ds) all =
    let x = both (is_ascii_digit d) (list_all is_ascii_digit ds) all in
    joint (nat_lt d 128) (list_all (λ b. nat_lt b 128) ds) (low d x.0) (ascii_digits ds x.1)
  where
    both : (p q : Bool) → (p && q) ≡ true → (p ≡ true) × (q ≡ true)
    both true q e = (refl, e)
    both false q e = absurd cc

    joint : (p q : Bool) → p ≡ true → q ≡ true → (p && q) ≡ true
    joint true q x y = y
    joint false q x y = absurd cc

    low : (b : ℕ) → is_ascii_digit b ≡ true → nat_lt b 128 ≡ true
    low b is = grind (arith, nat_tests)

-- what follows the number is a text
pub behind_number : (text front rest : List ℕ) (n : ℕ) → list_all (λ b. nat_lt b 128) front ≡ true → n < 2 ^ 32 → text ≡ front ++ (decimal n ++ rest) → IsUtf8 text → IsUtf8 rest
behind_number text front rest n ascii small is valid =
    after_text (decimal n) rest (ascii_digits (decimal n) (decimal_digits n (omega arith))) (after_text front (decimal n ++ rest) ascii (subst IsUtf8 is valid))

-- ---- columns

abbrev pub first_part : List ℕ
first_part = codes "SELECT a.attnum,       a.attname,       a.atttypid,       a.attnum = ANY(i.indkey)  FROM pg_catalog.pg_attribute a  LEFT JOIN pg_catalog.pg_index i       ON (i.indexrelid = pg_get_replica_identity_index("

abbrev pub second_part : List ℕ
second_part = codes ")) WHERE a.attnum > 0::pg_catalog.int2   AND NOT a.attisdropped AND a.attgenerated = ''   AND a.attrelid = "

abbrev pub last_part : List ℕ
last_part = codes " ORDER BY a.attnum"

pub attributes_no_number : (text : List ℕ) → ((oid : ℕ) (rest : List ℕ) → oid < 2 ^ 32 → begins is_ascii_digit rest ≡ false → text ≡ first_part ++ (decimal oid ++ rest) → ⊥) → (oid : ℕ) → oid < 2 ^ 32 → text ≡ attributes_text oid → ⊥
attributes_no_number text none oid small is = none oid (second_part ++ (decimal oid ++ last_part)) small refl is

same_attributes : (text rest : List ℕ) (n oid : ℕ) → n < 2 ^ 32 → begins is_ascii_digit rest ≡ false → text ≡ first_part ++ (decimal n ++ rest) → oid < 2 ^ 32 → text ≡ attributes_text oid → (n ≡ oid) × (rest ≡ second_part ++ (decimal oid ++ last_part))
same_attributes text rest n oid small ends is least spelled =
    number_once n oid rest (second_part ++ (decimal oid ++ last_part)) small least ends refl (append_cancel_left first_part (decimal n ++ rest) (decimal oid ++ (second_part ++ (decimal oid ++ last_part))) (sym is ∙ spelled))

pub attributes_no_again : (text rest : List ℕ) (n : ℕ) → n < 2 ^ 32 → begins is_ascii_digit rest ≡ false → text ≡ first_part ++ (decimal n ++ rest)
    → ((oid : ℕ) (more : List ℕ) → oid < 2 ^ 32 → begins is_ascii_digit more ≡ false → rest ≡ second_part ++ (decimal oid ++ more) → ⊥) → (oid : ℕ) → oid < 2 ^ 32 → text ≡ attributes_text oid → ⊥
attributes_no_again text rest n small ends is none oid least spelled = none oid last_part least refl (same_attributes text rest n oid small ends is least spelled).1

-- the second number, and what follows it
same_again : (text rest end : List ℕ) (n again oid : ℕ) → n < 2 ^ 32 → begins is_ascii_digit rest ≡ false → text ≡ first_part ++ (decimal n ++ rest) → again < 2 ^ 32 → begins is_ascii_digit end ≡ false
    → rest ≡ second_part ++ (decimal again ++ end) → oid < 2 ^ 32 → text ≡ attributes_text oid → (again ≡ n) × (end ≡ last_part)
same_again text rest end n again oid small ends is less closes more least spelled =
    let one = same_attributes text rest n oid small ends is least spelled in
    let two = number_once again oid end last_part less least closes refl (append_cancel_left second_part (decimal again ++ end) (decimal oid ++ last_part) (sym more ∙ one.1)) in
    (two.0 ∙ sym one.0, two.1)

pub attributes_other : (text rest end : List ℕ) (n again : ℕ) → n < 2 ^ 32 → begins is_ascii_digit rest ≡ false → text ≡ first_part ++ (decimal n ++ rest) → again < 2 ^ 32 → begins is_ascii_digit end ≡ false
    → rest ≡ second_part ++ (decimal again ++ end) → again ≢ n → (oid : ℕ) → oid < 2 ^ 32 → text ≡ attributes_text oid → ⊥
attributes_other text rest end n again small ends is less closes more differs oid least spelled = differs (same_again text rest end n again oid small ends is less closes more least spelled).0

pub attributes_unended : (text rest end : List ℕ) (n again : ℕ) → n < 2 ^ 32 → begins is_ascii_digit rest ≡ false → text ≡ first_part ++ (decimal n ++ rest) → again < 2 ^ 32 → begins is_ascii_digit end ≡ false
    → rest ≡ second_part ++ (decimal again ++ end) → end ≢ last_part → (oid : ℕ) → oid < 2 ^ 32 → text ≡ attributes_text oid → ⊥
attributes_unended text rest end n again small ends is less closes more differs oid least spelled = differs (same_again text rest end n again oid small ends is less closes more least spelled).1

pub attributes_read : (text rest end : List ℕ) (n again : ℕ) → text ≡ first_part ++ (decimal n ++ rest) → rest ≡ second_part ++ (decimal again ++ end) → again ≡ n → end ≡ last_part → text ≡ attributes_text n
attributes_read text rest end n again is more same ends =
    is ∙ ap (λ (l : List ℕ). first_part ++ (decimal n ++ l)) (more ∙ ap (λ (m : ℕ). second_part ++ (decimal m ++ end)) same ∙ ap (λ (l : List ℕ). second_part ++ (decimal n ++ l)) ends)

-- ---- the table

abbrev pub table_front : List ℕ
table_front = codes "SELECT c.oid, c.relreplident, c.relkind  FROM pg_catalog.pg_class c  INNER JOIN pg_catalog.pg_namespace n        ON (c.relnamespace = n.oid) WHERE n.nspname = "

abbrev pub table_middle : List ℕ
table_middle = codes "   AND c.relname = "

pub table_no_front : (text : List ℕ) → ((more : List ℕ) → text ≢ table_front ++ more) → (table : TableName) → SpellsTable text table → ⊥
table_no_front text dry table (schema, name, spells_schema, spells_name, is) = dry (schema ++ (table_middle ++ name)) is

-- what the schema's literal is read as
schema_reads : (text named : List ℕ) → text ≡ table_front ++ named → (table : TableName) → (spells : SpellsTable text table) → literal_front named ≡ found table.schema (table_middle ++ spells.1)
schema_reads text named is table (schema, name, spells_schema, spells_name, spelled) =
    ap literal_front (append_cancel_left table_front named (schema ++ (table_middle ++ name)) (sym is ∙ spelled)) ∙ literal_reads schema table.schema (table_middle ++ name) spells_schema refl

pub table_no_schema : (text named : List ℕ) → text ≡ table_front ++ named → literal_front named ≡ None → (table : TableName) → SpellsTable text table → ⊥
table_no_schema text named is none table spells = let e = sym none ∙ schema_reads text named is table spells in cc

pub table_no_middle : (text named schema rest : List ℕ) → text ≡ table_front ++ named → literal_front named ≡ found schema rest → ((more : List ℕ) → rest ≢ table_middle ++ more) → (table : TableName) → SpellsTable text table → ⊥
table_no_middle text named schema rest is read dry table spells =
    dry spells.1 (same_first schema rest table.schema (table_middle ++ spells.1) (sym read ∙ schema_reads text named is table spells)).1

-- what the table's literal is read as
name_reads : (text named schema rest last : List ℕ) → text ≡ table_front ++ named → literal_front named ≡ found schema rest → rest ≡ table_middle ++ last → (table : TableName) → SpellsTable text table → literal_front last ≡ found table.name []
name_reads text named schema rest last is read opens table spells =
    let same = (same_first schema rest table.schema (table_middle ++ spells.1) (sym read ∙ schema_reads text named is table spells)).1 in
    ap literal_front (append_cancel_left table_middle last spells.1 (sym opens ∙ same) ∙ sym (append-nil spells.1)) ∙ literal_reads spells.1 table.name [] spells.3 refl

pub table_no_name : (text named schema rest last : List ℕ) → text ≡ table_front ++ named → literal_front named ≡ found schema rest → rest ≡ table_middle ++ last → literal_front last ≡ None → (table : TableName) → SpellsTable text table → ⊥
table_no_name text named schema rest last is read opens none table spells = let e = sym none ∙ name_reads text named schema rest last is read opens table spells in cc

pub table_goes_on : (text named schema rest last name more : List ℕ) → text ≡ table_front ++ named → literal_front named ≡ found schema rest → rest ≡ table_middle ++ last → literal_front last ≡ found name more → (more ≡ [] → ⊥)
    → (table : TableName) → SpellsTable text table → ⊥
table_goes_on text named schema rest last name more is read opens then some table spells = some (same_first name more table.name [] (sym then ∙ name_reads text named schema rest last is read opens table spells)).1

pub table_read : (text named schema rest last name more : List ℕ) → text ≡ table_front ++ named → literal_front named ≡ found schema rest → rest ≡ table_middle ++ last → literal_front last ≡ found name more → more ≡ []
    → SpellsTable text (record { schema = schema; name = name })
table_read text named schema rest last name more is read opens then none =
    let s = literal_spells named schema rest read in
    let n = literal_spells last name more then in
    (s.0, n.0, s.1, n.1, is ∙ ap (λ (l : List ℕ). table_front ++ l) (s.2 ∙ ap (λ (l : List ℕ). s.0 ++ l) (opens ∙ ap (λ (l : List ℕ). table_middle ++ l) (n.2 ∙ ap (λ (l : List ℕ). n.0 ++ l) none ∙ append-nil n.0))))
