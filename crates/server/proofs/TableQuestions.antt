-- A text asks one question of a table at most, and it is read.
use Rattle.std.proofs.Common.{◌≡◌, ℕ, ◌+◌, ◌%◌, ◌<◌, ◌^◌, Bool, true, false, List, [], ◌∷◌, ◌++◌, refl, sym, ap, subst, ◌∙◌, append_assoc, arith}
use Rattle.std.specs.Prelude.{◌&&◌, codes}
use Rattle.std.specs.Char.{is_ascii_digit}
use Rattle.std.specs.Fmt.{decimal}
use Rattle.std.specs.List.{list_all}
use Rattle.std.specs.Str.Parse.{digits_value}
use Rattle.std.proofs.lemmas.Fmt.{decimal_by_steps, decimal_injective, decimal_is_IsNumeral}
use Rattle.std.proofs.lemmas.List.{append_cancel_left}
use Rattle.pqformat.specs.Quoting.{begins}
use Rattle.server.specs.declared.asked.table_name.TableName.{TableName}
use Rattle.server.specs.Questions.{SpellsListed, SpellsNames, SpellsTable, attributes_text, column_lists_front, row_filters_front}
use Rattle.server.specs.Reading.{literal_front}
use Rattle.server.proofs.Literals.{literal_reads}
use Rattle.server.proofs.Lists.{names_once, same_first}

-- ---- numbers

both : (p q : Bool) → (p && q) ≡ true → (p ≡ true) × (q ≡ true)
both true q e = (refl, e)
both false q e = absurd cc

all_append : (xs ys : List ℕ) → list_all is_ascii_digit xs ≡ true → list_all is_ascii_digit ys ≡ true → list_all is_ascii_digit (xs ++ ys) ≡ true
all_append [] ys x y = y
all_append (b ∷ bs) ys x y = let p = both (is_ascii_digit b) (list_all is_ascii_digit bs) x in rw p.0 (all_append bs ys p.1 y)

digit : (n : ℕ) → n < 10 → list_all is_ascii_digit ((48 + n) ∷ []) ≡ true
digit n small = grind arith

pub decimal_digits : (n : ℕ) → n < 2 ^ 64 → list_all is_ascii_digit (decimal n) ≡ true
decimal_digits n small = decimal_by_steps (λ m ds. list_all is_ascii_digit ds ≡ true) digit (λ m ds ten all. all_append ds ((48 + m % 10) ∷ []) all (digit (m % 10) (omega arith))) n small

-- digits end where none follows
pub digits_once : (a b x y : List ℕ) → list_all is_ascii_digit a ≡ true → list_all is_ascii_digit b ≡ true → begins is_ascii_digit x ≡ false → begins is_ascii_digit y ≡ false → a ++ x ≡ b ++ y → (a ≡ b) × (x ≡ y)
digits_once [] [] x y all_a all_b end_x end_y e = (refl, e)
digits_once [] (d ∷ ds) x y all_a all_b end_x end_y e =
    let p = both (is_ascii_digit d) (list_all is_ascii_digit ds) all_b in
    absurd (let f : begins is_ascii_digit (d ∷ (ds ++ y)) ≡ false = ap (begins is_ascii_digit) (sym e) ∙ end_x in cc)
digits_once (d ∷ ds) [] x y all_a all_b end_x end_y e =
    let p = both (is_ascii_digit d) (list_all is_ascii_digit ds) all_a in
    absurd (let f : begins is_ascii_digit (d ∷ (ds ++ x)) ≡ false = ap (begins is_ascii_digit) e ∙ end_y in cc)
digits_once (c ∷ cs) (d ∷ ds) x y all_a all_b end_x end_y e =
    let p = both (is_ascii_digit c) (list_all is_ascii_digit cs) all_a in
    let q = both (is_ascii_digit d) (list_all is_ascii_digit ds) all_b in
    let first : c ≡ d = cc in
    let rest : cs ++ x ≡ ds ++ y = cc in
    let more = digits_once cs ds x y p.1 q.1 end_x end_y rest in
    (ap (λ (l : List ℕ). c ∷ l) more.0 ∙ ap (λ (n : ℕ). n ∷ ds) first, more.1)

pub number_once : (m n : ℕ) (x y : List ℕ) → m < 2 ^ 32 → n < 2 ^ 32 → begins is_ascii_digit x ≡ false → begins is_ascii_digit y ≡ false → decimal m ++ x ≡ decimal n ++ y → (m ≡ n) × (x ≡ y)
number_once m n x y small_m small_n end_x end_y e =
    let same = digits_once (decimal m) (decimal n) x y (decimal_digits m (omega arith)) (decimal_digits n (omega arith)) end_x end_y e in
    (decimal_injective m n (omega arith) (omega arith) same.0, same.1)

-- the number that is read is the one that is spelled
pub number_read : (text digits rest : List ℕ) (oid : ℕ) (other : List ℕ) → text ≡ digits ++ rest → list_all is_ascii_digit digits ≡ true → begins is_ascii_digit rest ≡ false
    → oid < 2 ^ 32 → begins is_ascii_digit other ≡ false → text ≡ decimal oid ++ other → (digits ≡ decimal oid) × (digits_value 10 digits ≡ oid) × (rest ≡ other)
number_read text digits rest oid other is all end small ends spelled =
    let same = digits_once digits (decimal oid) rest other all (decimal_digits oid (omega arith)) end ends (sym is ∙ spelled) in
    (same.0, ap (digits_value 10) same.0 ∙ (decimal_is_IsNumeral oid (omega arith)).1, same.1)

-- a number between two texts, and what follows
between_once : (front end : List ℕ) (m n : ℕ) (x y : List ℕ) → m < 2 ^ 32 → n < 2 ^ 32 → begins is_ascii_digit (end ++ x) ≡ false → begins is_ascii_digit (end ++ y) ≡ false
    → (front ++ (decimal m ++ end)) ++ x ≡ (front ++ (decimal n ++ end)) ++ y → (m ≡ n) × (x ≡ y)
between_once front end m n x y small_m small_n end_x end_y e =
    let right : (o : ℕ) (l : List ℕ) → (front ++ (decimal o ++ end)) ++ l ≡ front ++ (decimal o ++ (end ++ l)) =
    λ o l. append_assoc front (decimal o ++ end) l ∙ ap (λ (k : List ℕ). front ++ k) (append_assoc (decimal o) end l) in
    let inner = append_cancel_left front (decimal m ++ (end ++ x)) (decimal n ++ (end ++ y)) (sym (right m x) ∙ e ∙ right n y) in
    let same = number_once m n (end ++ x) (end ++ y) small_m small_n end_x end_y inner in
    (same.0, append_cancel_left end x y same.1)

-- ---- questions

pub column_lists_once : (text : List ℕ) (m n : ℕ) (ms ns : List (List ℕ)) → (m < 2 ^ 32) × SpellsListed text (column_lists_front m) (codes " )") ms → (n < 2 ^ 32) × SpellsListed text (column_lists_front n) (codes " )") ns → (m ≡ n) × (ms ≡ ns)
column_lists_once text m n ms ns (small_m, x) (small_n, y) =
    let same = between_once (codes "SELECT DISTINCT  (CASE WHEN (array_length(gpt.attrs, 1) = c.relnatts)   THEN NULL ELSE gpt.attrs END)  FROM pg_publication p,  LATERAL pg_get_publication_tables(p.pubname) gpt,  pg_class c WHERE gpt.relid = ") (codes " AND c.oid = gpt.relid   AND p.pubname IN ( ") m n x.0 y.0 small_m small_n refl refl (sym x.1 ∙ y.1) in
    (same.0, names_once (codes " )") x.0 ms ns (refl, refl) x.2 (subst (λ (l : List ℕ). SpellsNames (codes " )") l ns) (sym same.1) y.2))

pub row_filters_once : (text : List ℕ) (m n : ℕ) (ms ns : List (List ℕ)) → (m < 2 ^ 32) × SpellsListed text (row_filters_front m) (codes " )") ms → (n < 2 ^ 32) × SpellsListed text (row_filters_front n) (codes " )") ns → (m ≡ n) × (ms ≡ ns)
row_filters_once text m n ms ns (small_m, x) (small_n, y) =
    let same = between_once (codes "SELECT DISTINCT pg_get_expr(gpt.qual, gpt.relid)  FROM pg_publication p,  LATERAL pg_get_publication_tables(p.pubname) gpt WHERE gpt.relid = ") (codes "   AND p.pubname IN ( ") m n x.0 y.0 small_m small_n refl refl (sym x.1 ∙ y.1) in
    (same.0, names_once (codes " )") x.0 ms ns (refl, refl) x.2 (subst (λ (l : List ℕ). SpellsNames (codes " )") l ns) (sym same.1) y.2))

pub attributes_once : (text : List ℕ) (m n : ℕ) → (m < 2 ^ 32) × (text ≡ attributes_text m) → (n < 2 ^ 32) × (text ≡ attributes_text n) → m ≡ n
attributes_once text m n (small_m, x) (small_n, y) =
    let rest : ℕ → List ℕ = λ o. codes ")) WHERE a.attnum > 0::pg_catalog.int2   AND NOT a.attisdropped AND a.attgenerated = ''   AND a.attrelid = " ++ (decimal o ++ codes " ORDER BY a.attnum") in
    let inner = append_cancel_left (codes "SELECT a.attnum,       a.attname,       a.atttypid,       a.attnum = ANY(i.indkey)  FROM pg_catalog.pg_attribute a  LEFT JOIN pg_catalog.pg_index i       ON (i.indexrelid = pg_get_replica_identity_index(") (decimal m ++ rest m) (decimal n ++ rest n) (sym x ∙ y) in
    (number_once m n (rest m) (rest n) small_m small_n refl refl inner).0

pub table_once : (text : List ℕ) (m n : TableName) → SpellsTable text m → SpellsTable text n → m ≡ n
table_once text m n (schema_m, name_m, schema_is_m, name_is_m, x) (schema_n, name_n, schema_is_n, name_is_n, y) =
    let middle : List ℕ → List ℕ = λ l. codes "   AND c.relname = " ++ l in
    let inner = append_cancel_left (codes "SELECT c.oid, c.relreplident, c.relkind  FROM pg_catalog.pg_class c  INNER JOIN pg_catalog.pg_namespace n        ON (c.relnamespace = n.oid) WHERE n.nspname = ") (schema_m ++ middle name_m) (schema_n ++ middle name_n) (sym x ∙ y) in
    let first = same_first m.schema (middle name_m) n.schema (middle name_n)
    (sym (literal_reads schema_m m.schema (middle name_m) schema_is_m refl) ∙ ap literal_front inner ∙ literal_reads schema_n n.schema (middle name_n) schema_is_n refl) in
    let names : name_m ≡ name_n = append_cancel_left (codes "   AND c.relname = ") name_m name_n first.1 in
    let second = same_first m.name [] n.name []
    (sym (literal_reads name_m m.name [] name_is_m refl) ∙ ap (λ (l : List ℕ). literal_front (l ++ [])) names ∙ literal_reads name_n n.name [] name_is_n refl) in
    ap (λ (s : List ℕ). record { schema = s; name = m.name }) first.0 ∙ ap (λ (l : List ℕ). record { schema = n.schema; name = l }) second.0
