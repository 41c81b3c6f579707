-- Rows that were copied are read back uniquely, and fit their frames.
use Rattle.std.proofs.Common.{zero, suc, ◌≡◌, ℕ, ◌+◌, ◌*◌, ◌^◌, ◌<◌, ◌≤◌, Bool, true, false, cond, eqb, List, [], ◌∷◌, ◌++◌, length, Option, Some, None, refl, sym, ap, subst, ◌∙◌, inl, inr, append_assoc, append-nil, arith}
use Rattle.std.specs.Prelude.{◌≢◌, ◌⊎◌, replicate}
use Rattle.std.specs.List.{flat_map, AllByRecursion}
use Rattle.std.proofs.lemmas.Bool.{eqb-true}
use Rattle.std.proofs.lemmas.Grind.{flat_map-append, replicate_next}
use Rattle.pqformat.specs.Fields.{int16}
use Rattle.std.proofs.lemmas.List.{length-append, length-replicate}
use Rattle.frames.specs.Plain.{copy_both}
use Rattle.pqformat.proofs.Numbers.{length-int16}
use Rattle.std.proofs.lemmas.List.Concat.{flat_map-cons}
use Rattle.server.specs.RowText.{AreShortValues, IsShortValue, copied_byte, copied_value, further_value, row_text}

-- ---- bytes

-- the byte that an escaped letter means
meant : ℕ → ℕ
meant letter =
    cond (eqb letter 98) 8 (cond (eqb letter 116) 9 (cond (eqb letter 110) 10 (cond (eqb letter 118) 11 (cond (eqb letter 102) 12 (cond (eqb letter 114) 13 92)))))

-- a byte that is escaped by a letter, which is none of a null
record IsEscaped (b : ℕ) : Type 0 where
  letter : ℕ
  coded : copied_byte b ≡ 92 ∷ letter ∷ []
  means : meant letter ≡ b
  other : letter ≢ 78

-- one that stands as it is
record IsPlain (b : ℕ) : Type 0 where
  coded : copied_byte b ≡ b ∷ []
  no_backslash : b ≢ 92
  no_tab : b ≢ 9
  no_feed : b ≢ 10

coded : (b : ℕ) → IsEscaped b ⊎ IsPlain b
unfolding meant
coded b = by_backslash (eqb b 92) refl
  where
    not_it : (n : ℕ) → eqb b n ≡ false → b ≢ n
    not_it n other is = let yes : eqb b n ≡ true = subst (λ (m : ℕ). eqb m n ≡ true) (sym is) (eq-self n) in absurd cc
      where
        eq-self : (m : ℕ) → eqb m m ≡ true
        eq-self m = grind arith

    escaped : (n letter : ℕ) → eqb b n ≡ true → copied_byte n ≡ 92 ∷ letter ∷ [] → meant letter ≡ n → letter ≢ 78 → IsEscaped b
    escaped n letter is code means other = let same : n ≡ b = sym (eqb-true b n is) in subst IsEscaped same (record { letter = letter; coded = code; means = means; other = other })

    plain : eqb b 92 ≡ false → eqb b 8 ≡ false → eqb b 9 ≡ false → eqb b 10 ≡ false → eqb b 11 ≡ false → eqb b 12 ≡ false → eqb b 13 ≡ false → IsPlain b
    plain a c d e f g h = record { coded = rw (a, c, d, e, f, g, h) refl; no_backslash = not_it 92 a; no_tab = not_it 9 d; no_feed = not_it 10 e }

    by_return : (t : Bool) → eqb b 13 ≡ t → eqb b 92 ≡ false → eqb b 8 ≡ false → eqb b 9 ≡ false → eqb b 10 ≡ false → eqb b 11 ≡ false → eqb b 12 ≡ false → IsEscaped b ⊎ IsPlain b
    by_return true is a c d e f g = inl (escaped 13 114 is refl refl (λ x. omega (arith, x)))
    by_return false is a c d e f g = inr (plain a c d e f g is)

    by_form : (t : Bool) → eqb b 12 ≡ t → eqb b 92 ≡ false → eqb b 8 ≡ false → eqb b 9 ≡ false → eqb b 10 ≡ false → eqb b 11 ≡ false → IsEscaped b ⊎ IsPlain b
    by_form true is a c d e f = inl (escaped 12 102 is refl refl (λ x. omega (arith, x)))
    by_form false is a c d e f = by_return (eqb b 13) refl a c d e f is

    by_vertical : (t : Bool) → eqb b 11 ≡ t → eqb b 92 ≡ false → eqb b 8 ≡ false → eqb b 9 ≡ false → eqb b 10 ≡ false → IsEscaped b ⊎ IsPlain b
    by_vertical true is a c d e = inl (escaped 11 118 is refl refl (λ x. omega (arith, x)))
    by_vertical false is a c d e = by_form (eqb b 12) refl a c d e is

    by_feed : (t : Bool) → eqb b 10 ≡ t → eqb b 92 ≡ false → eqb b 8 ≡ false → eqb b 9 ≡ false → IsEscaped b ⊎ IsPlain b
    by_feed true is a c d = inl (escaped 10 110 is refl refl (λ x. omega (arith, x)))
    by_feed false is a c d = by_vertical (eqb b 11) refl a c d is

    by_tab : (t : Bool) → eqb b 9 ≡ t → eqb b 92 ≡ false → eqb b 8 ≡ false → IsEscaped b ⊎ IsPlain b
    by_tab true is a c = inl (escaped 9 116 is refl refl (λ x. omega (arith, x)))
    by_tab false is a c = by_feed (eqb b 10) refl a c is

    by_back : (t : Bool) → eqb b 8 ≡ t → eqb b 92 ≡ false → IsEscaped b ⊎ IsPlain b
    by_back true is a = inl (escaped 8 98 is refl refl (λ x. omega (arith, x)))
    by_back false is a = by_tab (eqb b 9) refl a is

    by_backslash : (t : Bool) → eqb b 92 ≡ t → IsEscaped b ⊎ IsPlain b
    by_backslash true is = inl (escaped 92 92 is refl refl (λ x. omega (arith, x)))
    by_backslash false is = by_back (eqb b 8) refl is

-- ---- values

-- behind a value stands a tab or a line feed
record Closes (x : List ℕ) : Type 0 where
  first : ℕ
  rest : List ℕ
  is : x ≡ first ∷ rest
  either : (first ≡ 9) ⊎ (first ≡ 10)

no_other : (c : ℕ) → (c ≡ 9) ⊎ (c ≡ 10) → (b : ℕ) → IsPlain b → c ≡ b → ⊥
no_other c (inl nine) b plain same = plain.no_tab (sym same ∙ nine)
no_other c (inr ten) b plain same = plain.no_feed (sym same ∙ ten)

no_slash : (c : ℕ) → (c ≡ 9) ⊎ (c ≡ 10) → c ≡ 92 → ⊥
no_slash c (inl nine) same = omega (arith, nine, same)
no_slash c (inr ten) same = omega (arith, ten, same)

head_of : (c d : ℕ) (x y : List ℕ) → c ∷ x ≡ d ∷ y → (c ≡ d) × (x ≡ y)
head_of c d x y e = (cc, cc)

-- the text of one byte and what follows
spelled : (b : ℕ) (bytes x : List ℕ) → flat_map copied_byte (b ∷ bytes) ++ x ≡ copied_byte b ++ (flat_map copied_byte bytes ++ x)
spelled b bytes x = ap (λ (l : List ℕ). l ++ x) (flat_map-cons copied_byte b bytes) ∙ append_assoc (copied_byte b) (flat_map copied_byte bytes) x

-- a value that has ended isn't one that goes on
ended : (x y : List ℕ) (b : ℕ) (bytes : List ℕ) → Closes x → x ≡ flat_map copied_byte (b ∷ bytes) ++ y → ⊥
ended x y b bytes closes e = by_code (coded b)
  where
    all : closes.first ∷ closes.rest ≡ copied_byte b ++ (flat_map copied_byte bytes ++ y)
    all = sym closes.is ∙ e ∙ spelled b bytes y

    by_code : IsEscaped b ⊎ IsPlain b → ⊥
    by_code (inl code) = no_slash closes.first closes.either (head_of closes.first 92 closes.rest (code.letter ∷ (flat_map copied_byte bytes ++ y)) (all ∙ ap (λ (l : List ℕ). l ++ (flat_map copied_byte bytes ++ y)) code.coded)).0
    by_code (inr code) = no_other closes.first closes.either b code (head_of closes.first b closes.rest (flat_map copied_byte bytes ++ y) (all ∙ ap (λ (l : List ℕ). l ++ (flat_map copied_byte bytes ++ y)) code.coded)).0

text_once : (t u x y : List ℕ) → Closes x → Closes y → flat_map copied_byte t ++ x ≡ flat_map copied_byte u ++ y → (t ≡ u) × (x ≡ y)
text_once [] [] x y end_x end_y e = (refl, e)
text_once [] (b ∷ u) x y end_x end_y e = absurd (ended x y b u end_x e)
text_once (a ∷ t) [] x y end_x end_y e = absurd (ended y x a t end_y (sym e))
text_once (a ∷ t) (b ∷ u) x y end_x end_y e = by_codes (λ rest. text_once t u x y end_x end_y rest) (coded a) (coded b)
  where
    left : List ℕ
    left = flat_map copied_byte t ++ x

    right : List ℕ
    right = flat_map copied_byte u ++ y

    all : copied_byte a ++ left ≡ copied_byte b ++ right
    all = sym (spelled a t x) ∙ e ∙ spelled b u y

    joined : (left ≡ right → (t ≡ u) × (x ≡ y)) → a ≡ b → left ≡ right → (a ∷ t ≡ b ∷ u) × (x ≡ y)
    joined more_of same rest =
        let more = more_of rest in
        (ap (λ (n : ℕ). n ∷ t) same ∙ ap (λ (l : List ℕ). b ∷ l) more.0, more.1)

    by_codes : (left ≡ right → (t ≡ u) × (x ≡ y)) → IsEscaped a ⊎ IsPlain a → IsEscaped b ⊎ IsPlain b → (a ∷ t ≡ b ∷ u) × (x ≡ y)
    by_codes more_of (inl p) (inl q) =
        let whole : 92 ∷ p.letter ∷ left ≡ 92 ∷ q.letter ∷ right = ap (λ (l : List ℕ). l ++ left) (sym p.coded) ∙ all ∙ ap (λ (l : List ℕ). l ++ right) q.coded in
        let behind = head_of p.letter q.letter left right (head_of 92 92 (p.letter ∷ left) (q.letter ∷ right) whole).1 in
        joined more_of (sym p.means ∙ ap meant behind.0 ∙ q.means) behind.1
    by_codes more_of (inl p) (inr q) =
        let whole : 92 ∷ p.letter ∷ left ≡ b ∷ right = ap (λ (l : List ℕ). l ++ left) (sym p.coded) ∙ all ∙ ap (λ (l : List ℕ). l ++ right) q.coded in
        absurd (q.no_backslash (sym (head_of 92 b (p.letter ∷ left) right whole).0))
    by_codes more_of (inr p) (inl q) =
        let whole : a ∷ left ≡ 92 ∷ q.letter ∷ right = ap (λ (l : List ℕ). l ++ left) (sym p.coded) ∙ all ∙ ap (λ (l : List ℕ). l ++ right) q.coded in
        absurd (p.no_backslash (head_of a 92 left (q.letter ∷ right) whole).0)
    by_codes more_of (inr p) (inr q) =
        let whole : a ∷ left ≡ b ∷ right = ap (λ (l : List ℕ). l ++ left) (sym p.coded) ∙ all ∙ ap (λ (l : List ℕ). l ++ right) q.coded in
        let behind = head_of a b left right whole in
        joined more_of behind.0 behind.1

-- A null isn't taken for a text.
null_apart : (u x y : List ℕ) → Closes y → 92 ∷ 78 ∷ x ≡ flat_map copied_byte u ++ y → ⊥
null_apart [] x y closes e = no_slash closes.first closes.either (sym (head_of 92 closes.first (78 ∷ x) closes.rest (e ∙ closes.is)).0)
null_apart (b ∷ u) x y closes e = by_code (coded b)
  where
    right : List ℕ
    right = flat_map copied_byte u ++ y

    all : 92 ∷ 78 ∷ x ≡ copied_byte b ++ right
    all = e ∙ spelled b u y

    by_code : IsEscaped b ⊎ IsPlain b → ⊥
    by_code (inl code) =
        let whole : 92 ∷ 78 ∷ x ≡ 92 ∷ code.letter ∷ right = all ∙ ap (λ (l : List ℕ). l ++ right) code.coded in
        code.other (sym (head_of 78 code.letter x right (head_of 92 92 (78 ∷ x) (code.letter ∷ right) whole).1).0)
    by_code (inr code) =
        let whole : 92 ∷ 78 ∷ x ≡ b ∷ right = all ∙ ap (λ (l : List ℕ). l ++ right) code.coded in
        code.no_backslash (sym (head_of 92 b (78 ∷ x) right whole).0)

value_once : (v w : Option (List ℕ)) (x y : List ℕ) → Closes x → Closes y → copied_value v ++ x ≡ copied_value w ++ y → (v ≡ w) × (x ≡ y)
value_once None None x y end_x end_y e = (refl, (head_of 78 78 x y (head_of 92 92 (78 ∷ x) (78 ∷ y) e).1).1)
value_once None (Some u) x y end_x end_y e = absurd (null_apart u x y end_y e)
value_once (Some t) None x y end_x end_y e = absurd (null_apart t y x end_x (sym e))
value_once (Some t) (Some u) x y end_x end_y e = let same = text_once t u x y end_x end_y e in (ap (λ (l : List ℕ). Some l) same.0, same.1)

-- ---- rows

others : List (Option (List ℕ)) → List ℕ → List ℕ
others values x = flat_map further_value values ++ (10 ∷ x)

others-cons : (v : Option (List ℕ)) (values : List (Option (List ℕ))) (x : List ℕ) → others (v ∷ values) x ≡ 9 ∷ (copied_value v ++ others values x)
unfolding others
others-cons v values x = ap (λ (l : List ℕ). l ++ (10 ∷ x)) (flat_map-cons further_value v values) ∙ ap (λ (l : List ℕ). 9 ∷ l) (append_assoc (copied_value v) (flat_map further_value values) (10 ∷ x))

closed : (values : List (Option (List ℕ))) (x : List ℕ) → Closes (others values x)
unfolding others
closed [] x = record { first = 10; rest = x; is = refl; either = inr refl }
closed (v ∷ values) x = record { first = 9; rest = copied_value v ++ others values x; is = others-cons v values x; either = inl refl }

others_once : (a b : List (Option (List ℕ))) (x y : List ℕ) → length a ≡ length b → others a x ≡ others b y → (a ≡ b) × (x ≡ y)
unfolding others
others_once [] [] x y same e = (refl, (head_of 10 10 x y e).1)
others_once [] (w ∷ b) x y same e = absurd cc
others_once (v ∷ a) [] x y same e = absurd cc
others_once (v ∷ a) (w ∷ b) x y same e =
    let inner : copied_value v ++ others a x ≡ copied_value w ++ others b y = (head_of 9 9 (copied_value v ++ others a x) (copied_value w ++ others b y) (sym (others-cons v a x) ∙ e ∙ others-cons w b y)).1 in
    let first = value_once v w (others a x) (others b y) (closed a x) (closed b y) inner in
    let more = others_once a b x y (omega (arith, same)) first.1 in
    (ap (λ (o : Option (List ℕ)). o ∷ a) first.0 ∙ ap (λ (l : List (Option (List ℕ))). w ∷ l) more.0, more.1)

row_shape : (v : Option (List ℕ)) (values : List (Option (List ℕ))) (x : List ℕ) → row_text (v ∷ values) ++ x ≡ copied_value v ++ others values x
unfolding others
row_shape v values x =
    append_assoc (copied_value v) (flat_map further_value values ++ (10 ∷ [])) x ∙ ap (λ (l : List ℕ). copied_value v ++ l) (append_assoc (flat_map further_value values) (10 ∷ []) x)

pub row_once : (a b : List (Option (List ℕ))) (x y : List ℕ) → length a ≡ length b → row_text a ++ x ≡ row_text b ++ y → (a ≡ b) × (x ≡ y)
row_once [] [] x y same e = (refl, (head_of 10 10 x y e).1)
row_once [] (w ∷ b) x y same e = absurd cc
row_once (v ∷ a) [] x y same e = absurd cc
row_once (v ∷ a) (w ∷ b) x y same e =
    let first = value_once v w (others a x) (others b y) (closed a x) (closed b y) (sym (row_shape v a x) ∙ e ∙ row_shape w b y) in
    let more = others_once a b x y (omega (arith, same)) first.1 in
    (ap (λ (o : Option (List ℕ)). o ∷ a) first.0 ∙ ap (λ (l : List (Option (List ℕ))). w ∷ l) more.0, more.1)

-- rows of so many columns, one after the other
pub rows_once : (columns : ℕ) (a b : List (List (Option (List ℕ)))) → AllByRecursion (λ row. length row ≡ columns) a → AllByRecursion (λ row. length row ≡ columns) b → flat_map row_text a ≡ flat_map row_text b → a ≡ b
rows_once columns [] [] wide_a wide_b e = refl
rows_once columns [] (r ∷ b) wide_a wide_b e = absurd (never r (flat_map row_text b) (e ∙ flat_map-cons row_text r b))
  where
    never : (row : List (Option (List ℕ))) (x : List ℕ) → [] ≡ row_text row ++ x → ⊥
    never [] x e = absurd cc
    never (v ∷ values) x e = omega (arith, ap length e, ap length (row_shape v values x), length-append (copied_value v) (others values x), ap length (closed values x).is)
rows_once columns (r ∷ a) [] wide_a wide_b e = absurd (never r (flat_map row_text a) (sym e ∙ flat_map-cons row_text r a))
  where
    never : (row : List (Option (List ℕ))) (x : List ℕ) → [] ≡ row_text row ++ x → ⊥
    never [] x e = absurd cc
    never (v ∷ values) x e = omega (arith, ap length e, ap length (row_shape v values x), length-append (copied_value v) (others values x), ap length (closed values x).is)
rows_once columns (r ∷ a) (s ∷ b) wide_a wide_b e =
    let first = row_once r s (flat_map row_text a) (flat_map row_text b) (wide_a.0 ∙ sym wide_b.0) (sym (flat_map-cons row_text r a) ∙ e ∙ flat_map-cons row_text s b) in
    let more = rows_once columns a b wide_a.1 wide_b.1 first.1 in
    ap (λ (o : List (Option (List ℕ))). o ∷ a) first.0 ∙ ap (λ (l : List (List (Option (List ℕ)))). s ∷ l) more

-- ---- lengths

byte_short : (b : ℕ) → length (copied_byte b) ≤ 2
byte_short b = by_code (coded b)
  where
    by_code : IsEscaped b ⊎ IsPlain b → length (copied_byte b) ≤ 2
    by_code (inl code) = rw code.coded (omega arith)
    by_code (inr code) = rw code.coded (omega arith)

text_short : (t : List ℕ) → length (flat_map copied_byte t) ≤ 2 * length t
text_short [] = omega arith
text_short (b ∷ t) = omega (arith, byte_short b, text_short t, length-append (copied_byte b) (flat_map copied_byte t), ap length (flat_map-cons copied_byte b t))

value_short : (v : Option (List ℕ)) → IsShortValue v → length (copied_value v) ≤ 131072
value_short None short = omega arith
value_short (Some t) short = omega (arith, text_short t, short)

others_short : (values : List (Option (List ℕ))) → AllByRecursion IsShortValue values → length (flat_map further_value values) ≤ 131073 * length values
others_short [] short = omega arith
others_short (v ∷ values) short =
    omega (arith, value_short v short.0, others_short values short.1, length-append (further_value v) (flat_map further_value values), ap length (flat_map-cons further_value v values))

pub row_fits : (values : List (Option (List ℕ))) → AreShortValues values → 4 + length (row_text values) < 2 ^ 32
row_fits [] short = omega arith
row_fits (v ∷ values) short =
    omega (arith, short.0, value_short v short.1.0, others_short values short.1.1, length-append (copied_value v) (flat_map further_value values ++ (10 ∷ [])), length-append (flat_map further_value values) (10 ∷ []))

-- ---- formats

pub formats_more : (i : ℕ) → flat_map int16 (replicate (i + 1) 0) ≡ flat_map int16 (replicate i 0) ++ int16 0
formats_more i = ap (flat_map int16) (replicate_next i 0) ∙ flat_map-append int16 (replicate i 0) (0 ∷ []) ∙ ap (λ (l : List ℕ). flat_map int16 (replicate i 0) ++ l) (append-nil (int16 0))

formats_grown : (n : ℕ) → length (flat_map int16 (replicate n 0)) ≡ 2 * n → length (flat_map int16 (replicate (suc n) 0)) ≡ 2 * suc n
formats_grown n had = subst (λ (m : ℕ). length (flat_map int16 (replicate m 0)) ≡ 2 * m) next more
  where
    next : n + 1 ≡ suc n
    next = omega arith

    more : length (flat_map int16 (replicate (n + 1) 0)) ≡ 2 * (n + 1)
    more = omega (arith, had, ap length (formats_more n), length-append (flat_map int16 (replicate n 0)) (int16 0), length-int16 0)

formats_size : (count : ℕ) → length (flat_map int16 (replicate count 0)) ≡ 2 * count
formats_size zero = refl
formats_size (suc n) = formats_grown n (formats_size n)

-- how long the frame is that tells of so many columns
pub formats_length : (count : ℕ) → 4 + length (copy_both (record { format = 0; formats = replicate count 0 })) ≡ 7 + 2 * count
formats_length count =
    omega (arith, formats_size count, length-replicate {A = ℕ} count 0, length-int16 (length (replicate {A = ℕ} count 0)), length-append (int16 (length (replicate {A = ℕ} count 0))) (flat_map int16 (replicate {A = ℕ} count 0)))
