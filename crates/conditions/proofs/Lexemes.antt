-- The tokens that are read from a text are those that it spells.
use Rattle.std.proofs.Common.{◌≡◌, ◌≢◌, ℕ, ◌<◌, ◌≤◌, Bool, true, false, cond, eqb, List, [], ◌∷◌, ◌++◌, length, Option, Some, None, Result, Ok, Err, IfOk, IfSome, refl, sym, ap, subst, ◌∙◌, arith}
use Rattle.std.specs.List.{list_any}
use Rattle.std.specs.Borrow.{Bor}
use Rattle.std.specs.Char.{is_ascii_digit}
use Rattle.std.proofs.lemmas.Bool.{eqb-true}
use Rattle.std.proofs.lemmas.Bool.Decides.{nat_tests}
use Rattle.std.proofs.lemmas.List.{append-nil, length-append}
use Rattle.conditions.specs.declared.words.class.Class.{Class}
use Rattle.conditions.specs.declared.words.class.Class.TheVariants as classes
use Rattle.conditions.specs.declared.words.token.Token.{Token}
use Rattle.conditions.specs.declared.words.token.Token.TheVariants.{Word, Number, Quoted, Text, Mark, Pair, Stray}
use Rattle.conditions.specs.declared.words.token.TheConstants.{NAME_QUOTE, TEXT_QUOTE, MINUS}
use Rattle.conditions.specs.Tokens.{is_blank, is_first, is_later, is_mark, is_pair, spelling_of_token, without_minus, Each, IsWhole, StartsWith, Spells}
use Rattle.pqformat.specs.Quoting.{begins, in_quotes, quoted_at}
use Rattle.conditions.specs.Lexing.{is_of, run_of, after_run, closed_token, signed_at, one_mark, mark_at, token_after, token_from, token_at, Lexes, lent, is_stray}
use Rattle.conditions.proofs.Pieces.{run_takes, run_again}
use Rattle.pqformat.proofs.Quoting.{if_true, if_false, found, whole_takes, whole_again}

-- ---- what is read is spelled

-- what stands at the front, after the blanks
pub record Front (bytes : List ℕ) (token : Token) (rest : List ℕ) : Type 0 where
  pub parts : bytes ≡ spelling_of_token token ++ rest
  pub whole : IsWhole token rest

-- a token was taken from the front of these bytes, or none begins there; it is not nothing
pub record Took (bytes : List ℕ) (p : Token × List ℕ) : Type 0 where
  pub front : p.0 ≢ Stray → Front bytes p.0 p.1
  pub less : length p.1 < length bytes

either_way : (bytes : List ℕ) (t : Bool) (x y : Token × List ℕ) → (t ≡ true → Took bytes x) → (t ≡ false → Took bytes y) → Took bytes (cond t x y)
either_way bytes true x y held failed = held refl
either_way bytes false x y held failed = failed refl

stray : (b : ℕ) (bytes : List ℕ) → Took (b ∷ bytes) (Stray, [])
stray b bytes = record { front = λ some. absurd (some refl); less = omega arith }

run_shorter : (class : Class) (bytes : List ℕ) → length (after_run class bytes) ≤ length bytes
run_shorter class bytes = omega (arith, ap (length {A = ℕ}) (run_takes class bytes).parts, length-append (run_of class bytes) (after_run class bytes))

first_goes_on : (b : ℕ) → is_first b ≡ true → is_later b ≡ true
first_goes_on b is = grind (arith, nat_tests)

run_begins : (class : Class) (b : ℕ) (bytes : List ℕ) → is_of class b ≡ true → run_of class (b ∷ bytes) ≡ b ∷ run_of class bytes
run_begins class b bytes is = if_true (is_of class b) (b ∷ run_of class bytes) [] is

run_less : (class : Class) (b : ℕ) (bytes : List ℕ) → is_of class b ≡ true → length (after_run class (b ∷ bytes)) < length (b ∷ bytes)
run_less class b bytes is = rw (if_true (is_of class b) (after_run class bytes) (b ∷ bytes) is) (omega (arith, run_shorter class bytes))

took_word : (b : ℕ) (bytes : List ℕ) → is_first b ≡ true → Took (b ∷ bytes) (Word (run_of classes.Later (b ∷ bytes)), after_run classes.Later (b ∷ bytes))
took_word b bytes is =
    let run = run_takes classes.Later (b ∷ bytes) in
    let begun : begins is_first (run_of classes.Later (b ∷ bytes)) ≡ true = ap (begins is_first) (run_begins classes.Later b bytes (first_goes_on b is)) ∙ is in
    record { front = λ some. record { parts = run.parts; whole = (begun, run.each, run.end) }; less = run_less classes.Later b bytes (first_goes_on b is) }

no_minus : (b : ℕ) → is_ascii_digit b ≡ true → eqb b MINUS ≡ false
no_minus b is = grind (arith, nat_tests)

abbrev AreDigitsIn : List ℕ → Type 0
AreDigitsIn w = (begins is_ascii_digit w ≡ true) × Each is_ascii_digit w

took_number : (b : ℕ) (bytes : List ℕ) → is_ascii_digit b ≡ true → Took (b ∷ bytes) (Number (run_of classes.Digit (b ∷ bytes)), after_run classes.Digit (b ∷ bytes))
took_number b bytes is =
    let run = run_takes classes.Digit (b ∷ bytes) in
    let begun : run_of classes.Digit (b ∷ bytes) ≡ b ∷ run_of classes.Digit bytes = run_begins classes.Digit b bytes is in
    let same : without_minus (run_of classes.Digit (b ∷ bytes)) ≡ run_of classes.Digit (b ∷ bytes) =
    ap without_minus begun ∙ if_false (eqb b MINUS) (run_of classes.Digit bytes) (b ∷ run_of classes.Digit bytes) (no_minus b is) ∙ sym begun in
    record {
      front = λ some. record { parts = run.parts; whole = (subst AreDigitsIn (sym same) (ap (begins is_ascii_digit) begun ∙ is, run.each), run.end) };
      less = run_less classes.Digit b bytes is;
    }

digit_run : (bytes : List ℕ) → begins is_ascii_digit bytes ≡ true → begins is_ascii_digit (run_of classes.Digit bytes) ≡ true
digit_run [] is = absurd cc
digit_run (b ∷ bytes) is = ap (begins is_ascii_digit) (run_begins classes.Digit b bytes is) ∙ is

took_signed : (b : ℕ) (bytes : List ℕ) → eqb b MINUS ≡ true → Took (b ∷ bytes) (signed_at bytes)
took_signed b bytes minus = either_way (b ∷ bytes) (begins is_ascii_digit bytes) (Number (MINUS ∷ run_of classes.Digit bytes), after_run classes.Digit bytes) (Stray, []) digits (λ other. stray b bytes)
  where
    digits : begins is_ascii_digit bytes ≡ true → Took (b ∷ bytes) (Number (MINUS ∷ run_of classes.Digit bytes), after_run classes.Digit bytes)
    digits is =
        let run = run_takes classes.Digit bytes in
        record {
          front = λ some. record { parts = ap (λ (c : ℕ). c ∷ bytes) (eqb-true b MINUS minus) ∙ ap (λ (l : List ℕ). MINUS ∷ l) run.parts; whole = ((digit_run bytes is, run.each), run.end) };
          less = omega (arith, run_shorter classes.Digit bytes);
        }

took_one : (b : ℕ) (bytes : List ℕ) → begins (is_pair b) bytes ≡ false → Took (b ∷ bytes) (one_mark b bytes)
took_one b bytes end = either_way (b ∷ bytes) (is_mark b) (Mark b, bytes) (Stray, []) (λ is. record { front = λ some. record { parts = refl; whole = (is, end) }; less = omega arith }) (λ other. stray b bytes)

took_mark : (b : ℕ) (bytes : List ℕ) → Took (b ∷ bytes) (mark_at b bytes)
took_mark b [] = took_one b [] refl
took_mark b (c ∷ bytes) = either_way (b ∷ c ∷ bytes) (is_pair b c) (Pair b c, bytes) (one_mark b (c ∷ bytes)) (λ is. record { front = λ some. record { parts = refl; whole = is }; less = omega arith }) (λ other. took_one b (c ∷ bytes) other)

took_quotes : (b quote : ℕ) (bytes n rest : List ℕ) (token : Token) → eqb b quote ≡ true → quoted_at false quote bytes ≡ found n rest → spelling_of_token token ≡ in_quotes quote n
    → (begins (λ c. eqb c quote) rest ≡ false → IsWhole token rest) → Took (b ∷ bytes) (token, rest)
took_quotes b quote bytes n rest token same is spelled ends =
    let taken = whole_takes b quote bytes n rest same is in
    record { front = λ some. record { parts = taken.parts ∙ ap (λ (l : List ℕ). l ++ rest) (sym spelled); whole = ends taken.end }; less = taken.less }

took_quoted : (b : ℕ) (bytes : List ℕ) → eqb b NAME_QUOTE ≡ true → (o : Option (List ℕ × List ℕ)) → quoted_at false NAME_QUOTE bytes ≡ o → Took (b ∷ bytes) (closed_token (λ n. Quoted n) o)
took_quoted b bytes same None is = stray b bytes
took_quoted b bytes same (Some x) is = took_quotes b NAME_QUOTE bytes x.0 x.1 (Quoted x.0) same is refl (λ end. end)

took_text : (b : ℕ) (bytes : List ℕ) → eqb b TEXT_QUOTE ≡ true → (o : Option (List ℕ × List ℕ)) → quoted_at false TEXT_QUOTE bytes ≡ o → Took (b ∷ bytes) (closed_token (λ t. Text t) o)
took_text b bytes same None is = stray b bytes
took_text b bytes same (Some x) is = took_quotes b TEXT_QUOTE bytes x.0 x.1 (Text x.0) same is refl (λ end. end)

took : (b : ℕ) (bytes : List ℕ) → Took (b ∷ bytes) (token_after b bytes)
took b bytes =
    either_way (b ∷ bytes) (eqb b NAME_QUOTE) _ _ (λ is. took_quoted b bytes is (quoted_at false NAME_QUOTE bytes) refl) (λ n1.
    either_way (b ∷ bytes) (eqb b TEXT_QUOTE) _ _ (λ is. took_text b bytes is (quoted_at false TEXT_QUOTE bytes) refl) (λ n2.
    either_way (b ∷ bytes) (is_first b) _ _ (λ is. took_word b bytes is) (λ n3.
    either_way (b ∷ bytes) (is_ascii_digit b) _ _ (λ is. took_number b bytes is) (λ n4.
    either_way (b ∷ bytes) (eqb b MINUS) _ _ (λ is. took_signed b bytes is) (λ n5. took_mark b bytes)))))

abbrev pub token_found : Token → List ℕ → Option (Token × List ℕ)
token_found token rest = Some (token, rest)

abbrev told : Token → List ℕ → Token × List ℕ
told token rest = (token, rest)

abbrev some_of : Token × List ℕ → Option (Token × List ℕ)
some_of p = Some p

same_pair : (p q : Token × List ℕ) → some_of p ≡ some_of q → p ≡ q
same_pair p q e = cc

pub same_token : (a : Token) (x : List ℕ) (b : Token) (y : List ℕ) → token_found a x ≡ token_found b y → (a ≡ b) × (x ≡ y)
same_token a x b y e =
    let both : told a x ≡ told b y = cc in
    (ap (λ (p : Token × List ℕ). p.0) both, ap (λ (p : Token × List ℕ). p.1) both)

front_took : (bytes : List ℕ) (token : Token) (rest : List ℕ) → token_from bytes ≡ token_found token rest → Took bytes (told token rest)
front_took [] token rest e = absurd cc
front_took (b ∷ bytes) token rest e = subst (Took (b ∷ bytes)) (same_pair (token_after b bytes) (told token rest) e) (took b bytes)

pub token_takes : (text : List ℕ) (token : Token) (rest : List ℕ) → token_at text ≡ token_found token rest → token ≢ Stray → StartsWith text token rest
unfolding token_at
token_takes text token rest e some =
    let blanks = run_takes classes.Blank text in
    let front = (front_took (after_run classes.Blank text) token rest e).front some in
    record { blanks = run_of classes.Blank text; are_blank = blanks.each; parts = blanks.parts ∙ ap (λ (l : List ℕ). run_of classes.Blank text ++ l) front.parts; whole = front.whole }

-- a token takes bytes
pub token_smaller : (text : List ℕ) (token : Token) (rest : List ℕ) → token_at text ≡ token_found token rest → length rest < length text
unfolding token_at
token_smaller text token rest e = omega (arith, (front_took (after_run classes.Blank text) token rest e).less, run_shorter classes.Blank text)

-- ---- what is spelled is read again

-- what stands after the blanks, and is read there
record Reads (bytes : List ℕ) (token : Token) (rest : List ℕ) : Type 0 where
  begins_so : begins is_blank bytes ≡ false
  read : token_from bytes ≡ token_found token rest

first_none : (b : ℕ) → is_first b ≡ true → (is_blank b ≡ false) × (eqb b NAME_QUOTE ≡ false) × (eqb b TEXT_QUOTE ≡ false)
first_none b is = (grind (arith, nat_tests), grind (arith, nat_tests), grind (arith, nat_tests))

digit_none : (b : ℕ) → is_ascii_digit b ≡ true → (is_blank b ≡ false) × (eqb b NAME_QUOTE ≡ false) × (eqb b TEXT_QUOTE ≡ false) × (is_first b ≡ false)
digit_none b is = (grind (arith, nat_tests), grind (arith, nat_tests), grind (arith, nat_tests), grind (arith, nat_tests))

-- a byte that begins none of the other tokens
record IsOther (b : ℕ) : Type 0 where
  blank : is_blank b ≡ false
  name : eqb b NAME_QUOTE ≡ false
  text : eqb b TEXT_QUOTE ≡ false
  first : is_first b ≡ false
  digit : is_ascii_digit b ≡ false
  minus : eqb b MINUS ≡ false

mark_other : (b : ℕ) → is_mark b ≡ true → IsOther b
mark_other b is = record { blank = grind (arith, nat_tests); name = grind (arith, nat_tests); text = grind (arith, nat_tests); first = grind (arith, nat_tests); digit = grind (arith, nat_tests); minus = grind (arith, nat_tests) }

pair_other : (b c : ℕ) → is_pair b c ≡ true → IsOther b
pair_other b c is = record { blank = grind (arith, nat_tests); name = grind (arith, nat_tests); text = grind (arith, nat_tests); first = grind (arith, nat_tests); digit = grind (arith, nat_tests); minus = grind (arith, nat_tests) }

other_reads : (b : ℕ) (bytes : List ℕ) → IsOther b → token_after b bytes ≡ mark_at b bytes
other_reads b bytes other =
    if_false (eqb b NAME_QUOTE) _ _ other.name ∙ if_false (eqb b TEXT_QUOTE) _ _ other.text ∙ if_false (is_first b) _ _ other.first ∙ if_false (is_ascii_digit b) _ _ other.digit
    ∙ if_false (eqb b MINUS) _ _ other.minus

mark_reads : (b : ℕ) (rest : List ℕ) → IsWhole (Mark b) rest → Reads (b ∷ rest) (Mark b) rest
mark_reads b rest whole =
    let other = mark_other b whole.0 in
    record { begins_so = other.blank; read = ap some_of (other_reads b rest other ∙ alone rest whole.1) }
  where
    alone : (rest : List ℕ) → begins (is_pair b) rest ≡ false → mark_at b rest ≡ told (Mark b) rest
    alone [] end = if_true (is_mark b) (told (Mark b) []) (told Stray []) whole.0
    alone (c ∷ rest) end = if_false (is_pair b c) (told (Pair b c) rest) (one_mark b (c ∷ rest)) end ∙ if_true (is_mark b) (told (Mark b) (c ∷ rest)) (told Stray []) whole.0

pair_reads : (b c : ℕ) (rest : List ℕ) → is_pair b c ≡ true → Reads (b ∷ c ∷ rest) (Pair b c) rest
pair_reads b c rest is =
    let other = pair_other b c is in
    record { begins_so = other.blank; read = ap some_of (other_reads b (c ∷ rest) other ∙ if_true (is_pair b c) (told (Pair b c) rest) (one_mark b (c ∷ rest)) is) }

word_reads : (w rest : List ℕ) → IsWhole (Word w) rest → Reads (w ++ rest) (Word w) rest
word_reads [] rest whole = absurd (let never = whole.0 in cc)
word_reads (b ∷ w) rest whole =
    let none = first_none b whole.0 in
    let again = run_again classes.Later (b ∷ w) rest whole.1 whole.2 in
    record {
      begins_so = none.0;
      read = ap some_of (if_false (eqb b NAME_QUOTE) _ _ none.1 ∙ if_false (eqb b TEXT_QUOTE) _ _ none.2 ∙ if_true (is_first b) _ _ whole.0
          ∙ ap (λ (x : List ℕ). told (Word x) (after_run classes.Later (b ∷ (w ++ rest)))) again.0 ∙ ap (told (Word (b ∷ w))) again.1);
    }

number_reads : (b : ℕ) (w rest : List ℕ) → AreDigitsIn (b ∷ w) → begins is_ascii_digit rest ≡ false → Reads ((b ∷ w) ++ rest) (Number (b ∷ w)) rest
number_reads b w rest digits end =
    let none = digit_none b digits.0 in
    let again = run_again classes.Digit (b ∷ w) rest digits.1 end in
    record {
      begins_so = none.0;
      read = ap some_of (if_false (eqb b NAME_QUOTE) _ _ none.1 ∙ if_false (eqb b TEXT_QUOTE) _ _ none.2 ∙ if_false (is_first b) _ _ none.3 ∙ if_true (is_ascii_digit b) _ _ digits.0
          ∙ ap (λ (x : List ℕ). told (Number x) (after_run classes.Digit (b ∷ (w ++ rest)))) again.0 ∙ ap (told (Number (b ∷ w))) again.1);
    }

signed_reads : (w rest : List ℕ) → AreDigitsIn w → begins is_ascii_digit rest ≡ false → Reads (MINUS ∷ (w ++ rest)) (Number (MINUS ∷ w)) rest
signed_reads [] rest digits end = absurd (let never = digits.0 in cc)
signed_reads (b ∷ w) rest digits end =
    let again = run_again classes.Digit (b ∷ w) rest digits.1 end in
    record {
      begins_so = refl;
      read = ap some_of (if_true (is_ascii_digit b) (told (Number (MINUS ∷ run_of classes.Digit (b ∷ (w ++ rest)))) (after_run classes.Digit (b ∷ (w ++ rest)))) (told Stray []) digits.0
          ∙ ap (λ (x : List ℕ). told (Number (MINUS ∷ x)) (after_run classes.Digit (b ∷ (w ++ rest)))) again.0 ∙ ap (told (Number (MINUS ∷ b ∷ w))) again.1);
    }

integer_reads : (w rest : List ℕ) → IsWhole (Number w) rest → Reads (w ++ rest) (Number w) rest
integer_reads [] rest whole = absurd (let never = whole.0.0 in cc)
integer_reads (b ∷ w) rest whole = by_test (eqb b MINUS) refl whole.0
  where
    by_test : (t : Bool) → eqb b MINUS ≡ t → AreDigitsIn (cond t w (b ∷ w)) → Reads ((b ∷ w) ++ rest) (Number (b ∷ w)) rest
    by_test true is digits = subst (λ (c : ℕ). Reads (c ∷ (w ++ rest)) (Number (c ∷ w)) rest) (sym (eqb-true b MINUS is)) (signed_reads w rest digits whole.1)
    by_test false is digits = number_reads b w rest digits whole.1

quoted_reads : (n rest : List ℕ) → IsWhole (Quoted n) rest → Reads (spelling_of_token (Quoted n) ++ rest) (Quoted n) rest
quoted_reads n rest whole =
    record { begins_so = refl; read = ap (λ (o : Option (List ℕ × List ℕ)). some_of (closed_token (λ m. Quoted m) o)) (whole_again NAME_QUOTE n rest whole) }

text_reads : (t rest : List ℕ) → IsWhole (Text t) rest → Reads (spelling_of_token (Text t) ++ rest) (Text t) rest
text_reads t rest whole =
    record { begins_so = refl; read = ap (λ (o : Option (List ℕ × List ℕ)). some_of (closed_token (λ m. Text m) o)) (whole_again TEXT_QUOTE t rest whole) }

token_reads : (token : Token) (rest : List ℕ) → IsWhole token rest → Reads (spelling_of_token token ++ rest) token rest
token_reads (Word w) rest whole = word_reads w rest whole
token_reads (Number w) rest whole = integer_reads w rest whole
token_reads (Quoted n) rest whole = quoted_reads n rest whole
token_reads (Text t) rest whole = text_reads t rest whole
token_reads (Mark b) rest whole = mark_reads b rest whole
token_reads (Pair b c) rest whole = pair_reads b c rest whole
token_reads Stray rest whole = absurd whole

pub token_again : (text : List ℕ) (token : Token) (rest : List ℕ) → StartsWith text token rest → token_at text ≡ token_found token rest
unfolding token_at
token_again text token rest starts =
    let reads = token_reads token rest starts.whole in
    let front : after_run classes.Blank text ≡ spelling_of_token token ++ rest =
    ap (after_run classes.Blank) starts.parts ∙ (run_again classes.Blank starts.blanks (spelling_of_token token ++ rest) starts.are_blank reads.begins_so).1 in
    ap token_from front ∙ reads.read

-- ---- whole texts

-- everywhere a token begins
abbrev pub NoneStray : List Token → Type 0
NoneStray [] = Unit {0}
NoneStray (token ∷ tokens) = (token ≢ Stray) × NoneStray tokens

-- only blanks are left exactly where no token is read
nothing_left : (text : List ℕ) → token_at text ≡ None → Each is_blank text
unfolding token_at
nothing_left text e =
    let blanks = run_takes classes.Blank text in
    let all : text ≡ run_of classes.Blank text = blanks.parts ∙ ap (λ (l : List ℕ). run_of classes.Blank text ++ l) (empty (after_run classes.Blank text) e) ∙ append-nil (run_of classes.Blank text) in
    subst (Each is_blank) (sym all) blanks.each
  where
    empty : (bytes : List ℕ) → token_from bytes ≡ None → bytes ≡ []
    empty [] e = refl
    empty (b ∷ bytes) e = absurd cc

blanks_only : (text : List ℕ) → Each is_blank text → token_at text ≡ None
unfolding token_at
blanks_only text each =
    let none : after_run classes.Blank text ≡ [] = ap (after_run classes.Blank) (sym (append-nil text)) ∙ (run_again classes.Blank text [] each refl).1 in
    ap token_from none

pub lexes_spells : (text : List ℕ) (tokens : List Token) → NoneStray tokens → Lexes text tokens → Spells text tokens
lexes_spells text [] all lexes = nothing_left text lexes
lexes_spells text (token ∷ tokens) all lexes = (lexes.0, token_takes text token lexes.0 lexes.1 all.0, lexes_spells lexes.0 tokens all.1 lexes.2)

pub spells_lexes : (text : List ℕ) (tokens : List Token) → Spells text tokens → Lexes text tokens
spells_lexes text [] spells = blanks_only text spells
spells_lexes text (token ∷ tokens) spells = (spells.0, token_again text token spells.0 spells.1, spells_lexes spells.0 tokens spells.2)

-- a text has one list of tokens
pub lexes_once : (text : List ℕ) (a b : List Token) → Lexes text a → Lexes text b → a ≡ b
lexes_once text [] [] one other = refl
lexes_once text [] (u ∷ b) one other = absurd (let never = sym one ∙ other.1 in cc)
lexes_once text (t ∷ a) [] one other = absurd (let never = sym other ∙ one.1 in cc)
lexes_once text (t ∷ a) (u ∷ b) one other =
    let same = same_token t one.0 u other.0 (sym one.1 ∙ other.1) in
    let aligned : Lexes one.0 b = subst (λ (rest : List ℕ). Lexes rest b) (sym same.1) other.2 in
    ap (λ (x : Token). x ∷ a) same.0 ∙ ap (λ (l : List Token). u ∷ l) (lexes_once one.0 a b one.2 aligned)

-- ---- no token is stray

none_stray : (tokens : List Token) → list_any is_stray tokens ≡ false → NoneStray tokens
none_stray [] none = tt
none_stray (Word w ∷ tokens) none = ((λ is. absurd cc), none_stray tokens none)
none_stray (Number w ∷ tokens) none = ((λ is. absurd cc), none_stray tokens none)
none_stray (Quoted n ∷ tokens) none = ((λ is. absurd cc), none_stray tokens none)
none_stray (Text t ∷ tokens) none = ((λ is. absurd cc), none_stray tokens none)
none_stray (Mark b ∷ tokens) none = ((λ is. absurd cc), none_stray tokens none)
none_stray (Pair b c ∷ tokens) none = ((λ is. absurd cc), none_stray tokens none)
none_stray (Stray ∷ tokens) none = absurd cc

whole_none : (token : Token) (rest : List ℕ) → IsWhole token rest → is_stray token ≡ false
whole_none (Word w) rest whole = refl
whole_none (Number w) rest whole = refl
whole_none (Quoted n) rest whole = refl
whole_none (Text t) rest whole = refl
whole_none (Mark b) rest whole = refl
whole_none (Pair b c) rest whole = refl
whole_none Stray rest whole = absurd whole

spelled_none : (text : List ℕ) (tokens : List Token) → Spells text tokens → list_any is_stray tokens ≡ false
spelled_none text [] spells = refl
spelled_none text (token ∷ tokens) spells = rw (whole_none token spells.0 spells.1.whole) (spelled_none spells.0 tokens spells.2)

pub tokens_found : (text : List ℕ) (tokens : List Token) → Lexes text tokens → list_any is_stray tokens ≡ false → Spells text tokens
tokens_found text tokens lexes none = lexes_spells text tokens (none_stray tokens none) lexes

pub tokens_only : (text : List ℕ) (tokens other : List Token) → Lexes text tokens → Spells text other → tokens ≡ other
tokens_only text tokens other lexes spells = lexes_once text tokens other lexes (spells_lexes text other spells)

pub tokens_none : (text : List ℕ) (tokens other : List Token) → Lexes text tokens → list_any is_stray tokens ≡ true → Spells text other → ⊥
tokens_none text tokens other lexes some spells =
    let none : list_any is_stray tokens ≡ false = ap (list_any is_stray) (tokens_only text tokens other lexes spells) ∙ spelled_none text other spells in
    absurd (let never : true ≡ false = sym some ∙ none in cc)

-- a text spells one list of tokens
pub spelled_once : (text : List ℕ) (a b : List Token) → Spells text a → Spells text b → a ≡ b
spelled_once text a b one other = lexes_once text a b (spells_lexes text a one) (spells_lexes text b other)

-- what a reader of tokens lends is shorter than what it read from
pub lends_shorter : {E : Type 0} (text : List ℕ) (r : Result (Option (Token × Bor (List ℕ))) E) → IfOk r (λ x. lent x ≡ token_at text) → IfOk r (λ x. IfSome x (λ y. length y.1.now < length text))
lends_shorter text (Err e) gives = tt
lends_shorter text (Ok None) gives = tt
lends_shorter text (Ok (Some y)) gives = token_smaller text y.0 y.1.now (sym gives)
