-- The pieces of a text that are cut at ASCII bytes are texts.
use Rattle.std.proofs.Common.{◌≡◌, ◌≢◌, ℕ, zero, suc, ◌<◌, ◌+◌, Bool, true, false, cond, eqb, List, [], ◌∷◌, ◌++◌, length, get_or, refl, sym, subst, append_assoc, arith}
use Rattle.std.specs.Str.{IsUtf8}
use Rattle.std.proofs.lemmas.Bool.{eqb-true}
use Rattle.std.proofs.lemmas.Bool.Decides.{nat_tests}
use Rattle.std.proofs.lemmas.List.{append-nil, take_at, length-append}
use Rattle.std.proofs.lemmas.Str.{IsUtf8-nil, IsUtf8-append, IsUtf8-take, IsUtf8-drop, IsUtf8-from_ascii, IsCharBoundary-before_ascii, IsCharBoundary-after_ascii}
use Rattle.std.proofs.Math.Seq.{get_or-append_seam, drop-append-add}
use Rattle.replcmd.specs.Tokens.{is_blank, is_mark, is_plain, spelling_of_token, Each, IsWhole}
use Rattle.pqformat.specs.Quoting.{with_doubled_quotes, begins, quoted_at}
use Rattle.replcmd.specs.Lexing.{after_blanks, word_of, after_word, token_at}
use Rattle.replcmd.specs.declared.text.token.Token.{Token}
use Rattle.replcmd.specs.declared.text.token.Token.TheVariants.{Word, Quoted, Value, Mark, Unclosed}
use Rattle.replcmd.specs.declared.text.token.TheConstants.{NAME_QUOTE, VALUE_QUOTE}
use Rattle.replcmd.proofs.Pieces.{word_takes}
use Rattle.pqformat.proofs.Quoting.{found, quoted_takes}
use Rattle.replcmd.proofs.Lexemes.{token_found, token_takes, unclosed_at_end}

-- a text cut at an ASCII byte
pub cut_at_ascii : (front : List ℕ) (b : ℕ) (rest : List ℕ) → b < 128 → IsUtf8 (front ++ (b ∷ rest)) → IsUtf8 front × IsUtf8 rest
cut_at_ascii front b rest ascii valid =
    let text : List ℕ = front ++ (b ∷ rest) in
    let here : get_or (front ++ (b ∷ rest)) (length front) 0 ≡ b = get_or-append_seam front b rest 0 in
    let within : length front < length (front ++ (b ∷ rest)) = omega (arith, length-append front (b ∷ rest)) in
    let before = IsUtf8-take (front ++ (b ∷ rest)) (length front) valid (IsCharBoundary-before_ascii (front ++ (b ∷ rest)) (length front) within (omega arith)) in
    let behind = IsUtf8-drop (front ++ (b ∷ rest)) (length front + 1) valid (IsCharBoundary-after_ascii (front ++ (b ∷ rest)) (length front) valid within (omega arith)) in
    (subst IsUtf8 (take_at front (b ∷ rest) (length front) refl) before, subst IsUtf8 (drop-append-add front (b ∷ rest) 1) behind)

ascii_byte : (b : ℕ) → b < 128 → IsUtf8 (b ∷ [])
ascii_byte b ascii = IsUtf8-from_ascii (b ∷ []) each
  where
    each : (i : ℕ) → get_or (b ∷ []) i 0 < 128
    each zero = ascii
    each (suc i) = omega arith

pub behind_ascii : (b : ℕ) (rest : List ℕ) → b < 128 → IsUtf8 (b ∷ rest) → IsUtf8 rest
behind_ascii b rest ascii valid = (cut_at_ascii [] b rest ascii valid).1

pub with_ascii : (b : ℕ) (rest : List ℕ) → b < 128 → IsUtf8 rest → IsUtf8 (b ∷ rest)
with_ascii b rest ascii valid = IsUtf8-append (b ∷ []) rest (ascii_byte b ascii) valid

blank_ascii : (b : ℕ) → is_blank b ≡ true → b < 128
blank_ascii b is = grind (arith, nat_tests)

mark_ascii : (b : ℕ) → is_mark b ≡ true → b < 128
mark_ascii b is = grind (arith, nat_tests)

other_ascii : (b : ℕ) → is_plain b ≡ false → b < 128
other_ascii b is = grind (arith, nat_tests)

pub unblanked_is_text : (text : List ℕ) → IsUtf8 text → IsUtf8 (after_blanks text)
unblanked_is_text [] valid = valid
unblanked_is_text (b ∷ bytes) valid = by_test (is_blank b) refl (λ blank. unblanked_is_text bytes (behind_ascii b bytes (blank_ascii b blank) valid))
  where
    by_test : (t : Bool) → is_blank b ≡ t → (is_blank b ≡ true → IsUtf8 (after_blanks bytes)) → IsUtf8 (cond t (after_blanks bytes) (b ∷ bytes))
    by_test true is inner = inner is
    by_test false is inner = valid

-- a front after which nothing, or an ASCII byte, follows
front_is_text : (front rest : List ℕ) → begins is_plain rest ≡ false → IsUtf8 (front ++ rest) → IsUtf8 front × IsUtf8 rest
front_is_text front [] end valid = (subst IsUtf8 (append-nil front) valid, IsUtf8-nil)
front_is_text front (b ∷ rest) end valid =
    let both = cut_at_ascii front b rest (other_ascii b end) valid in
    (both.0, with_ascii b rest (other_ascii b end) both.1)

pub word_is_text : (text : List ℕ) → IsUtf8 text → IsUtf8 (word_of text) × IsUtf8 (after_word text)
word_is_text text valid =
    let taken = word_takes text in
    front_is_text (word_of text) (after_word text) taken.end (subst IsUtf8 taken.parts valid)

-- what is meant by doubled quotes, with a front that stays as it is
undoubled : (quote : ℕ) (front n : List ℕ) → quote < 128 → IsUtf8 (front ++ with_doubled_quotes quote n) → IsUtf8 (front ++ n)
undoubled quote front [] ascii valid = valid
undoubled quote front (b ∷ n) ascii valid = by_test (eqb b quote) (λ is. eqb-true b quote is) (λ text. undoubled quote [] n ascii text) (λ text. undoubled quote (front ++ (b ∷ [])) n ascii text) valid
  where
    by_test : (t : Bool) → (t ≡ true → b ≡ quote) → (IsUtf8 (with_doubled_quotes quote n) → IsUtf8 n) → (IsUtf8 ((front ++ (b ∷ [])) ++ with_doubled_quotes quote n) → IsUtf8 ((front ++ (b ∷ [])) ++ n))
        → IsUtf8 (front ++ cond t (b ∷ b ∷ with_doubled_quotes quote n) (b ∷ with_doubled_quotes quote n)) → IsUtf8 (front ++ (b ∷ n))
    by_test true same inner on text =
        let small : b < 128 = let is = same refl in omega arith in
        let both = cut_at_ascii front b (b ∷ with_doubled_quotes quote n) small text in
        IsUtf8-append front (b ∷ n) both.0 (with_ascii b n small (inner (behind_ascii b (with_doubled_quotes quote n) small both.1)))
    by_test false same inner on text =
        subst IsUtf8 (append_assoc front (b ∷ []) n) (on (subst IsUtf8 (sym (append_assoc front (b ∷ []) (with_doubled_quotes quote n))) text))

pub quoted_is_text : (quote : ℕ) (text n rest : List ℕ) → quote < 128 → IsUtf8 text → quoted_at false quote text ≡ found n rest → IsUtf8 n × IsUtf8 rest
quoted_is_text quote text n rest ascii valid e =
    let taken = quoted_takes false quote text n rest e in
    let both = cut_at_ascii (with_doubled_quotes quote n) quote rest ascii (subst IsUtf8 taken.parts valid) in
    (undoubled quote [] n ascii both.0, both.1)

-- a token, and what stands after it
spelled_is_text : (token : Token) (rest : List ℕ) → IsWhole token rest → IsUtf8 (spelling_of_token token ++ rest) → IsUtf8 rest
spelled_is_text (Word w) rest whole valid = (front_is_text w rest whole.2 valid).1
spelled_is_text (Quoted n) rest whole valid =
    let inner = behind_ascii NAME_QUOTE ((with_doubled_quotes NAME_QUOTE n ++ NAME_QUOTE ∷ []) ++ rest) (omega arith) valid in
    (cut_at_ascii (with_doubled_quotes NAME_QUOTE n) NAME_QUOTE rest (omega arith) (subst IsUtf8 (append_assoc (with_doubled_quotes NAME_QUOTE n) (NAME_QUOTE ∷ []) rest) inner)).1
spelled_is_text (Value v) rest whole valid =
    let inner = behind_ascii VALUE_QUOTE ((with_doubled_quotes VALUE_QUOTE v ++ VALUE_QUOTE ∷ []) ++ rest) (omega arith) valid in
    (cut_at_ascii (with_doubled_quotes VALUE_QUOTE v) VALUE_QUOTE rest (omega arith) (subst IsUtf8 (append_assoc (with_doubled_quotes VALUE_QUOTE v) (VALUE_QUOTE ∷ []) rest) inner)).1
spelled_is_text (Mark b) rest whole valid = behind_ascii b rest (mark_ascii b whole) valid
spelled_is_text Unclosed rest whole valid = absurd whole

unblanked : (blanks rest : List ℕ) → Each is_blank blanks → IsUtf8 (blanks ++ rest) → IsUtf8 rest
unblanked [] rest each valid = valid
unblanked (b ∷ blanks) rest each valid = unblanked blanks rest each.1 (behind_ascii b (blanks ++ rest) (blank_ascii b each.0) valid)

closed_is_text : (text : List ℕ) (token : Token) (rest : List ℕ) → token ≢ Unclosed → IsUtf8 text → token_at text ≡ token_found token rest → IsUtf8 rest
closed_is_text text token rest some valid e =
    let starts = token_takes text token rest e some in
    spelled_is_text token rest starts.whole (unblanked starts.blanks (spelling_of_token token ++ rest) starts.are_blank (subst IsUtf8 starts.parts valid))

pub rest_is_text : (text : List ℕ) (token : Token) (rest : List ℕ) → IsUtf8 text → token_at text ≡ token_found token rest → IsUtf8 rest
rest_is_text text Unclosed rest valid e = subst IsUtf8 (sym (unclosed_at_end text rest e)) IsUtf8-nil
rest_is_text text (Word w) rest valid e = closed_is_text text (Word w) rest (λ is. absurd cc) valid e
rest_is_text text (Quoted n) rest valid e = closed_is_text text (Quoted n) rest (λ is. absurd cc) valid e
rest_is_text text (Value v) rest valid e = closed_is_text text (Value v) rest (λ is. absurd cc) valid e
rest_is_text text (Mark b) rest valid e = closed_is_text text (Mark b) rest (λ is. absurd cc) valid e
