-- The tokens that are read from a text are those that it spells.
use Rattle.std.proofs.Common.{◌≡◌, ◌≢◌, ℕ, zero, suc, ◌<◌, Bool, true, false, cond, eqb, List, [], ◌∷◌, ◌++◌, length, Option, Some, None, refl, sym, ap, subst, ◌∙◌, arith}
use Rattle.std.specs.Prelude.{◌||◌, not}
use Rattle.std.proofs.lemmas.Bool.Decides.{nat_tests}
use Rattle.std.proofs.lemmas.List.{append-nil, length-append}
use Rattle.replcmd.specs.declared.text.token.Token.{Token}
use Rattle.replcmd.specs.declared.text.token.Token.TheVariants.{Word, Quoted, Value, Mark, Unclosed}
use Rattle.replcmd.specs.declared.text.token.TheConstants.{NAME_QUOTE, VALUE_QUOTE}
use Rattle.replcmd.specs.Tokens.{is_blank, is_mark, is_plain, spelling_of_token, Each, IsWhole, StartsWith, Spells}
use Rattle.pqformat.specs.Quoting.{begins, quoted_at}
use Rattle.replcmd.specs.Lexing.{after_blanks, word_of, after_word, closed_token, token_from, token_at, Lexes}
use Rattle.replcmd.proofs.Pieces.{BlanksTaken, blanks_take, blanks_end, blanks_again, word_takes, word_again}
use Rattle.pqformat.proofs.Quoting.{if_true, if_false, found, whole_takes, whole_again}

-- ---- tokens

abbrev pub token_found : Token → List ℕ → Option (Token × List ℕ)
token_found token rest = Some (token, rest)

abbrev both_of : Token → List ℕ → Token × List ℕ
both_of token rest = (token, rest)

pub same_token : (a : Token) (x : List ℕ) (b : Token) (y : List ℕ) → token_found a x ≡ token_found b y → (a ≡ b) × (x ≡ y)
same_token a x b y e =
    let both : both_of a x ≡ both_of b y = cc in
    (ap (λ (p : Token × List ℕ). p.0) both, ap (λ (p : Token × List ℕ). p.1) both)

-- what stands at the front, after the blanks
pub record Front (bytes : List ℕ) (token : Token) (rest : List ℕ) : Type 0 where
  pub parts : bytes ≡ spelling_of_token token ++ rest
  pub whole : IsWhole token rest

same_front : (bytes : List ℕ) (a : Token) (x : List ℕ) (b : Token) (y : List ℕ) → token_found a x ≡ token_found b y → Front bytes a x → Front bytes b y
same_front bytes a x b y e front =
    let both : both_of a x ≡ both_of b y = cc in
    let P : Token × List ℕ → Type 0 = λ p. Front bytes p.0 p.1 in
    subst P both front

-- a quote that was closed
was_closed : (make : List ℕ → Token) (o : Option (List ℕ × List ℕ)) (token : Token) (rest : List ℕ) → Some (closed_token make o) ≡ token_found token rest → token ≢ Unclosed
    → (n : List ℕ) × (o ≡ found n rest) × (make n ≡ token)
was_closed make None token rest e some = absurd (some (sym (same_token Unclosed [] token rest e).0))
was_closed make (Some x) token rest e some =
    let same = same_token (make x.0) x.1 token rest e in
    (x.0, ap (λ (y : List ℕ). found x.0 y) same.1, same.0)

plain_is : (p q r s : Bool) → p ≡ false → q ≡ false → r ≡ false → s ≡ false → not (p || (q || (r || s))) ≡ true
plain_is false false false false a b c d = refl
plain_is true q r s a b c d = absurd cc
plain_is false true r s a b c d = absurd cc
plain_is false false true s a b c d = absurd cc
plain_is false false false true a b c d = absurd cc

by_mark : (b : ℕ) (bytes : List ℕ) (token : Token) (rest : List ℕ) → is_blank b ≡ false → eqb b NAME_QUOTE ≡ false → eqb b VALUE_QUOTE ≡ false
    → (t : Bool) → is_mark b ≡ t → cond t (token_found (Mark b) bytes) (token_found (Word (word_of (b ∷ bytes))) (after_word (b ∷ bytes))) ≡ token_found token rest → Front (b ∷ bytes) token rest
by_mark b bytes token rest no_blank no_name no_value true is e = same_front (b ∷ bytes) (Mark b) bytes token rest e (record { parts = refl; whole = is })
by_mark b bytes token rest no_blank no_name no_value false is e =
    let plain : is_plain b ≡ true = plain_is (is_blank b) (is_mark b) (eqb b NAME_QUOTE) (eqb b VALUE_QUOTE) no_blank is no_name no_value in
    let word = word_takes (b ∷ bytes) in
    let begun : begins is_plain (word_of (b ∷ bytes)) ≡ true = ap (begins is_plain) (if_true (is_plain b) (b ∷ word_of bytes) [] plain) ∙ plain in
    same_front (b ∷ bytes) (Word (word_of (b ∷ bytes))) (after_word (b ∷ bytes)) token rest e (record { parts = word.parts; whole = (begun, word.each, word.end) })

by_value : (b : ℕ) (bytes : List ℕ) (token : Token) (rest : List ℕ) → token ≢ Unclosed → is_blank b ≡ false → eqb b NAME_QUOTE ≡ false → (t : Bool) → eqb b VALUE_QUOTE ≡ t
    → cond t (Some (closed_token (λ v. Value v) (quoted_at false VALUE_QUOTE bytes))) (cond (is_mark b) (token_found (Mark b) bytes) (token_found (Word (word_of (b ∷ bytes))) (after_word (b ∷ bytes)))) ≡ token_found token rest
    → Front (b ∷ bytes) token rest
by_value b bytes token rest some no_blank no_name true is e =
    let x = was_closed (λ v. Value v) (quoted_at false VALUE_QUOTE bytes) token rest e some in
    let front = whole_takes b VALUE_QUOTE bytes x.0 rest is x.1 in
    subst (λ (t : Token). Front (b ∷ bytes) t rest) x.2 (record { parts = front.parts; whole = front.end })
by_value b bytes token rest some no_blank no_name false is e = by_mark b bytes token rest no_blank no_name is (is_mark b) refl e

by_name : (b : ℕ) (bytes : List ℕ) (token : Token) (rest : List ℕ) → token ≢ Unclosed → is_blank b ≡ false → (t : Bool) → eqb b NAME_QUOTE ≡ t
    → cond t (Some (closed_token (λ n. Quoted n) (quoted_at false NAME_QUOTE bytes))) (cond (eqb b VALUE_QUOTE) (Some (closed_token (λ v. Value v) (quoted_at false VALUE_QUOTE bytes))) (cond (is_mark b) (token_found (Mark b) bytes) (token_found (Word (word_of (b ∷ bytes))) (after_word (b ∷ bytes))))) ≡ token_found token rest
    → Front (b ∷ bytes) token rest
by_name b bytes token rest some no_blank true is e =
    let x = was_closed (λ n. Quoted n) (quoted_at false NAME_QUOTE bytes) token rest e some in
    let front = whole_takes b NAME_QUOTE bytes x.0 rest is x.1 in
    subst (λ (t : Token). Front (b ∷ bytes) t rest) x.2 (record { parts = front.parts; whole = front.end })
by_name b bytes token rest some no_blank false is e = by_value b bytes token rest some no_blank is (eqb b VALUE_QUOTE) refl e

pub front_takes : (bytes : List ℕ) (token : Token) (rest : List ℕ) → begins is_blank bytes ≡ false → token_from bytes ≡ token_found token rest → token ≢ Unclosed → Front bytes token rest
front_takes [] token rest end e some = absurd cc
front_takes (b ∷ bytes) token rest end e some = by_name b bytes token rest some end (eqb b NAME_QUOTE) refl e

pub token_takes : (text : List ℕ) (token : Token) (rest : List ℕ) → token_at text ≡ token_found token rest → token ≢ Unclosed → StartsWith text token rest
unfolding token_at
token_takes text token rest e some =
    let blanks = blanks_take text in
    let front = front_takes (after_blanks text) token rest (blanks_end text) e some in
    record { blanks = blanks.0; are_blank = blanks.1; parts = blanks.2 ∙ ap (λ (l : List ℕ). blanks.0 ++ l) front.parts; whole = front.whole }

-- ---- tokens that are spelled are read again

-- what a plain byte isn't
plain_none : (p q r s : Bool) → not (p || (q || (r || s))) ≡ true → (p ≡ false) × (q ≡ false) × (r ≡ false) × (s ≡ false)
plain_none false false false false is = (refl, refl, refl, refl)
plain_none true q r s is = absurd cc
plain_none false true r s is = absurd cc
plain_none false false true s is = absurd cc
plain_none false false false true is = absurd cc

-- marks are no blanks and no quotes
mark_none : (b : ℕ) → is_mark b ≡ true → (is_blank b ≡ false) × (eqb b NAME_QUOTE ≡ false) × (eqb b VALUE_QUOTE ≡ false)
mark_none b is = (grind (arith, nat_tests), grind (arith, nat_tests), grind (arith, nat_tests))

-- what stands after the blanks, and is read there
pub record Reads (bytes : List ℕ) (token : Token) (rest : List ℕ) : Type 0 where
  pub begins_so : begins is_blank bytes ≡ false
  pub read : token_from bytes ≡ token_found token rest

word_reads : (w rest : List ℕ) → IsWhole (Word w) rest → Reads (w ++ rest) (Word w) rest
word_reads [] rest whole = absurd (let no = whole.0 in cc)
word_reads (b ∷ w) rest whole =
    let none = plain_none (is_blank b) (is_mark b) (eqb b NAME_QUOTE) (eqb b VALUE_QUOTE) whole.0 in
    let again = word_again (b ∷ w) rest whole.1 whole.2 in
    record {
      begins_so = none.0;
      read = if_false (eqb b NAME_QUOTE) _ _ none.2 ∙ if_false (eqb b VALUE_QUOTE) _ _ none.3 ∙ if_false (is_mark b) (token_found (Mark b) (w ++ rest)) _ none.1
          ∙ ap (λ (x : List ℕ). token_found (Word x) (after_word (b ∷ (w ++ rest)))) again.0 ∙ ap (token_found (Word (b ∷ w))) again.1;
    }

mark_reads : (b : ℕ) (rest : List ℕ) → is_mark b ≡ true → Reads (b ∷ rest) (Mark b) rest
mark_reads b rest is =
    let none = mark_none b is in
    record {
      begins_so = none.0;
      read = if_false (eqb b NAME_QUOTE) _ _ none.1 ∙ if_false (eqb b VALUE_QUOTE) _ _ none.2 ∙ if_true (is_mark b) (token_found (Mark b) rest) _ is;
    }

quoted_reads : (n rest : List ℕ) → IsWhole (Quoted n) rest → Reads (spelling_of_token (Quoted n) ++ rest) (Quoted n) rest
quoted_reads n rest whole =
    record { begins_so = refl; read = ap (λ (o : Option (List ℕ × List ℕ)). Some (closed_token (λ m. Quoted m) o)) (whole_again NAME_QUOTE n rest whole) }

value_reads : (v rest : List ℕ) → IsWhole (Value v) rest → Reads (spelling_of_token (Value v) ++ rest) (Value v) rest
value_reads v rest whole =
    record { begins_so = refl; read = ap (λ (o : Option (List ℕ × List ℕ)). Some (closed_token (λ m. Value m) o)) (whole_again VALUE_QUOTE v rest whole) }

pub token_reads : (token : Token) (rest : List ℕ) → IsWhole token rest → Reads (spelling_of_token token ++ rest) token rest
token_reads (Word w) rest whole = word_reads w rest whole
token_reads (Quoted n) rest whole = quoted_reads n rest whole
token_reads (Value v) rest whole = value_reads v rest whole
token_reads (Mark b) rest whole = mark_reads b rest whole
token_reads Unclosed rest whole = absurd whole

pub token_again : (text : List ℕ) (token : Token) (rest : List ℕ) → StartsWith text token rest → token_at text ≡ token_found token rest
unfolding token_at
token_again text token rest starts =
    let reads = token_reads token rest starts.whole in
    let front : after_blanks text ≡ spelling_of_token token ++ rest = ap after_blanks starts.parts ∙ blanks_again starts.blanks (spelling_of_token token ++ rest) starts.are_blank reads.begins_so in
    ap token_from front ∙ reads.read

-- ---- whole texts

-- no quote is left open
abbrev pub AllClosed : List Token → Type 0
AllClosed [] = Unit {0}
AllClosed (token ∷ tokens) = (token ≢ Unclosed) × AllClosed tokens

-- only blanks are left exactly where no token is read
nothing_left : (text : List ℕ) → token_at text ≡ None → Each is_blank text
unfolding token_at
nothing_left text e =
    let blanks = blanks_take text in
    let all : text ≡ blanks.0 = blanks.2 ∙ ap (λ (l : List ℕ). blanks.0 ++ l) (empty (after_blanks text) e) ∙ append-nil blanks.0 in
    subst (Each is_blank) (sym all) blanks.1
  where
    never : (p q r : Bool) (w x y z : Token × List ℕ) → cond p (Some w) (cond q (Some x) (cond r (Some y) (Some z))) ≡ None → ⊥
    never true q r w x y z e = absurd cc
    never false true r w x y z e = absurd cc
    never false false true w x y z e = absurd cc
    never false false false w x y z e = absurd cc

    empty : (bytes : List ℕ) → token_from bytes ≡ None → bytes ≡ []
    empty [] e = refl
    empty (b ∷ bytes) e = absurd (never (eqb b NAME_QUOTE) (eqb b VALUE_QUOTE) (is_mark b) _ _ _ _ e)

blanks_only : (text : List ℕ) → Each is_blank text → token_at text ≡ None
unfolding token_at
blanks_only text each =
    let none : after_blanks text ≡ [] = ap after_blanks (sym (append-nil text)) ∙ blanks_again text [] each refl in
    ap token_from none

pub lexes_spells : (text : List ℕ) (tokens : List Token) → AllClosed tokens → Lexes text tokens → Spells text tokens
lexes_spells text [] all lexes = nothing_left text lexes
lexes_spells text (token ∷ tokens) all lexes = (lexes.0, token_takes text token lexes.0 lexes.1 all.0, lexes_spells lexes.0 tokens all.1 lexes.2)

pub spells_lexes : (text : List ℕ) (tokens : List Token) → Spells text tokens → Lexes text tokens
spells_lexes text [] spells = blanks_only text spells
spells_lexes text (token ∷ tokens) spells = (spells.0, token_again text token spells.0 spells.1, spells_lexes spells.0 tokens spells.2)

-- a text has one list of tokens
pub lexes_once : (text : List ℕ) (a b : List Token) → Lexes text a → Lexes text b → a ≡ b
lexes_once text [] [] one other = refl
lexes_once text [] (u ∷ b) one other = absurd (let no = sym one ∙ other.1 in cc)
lexes_once text (t ∷ a) [] one other = absurd (let no = sym other ∙ one.1 in cc)
lexes_once text (t ∷ a) (u ∷ b) one other =
    let same = same_token t one.0 u other.0 (sym one.1 ∙ other.1) in
    let aligned : Lexes one.0 b = subst (λ (rest : List ℕ). Lexes rest b) (sym same.1) other.2 in
    ap (λ (x : Token). x ∷ a) same.0 ∙ ap (λ (l : List Token). u ∷ l) (lexes_once one.0 a b one.2 aligned)

spelled_some : (token : Token) (rest : List ℕ) → IsWhole token rest → 0 < length (spelling_of_token token)
spelled_some (Word []) rest whole = absurd (let no = whole.0 in cc)
spelled_some (Word (b ∷ w)) rest whole = omega arith
spelled_some (Quoted n) rest whole = omega arith
spelled_some (Value v) rest whole = omega arith
spelled_some (Mark b) rest whole = omega arith
spelled_some Unclosed rest whole = absurd whole

starts_smaller : (text : List ℕ) (token : Token) (rest : List ℕ) → StartsWith text token rest → length rest < length text
starts_smaller text token rest starts =
    let some : 0 < length (spelling_of_token token) = spelled_some token rest starts.whole in
    omega (arith, ap (length {A = ℕ}) starts.parts, length-append starts.blanks (spelling_of_token token ++ rest), length-append (spelling_of_token token) rest)

-- an open quote is a byte too, and nothing follows it
open_ends : (make : List ℕ → Token) (o : Option (List ℕ × List ℕ)) (rest : List ℕ) → ((n : List ℕ) → make n ≢ Unclosed) → Some (closed_token make o) ≡ token_found Unclosed rest → rest ≡ []
open_ends make None rest other e = sym (same_token Unclosed [] Unclosed rest e).1
open_ends make (Some x) rest other e = absurd (other x.0 (same_token (make x.0) x.1 Unclosed rest e).0)

unclosed_ends : (b : ℕ) (bytes word after rest : List ℕ) (n v : Option (List ℕ × List ℕ)) (p q r : Bool)
    → cond p (Some (closed_token (λ m. Quoted m) n)) (cond q (Some (closed_token (λ m. Value m) v)) (cond r (token_found (Mark b) bytes) (token_found (Word word) after))) ≡ token_found Unclosed rest → rest ≡ []
unclosed_ends b bytes word after rest n v true q r e = open_ends (λ m. Quoted m) n rest (λ m is. absurd cc) e
unclosed_ends b bytes word after rest n v false true r e = open_ends (λ m. Value m) v rest (λ m is. absurd cc) e
unclosed_ends b bytes word after rest n v false false true e = absurd (let no = (same_token (Mark b) bytes Unclosed rest e).0 in cc)
unclosed_ends b bytes word after rest n v false false false e = absurd (let no = (same_token (Word word) after Unclosed rest e).0 in cc)

pub unclosed_at_end : (text rest : List ℕ) → token_at text ≡ token_found Unclosed rest → rest ≡ []
unfolding token_at
unclosed_at_end text rest e = by_front (after_blanks text) e
  where
    by_front : (bytes : List ℕ) → token_from bytes ≡ token_found Unclosed rest → rest ≡ []
    by_front [] e = absurd cc
    by_front (b ∷ bytes) e =
        unclosed_ends b bytes (word_of (b ∷ bytes)) (after_word (b ∷ bytes)) rest (quoted_at false NAME_QUOTE bytes) (quoted_at false VALUE_QUOTE bytes) (eqb b NAME_QUOTE) (eqb b VALUE_QUOTE) (is_mark b) e

unclosed_smaller : (text rest : List ℕ) → token_at text ≡ token_found Unclosed rest → length rest < length text
unfolding token_at
unclosed_smaller text rest e = by_front (after_blanks text) (blanks_take text) e
  where
    by_front : (bytes : List ℕ) → BlanksTaken text bytes → token_from bytes ≡ token_found Unclosed rest → length rest < length text
    by_front [] taken e = absurd cc
    by_front (b ∷ bytes) taken e =
        let none = unclosed_ends b bytes (word_of (b ∷ bytes)) (after_word (b ∷ bytes)) rest (quoted_at false NAME_QUOTE bytes) (quoted_at false VALUE_QUOTE bytes) (eqb b NAME_QUOTE) (eqb b VALUE_QUOTE) (is_mark b) e in
        omega (arith, ap (length {A = ℕ}) none, ap (length {A = ℕ}) taken.2, length-append taken.0 (b ∷ bytes))

-- a token takes bytes
pub token_smaller : (text : List ℕ) (token : Token) (rest : List ℕ) → token_at text ≡ token_found token rest → length rest < length text
token_smaller text Unclosed rest e = unclosed_smaller text rest e
token_smaller text (Word w) rest e = starts_smaller text (Word w) rest (token_takes text (Word w) rest e (λ is. absurd cc))
token_smaller text (Quoted n) rest e = starts_smaller text (Quoted n) rest (token_takes text (Quoted n) rest e (λ is. absurd cc))
token_smaller text (Value v) rest e = starts_smaller text (Value v) rest (token_takes text (Value v) rest e (λ is. absurd cc))
token_smaller text (Mark b) rest e = starts_smaller text (Mark b) rest (token_takes text (Mark b) rest e (λ is. absurd cc))

-- each text has one
lexed_within : (n : ℕ) (text : List ℕ) → length text < n → (tokens : List Token) × Lexes text tokens
lexed_within zero text lt = absurd (omega arith)
lexed_within (suc n) text lt = by_token (token_at text) refl (λ rest less. lexed_within n rest less)
  where
    by_token : (o : Option (Token × List ℕ)) → token_at text ≡ o → ((rest : List ℕ) → length rest < n → (tokens : List Token) × Lexes rest tokens) → (tokens : List Token) × Lexes text tokens
    by_token None e inner = ([], e)
    by_token (Some t) e inner =
        let less = token_smaller text t.0 t.1 e in
        let others = inner t.1 (omega arith) in
        (t.0 ∷ others.0, (t.1, e, others.1))

pub lexed : (text : List ℕ) → (tokens : List Token) × Lexes text tokens
lexed text = lexed_within (suc (length text)) text (omega arith)
