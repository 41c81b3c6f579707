-- A string literal is read as it is spelled, and leaves a text.
use Rattle.std.proofs.Common.{◌≡◌, ℕ, Bool, true, false, cond, eqb, List, [], ◌∷◌, ◌++◌, Option, Some, None, refl, sym, ap, subst, ◌∙◌, inl, inr, append-nil, arith}
use Rattle.std.specs.Prelude.{codes, option_map}
use Rattle.std.specs.Str.{IsUtf8}
use Rattle.std.proofs.lemmas.Bool.{eqb-true}
use Rattle.std.proofs.lemmas.List.{append_cancel_right}
use Rattle.pqformat.specs.Quoting.{with_doubled_quotes, begins, in_quotes, quoted_at}
use Rattle.pqformat.proofs.Quoting.{found, quoted_takes, whole_again}
use Rattle.replcmd.proofs.Texts.{behind_ascii}
use Rattle.server.specs.Questions.{SpellsLiteral}
use Rattle.server.specs.Reading.{alone, literal_front, quoted_front, undoubled, undoubled_front}
use Rattle.server.specs.declared.asked.quoted.TheConstants.{BACKSLASH, LITERAL_QUOTE}
use Rattle.server.proofs.Quotes.{quoted_leaves_text, quoted_reads, quoted_spells}

-- ---- backslashes

undoubled_reads : (text : List ℕ) → undoubled (with_doubled_quotes BACKSLASH text) ≡ Some text
undoubled_reads text =
    let read : quoted_at false BACKSLASH (with_doubled_quotes BACKSLASH text ++ BACKSLASH ∷ []) ≡ found text [] =
    ap (quoted_at false BACKSLASH) (sym (append-nil (with_doubled_quotes BACKSLASH text ++ BACKSLASH ∷ []))) ∙ whole_again BACKSLASH text [] refl in
    ap alone read

alone_is : (o : Option (List ℕ × List ℕ)) (text : List ℕ) → alone o ≡ Some text → o ≡ found text []
alone_is None text e = absurd cc
alone_is (Some (t, [])) text e = let same : t ≡ text = cc in ap (λ (l : List ℕ). found l []) same
alone_is (Some (t, b ∷ bytes)) text e = absurd cc

undoubled_spells : (escaped text : List ℕ) → undoubled escaped ≡ Some text → escaped ≡ with_doubled_quotes BACKSLASH text
undoubled_spells escaped text e =
    let read = alone_is (quoted_at false BACKSLASH (escaped ++ BACKSLASH ∷ [])) text e in
    append_cancel_right escaped (with_doubled_quotes BACKSLASH text) (BACKSLASH ∷ []) (quoted_takes false BACKSLASH (escaped ++ BACKSLASH ∷ []) text [] read).parts

abbrev text_of : Option (List ℕ × List ℕ) → List ℕ
text_of None = []
text_of (Some x) = x.0

abbrev rest_of : Option (List ℕ × List ℕ) → List ℕ
rest_of None = []
rest_of (Some x) = x.1

with_rest : (o : Option (List ℕ)) (rest text end : List ℕ) → option_map (λ t. (t, rest)) o ≡ found text end → (o ≡ Some text) × (rest ≡ end)
with_rest None rest text end e = absurd cc
with_rest (Some t) rest text end e = (ap (λ (l : List ℕ). Some l) (ap text_of e), ap rest_of e)

front_is : (o : Option (List ℕ × List ℕ)) (text rest : List ℕ) → undoubled_front o ≡ found text rest → (escaped : List ℕ) × (o ≡ found escaped rest) × (undoubled escaped ≡ Some text)
front_is None text rest e = absurd cc
front_is (Some x) text rest e =
    let both = with_rest (undoubled x.0) x.1 text rest e in
    (x.0, ap (λ (l : List ℕ). found x.0 l) both.1, both.0)

-- ---- literals

pub literal_reads : (literal text rest : List ℕ) → SpellsLiteral literal text → begins (λ b. eqb b LITERAL_QUOTE) rest ≡ false → literal_front (literal ++ rest) ≡ found text rest
literal_reads literal text rest (inl is) end = subst (λ (l : List ℕ). literal_front (l ++ rest) ≡ found text rest) (sym is) (quoted_reads LITERAL_QUOTE text rest end)
literal_reads literal text rest (inr is) end =
    let escaped = with_doubled_quotes BACKSLASH text in
    let first : undoubled_front (quoted_front LITERAL_QUOTE (in_quotes LITERAL_QUOTE escaped ++ rest)) ≡ undoubled_front (found escaped rest) = ap undoubled_front (quoted_reads LITERAL_QUOTE escaped rest end) in
    let then : undoubled_front (found escaped rest) ≡ found text rest = ap (λ (o : Option (List ℕ)). option_map (λ t. (t, rest)) o) (undoubled_reads text) in
    subst (λ (l : List ℕ). literal_front (l ++ rest) ≡ found text rest) (sym is) (first ∙ then)

pub literal_spells : (place text rest : List ℕ) → literal_front place ≡ found text rest → (literal : List ℕ) × SpellsLiteral literal text × (place ≡ literal ++ rest)
literal_spells [] text rest e = absurd cc
literal_spells (b ∷ bytes) text rest e = by_test (eqb b 69) (λ is. eqb-true b 69 is) e
  where
    by_test : (t : Bool) → (t ≡ true → b ≡ 69) → cond t (undoubled_front (quoted_front LITERAL_QUOTE bytes)) (quoted_front LITERAL_QUOTE (b ∷ bytes)) ≡ found text rest
        → (literal : List ℕ) × SpellsLiteral literal text × (b ∷ bytes ≡ literal ++ rest)
    by_test false same e = (in_quotes LITERAL_QUOTE text, inl refl, quoted_spells LITERAL_QUOTE (b ∷ bytes) text rest e)
    by_test true same e =
        let x = front_is (quoted_front LITERAL_QUOTE bytes) text rest e in
        let spelled : bytes ≡ in_quotes LITERAL_QUOTE (with_doubled_quotes BACKSLASH text) ++ rest =
        quoted_spells LITERAL_QUOTE bytes x.0 rest x.1 ∙ ap (λ (l : List ℕ). in_quotes LITERAL_QUOTE l ++ rest) (undoubled_spells x.0 text x.2) in
        (codes "E" ++ in_quotes LITERAL_QUOTE (with_doubled_quotes BACKSLASH text), inr refl, ap (λ (n : ℕ). n ∷ bytes) (same refl) ∙ ap (λ (l : List ℕ). 69 ∷ l) spelled)

pub literal_leaves_text : (place text rest : List ℕ) → IsUtf8 place → literal_front place ≡ found text rest → IsUtf8 rest
literal_leaves_text [] text rest valid e = absurd cc
literal_leaves_text (b ∷ bytes) text rest valid e = by_test (eqb b 69) (λ is. eqb-true b 69 is) e
  where
    by_test : (t : Bool) → (t ≡ true → b ≡ 69) → cond t (undoubled_front (quoted_front LITERAL_QUOTE bytes)) (quoted_front LITERAL_QUOTE (b ∷ bytes)) ≡ found text rest → IsUtf8 rest
    by_test false same e = quoted_leaves_text LITERAL_QUOTE (b ∷ bytes) text rest (omega arith) valid e
    by_test true same e =
        let x = front_is (quoted_front LITERAL_QUOTE bytes) text rest e in
        quoted_leaves_text LITERAL_QUOTE bytes x.0 rest (omega arith) (behind_ascii 69 bytes (omega arith) (subst (λ (n : ℕ). IsUtf8 (n ∷ bytes)) (same refl) valid)) x.1
