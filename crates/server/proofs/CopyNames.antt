-- The name at the front of a text is read as it is spelled, and leaves a text.
use Rattle.std.proofs.Common.{◌≡◌, ℕ, ◌<◌, Bool, true, false, cond, eqb, List, [], ◌∷◌, ◌++◌, Some, None, refl, sym, ap, subst, ◌∙◌, inl, inr, arith}
use Rattle.std.specs.Prelude.{◌&&◌}
use Rattle.std.specs.List.{list_all}
use Rattle.std.specs.Str.{IsUtf8}
use Rattle.std.proofs.lemmas.Bool.Decides.{nat_tests}
use Rattle.pqformat.specs.Quoting.{begins, in_quotes}
use Rattle.pqformat.proofs.Quoting.{found, if_true, if_false}
use Rattle.replcmd.proofs.Texts.{behind_ascii, with_ascii}
use Rattle.server.specs.Copies.{SpellsName, begins_name, goes_on_in_name, is_bare_name, name_front, name_run}
use Rattle.server.specs.CopyReading.{EndsName}
use Rattle.server.specs.Reading.{quoted_front}
use Rattle.server.specs.declared.asked.quoted.TheConstants.{NAME_QUOTE}
use Rattle.server.proofs.Lists.{same_first}
use Rattle.server.proofs.Quotes.{quoted_leaves_text, quoted_reads, quoted_spells}

both : (p q : Bool) → (p && q) ≡ true → (p ≡ true) × (q ≡ true)
both true q e = (refl, e)
both false q e = absurd cc

joined : (p q : Bool) → p ≡ true → q ≡ true → (p && q) ≡ true
joined true q x y = y
joined false q x y = absurd cc

-- ---- bare names

abbrev pub two : List ℕ → List ℕ → List ℕ × List ℕ
two name rest = (name, rest)

no_quote : (b : ℕ) → begins_name b ≡ true → eqb b NAME_QUOTE ≡ false
no_quote b is = grind (arith, nat_tests)

goes_on : (b : ℕ) → begins_name b ≡ true → goes_on_in_name b ≡ true
goes_on b is = grind (arith, nat_tests)

low : (b : ℕ) → goes_on_in_name b ≡ true → b < 128
low b is = grind (arith, nat_tests)

pub run_reads : (name rest : List ℕ) → list_all goes_on_in_name name ≡ true → begins goes_on_in_name rest ≡ false → name_run (name ++ rest) ≡ two name rest
run_reads [] [] all end = refl
run_reads [] (b ∷ rest) all end = if_false (goes_on_in_name b) (two (b ∷ (name_run rest).0) (name_run rest).1) (two [] (b ∷ rest)) end
run_reads (b ∷ name) rest all end =
    let x = both (goes_on_in_name b) (list_all goes_on_in_name name) all in
    if_true (goes_on_in_name b) (two (b ∷ (name_run (name ++ rest)).0) (name_run (name ++ rest)).1) (two [] (b ∷ (name ++ rest))) x.0
    ∙ ap (λ (p : List ℕ × List ℕ). two (b ∷ p.0) p.1) (run_reads name rest x.1 end)

pub run_text : (name : List ℕ) → list_all goes_on_in_name name ≡ true → IsUtf8 name
run_text [] all = ([], (refl, refl))
run_text (b ∷ name) all = let x = both (goes_on_in_name b) (list_all goes_on_in_name name) all in with_ascii b name (low b x.0) (run_text name x.1)

pub record Run (bytes name rest : List ℕ) : Type 0 where
  pub parts : bytes ≡ name ++ rest
  pub all : list_all goes_on_in_name name ≡ true
  pub rest_text : IsUtf8 bytes → IsUtf8 rest

pub run_takes : (bytes : List ℕ) → Run bytes (name_run bytes).0 (name_run bytes).1
run_takes [] = record { parts = refl; all = refl; rest_text = λ valid. valid }
run_takes (b ∷ bytes) = by_test (goes_on_in_name b) refl (run_takes bytes)
  where
    by_test : (t : Bool) → goes_on_in_name b ≡ t → Run bytes (name_run bytes).0 (name_run bytes).1
        → Run (b ∷ bytes) (cond t (two (b ∷ (name_run bytes).0) (name_run bytes).1) (two [] (b ∷ bytes))).0 (cond t (two (b ∷ (name_run bytes).0) (name_run bytes).1) (two [] (b ∷ bytes))).1
    by_test true is inner = record {
      parts = ap (λ (l : List ℕ). b ∷ l) inner.parts;
      all = joined (goes_on_in_name b) (list_all goes_on_in_name (name_run bytes).0) is inner.all;
      rest_text = λ valid. inner.rest_text (behind_ascii b bytes (low b is) valid);
    }
    by_test false is inner = record { parts = refl; all = refl; rest_text = λ valid. valid }

-- ---- names

pub name_reads : (named name rest : List ℕ) → SpellsName named name → EndsName rest → name_front (named ++ rest) ≡ found name rest
name_reads named name rest (inl is) ends = subst (λ (l : List ℕ). name_front (l ++ rest) ≡ found name rest) (sym is) (quoted_reads NAME_QUOTE name rest ends.quote)
name_reads named [] rest (inr (is, bare)) ends = absurd cc
name_reads named (b ∷ bytes) rest (inr (is, bare)) ends =
    let x = both (begins_name b) (list_all goes_on_in_name bytes) bare in
    let all : list_all goes_on_in_name (b ∷ bytes) ≡ true = joined (goes_on_in_name b) (list_all goes_on_in_name bytes) (goes_on b x.0) x.1 in
    let read : name_front (b ∷ (bytes ++ rest)) ≡ found (b ∷ bytes) rest =
    if_false (eqb b NAME_QUOTE) (quoted_front NAME_QUOTE (b ∷ (bytes ++ rest))) (cond (begins_name b) (Some (name_run (b ∷ (bytes ++ rest)))) None) (no_quote b x.0)
    ∙ if_true (begins_name b) (Some (name_run (b ∷ (bytes ++ rest)))) None x.0
    ∙ ap (λ (p : List ℕ × List ℕ). Some p) (run_reads (b ∷ bytes) rest all ends.byte) in
    subst (λ (l : List ℕ). name_front (l ++ rest) ≡ found (b ∷ bytes) rest) (sym is) read

-- what a name that is read is, and what it leaves
pub record Named (place name rest : List ℕ) : Type 0 where
  pub named : List ℕ
  pub spells : SpellsName named name
  pub is : place ≡ named ++ rest
  pub text : IsUtf8 place → IsUtf8 rest

pub name_read : (place name rest : List ℕ) → name_front place ≡ found name rest → Named place name rest
name_read [] name rest e = absurd cc
name_read (b ∷ bytes) name rest e = by_quote (eqb b NAME_QUOTE) refl e
  where
    bare : begins_name b ≡ true → Some (name_run (b ∷ bytes)) ≡ found name rest → Named (b ∷ bytes) name rest
    bare is e =
        let taken = run_takes (b ∷ bytes) in
        let same = same_first (name_run (b ∷ bytes)).0 (name_run (b ∷ bytes)).1 name rest e in
        let run : name_run (b ∷ bytes) ≡ two (b ∷ (name_run bytes).0) (name_run bytes).1 = if_true (goes_on_in_name b) (two (b ∷ (name_run bytes).0) (name_run bytes).1) (two [] (b ∷ bytes)) (goes_on b is) in
        let first : name ≡ b ∷ (name_run bytes).0 = sym same.0 ∙ ap (λ (p : List ℕ × List ℕ). p.0) run in
        let spelled : is_bare_name (b ∷ (name_run bytes).0) ≡ true = joined (begins_name b) (list_all goes_on_in_name (name_run bytes).0) is (run_takes bytes).all in
        record {
          named = name;
          spells = inr (refl, ap is_bare_name first ∙ spelled);
          is = taken.parts ∙ ap (λ (l : List ℕ). l ++ (name_run (b ∷ bytes)).1) same.0 ∙ ap (λ (l : List ℕ). name ++ l) same.1;
          text = λ valid. subst IsUtf8 same.1 (taken.rest_text valid);
        }

    by_name : (t : Bool) → begins_name b ≡ t → cond t (Some (name_run (b ∷ bytes))) None ≡ found name rest → Named (b ∷ bytes) name rest
    by_name true is e = bare is e
    by_name false is e = absurd cc

    by_quote : (t : Bool) → eqb b NAME_QUOTE ≡ t → cond t (quoted_front NAME_QUOTE (b ∷ bytes)) (cond (begins_name b) (Some (name_run (b ∷ bytes))) None) ≡ found name rest → Named (b ∷ bytes) name rest
    by_quote true is e = record {
      named = in_quotes NAME_QUOTE name;
      spells = inl refl;
      is = quoted_spells NAME_QUOTE (b ∷ bytes) name rest e;
      text = λ valid. quoted_leaves_text NAME_QUOTE (b ∷ bytes) name rest (omega arith) valid e;
    }
    by_quote false is e = by_name (begins_name b) refl e

pub name_once : (place name rest named other end : List ℕ) → name_front place ≡ found name rest → SpellsName named other → EndsName end → place ≡ named ++ end → (name ≡ other) × (rest ≡ end)
name_once place name rest named other end read spells ends is = same_first name rest other end (sym read ∙ ap name_front is ∙ name_reads named other end spells ends)

pub no_name : (place named name end : List ℕ) → name_front place ≡ None → SpellsName named name → EndsName end → place ≡ named ++ end → ⊥
no_name place named name end read spells ends is = let e = sym read ∙ ap name_front is ∙ name_reads named name end spells ends in cc
