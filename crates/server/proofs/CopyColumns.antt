-- The names of columns at the front of a text are read name by name.
use Rattle.std.proofs.Common.{◌≡◌, ℕ, ◌<◌, ◌≤◌, eqb, false, List, [], ◌∷◌, ◌++◌, length, None, refl, sym, ap, subst, ◌∙◌, append_assoc, arith}
use Rattle.std.specs.Prelude.{◌≢◌, codes}
use Rattle.std.specs.Str.{IsUtf8}
use Rattle.std.proofs.lemmas.List.{append_cancel_left, length-append}
use Rattle.pqformat.specs.Quoting.{begins}
use Rattle.pqformat.proofs.Quoting.{found}
use Rattle.server.specs.Copies.{SpellsName, name_front}
use Rattle.server.specs.CopyReading.{ColumnsAt, EndsColumns, EndsName, Read, SomeColumnsAt}
use Rattle.server.specs.declared.asked.copy_command.TheConstants.{MOST_COLUMNS}
use Rattle.server.proofs.CopyNames.{Named, name_once, name_read, no_name}

-- what follows the first name of a list, and where the list ends
abbrev Others : List (List ℕ) → List ℕ → List ℕ → Type 0
Others [] end other = end ≡ other
Others (m ∷ ms) end other = (rest : List ℕ) × (end ≡ codes ", " ++ rest) × ColumnsAt rest (m ∷ ms) other

record First (place n : List ℕ) (ns : List (List ℕ)) (other : List ℕ) : Type 0 where
  named : List ℕ
  end : List ℕ
  spells : SpellsName named n
  ends : EndsName end
  is : place ≡ named ++ end
  others : Others ns end other

first_of_list : (place n : List ℕ) (ns : List (List ℕ)) (other : List ℕ) → ColumnsAt place (n ∷ ns) other → EndsColumns other → First place n ns other
first_of_list place n [] other (named, spells, is) ends = record { named = named; end = other; spells = spells; ends = ends.name; is = is; others = refl }
first_of_list place n (m ∷ ms) other (named, (first, rest, spells, joined, more), is) ends = record {
  named = first;
  end = codes ", " ++ (rest ++ other);
  spells = spells;
  ends = record { quote = refl; byte = refl };
  is = is ∙ ap (λ (l : List ℕ). l ++ other) joined ∙ append_assoc first (codes ", " ++ rest) other;
  others = (rest ++ other, refl, (rest, more, refl));
}

-- what was read of the list, and what is left: lists of the one are lists of the other
pub record Going (text : List ℕ) (columns : List (List ℕ)) (place : List ℕ) : Type 0 where
  pub on : (more : List (List ℕ)) (other : List ℕ) → ColumnsAt place more other → ColumnsAt text (columns ++ more) other
  pub only : (all : List (List ℕ)) (other : List ℕ) → ColumnsAt text all other → EndsColumns other → (more : List (List ℕ)) × ColumnsAt place more other × (all ≡ columns ++ more)

pub begun : (text : List ℕ) → Going text [] text
begun text = record { on = λ more other stands. stands; only = λ all other stands ends. (all, stands, refl) }

pub goes_on : (text : List ℕ) (columns : List (List ℕ)) (place name rest more : List ℕ) → Going text columns place → name_front place ≡ found name rest → rest ≡ codes ", " ++ more → Going text (columns ++ name ∷ []) more
goes_on text columns place name rest more going read comma = record { on = on; only = only }
  where
    x : Named place name rest
    x = name_read place name rest read

    longer : (others : List (List ℕ)) (other : List ℕ) → ColumnsAt more others other → ColumnsAt place (name ∷ others) other
    longer [] other (named, spells, is) = absurd spells
    longer (n ∷ ns) other (named, spells, is) = (
      x.named ++ (codes ", " ++ named),
      (x.named, named, x.spells, refl, spells),
      x.is ∙ ap (λ (l : List ℕ). x.named ++ l) (comma ∙ ap (λ (l : List ℕ). codes ", " ++ l) is) ∙ sym (append_assoc x.named (codes ", " ++ named) other),
    )

    on : (others : List (List ℕ)) (other : List ℕ) → ColumnsAt more others other → ColumnsAt text ((columns ++ name ∷ []) ++ others) other
    on others other stands = subst (λ (l : List (List ℕ)). ColumnsAt text l other) (sym (append_assoc columns (name ∷ []) others)) (going.on (name ∷ others) other (longer others other stands))

    ended : (other : List ℕ) → EndsColumns other → rest ≡ other → ⊥
    ended other ends same = let e : begins (λ b. eqb b 44) (codes ", " ++ more) ≡ false = ap (begins (λ b. eqb b 44)) (sym comma ∙ same) ∙ ends.comma in cc

    after_first : (ns : List (List ℕ)) (end other : List ℕ) → EndsColumns other → rest ≡ end → Others ns end other → ColumnsAt more ns other
    after_first [] end other ends same is = absurd (ended other ends (same ∙ is))
    after_first (m ∷ ms) end other ends same (r, is, stands) = subst (λ (l : List ℕ). ColumnsAt l (m ∷ ms) other) (append_cancel_left (codes ", ") r more (sym is ∙ sym same ∙ comma)) stands

    by_first : (all others : List (List ℕ)) (other : List ℕ) → EndsColumns other → ColumnsAt place others other → all ≡ columns ++ others
        → (rests : List (List ℕ)) × ColumnsAt more rests other × (all ≡ (columns ++ name ∷ []) ++ rests)
    by_first all [] other ends (named, spells, is) same = absurd spells
    by_first all (n ∷ ns) other ends stands same =
        let f = first_of_list place n ns other stands ends in
        let one = name_once place name rest f.named n f.end read f.spells f.ends f.is in
        (ns, after_first ns f.end other ends one.1 f.others, same ∙ ap (λ (l : List ℕ). columns ++ l ∷ ns) (sym one.0) ∙ sym (append_assoc columns (name ∷ []) ns))

    only : (all : List (List ℕ)) (other : List ℕ) → ColumnsAt text all other → EndsColumns other → (rests : List (List ℕ)) × ColumnsAt more rests other × (all ≡ (columns ++ name ∷ []) ++ rests)
    only all other stands ends = let y = going.only all other stands ends in by_first all y.0 other ends y.1 y.2

-- where no name stands there is no list
pub no_column : (text : List ℕ) (columns : List (List ℕ)) (place : List ℕ) → Going text columns place → name_front place ≡ None → (all : List (List ℕ)) (other : List ℕ) → SomeColumnsAt text all other → EndsColumns other → ⊥
no_column text columns place going read all other (few, stands) ends = let y = going.only all other stands ends in by_first y.0 y.1
  where
    by_first : (others : List (List ℕ)) → ColumnsAt place others other → ⊥
    by_first [] (named, spells, is) = spells
    by_first (n ∷ ns) stands = let f = first_of_list place n ns other stands ends in no_name place f.named n f.end read f.spells f.ends f.is

-- nor one that goes on behind so many
pub too_many : (text : List ℕ) (columns : List (List ℕ)) (place : List ℕ) → Going text columns place → MOST_COLUMNS ≤ length columns → (all : List (List ℕ)) (other : List ℕ) → SomeColumnsAt text all other → EndsColumns other → ⊥
too_many text columns place going many all other (few, stands) ends = let y = going.only all other stands ends in by_first y.0 y.1 y.2
  where
    by_first : (others : List (List ℕ)) → ColumnsAt place others other → all ≡ columns ++ others → ⊥
    by_first [] (named, spells, is) same = spells
    by_first (n ∷ ns) stands same = omega (arith, few, many, ap length same, length-append columns (n ∷ ns))

-- the last name
pub done : (text : List ℕ) (columns : List (List ℕ)) (place name rest : List ℕ) → Going text columns place → length columns < MOST_COLUMNS → IsUtf8 place → name_front place ≡ found name rest
    → ((more : List ℕ) → rest ≢ codes ", " ++ more) → Read (SomeColumnsAt text) EndsColumns (columns ++ name ∷ []) rest
done text columns place name rest going few valid read dry = record { stands = (small, going.on (name ∷ []) rest (x.named, x.spells, x.is)); text = x.text valid; once = once }
  where
    x : Named place name rest
    x = name_read place name rest read

    small : length (columns ++ name ∷ []) ≤ MOST_COLUMNS
    small = omega (arith, few, length-append columns (name ∷ []))

    after_first : (n : List ℕ) (ns : List (List ℕ)) (end other : List ℕ) → name ≡ n → rest ≡ end → Others ns end other → (name ∷ [] ≡ n ∷ ns) × (rest ≡ other)
    after_first n [] end other same left is = (ap (λ (l : List ℕ). l ∷ []) same, left ∙ is)
    after_first n (m ∷ ms) end other same left (r, is, stands) = absurd (dry r (left ∙ is))

    by_first : (others : List (List ℕ)) (other : List ℕ) → ColumnsAt place others other → EndsColumns other → (name ∷ [] ≡ others) × (rest ≡ other)
    by_first [] other (named, spells, is) ends = absurd spells
    by_first (n ∷ ns) other stands ends =
        let f = first_of_list place n ns other stands ends in
        let one = name_once place name rest f.named n f.end read f.spells f.ends f.is in
        after_first n ns f.end other one.0 one.1 f.others

    once : (all : List (List ℕ)) (other : List ℕ) → SomeColumnsAt text all other → EndsColumns other → (columns ++ name ∷ [] ≡ all) × (rest ≡ other)
    once all other (some, stands) ends =
        let y = going.only all other stands ends in
        let one = by_first y.0 other y.1 ends in
        (ap (λ (l : List (List ℕ)). columns ++ l) one.0 ∙ sym y.2, one.1)
