-- A list of names is read name by name.
use Rattle.std.proofs.Common.{◌≡◌, ℕ, ◌<◌, Bool, true, false, eqb, List, [], ◌∷◌, ◌++◌, length, Option, Some, None, refl, sym, ap, subst, ◌∙◌, append_assoc, arith}
use Rattle.std.specs.Prelude.{◌≢◌, ◌&&◌, nat_lt, codes, Result, Ok, Err, IfOk, MatchOption}
use Rattle.std.specs.declared.alloc.AllocError.{AllocError}
use Rattle.std.proofs.lemmas.Bool.{ltb-true}
use Rattle.std.specs.List.{list_all}
use Rattle.std.specs.Str.{IsUtf8}
use Rattle.std.proofs.lemmas.List.{append_cancel_left, length-append}
use Rattle.pqformat.specs.Quoting.{begins}
use Rattle.pqformat.proofs.Quoting.{found}
use Rattle.replcmd.proofs.Texts.{behind_ascii}
use Rattle.server.specs.Questions.{SpellsFurther, SpellsListed, SpellsNames}
use Rattle.server.specs.Reading.{ClosesList, literal_front}
use Rattle.server.specs.declared.asked.quoted.TheConstants.{LITERAL_QUOTE}
use Rattle.server.proofs.Literals.{literal_reads, literal_spells}

-- what was read of the list, and what is left: lists of the one are lists of the other
pub record Going (end : List ℕ) (text : List ℕ) (names : List (List ℕ)) (place : List ℕ) : Type 0 where
  pub on : (more : List (List ℕ)) → SpellsNames end place more → SpellsNames end text (names ++ more)
  pub only : (all : List (List ℕ)) → SpellsNames end text all → (more : List (List ℕ)) × SpellsNames end place more × (all ≡ names ++ more)

pub begun : (end text : List ℕ) → Going end text [] text
begun end text = record { on = λ more spells. spells; only = λ all spells. (all, spells, refl) }

pub ends : (end rest : List ℕ) (names : List (List ℕ)) → ClosesList end → SpellsFurther end rest names → begins (λ b. eqb b LITERAL_QUOTE) rest ≡ false
ends end rest [] closes is = ap (begins (λ b. eqb b LITERAL_QUOTE)) is ∙ closes.0
ends end rest (n ∷ names) closes is = ap (begins (λ b. eqb b LITERAL_QUOTE)) is.3

-- a list is read as its first name and what follows that
pub first_read : (end place name : List ℕ) (names : List (List ℕ)) → ClosesList end → SpellsNames end place (name ∷ names) → (rest : List ℕ) × (literal_front place ≡ found name rest) × SpellsFurther end rest names
first_read end place name names closes (literal, rest, spells, is, others) =
    (rest, ap literal_front is ∙ literal_reads literal name rest spells (ends end rest names closes others), others)

pub same_first : (a b c d : List ℕ) → found a b ≡ found c d → (a ≡ c) × (b ≡ d)
same_first a b c d e = (inj a b c d e, injs a b c d e)
  where
    left : Option (List ℕ × List ℕ) → List ℕ
    left None = []
    left (Some x) = x.0

    right : Option (List ℕ × List ℕ) → List ℕ
    right None = []
    right (Some x) = x.1

    inj : (a b c d : List ℕ) → found a b ≡ found c d → a ≡ c
    inj a b c d e = ap left e

    injs : (a b c d : List ℕ) → found a b ≡ found c d → b ≡ d
    injs a b c d e = ap right e

pub done : (end text : List ℕ) (names : List (List ℕ)) (place name rest : List ℕ) → Going end text names place → literal_front place ≡ found name rest → rest ≡ end → SpellsNames end text (names ++ name ∷ [])
done end text names place name rest going read is =
    let x = literal_spells place name rest read in
    going.on (name ∷ []) (x.0, rest, x.1, x.2, is)

-- a comma is no end
comma_apart : (end more : List ℕ) → ClosesList end → codes ", " ++ more ≡ end → ⊥
comma_apart end more closes is = let begun : begins (λ b. eqb b 44) (codes ", " ++ more) ≡ false = ap (begins (λ b. eqb b 44)) is ∙ closes.1 in absurd cc

pub goes_on : (end text : List ℕ) (names : List (List ℕ)) (place name rest more : List ℕ) → ClosesList end → Going end text names place → literal_front place ≡ found name rest → rest ≡ codes ", " ++ more → Going end text (names ++ name ∷ []) more
goes_on end text names place name rest more closes going read comma = record { on = on; only = only }
  where
    longer : (others : List (List ℕ)) → SpellsNames end more others → SpellsNames end place (name ∷ others)
    longer [] spells = absurd spells
    longer (n ∷ ns) (literal, then, spells, is, further) =
        let x = literal_spells place name rest read in
        (x.0, rest, x.1, x.2, (literal, then, spells, comma ∙ ap (λ (l : List ℕ). codes ", " ++ l) is, further))

    on : (others : List (List ℕ)) → SpellsNames end more others → SpellsNames end text ((names ++ name ∷ []) ++ others)
    on others spells = subst (λ (l : List (List ℕ)). SpellsNames end text l) (sym (append_assoc names (name ∷ []) others)) (going.on (name ∷ others) (longer others spells))

    after_comma : (a b : List ℕ) → codes ", " ++ a ≡ codes ", " ++ b → a ≡ b
    after_comma a b e = append_cancel_left (codes ", ") a b e

    after_first : (ns : List (List ℕ)) (other : List ℕ) → rest ≡ other → SpellsFurther end other ns → SpellsNames end more ns
    after_first [] other same is = absurd (comma_apart end more closes (sym comma ∙ same ∙ is))
    after_first (m ∷ ms) other same (literal, then, spells, is, further) = (literal, then, spells, after_comma more (literal ++ then) (sym comma ∙ same ∙ is), further)

    shorter : (n : List ℕ) (ns : List (List ℕ)) → SpellsNames end place (n ∷ ns) → (name ≡ n) × SpellsNames end more ns
    shorter n ns spells =
        let x = first_read end place n ns closes spells in
        let same = same_first name rest n x.0 (sym read ∙ x.1) in
        (same.0, after_first ns x.0 same.1 x.2)

    by_first : (all : List (List ℕ)) (others : List (List ℕ)) → SpellsNames end place others → all ≡ names ++ others → (rests : List (List ℕ)) × SpellsNames end more rests × (all ≡ (names ++ name ∷ []) ++ rests)
    by_first all [] spells is = absurd spells
    by_first all (n ∷ ns) spells is =
        let x = shorter n ns spells in
        (ns, x.1, is ∙ ap (λ (l : List ℕ). names ++ l ∷ ns) (sym x.0) ∙ sym (append_assoc names (name ∷ []) ns))

    only : (all : List (List ℕ)) → SpellsNames end text all → (rests : List (List ℕ)) × SpellsNames end more rests × (all ≡ (names ++ name ∷ []) ++ rests)
    only all spells = let x = going.only all spells in by_first all x.0 x.1 x.2

-- where no name stands at the front, there is no list
pub no_name : (end text : List ℕ) (names : List (List ℕ)) (place : List ℕ) → ClosesList end → Going end text names place → literal_front place ≡ None → (all : List (List ℕ)) → SpellsNames end text all → ⊥
no_name end text names place closes going read all spells = let x = going.only all spells in by_first x.0 x.1
  where
    by_first : (others : List (List ℕ)) → SpellsNames end place others → ⊥
    by_first [] spells = spells
    by_first (n ∷ ns) spells = let x = first_read end place n ns closes spells in let e = sym read ∙ x.1 in absurd cc

-- nor where neither the end nor a comma follows a name
pub no_comma : (end text : List ℕ) (names : List (List ℕ)) (place name rest : List ℕ) → ClosesList end → Going end text names place → literal_front place ≡ found name rest
    → rest ≢ end → ((more : List ℕ) → rest ≢ codes ", " ++ more) → (all : List (List ℕ)) → SpellsNames end text all → ⊥
no_comma end text names place name rest closes going read unended dry all spells = let x = going.only all spells in by_first x.0 x.1
  where
    after_first : (ns : List (List ℕ)) (other : List ℕ) → rest ≡ other → SpellsFurther end other ns → ⊥
    after_first [] other same is = unended (same ∙ is)
    after_first (m ∷ ms) other same (literal, then, spells, is, further) = dry (literal ++ then) (same ∙ is)

    by_first : (others : List (List ℕ)) → SpellsNames end place others → ⊥
    by_first [] spells = spells
    by_first (n ∷ ns) spells =
        let x = first_read end place n ns closes spells in
        after_first ns x.0 (same_first name rest n x.0 (sym read ∙ x.1)).1 x.2

-- what follows a name and a comma is shorter
pub shrinks : (place name rest more : List ℕ) → literal_front place ≡ found name rest → rest ≡ codes ", " ++ more → length more < length place
shrinks place name rest more read comma =
    let x = literal_spells place name rest read in
    omega (arith, ap length x.2, length-append x.0 rest, ap length comma)

-- a text is one list at most
both : (n m : List ℕ) (ns ms : List (List ℕ)) → n ≡ m → ns ≡ ms → n ∷ ns ≡ m ∷ ms
both n m ns ms same others = ap (λ (l : List ℕ). l ∷ ns) same ∙ ap (λ (l : List (List ℕ)). m ∷ l) others

further_once : (end rest : List ℕ) (a b : List (List ℕ)) → ClosesList end → SpellsFurther end rest a → SpellsFurther end rest b → a ≡ b
further_once end rest [] [] closes x y = refl
further_once end rest [] (m ∷ ms) closes x y = absurd (comma_apart end (y.0 ++ y.1) closes (sym y.3 ∙ x))
further_once end rest (n ∷ ns) [] closes x y = absurd (comma_apart end (x.0 ++ x.1) closes (sym x.3 ∙ y))
further_once end rest (n ∷ ns) (m ∷ ms) closes x y =
    let inner : x.0 ++ x.1 ≡ y.0 ++ y.1 = append_cancel_left (codes ", ") (x.0 ++ x.1) (y.0 ++ y.1) (sym x.3 ∙ y.3) in
    let same = same_first n x.1 m y.1 (sym (literal_reads x.0 n x.1 x.2 (ends end x.1 ns closes x.4)) ∙ ap literal_front inner ∙ literal_reads y.0 m y.1 y.2 (ends end y.1 ms closes y.4)) in
    both n m ns ms same.0 (further_once end x.1 ns ms closes x.4 (subst (λ (l : List ℕ). SpellsFurther end l ms) (sym same.1) y.4))

pub names_once : (end list : List ℕ) (a b : List (List ℕ)) → ClosesList end → SpellsNames end list a → SpellsNames end list b → a ≡ b
names_once end list [] b closes x y = absurd x
names_once end list (n ∷ ns) [] closes x y = absurd y
names_once end list (n ∷ ns) (m ∷ ms) closes x y =
    let p = first_read end list n ns closes x in
    let q = first_read end list m ms closes y in
    let same = same_first n p.0 m q.0 (sym p.1 ∙ q.1) in
    both n m ns ms same.0 (further_once end p.0 ns ms closes p.2 (subst (λ (l : List ℕ). SpellsFurther end l ms) (sym same.1) q.2))

-- what follows ASCII is a text
pub after_text : (front rest : List ℕ) → list_all (λ b. nat_lt b 128) front ≡ true → IsUtf8 (front ++ rest) → IsUtf8 rest
after_text [] rest ascii valid = valid
after_text (b ∷ bytes) rest ascii valid =
    let x = both (nat_lt b 128) (list_all (λ c. nat_lt c 128) bytes) ascii in
    after_text bytes rest x.1 (behind_ascii b (bytes ++ rest) (ltb-true b 128 x.0) valid)
  where
    both : (p q : Bool) → (p && q) ≡ true → (p ≡ true) × (q ≡ true)
    both true q e = (refl, e)
    both false q e = absurd cc

-- the same of a list that stands after a front
pub list_after : (text front end list : List ℕ) (r : Result (Option (List (List ℕ))) AllocError) → text ≡ front ++ list
    → IfOk r (λ found. MatchOption found ((names : List (List ℕ)) → SpellsNames end list names → ⊥) (λ names. SpellsNames end list names))
    → IfOk r (λ found. MatchOption found ((names : List (List ℕ)) → SpellsListed text front end names → ⊥) (λ names. SpellsListed text front end names))
list_after text front end list (Err e) is fact = tt
list_after text front end list (Ok None) is fact = λ names spells. fact names (subst (λ (l : List ℕ). SpellsNames end l names) (sym (append_cancel_left front list spells.0 (sym is ∙ spells.1))) spells.2)
list_after text front end list (Ok (Some names)) is fact = (list, is, fact)
