-- From tokens to the phrase that they spell, and to what it comes to.
use Rattle.std.proofs.Common.{◌≡◌, List, [], ◌∷◌, map, true, false, Option, Some, None, refl, sym, ap, ◌∙◌}
use Rattle.std.specs.Prelude.{unwrap_or, option_and_then, option_map}
use Rattle.tables.specs.declared.column.Column.{Column as TableColumn}
use Rattle.conditions.specs.declared.words.token.Token.{Token}
use Rattle.conditions.specs.Words.{Saying, said_by, said_by_all, with_first}
use Rattle.conditions.specs.Grammar.{Phrase, sayings_of, IsBound}
use Rattle.conditions.specs.Stacks.{Word, Stray, State, Wanting, Having, Asking, step, run, word_of, word_said}
use Rattle.conditions.specs.Parts.{phrases, leaf_of, Grown, parts, grown, word_at, word_said_of}
use Rattle.conditions.proofs.Phrases.{sound}
use Rattle.conditions.proofs.Rereading.{again}
use Rattle.conditions.proofs.Growing.{grown_run}

same_list : (a b : List Saying) → Some a ≡ Some b → a ≡ b
same_list a b e = ap (λ o. unwrap_or o a) e

words_said : (columns : List TableColumn) (tokens : List Token) (sayings : List Saying) → said_by_all tokens ≡ Some sayings → map (word_at columns) tokens ≡ map (word_said_of columns) sayings
words_said columns [] sayings e = ap (map (word_said_of columns)) (same_list [] sayings e)
words_said columns (token ∷ tokens) sayings e = by_parts (said_by token) (said_by_all tokens) (λ others is. words_said columns tokens others is) e
  where
    by_parts : (one : Option Saying) (more : Option (List Saying))
        → ((others : List Saying) → more ≡ Some others → map (word_at columns) tokens ≡ map (word_said_of columns) others)
        → with_first one more ≡ Some sayings → word_said (λ s. grown columns (leaf_of s)) one ∷ map (word_at columns) tokens ≡ map (word_said_of columns) sayings
    by_parts None more inner e = absurd cc
    by_parts (Some saying) None inner e = absurd cc
    by_parts (Some saying) (Some others) inner e =
        ap (λ (l : List (Word Grown)). word_said_of columns saying ∷ l) (inner others refl) ∙ ap (map (word_said_of columns)) (same_list (saying ∷ others) sayings e)

no_step : (state : State Grown) → step parts state Stray ≡ None
no_step (Wanting stack) = refl
no_step (Having stack a) = refl
no_step (Asking stack a true) = refl
no_step (Asking stack a false) = refl

abbrev AreSaid : List Token → Type 0
AreSaid tokens = (sayings : List Saying) × (said_by_all tokens ≡ Some sayings)

-- tokens that are read to the end say something each
all_said : (columns : List TableColumn) (state : State Grown) (tokens : List Token) (g : Grown) → run parts state (map (word_at columns) tokens) ≡ Some g → AreSaid tokens
all_said columns state [] g e = ([], refl)
all_said columns state (token ∷ tokens) g e = by_token (said_by token) refl (λ to e. all_said columns to tokens g e) e
  where
    by_step : (next : Option (State Grown)) → ((to : State Grown) → run parts to (map (word_at columns) tokens) ≡ Some g → AreSaid tokens)
        → option_and_then (λ to. run parts to (map (word_at columns) tokens)) next ≡ Some g → AreSaid tokens
    by_step None inner e = absurd cc
    by_step (Some to) inner e = inner to e

    by_token : (one : Option Saying) → said_by token ≡ one → ((to : State Grown) → run parts to (map (word_at columns) tokens) ≡ Some g → AreSaid tokens)
        → option_and_then (λ to. run parts to (map (word_at columns) tokens)) (step parts state (word_said (λ s. grown columns (leaf_of s)) one)) ≡ Some g → AreSaid (token ∷ tokens)
    by_token None is inner e =
        let none : None ≡ Some g = ap (option_and_then (λ to. run parts to (map (word_at columns) tokens))) (sym (no_step state)) ∙ e in
        absurd cc
    by_token (Some saying) is inner e =
        let others = by_step (step parts state (word_said_of columns saying)) inner e in
        let both : with_first (said_by token) (said_by_all tokens) ≡ Some (saying ∷ others.0) =
        ap (λ (o : Option Saying). with_first o (said_by_all tokens)) is ∙ ap (with_first (Some saying)) others.1 in
        (saying ∷ others.0, both)

-- ---- the law

-- what a text's tokens are read as
abbrev pub reading_of : List TableColumn → List Token → Option Grown
reading_of columns tokens = run parts (Wanting []) (map (word_at columns) tokens)

pub record IsRead (columns : List TableColumn) (tokens : List Token) (g : Grown) : Type 0 where
  pub phrase : Phrase
  pub say : said_by_all tokens ≡ Some (sayings_of phrase)
  pub bound : IsBound phrase
  pub is : g ≡ grown columns phrase

pub read_once : (columns : List TableColumn) (tokens : List Token) (phrase : Phrase) → said_by_all tokens ≡ Some (sayings_of phrase) → IsBound phrase → reading_of columns tokens ≡ Some (grown columns phrase)
read_once columns tokens phrase say bound =
    ap (run parts (Wanting [])) (words_said columns tokens (sayings_of phrase) say)
    ∙ grown_run columns (sayings_of phrase) ∙ ap (option_map (grown columns)) (again phrase bound)

pub read_found : (columns : List TableColumn) (tokens : List Token) (g : Grown) → reading_of columns tokens ≡ Some g → IsRead columns tokens g
read_found columns tokens g e =
    let said = all_said columns (Wanting []) tokens g e in
    let sayings = said.0 in
    let read : option_map (grown columns) (run phrases (Wanting []) (map (word_of leaf_of) sayings)) ≡ Some g =
    sym (grown_run columns sayings) ∙ ap (run parts (Wanting [])) (sym (words_said columns tokens sayings said.1)) ∙ e in
    by_phrase sayings said.1 (run phrases (Wanting []) (map (word_of leaf_of) sayings)) refl read
  where
    by_phrase : (sayings : List Saying) → said_by_all tokens ≡ Some sayings → (o : Option Phrase) → run phrases (Wanting []) (map (word_of leaf_of) sayings) ≡ o
        → option_map (grown columns) o ≡ Some g → IsRead columns tokens g
    by_phrase sayings said None is e = absurd cc
    by_phrase sayings said (Some phrase) is e =
        let reading = sound sayings phrase is in
        record { phrase = phrase; say = said ∙ ap (λ (l : List Saying). Some l) (sym reading.parts); bound = reading.bound; is = sym (ap (λ o. unwrap_or o g) e) }

-- one list of tokens says one phrase
pub one_phrase : (tokens : List Token) (a b : Phrase) → said_by_all tokens ≡ Some (sayings_of a) → IsBound a → said_by_all tokens ≡ Some (sayings_of b) → IsBound b → a ≡ b
one_phrase tokens a b say bound other fits =
    let same : sayings_of a ≡ sayings_of b = same_list (sayings_of a) (sayings_of b) (sym say ∙ other) in
    let runs : Some a ≡ Some b = sym (again a bound) ∙ ap (λ (l : List Saying). run phrases (Wanting []) (map (word_of leaf_of) l)) same ∙ again b fits in
    ap (λ o. unwrap_or o a) runs
