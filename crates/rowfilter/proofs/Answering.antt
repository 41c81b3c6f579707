-- Reading a text as a function meets the definitions of a filter and of refusals, and these allow one answer.
use Rattle.std.proofs.Common.{◌≡◌, ◌≢◌, ◌≤◌, ◌<◌, ℕ, List, [], ◌∷◌, length, nat_lt, Bool, true, false, cond, Option, Some, None, Result, Ok, Err, refl, sym, ap, subst, ◌∙◌, arith}
use Rattle.std.proofs.lemmas.Bool.{ltb-false, ltb-true}
use Rattle.std.specs.Prelude.{MatchResult}
use Rattle.std.specs.List.{list_any}
use Rattle.tables.specs.declared.table.Table.{Table}
use Rattle.conditions.specs.declared.fault.FilterFault.{FilterFault}
use Rattle.conditions.specs.declared.fault.FilterFault.TheVariants.{Syntax, UnknownColumn, TypeMismatch, NumberRange, TooDeep, Memory}
use Rattle.conditions.specs.declared.values.sort.Sort.{Sort}
use Rattle.conditions.specs.declared.values.sort.Sort.TheVariants.{Any, Truths, Numbers, Texts, UuidTexts, Uuids, Incomparable}
use Rattle.conditions.specs.declared.words.token.Token.{Token}
use Rattle.rowfilter.specs.Answers.{Answers, condition_of, if_sorted, judged_condition, judged_condition_if, read_filter, read_tokens, tokens_in, tokens_within, with_more, without_levels}
use Rattle.conditions.specs.Conditions.{Condition}
use Rattle.conditions.specs.Grammar.{Phrase, IsInRange, levels, HasLargeNumber, HasManyLevels, IsRefused, MOST_BYTES, MOST_LEVELS, SpellsCondition, SpellsFilter, SpellsPhrase}
use Rattle.conditions.specs.Kinds.{are_known, is_truth, of_one, sort_of}
use Rattle.conditions.specs.Lexing.{Lexes, is_stray, token_at}
use Rattle.conditions.specs.Parts.{Grown}
use Rattle.conditions.specs.Tokens.{Spells}
use Rattle.rowfilter.proofs.Filters.{condition_read, fault_read, nothing_read, refused_filter, same_condition, same_phrase, spelled_filter, tree_read}
use Rattle.conditions.proofs.Growing.{IsTree}
use Rattle.conditions.proofs.Lexemes.{token_smaller, tokens_found, tokens_none}
use Rattle.conditions.proofs.Sayings.{reading_of, read_found}

-- ---- the tokens of a text

no_token : token_at [] ≡ None
unfolding token_at
no_token = refl

lexes_within : (bytes text : List ℕ) → length text ≤ length bytes → Lexes text (tokens_within bytes text)
lexes_within [] [] short = no_token
lexes_within [] (b ∷ text) short = absurd (omega (arith, short))
lexes_within (b ∷ bytes) text short = by_token (token_at text) refl (λ rest less. lexes_within bytes rest (omega (arith, short, less)))
  where
    by_token : (o : Option (Token × List ℕ)) → token_at text ≡ o → ((rest : List ℕ) → length rest < length text → Lexes rest (tokens_within bytes rest)) → Lexes text (with_more o (tokens_within bytes))
    by_token None is inner = is
    by_token (Some found) is inner = (found.1, is, inner found.1 (token_smaller text found.0 found.1 is))

lexes_in : (text : List ℕ) → Lexes text (tokens_in text)
lexes_in text = lexes_within text text (omega arith)

-- ---- what is read is due

abbrev IsDue : Table → List ℕ → Result Condition FilterFault → Type 0
IsDue table text (Ok c) = SpellsFilter table text c
IsDue table text (Err fault) = (fault ≢ Memory) × IsRefused table text fault

truths_alone : (o : Option Sort) (sort : Sort) → of_one is_truth o ≡ Some sort → of_one is_truth o ≡ Some Truths
truths_alone None sort is = absurd cc
truths_alone (Some Any) sort is = refl
truths_alone (Some Truths) sort is = refl
truths_alone (Some Numbers) sort is = absurd cc
truths_alone (Some Texts) sort is = absurd cc
truths_alone (Some UuidTexts) sort is = absurd cc
truths_alone (Some Uuids) sort is = absurd cc
truths_alone (Some Incomparable) sort is = absurd cc

judged_due : (table : Table) (text : List ℕ) (c : Condition) → SpellsCondition table.columns text c → IsDue table text (judged_condition table.columns c)
judged_due table text c means = by_known (are_known (length table.columns) c) refl
  where
    by_sort : are_known (length table.columns) c ≡ true → (o : Option Sort) → of_one is_truth (sort_of table.columns c) ≡ o → IsDue table text (if_sorted o c)
    by_sort known None is = ((λ same. absurd cc), record { condition = c; means = means; known = known; unfit = λ fits. absurd (let never = sym is ∙ fits in cc) })
    by_sort known (Some sort) is = record { means = means; fits = truths_alone (sort_of table.columns c) sort is }

    by_known : (t : Bool) → are_known (length table.columns) c ≡ t → IsDue table text (cond t (if_sorted (of_one is_truth (sort_of table.columns c)) c) (Err UnknownColumn))
    by_known true known = by_sort known (of_one is_truth (sort_of table.columns c)) refl
    by_known false unknown = ((λ same. absurd cc), record { condition = c; means = means; unknown = unknown })

tree_due : (table : Table) (text : List ℕ) (tokens : List Token) (g : Grown) → length text ≤ MOST_BYTES → Spells text tokens → reading_of table.columns tokens ≡ Some g
    → (tree : Result (Condition × ℕ) FilterFault) → g.tree ≡ tree → IsDue table text (judged_condition_if table.columns (without_levels tree))
tree_due table text tokens g short spells reads (Ok x) is = judged_due table text x.0 (condition_read table.columns text tokens g x.0 x.1 short spells reads is)
tree_due table text tokens g short spells reads (Err Syntax) is = ((λ same. absurd cc), fault_read table.columns text tokens g Syntax short spells reads is)
tree_due table text tokens g short spells reads (Err NumberRange) is = ((λ same. absurd cc), fault_read table.columns text tokens g NumberRange short spells reads is)
tree_due table text tokens g short spells reads (Err TooDeep) is = ((λ same. absurd cc), fault_read table.columns text tokens g TooDeep short spells reads is)
tree_due table text tokens g short spells reads (Err UnknownColumn) is = absurd (fault_read table.columns text tokens g UnknownColumn short spells reads is)
tree_due table text tokens g short spells reads (Err TypeMismatch) is = absurd (fault_read table.columns text tokens g TypeMismatch short spells reads is)
tree_due table text tokens g short spells reads (Err Memory) is = absurd (
    let read = read_found table.columns tokens g reads in
    subst (IsTree (IsInRange read.phrase) (levels read.phrase) _) is (tree_read table.columns tokens g read)
    )

reading_due : (table : Table) (text : List ℕ) (tokens : List Token) → length text ≤ MOST_BYTES → Spells text tokens → IsDue table text (judged_condition_if table.columns (condition_of (reading_of table.columns tokens)))
reading_due table text tokens short spells = by_reading (reading_of table.columns tokens) refl
  where
    by_reading : (o : Option Grown) → reading_of table.columns tokens ≡ o → IsDue table text (judged_condition_if table.columns (condition_of o))
    by_reading None reads = ((λ same. absurd cc), nothing_read table.columns text tokens spells reads)
    by_reading (Some g) reads = tree_due table text tokens g short spells reads g.tree refl

tokens_due : (table : Table) (text : List ℕ) → length text ≤ MOST_BYTES → IsDue table text (read_tokens table.columns (tokens_in text))
tokens_due table text short = by_stray (list_any is_stray (tokens_in text)) refl
  where
    by_stray : (t : Bool) → list_any is_stray (tokens_in text) ≡ t → IsDue table text (cond t (Err Syntax) (judged_condition_if table.columns (condition_of (reading_of table.columns (tokens_in text)))))
    by_stray true some = ((λ same. absurd cc), λ phrase spells. tokens_none text (tokens_in text) spells.tokens (lexes_in text) some spells.are_spelled)
    by_stray false none = reading_due table text (tokens_in text) short (tokens_found text (tokens_in text) (lexes_in text) none)

read_due : (table : Table) (text : List ℕ) → IsDue table text (read_filter table text)
unfolding read_filter
read_due table text = by_length (nat_lt MOST_BYTES (length text)) refl
  where
    by_length : (t : Bool) → nat_lt MOST_BYTES (length text) ≡ t → IsDue table text (cond t (Err Syntax) (read_tokens table.columns (tokens_in text)))
    by_length true long = ((λ same. absurd cc), λ phrase spells. absurd (omega (arith, ltb-true MOST_BYTES (length text) long, spells.short)))
    by_length false short = tokens_due table text (ltb-false MOST_BYTES (length text) short)

-- ---- one answer is due

in_range : (text : List ℕ) → HasLargeNumber text → (phrase : Phrase) → SpellsPhrase text phrase → IsInRange phrase → ⊥
in_range text large phrase spells fits = large.large (subst IsInRange (same_phrase text phrase large.phrase spells large.spells) fits)

flat : (text : List ℕ) → HasManyLevels text → (phrase : Phrase) → SpellsPhrase text phrase → levels phrase ≤ MOST_LEVELS → ⊥
flat text many phrase spells fits = omega (arith, many.deep, subst (λ p. levels p ≤ MOST_LEVELS) (same_phrase text phrase many.phrase spells many.spells) fits)

meant_known : (table : Table) (text : List ℕ) (c d : Condition) → SpellsCondition table.columns text c → SpellsCondition table.columns text d
    → are_known (length table.columns) c ≡ false → are_known (length table.columns) d ≡ true → ⊥
meant_known table text c d one other unknown known =
    let same = same_condition table.columns text c d one other in
    let never : false ≡ true = sym unknown ∙ ap (are_known (length table.columns)) same ∙ known in
    absurd cc

one_refusal : (table : Table) (text : List ℕ) (a b : FilterFault) → IsRefused table text a → IsRefused table text b → b ≢ Memory → Answers (Err a) (Err b)
one_refusal table text Memory b x y some = tt
one_refusal table text a Memory x y some = absurd (some refl)
one_refusal table text Syntax Syntax x y some = refl
one_refusal table text Syntax NumberRange x y some = absurd (x y.phrase y.spells)
one_refusal table text Syntax TooDeep x y some = absurd (x y.phrase y.spells)
one_refusal table text Syntax UnknownColumn x y some = absurd (x y.means.phrase y.means.spells)
one_refusal table text Syntax TypeMismatch x y some = absurd (x y.means.phrase y.means.spells)
one_refusal table text NumberRange Syntax x y some = absurd (y x.phrase x.spells)
one_refusal table text NumberRange NumberRange x y some = refl
one_refusal table text NumberRange TooDeep x y some = absurd (in_range text x y.phrase y.spells y.in_range)
one_refusal table text NumberRange UnknownColumn x y some = absurd (in_range text x y.means.phrase y.means.spells y.means.in_range)
one_refusal table text NumberRange TypeMismatch x y some = absurd (in_range text x y.means.phrase y.means.spells y.means.in_range)
one_refusal table text TooDeep Syntax x y some = absurd (y x.phrase x.spells)
one_refusal table text TooDeep NumberRange x y some = absurd (in_range text y x.phrase x.spells x.in_range)
one_refusal table text TooDeep TooDeep x y some = refl
one_refusal table text TooDeep UnknownColumn x y some = absurd (flat text x y.means.phrase y.means.spells y.means.flat)
one_refusal table text TooDeep TypeMismatch x y some = absurd (flat text x y.means.phrase y.means.spells y.means.flat)
one_refusal table text UnknownColumn Syntax x y some = absurd (y x.means.phrase x.means.spells)
one_refusal table text UnknownColumn NumberRange x y some = absurd (in_range text y x.means.phrase x.means.spells x.means.in_range)
one_refusal table text UnknownColumn TooDeep x y some = absurd (flat text y x.means.phrase x.means.spells x.means.flat)
one_refusal table text UnknownColumn UnknownColumn x y some = refl
one_refusal table text UnknownColumn TypeMismatch x y some = absurd (meant_known table text x.condition y.condition x.means y.means x.unknown y.known)
one_refusal table text TypeMismatch Syntax x y some = absurd (y x.means.phrase x.means.spells)
one_refusal table text TypeMismatch NumberRange x y some = absurd (in_range text y x.means.phrase x.means.spells x.means.in_range)
one_refusal table text TypeMismatch TooDeep x y some = absurd (flat text y x.means.phrase x.means.spells x.means.flat)
one_refusal table text TypeMismatch UnknownColumn x y some = absurd (meant_known table text y.condition x.condition y.means x.means y.unknown x.known)
one_refusal table text TypeMismatch TypeMismatch x y some = refl

one_answer : (table : Table) (text : List ℕ) (result read : Result Condition FilterFault) → MatchResult result (λ f. SpellsFilter table text f) (λ e. IsRefused table text e) → IsDue table text read → Answers result read
one_answer table text (Ok c) (Ok d) found due = ap (λ (e : Condition). Ok e) (spelled_filter table text d c due found)
one_answer table text (Ok c) (Err fault) found due = absurd (due.0 (refused_filter table text c fault found due.1))
one_answer table text (Err fault) (Ok d) refused due = subst (λ (e : FilterFault). Answers (Err e) (Ok d)) (sym (refused_filter table text d fault due refused)) tt
one_answer table text (Err a) (Err b) refused due = one_refusal table text a b refused due.1 due.0

pub answered : (table : Table) (text : List ℕ) (result : Result Condition FilterFault) → MatchResult result (λ f. SpellsFilter table text f) (λ e. IsRefused table text e) → Answers result (read_filter table text)
answered table text result is = one_answer table text result (read_filter table text) is (read_due table text)
