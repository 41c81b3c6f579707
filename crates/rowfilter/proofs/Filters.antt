-- What a text comes to, put together of its tokens, its phrase and its condition.
use Rattle.std.proofs.Common.{◌≡◌, ◌≤◌, ℕ, List, length, nat_lt, Bool, true, false, ◌&&◌, Option, Some, None, Result, Ok, Err, refl, sym, ap, subst, ◌∙◌, arith}
use Rattle.std.proofs.lemmas.Bool.{lt-ltb}
use Rattle.std.proofs.lemmas.Option.{slice_get_within}
use Rattle.std.specs.Prelude.{MatchResult, option_map, slice_get}
use Rattle.tables.specs.declared.column.Column.{Column as TableColumn}
use Rattle.tables.specs.declared.table.Table.{Table}
use Rattle.conditions.specs.declared.fault.FilterFault.{FilterFault}
use Rattle.conditions.specs.declared.fault.FilterFault.TheVariants.{Syntax, UnknownColumn, TypeMismatch, NumberRange, TooDeep, Memory}
use Rattle.conditions.specs.declared.expression.Expression.{Expression}
use Rattle.conditions.specs.Shapes.{shape}
use Rattle.conditions.specs.declared.words.token.Token.{Token}
use Rattle.conditions.specs.Conditions.{Condition, Column, Literal, Compare, Is, Not, And, Or}
use Rattle.conditions.specs.Grammar.{Phrase, sayings_of, IsInRange, levels, meaning_of, SpellsPhrase, SpellsCondition, SpellsFilter, IsRefused, MOST_BYTES, MOST_LEVELS}
use Rattle.conditions.specs.Kinds.{are_known, sort_of_kind, sort_of, are_compared, is_asked, is_truth, of_one, of_two, IsCondition}
use Rattle.conditions.specs.declared.values.sort.Sort.{Sort}
use Rattle.conditions.specs.declared.values.sort.Sort.TheVariants.{Truths}
use Rattle.conditions.specs.Parts.{Grown, grown}
use Rattle.rowfilter.specs.Readings.{GivesFilter, IsJudged, IsUnread, expression_of, tree_expression}
use Rattle.conditions.specs.declared.trees.part.Part.{Part}
use Rattle.conditions.specs.declared.trees.part.Tree.{Tree}
use Rattle.conditions.specs.Views.{GivesPart, seen_tree}
use Rattle.conditions.specs.Tokens.{Spells}
use Rattle.conditions.specs.Words.{said_by_all}
use Rattle.conditions.proofs.Lexemes.{spelled_once}
use Rattle.conditions.proofs.Growing.{IsTree, grown_tree}
use Rattle.conditions.proofs.Sayings.{reading_of, IsRead, read_once, read_found, one_phrase}

-- ---- one phrase, one condition

pub same_phrase : (text : List ℕ) (a b : Phrase) → SpellsPhrase text a → SpellsPhrase text b → a ≡ b
same_phrase text a b one other =
    let tokens : other.tokens ≡ one.tokens = spelled_once text other.tokens one.tokens other.are_spelled one.are_spelled in
    let say = sym (ap said_by_all tokens) ∙ other.say in
    one_phrase one.tokens a b one.say one.bound say other.bound

pub same_condition : (columns : List TableColumn) (text : List ℕ) (c d : Condition) → SpellsCondition columns text c → SpellsCondition columns text d → c ≡ d
same_condition columns text c d one other = one.is_meant ∙ ap (meaning_of columns) (same_phrase text one.phrase other.phrase one.spells other.spells) ∙ sym other.is_meant

-- ---- what was read

-- The phrase of a text, if it has this list of tokens.
spelling : (columns : List TableColumn) (text : List ℕ) (tokens : List Token) (g : Grown) → length text ≤ MOST_BYTES → Spells text tokens → (read : IsRead columns tokens g) → SpellsPhrase text read.phrase
spelling columns text tokens g short spells read = record { short = short; tokens = tokens; are_spelled = spells; say = read.say; bound = read.bound }

pub tree_read : (columns : List TableColumn) (tokens : List Token) (g : Grown) → (read : IsRead columns tokens g) → IsTree (IsInRange read.phrase) (levels read.phrase) (meaning_of columns read.phrase) g.tree
tree_read columns tokens g read = subst (λ (h : Grown). IsTree (IsInRange read.phrase) (levels read.phrase) (meaning_of columns read.phrase) h.tree) (sym read.is) (grown_tree columns read.phrase)

pub condition_read : (columns : List TableColumn) (text : List ℕ) (tokens : List Token) (g : Grown) (c : Condition) (n : ℕ) → length text ≤ MOST_BYTES → Spells text tokens
    → reading_of columns tokens ≡ Some g → g.tree ≡ Ok (c, n) → SpellsCondition columns text c
condition_read columns text tokens g c n short spells reads is =
    let read = read_found columns tokens g reads in
    let tree = subst (IsTree (IsInRange read.phrase) (levels read.phrase) (meaning_of columns read.phrase)) is (tree_read columns tokens g read) in
    record { phrase = read.phrase; spells = spelling columns text tokens g short spells read; in_range = tree.2.0; flat = subst (λ m. m ≤ MOST_LEVELS) tree.1 (subst (λ m. m ≤ MOST_LEVELS) (sym tree.1) tree.2.1); is_meant = tree.0 }

pub fault_read : (columns : List TableColumn) (text : List ℕ) (tokens : List Token) (g : Grown) (fault : FilterFault) → length text ≤ MOST_BYTES → Spells text tokens
    → reading_of columns tokens ≡ Some g → g.tree ≡ Err fault → IsUnread text fault
fault_read columns text tokens g fault short spells reads is =
    let read = read_found columns tokens g reads in
    by_fault read (spelling columns text tokens g short spells read) fault (subst (IsTree (IsInRange read.phrase) (levels read.phrase) (meaning_of columns read.phrase)) is (tree_read columns tokens g read))
  where
    by_fault : (read : IsRead columns tokens g) → SpellsPhrase text read.phrase → (f : FilterFault) → IsTree (IsInRange read.phrase) (levels read.phrase) (meaning_of columns read.phrase) (Err f) → IsUnread text f
    by_fault read spells NumberRange large = record { phrase = read.phrase; spells = spells; large = large }
    by_fault read spells TooDeep deep = record { phrase = read.phrase; spells = spells; in_range = deep.0; deep = deep.1 }
    by_fault read spells Syntax never = absurd never
    by_fault read spells UnknownColumn never = absurd never
    by_fault read spells TypeMismatch never = absurd never
    by_fault read spells Memory never = absurd never

pub nothing_read : (columns : List TableColumn) (text : List ℕ) (tokens : List Token) → Spells text tokens → reading_of columns tokens ≡ None → IsUnread text Syntax
nothing_read columns text tokens spells reads = λ phrase spelled.
    let same : spelled.tokens ≡ tokens = spelled_once text spelled.tokens tokens spelled.are_spelled spells in
    let say : said_by_all tokens ≡ Some (sayings_of phrase) = sym (ap said_by_all same) ∙ spelled.say in
    let once = read_once columns tokens phrase say spelled.bound in
    absurd (let never : None ≡ Some (grown columns phrase) = sym reads ∙ once in cc)

abbrev IsGiven : List TableColumn → List ℕ → Result Expression FilterFault → Type 0
IsGiven columns text result = MatchResult result (λ e. SpellsCondition columns text (shape e)) (λ fault. IsUnread text fault)

tree_given : (columns : List TableColumn) (text : List ℕ) (tokens : List Token) (tight : ℕ) (tree : Result Tree FilterFault) → length text ≤ MOST_BYTES → Spells text tokens
    → reading_of columns tokens ≡ Some (record { tight = tight; tree = seen_tree tree }) → IsGiven columns text (tree_expression tree)
tree_given columns text tokens tight (Ok tree) short spells reads = condition_read columns text tokens (record { tight = tight; tree = seen_tree (Ok tree) }) (shape tree.expression) tree.levels short spells reads refl
tree_given columns text tokens tight (Err fault) short spells reads = fault_read columns text tokens (record { tight = tight; tree = seen_tree (Err fault) }) fault short spells reads refl

part_given : (columns : List TableColumn) (text : List ℕ) (tokens : List Token) (part : Result Part FilterFault) → length text ≤ MOST_BYTES → Spells text tokens
    → GivesPart part (reading_of columns tokens) → IsGiven columns text (expression_of part)
part_given columns text tokens (Ok part) short spells gives = tree_given columns text tokens part.tightness part.tree short spells gives
part_given columns text tokens (Err Syntax) short spells gives = nothing_read columns text tokens spells gives
part_given columns text tokens (Err Memory) short spells gives = tt
part_given columns text tokens (Err fault) short spells gives = absurd gives

pub condition_given : (columns : List TableColumn) (text : List ℕ) (tokens : List Token) (part : Result Part FilterFault) (result : Result Expression FilterFault) → length text ≤ MOST_BYTES → Spells text tokens
    → GivesPart part (reading_of columns tokens) → result ≡ expression_of part → MatchResult result (λ e. SpellsCondition columns text (shape e)) (λ fault. IsUnread text fault)
condition_given columns text tokens part result short spells gives is = subst (IsGiven columns text) (sym is) (part_given columns text tokens part short spells gives)

-- ---- kinds

known_at : (columns : List TableColumn) (place : ℕ) (s : Sort) → option_map (λ column. sort_of_kind column.kind) (slice_get columns place) ≡ Some s → nat_lt place (length columns) ≡ true
known_at columns place s e = by_column (slice_get columns place) refl e
  where
    by_column : (o : Option TableColumn) → slice_get columns place ≡ o → option_map (λ column. sort_of_kind column.kind) o ≡ Some s → nat_lt place (length columns) ≡ true
    by_column None is e = absurd cc
    by_column (Some column) is e = lt-ltb place (length columns) (slice_get_within columns place column is)

both_true : (a b : Bool) → a ≡ true → b ≡ true → (a && b) ≡ true
both_true true true first second = refl
both_true true false first second = absurd cc
both_true false b first second = absurd cc

two_known : (fits : Sort → Sort → Bool) (a b : Option Sort) (s : Sort) (known_a known_b : Bool) → ((t : Sort) → a ≡ Some t → known_a ≡ true) → ((t : Sort) → b ≡ Some t → known_b ≡ true)
    → of_two fits a b ≡ Some s → (known_a && known_b) ≡ true
two_known fits None b s known_a known_b left right e = absurd cc
two_known fits (Some t) None s known_a known_b left right e = absurd cc
two_known fits (Some t) (Some u) s known_a known_b left right e = both_true known_a known_b (left t refl) (right u refl)

one_known : (fits : Sort → Bool) (a : Option Sort) (s : Sort) (known : Bool) → ((t : Sort) → a ≡ Some t → known ≡ true) → of_one fits a ≡ Some s → known ≡ true
one_known fits None s known inner e = absurd cc
one_known fits (Some t) s known inner e = inner t refl

-- a condition of some kind names columns of the table alone
sorted_known : (columns : List TableColumn) (c : Condition) (s : Sort) → sort_of columns c ≡ Some s → are_known (length columns) c ≡ true
sorted_known columns (Column place) s e = known_at columns place s e
sorted_known columns (Literal datum) s e = refl
sorted_known columns (Compare how a b) s e =
    two_known are_compared (sort_of columns a) (sort_of columns b) s (are_known (length columns) a) (are_known (length columns) b) (sorted_known columns a) (sorted_known columns b) e
sorted_known columns (Is question negated a) s e = one_known (is_asked question) (sort_of columns a) s (are_known (length columns) a) (sorted_known columns a) e
sorted_known columns (Not a) s e = one_known is_truth (sort_of columns a) s (are_known (length columns) a) (sorted_known columns a) e
sorted_known columns (And a b) s e =
    two_known (λ t u. is_truth t && is_truth u) (sort_of columns a) (sort_of columns b) s (are_known (length columns) a) (are_known (length columns) b) (sorted_known columns a) (sorted_known columns b) e
sorted_known columns (Or a b) s e =
    two_known (λ t u. is_truth t && is_truth u) (sort_of columns a) (sort_of columns b) s (are_known (length columns) a) (are_known (length columns) b) (sorted_known columns a) (sorted_known columns b) e

condition_known : (columns : List TableColumn) (c : Condition) → IsCondition columns c → are_known (length columns) c ≡ true
condition_known columns c fits = one_known is_truth (sort_of columns c) Truths (are_known (length columns) c) (sorted_known columns c) fits

-- ---- filters

pub spelled_filter : (table : Table) (text : List ℕ) (c d : Condition) → SpellsFilter table text c → SpellsFilter table text d → c ≡ d
spelled_filter table text c d one other = same_condition table.columns text c d one.means other.means

-- a text that spells a filter is not refused, want of memory apart
pub refused_filter : (table : Table) (text : List ℕ) (c : Condition) (fault : FilterFault) → SpellsFilter table text c → IsRefused table text fault → fault ≡ Memory
refused_filter table text c Syntax filter refused = absurd (refused filter.means.phrase filter.means.spells)
refused_filter table text c NumberRange filter refused =
    let same = same_phrase text filter.means.phrase refused.phrase filter.means.spells refused.spells in
    absurd (refused.large (subst IsInRange same filter.means.in_range))
refused_filter table text c TooDeep filter refused =
    let same = same_phrase text filter.means.phrase refused.phrase filter.means.spells refused.spells in
    absurd (omega (arith, refused.deep, subst (λ p. levels p ≤ MOST_LEVELS) same filter.means.flat))
refused_filter table text c UnknownColumn filter refused =
    let same = same_condition table.columns text c refused.condition filter.means refused.means in
    let known = condition_known table.columns refused.condition (subst (IsCondition table.columns) same filter.fits) in
    absurd (let never : false ≡ true = sym refused.unknown ∙ known in cc)
refused_filter table text c TypeMismatch filter refused =
    let same = same_condition table.columns text c refused.condition filter.means refused.means in
    absurd (refused.unfit (subst (IsCondition table.columns) same filter.fits))
refused_filter table text c Memory filter refused = refl

pub only_given : (table : Table) (text : List ℕ) (result : Result Condition FilterFault) → MatchResult result (λ f. SpellsFilter table text f) (λ e. IsRefused table text e)
    → (c : Condition) → SpellsFilter table text c → GivesFilter result c
only_given table text (Ok f) found c filter = spelled_filter table text f c found filter
only_given table text (Err fault) refused c filter = subst (λ (e : FilterFault). GivesFilter (Err e) c) (sym (refused_filter table text c fault filter refused)) tt

-- a text that means no condition spells no filter
pub unread_refused : (table : Table) (text : List ℕ) (fault : FilterFault) → IsUnread text fault → IsRefused table text fault
unread_refused table text Syntax unread = unread
unread_refused table text NumberRange unread = unread
unread_refused table text TooDeep unread = unread
unread_refused table text Memory unread = tt
unread_refused table text UnknownColumn unread = absurd unread
unread_refused table text TypeMismatch unread = absurd unread

pub judged_refused : (table : Table) (text : List ℕ) (c : Condition) (fault : FilterFault) → SpellsCondition table.columns text c → IsJudged table.columns c (Err fault) → IsRefused table text fault
judged_refused table text c UnknownColumn means judged = record { condition = c; means = means; unknown = judged }
judged_refused table text c TypeMismatch means judged = record { condition = c; means = means; known = judged.0; unfit = judged.1 }
judged_refused table text c Syntax means judged = absurd judged
judged_refused table text c NumberRange means judged = absurd judged
judged_refused table text c TooDeep means judged = absurd judged
judged_refused table text c Memory means judged = absurd judged
