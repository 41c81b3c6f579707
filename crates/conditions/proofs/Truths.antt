-- Truths as values, and back.
use Rattle.std.proofs.Common.{◌≡◌, ◌&&◌, ◌||◌, ◌∙◌, ℕ, ℤ, List, ap, not, refl, slice_get, sym}
use Rattle.std.proofs.lemmas.Map.Text.{is_eq-slice_cmp}
use Rattle.std.specs.declared.cmp.Ordering.{Ordering}
use Rattle.std.specs.declared.cmp.Ordering.TheVariants.{Less, Equal, Greater}
use Rattle.std.specs.Cmp.Lexicographic.{slice_cmp}
use Rattle.std.specs.Ordering.{is_eq, is_ne, nat_cmp}
use Rattle.std.specs.Str.{bytes_eq}
use Rattle.tables.specs.declared.kinds.Value.{Value}
use Rattle.conditions.specs.declared.values.comparison.Comparison.{Comparison}
use Rattle.conditions.specs.declared.truth.Truth.{Truth}
use Rattle.conditions.specs.declared.truth.Truth.TheVariants.{True, False, Unknown}
use Rattle.conditions.specs.Conditions.{Bytes, Number}
use Rattle.conditions.specs.Steps.{number_asked, text_asked}
use Rattle.conditions.specs.Truth.{both, datum_at, datum_of_truth, either, is_true, truth, truth_of, truth_of_comparison}

pub truth_again : (t : Truth) → truth_of (datum_of_truth t) ≡ t
truth_again True = refl
truth_again False = refl
truth_again Unknown = refl

-- what a comparison of a column is, as a condition
pub number_told : (how : Comparison) (row : List Value) (place : ℕ) (n : ℤ) → is_true (truth_of_comparison how (datum_at (slice_get row place)) (Number n)) ≡ is_true (truth (number_asked how place n) row)
number_told how row place n = ap is_true (sym (truth_again (truth_of_comparison how (datum_at (slice_get row place)) (Number n))))

pub text_told : (how : Comparison) (row : List Value) (place : ℕ) (text : List ℕ) → is_true (truth_of_comparison how (datum_at (slice_get row place)) (Bytes text)) ≡ is_true (truth (text_asked how place text) row)
text_told how row place text = ap is_true (sym (truth_again (truth_of_comparison how (datum_at (slice_get row place)) (Bytes text))))

-- both are true
pub true_of_both : (a b : Truth) → is_true (both a b) ≡ (is_true a && is_true b)
true_of_both True True = refl
true_of_both True False = refl
true_of_both True Unknown = refl
true_of_both False b = refl
true_of_both Unknown True = refl
true_of_both Unknown False = refl
true_of_both Unknown Unknown = refl

-- one of them is
pub true_of_either : (a b : Truth) → is_true (either a b) ≡ (is_true a || is_true b)
true_of_either True b = refl
true_of_either False True = refl
true_of_either False False = refl
true_of_either False Unknown = refl
true_of_either Unknown True = refl
true_of_either Unknown False = refl
true_of_either Unknown Unknown = refl

-- texts that compare as equal are the same
pub same_text : (s t : List ℕ) → is_eq (slice_cmp nat_cmp s t) ≡ bytes_eq s t
same_text s t = is_eq-slice_cmp s t

not_equal : (o : Ordering) → is_ne o ≡ not (is_eq o)
not_equal Less = refl
not_equal Equal = refl
not_equal Greater = refl

pub another_text : (s t : List ℕ) → is_ne (slice_cmp nat_cmp s t) ≡ not (bytes_eq s t)
another_text s t = not_equal (slice_cmp nat_cmp s t) ∙ ap not (is_eq-slice_cmp s t)

pub ruleset same_texts = (same_text, another_text)
