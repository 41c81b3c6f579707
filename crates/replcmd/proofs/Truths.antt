-- The truth value that is read of a word is the one that it stands for.
use Rattle.std.proofs.Common.{◌≡◌, ℕ, Bool, true, false, cond, List, Option, Some, None, refl, ap, subst}
use Rattle.std.specs.Prelude.{◌||◌, codes}
use Rattle.std.specs.Str.{bytes_eq}
use Rattle.replcmd.specs.Words.{lower, is_keyword, is_truth}
use Rattle.replcmd.specs.Reading.{truth_of}
use Rattle.replcmd.proofs.Readers.{bytes_same}

pub truth_take : (word : List ℕ) (on : Bool) → truth_of word ≡ Some on → is_truth on word ≡ true
unfolding truth_of
truth_take word on e = by_tests (is_truth true word) refl (is_truth false word) refl e
  where
    so : (t : Bool) → is_truth t word ≡ true → Some t ≡ Some on → is_truth on word ≡ true
    so t is e = let same : t ≡ on = cc in subst (λ (x : Bool). is_truth x word ≡ true) same is

    by_tests : (a : Bool) → is_truth true word ≡ a → (b : Bool) → is_truth false word ≡ b → cond a (Some true) (cond b (Some false) None) ≡ Some on → is_truth on word ≡ true
    by_tests true a_is b b_is e = so true a_is e
    by_tests false a_is true b_is e = so false b_is e
    by_tests false a_is false b_is e = absurd cc

-- the same of a word in lower case
abbrev truth_from : List ℕ → Option Bool
truth_from folded =
    cond (bytes_eq folded (lower (codes "true")) || bytes_eq folded (lower (codes "on"))) (Some true)
    (cond (bytes_eq folded (lower (codes "false")) || bytes_eq folded (lower (codes "off"))) (Some false) None)

pub truth_again : (word : List ℕ) (on : Bool) → is_truth on word ≡ true → truth_of word ≡ Some on
unfolding truth_of
truth_again word true is = by_word (is_keyword (codes "true") word) refl (is_keyword (codes "on") word) refl is
  where
    by_word : (a : Bool) → is_keyword (codes "true") word ≡ a → (b : Bool) → is_keyword (codes "on") word ≡ b → (a || b) ≡ true → truth_from (lower word) ≡ Some true
    by_word true a_is b b_is is = ap truth_from (bytes_same (lower word) (lower (codes "true")) a_is)
    by_word false a_is true b_is is = ap truth_from (bytes_same (lower word) (lower (codes "on")) b_is)
    by_word false a_is false b_is is = absurd cc
truth_again word false is = by_word (is_keyword (codes "false") word) refl (is_keyword (codes "off") word) refl is
  where
    by_word : (a : Bool) → is_keyword (codes "false") word ≡ a → (b : Bool) → is_keyword (codes "off") word ≡ b → (a || b) ≡ true → truth_from (lower word) ≡ Some false
    by_word true a_is b b_is is = ap truth_from (bytes_same (lower word) (lower (codes "false")) a_is)
    by_word false a_is true b_is is = ap truth_from (bytes_same (lower word) (lower (codes "off")) b_is)
    by_word false a_is false b_is is = absurd cc
