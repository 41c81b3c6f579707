-- Keywords, as they are tested.
use Rattle.std.proofs.Common.{◌≡◌, Bool, true, false, List, ℕ, refl, sym}
use Rattle.std.specs.Prelude.{IsTrue, ◌↔◌, map}
use Rattle.std.specs.Char.{to_ascii_lowercase}
use Rattle.std.specs.Cmp.Lexicographic.{bytes_decides}
use Rattle.replcmd.specs.Words.{lower, is_keyword}

pub keyword_tested : (t : Bool) (keyword word : List ℕ) → IsTrue t ↔ (map to_ascii_lowercase word ≡ map to_ascii_lowercase keyword) → t ≡ is_keyword keyword word
keyword_tested true keyword word is = sym ((bytes_decides (lower word) (lower keyword)).1 (is.0 refl))
keyword_tested false keyword word is = by_test (is_keyword keyword word) (λ same. is.1 ((bytes_decides (lower word) (lower keyword)).0 same))
  where
    by_test : (b : Bool) → (b ≡ true → IsTrue false) → false ≡ b
    by_test true f = absurd (let no = f refl in cc)
    by_test false f = refl
