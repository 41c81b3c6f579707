-- UTF-8 as a test.
use Rattle.std.proofs.Common.{◌≡◌, ℕ, Bool, true, false, List, refl}
use Rattle.std.specs.Str.{IsUtf8, is_utf8}
use Rattle.std.proofs.lemmas.Str.{IsUtf8-from_is_utf8, is_utf8-from_IsUtf8}

pub valid_text : (bytes : List ℕ) → IsUtf8 bytes → is_utf8 bytes ≡ true
valid_text bytes valid = is_utf8-from_IsUtf8 bytes valid

pub invalid_text : (bytes : List ℕ) → ¬ (IsUtf8 bytes) → is_utf8 bytes ≡ false
invalid_text bytes invalid = by_test (is_utf8 bytes) (λ valid. absurd (invalid (IsUtf8-from_is_utf8 bytes valid)))
  where
    by_test : (b : Bool) → (b ≡ true → b ≡ false) → b ≡ false
    by_test true f = f refl
    by_test false f = refl
