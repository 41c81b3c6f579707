-- Whether bytes are a text.
use Rattle.std.proofs.Common.{◌≡◌, ℕ, Bool, true, false, List, refl}
use Rattle.std.specs.Str.{IsUtf8, is_utf8}
use Rattle.std.proofs.lemmas.Str.{IsUtf8-from_is_utf8, is_utf8-from_IsUtf8}

pub content_is_text : (bytes : List ℕ) → IsUtf8 bytes → is_utf8 bytes ≡ true
content_is_text bytes text = is_utf8-from_IsUtf8 bytes text

pub content_is_none : (bytes : List ℕ) → (IsUtf8 bytes → ⊥) → is_utf8 bytes ≡ false
content_is_none bytes none = by_test (is_utf8 bytes) refl
  where
    by_test : (b : Bool) → is_utf8 bytes ≡ b → is_utf8 bytes ≡ false
    by_test true is = absurd (none (IsUtf8-from_is_utf8 bytes is))
    by_test false is = is
