-- Arrays of names fit a row.
use Rattle.std.proofs.Common.{ℕ, ◌+◌, ◌*◌, ◌^◌, ◌≤◌, Bool, true, false, cond, List, [], ◌∷◌, ◌++◌, length, ap, arith}
use Rattle.std.specs.List.{flat_map, AllByRecursion}
use Rattle.std.proofs.lemmas.List.{length-append}
use Rattle.std.proofs.lemmas.List.Concat.{flat_map-cons}
use Rattle.server.specs.Arrays.{array_text, element, escaped_byte, further_element, is_escaped, needs_quotes}

byte_short : (b : ℕ) → length (escaped_byte b) ≤ 2
byte_short b = by_test (is_escaped b)
  where
    by_test : (t : Bool) → length (cond t (92 ∷ b ∷ []) (b ∷ [])) ≤ 2
    by_test true = omega arith
    by_test false = omega arith

escaped_short : (text : List ℕ) → length (flat_map escaped_byte text) ≤ 2 * length text
escaped_short [] = omega arith
escaped_short (b ∷ text) = omega (arith, byte_short b, escaped_short text, length-append (escaped_byte b) (flat_map escaped_byte text), ap length (flat_map-cons escaped_byte b text))

element_short : (text : List ℕ) → length (element text) ≤ 2 * length text + 2
element_short text = by_test (needs_quotes text)
  where
    by_test : (t : Bool) → length (cond t (34 ∷ (flat_map escaped_byte text ++ (34 ∷ []))) text) ≤ 2 * length text + 2
    by_test true = omega (arith, escaped_short text, length-append (flat_map escaped_byte text) (34 ∷ []))
    by_test false = omega arith

others_short : (texts : List (List ℕ)) → AllByRecursion (λ text. length text ≤ 63) texts → length (flat_map further_element texts) ≤ 129 * length texts
others_short [] short = omega arith
others_short (text ∷ texts) short =
    omega (arith, short.0, element_short text, others_short texts short.1, length-append (further_element text) (flat_map further_element texts), ap length (flat_map-cons further_element text texts))

pub array_short : (texts : List (List ℕ)) → length texts ≤ 64 → AllByRecursion (λ text. length text ≤ 63) texts → length (array_text texts) ≤ 2 ^ 16
unfolding array_text
array_short [] few short = omega arith
array_short (text ∷ texts) few short =
    omega (arith, short.0, element_short text, others_short texts short.1, length-append (element text) (flat_map further_element texts ++ (125 ∷ [])), length-append (flat_map further_element texts) (125 ∷ []))
