-- Texts in quotes (PostgreSQL 15, 4.1.1 and 4.1.2.1): a quote that is meant stands twice, and one that stands alone closes the text.
use Rattle.std.specs.Prelude.{ℕ, ◌==◌, List, [], ◌∷◌, ◌++◌, Option, Some, None, option_map, Bool, true, false, if◌then◌else◌}
use Rattle.std.specs.Borrow.{Bor}
use Rattle.std.specs.declared.vec.Vec.{Vec}
use Rattle.std.specs.declared.alloc.Global.{Global}

abbrev pub with_doubled_quotes : ℕ → List ℕ → List ℕ
with_doubled_quotes quote [] = []
with_doubled_quotes quote (b ∷ bytes) = if b == quote then b ∷ b ∷ with_doubled_quotes quote bytes else b ∷ with_doubled_quotes quote bytes

-- a text with its quotes
abbrev pub in_quotes : ℕ → List ℕ → List ℕ
in_quotes quote text = quote ∷ (with_doubled_quotes quote text ++ quote ∷ [])

-- the text is not empty, and its first byte is one of these
abbrev pub begins : (ℕ → Bool) → List ℕ → Bool
begins is [] = false
begins is (b ∷ bytes) = is b

-- ---- reading

abbrev pub in_front : List ℕ → Option (List ℕ × List ℕ) → Option (List ℕ × List ℕ)
in_front front found = option_map (λ x. (front ++ x.0, x.1)) found

-- after the opening quote: the text up to the closing one, and what follows it; the flag says that a quote was just read
abbrev pub quoted_at : Bool → ℕ → List ℕ → Option (List ℕ × List ℕ)
quoted_at false quote [] = None
quoted_at true quote [] = Some ([], [])
quoted_at false quote (b ∷ bytes) = if b == quote then quoted_at true quote bytes else in_front (b ∷ []) (quoted_at false quote bytes)
quoted_at true quote (b ∷ bytes) = if b == quote then in_front (b ∷ []) (quoted_at false quote bytes) else Some ([], b ∷ bytes)

-- what a reader made, and the text after it that it lends
abbrev pub lent_text : Option (List ℕ × Bor (List ℕ)) → Option (List ℕ × List ℕ)
lent_text found = option_map (λ x. (x.0, x.1.now)) found

abbrev pub lent_items : Option (Vec ℕ Global × Bor (List ℕ)) → Option (List ℕ × List ℕ)
lent_items found = option_map (λ x. (x.0.items, x.1.now)) found
