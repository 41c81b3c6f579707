-- Whether a text is a number of JSON.
use Rattle.std.proofs.Common.{◌≡◌, ℕ, Bool, true, false, List, [], ◌∷◌, Option, Some, None, refl}
use Rattle.std.specs.Prelude.{IsTrue, ◌↔◌}
use Rattle.json.specs.Word.{after_number}
use Rattle.json.specs.Print.{IsNumber}
use Rattle.message_lines.specs.Values.{is_end, is_numeral}

by_rest : (o : Option (List ℕ)) (b : Bool) → (IsTrue b ↔ (o ≡ Some [])) → b ≡ is_end o
by_rest None true told = absurd (let no = told.0 refl in cc)
by_rest None false told = refl
by_rest (Some []) true told = refl
by_rest (Some []) false told = told.1 refl
by_rest (Some (b ∷ bytes)) true told = absurd (let no = told.0 refl in cc)
by_rest (Some (b ∷ bytes)) false told = refl

pub numeral_tested : (text : List ℕ) (b : Bool) → (IsTrue b ↔ IsNumber text) → b ≡ is_numeral text
numeral_tested text b told = by_rest (after_number text) b told

end_is : (o : Option (List ℕ)) → is_end o ≡ true → o ≡ Some []
end_is None is = absurd cc
end_is (Some []) is = refl
end_is (Some (b ∷ bytes)) is = absurd cc

pub numeral_is : (text : List ℕ) → is_numeral text ≡ true → IsNumber text
numeral_is text is = end_is (after_number text) is
