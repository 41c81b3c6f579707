-- A line of JSON (RFC 8259): the text of a value, without blanks, and a line end.
use Rattle.std.specs.Prelude.{ℕ, List, [], ◌∷◌, ◌++◌}
use Rattle.json.specs.Json.{Json}
use Rattle.json.specs.Print.{print}
use Rattle.json.specs.Tree.{json_tokens}

-- the one text that is written of a value
abbrev pub text_of : Json → List ℕ
text_of j = print (json_tokens j)

abbrev pub line_of : Json → List ℕ
line_of j = text_of j ++ 10 ∷ []
