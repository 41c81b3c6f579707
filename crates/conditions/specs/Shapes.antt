-- What the values of the code stand for. No reader of the promise needs these.
use Rattle.std.specs.Prelude.{ℕ, ◌==◌, List, [], ◌∷◌, ◌++◌, if◌then◌else◌}
use Rattle.std.specs.List.{list_any}
use Rattle.conditions.specs.declared.expression.Expression.{Expression}
use Rattle.conditions.specs.declared.expression.Expression.TheVariants as expressions
use Rattle.conditions.specs.declared.values.operand.Operand.{Operand}
use Rattle.conditions.specs.declared.values.operand.Operand.TheVariants as operands
use Rattle.conditions.specs.declared.literal.Literal.{Literal as Written}
use Rattle.conditions.specs.declared.literal.Literal.TheVariants as literals
use Rattle.conditions.specs.Conditions.{Datum, Missing, Flag, Number, Bytes, Uuid, Condition, Column, Literal, Compare, Is, Not, And, Or}

-- the value of a literal
abbrev pub literal_datum : Written → Datum
literal_datum literals.Null = Missing
literal_datum (literals.Bool b) = Flag b
literal_datum (literals.Number n) = Number n
literal_datum (literals.Text bytes) = Bytes bytes

-- the tree of an expression, without its boxes
abbrev pub shape : Expression → Condition
shape (expressions.Column place) = Column place
shape (expressions.Literal value) = Literal (literal_datum value)
shape (expressions.Compare' how p a q b) = Compare how (shape a) (shape b)
shape (expressions.Is' question negated p a) = Is question negated (shape a)
shape (expressions.Not' p a) = Not (shape a)
shape (expressions.And' p a q b) = And (shape a) (shape b)
shape (expressions.Or' p a q b) = Or (shape a) (shape b)

-- the value of an operand, whose text is lent
abbrev pub datum_of_operand : Operand → Datum
datum_of_operand operands.Null = Missing
datum_of_operand (operands.Bool b) = Flag b
datum_of_operand (operands.Number n) = Number n
datum_of_operand (operands.Text text) = Bytes text.now
datum_of_operand (operands.Uuid n) = Uuid n

-- a place after others, unless it is there
abbrev pub with_place : ℕ → List ℕ → List ℕ
with_place place places = if list_any (λ p. p == place) places then places else places ++ place ∷ []

-- the places that a condition names, in the order of its text, after others
abbrev pub with_places_of : Condition → List ℕ → List ℕ
with_places_of (Column place) places = with_place place places
with_places_of (Literal value) places = places
with_places_of (Compare how a b) places = with_places_of b (with_places_of a places)
with_places_of (Is question negated a) places = with_places_of a places
with_places_of (Not a) places = with_places_of a places
with_places_of (And a b) places = with_places_of b (with_places_of a places)
with_places_of (Or a b) places = with_places_of b (with_places_of a places)
