-- What a run finds in an output: whole transactions and notes, and after them maybe the beginning of one more.
use Rattle.std.specs.Prelude.{◌≡◌, ℕ, ◌+◌, ◌<◌, Bool, true, false, List, [], ◌∷◌, ◌++◌, Some, None}
use Rattle.std.specs.List.{AllByRecursion}
use Rattle.pgoutput.specs.declared.published.Published.{Published}
use Rattle.follower.specs.declared.resume_point.ResumePoint.{ResumePoint}
use Rattle.follower.specs.declared.printing.line.Line.{Line}
use Rattle.follower.specs.Lives.{place_after}

-- the first line of one, or what is there of it
abbrev pub IsFirst : Line → Type 0
IsFirst line = (line.begins ≡ true) × (line.end ≡ None) × (0 < line.length)

-- a line within a transaction, or what is there of one
abbrev pub IsWithin : Line → Type 0
IsWithin line = (line.is_note ≡ false) × (line.end ≡ None)

-- the lines of a transaction that ends there
pub record TellsTransaction (place : ℕ) (lines : List Line) : Type 0 where
  pub first : Line
  pub within : List Line
  pub last : Line
  pub are : lines ≡ first ∷ (within ++ last ∷ [])
  pub begins : IsFirst first
  pub goes_on : AllByRecursion IsWithin within
  pub ends : last.end ≡ Some place
  pub is_none : last.is_note ≡ false

-- the line of a note after which a run goes on there
pub record TellsNote (place : ℕ) (lines : List Line) : Type 0 where
  pub line : Line
  pub are : lines ≡ line ∷ []
  pub begins : line.begins ≡ true
  pub ends : line.end ≡ Some place

abbrev pub TellsOne : (is_note : Bool) → ℕ → List Line → Type 0
TellsOne true place lines = TellsNote place lines
TellsOne false place lines = TellsTransaction place lines

-- the lines of these, one after the other
abbrev pub TellAll : List Published → List Line → Type 0
TellAll [] lines = lines ≡ []
TellAll (t ∷ ts) lines = (own : List Line) × (others : List Line) × (lines ≡ own ++ others) × TellsOne t.is_note (place_after t) own × TellAll ts others

-- what is there of one more
abbrev pub BeginsOne : List Line → Type 0
BeginsOne [] = Unit {0}
BeginsOne (line ∷ lines) = IsFirst line × AllByRecursion IsWithin lines

abbrev pub bytes_in : List Line → ℕ
bytes_in [] = 0
bytes_in (line ∷ lines) = line.length + bytes_in lines

abbrev pub nothing_kept : ResumePoint
nothing_kept = record { length = 0; transactions = 0; changes = 0; position = 0; rest = 0; rest_changes = 0; is_foreign = false }

-- A run goes on there, after so many bytes. So many others are cut off.
pub record Finds (place kept rest : ℕ) (k : ResumePoint) : Type 0 where
  pub position : k.position ≡ place
  pub length : k.length ≡ kept
  pub behind : k.rest ≡ rest
  pub own : k.is_foreign ≡ false
