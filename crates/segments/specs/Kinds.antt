-- Which entries tell records of the log: others tell of its slots, and whose log it is.
use Rattle.std.specs.Prelude.{ℕ, Bool, false, List, [], ◌∷◌, filter, nat_lt, not}
use Rattle.segments.specs.Entries.{Written}
use Rattle.segments.specs.declared.records.writing.TheConstants.{NOTE_TAG}

-- its first byte is the tag of no record
abbrev pub is_beside : List ℕ → Bool
is_beside [] = false
is_beside (tag ∷ bytes) = nat_lt NOTE_TAG tag

abbrev pub records_in : List Written → List Written
records_in es = filter (λ e. not (is_beside e.body)) es
