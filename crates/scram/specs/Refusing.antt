-- What can't be prepared (RFC 4013, 2.4), as PostgreSQL 15 looks at it: before it is normalized.
use Rattle.std.specs.Prelude.{ℕ, Bool, false, not, ◌&&◌, ◌||◌, ◌-◌, List, length, Option, Some, None, slice_get}
use Rattle.scram.specs.CodeSets.{has_any, is_in}

abbrev pub has : List ℕ → Option ℕ → Bool
has set None = false
has set (Some code) = is_in set code

-- what is written from right to left begins and ends so, and has nothing that is written from left to right
abbrev pub is_mixed : (right left codes : List ℕ) → Bool
is_mixed right left codes = has_any right codes && (has_any left codes || not (has right (slice_get codes 0) && has right (slice_get codes (length codes - 1))))
