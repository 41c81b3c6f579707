-- Where the transactions in progress began to write.
use Rattle.std.specs.Prelude.{◌≡◌, ℕ, suc, ◌==◌, Bool, true, false, ◌&&◌, ◌||◌, not, List, [], ◌∷◌, ◌++◌, filter, Option, Some, None, if◌then◌else◌}
use Rattle.std.specs.List.{list_any}
use Rattle.wal.specs.declared.record.Record.{Record}
use Rattle.wal.specs.declared.record.Body.{Body}
use Rattle.wal.specs.declared.record.Body.TheVariants.{Abort, Commit}
use Rattle.wal.specs.Log.{is_note, top_of, xid_in}
use Rattle.wal.specs.Restart.{is_in_progress}
use Rattle.shared_log.specs.declared.appending.openings.Opening.{Opening}

-- the place of the first record that passes, counted from a number on
abbrev pub found_from : ℕ → (Record → Bool) → List Record → Option ℕ
found_from at test [] = None
found_from at test (r ∷ rs) = if test r then Some at else found_from (suc at) test rs

-- the place of the first of those whose transaction passes
abbrev pub place_where : (ℕ → Bool) → List Opening → Option ℕ
place_where p [] = None
place_where p (o ∷ os) = if p o.xid then Some o.place else place_where p os

-- These are the transactions in progress that have a record, in the order of their first ones, each with its place: whichever
-- of them one asks for, the first record of one of those is found by these.
abbrev pub AreOpenings : List Record → List Opening → Type 0
AreOpenings log os = (p : ℕ → Bool) → found_from 0 (λ r. is_in_progress log r && p (top_of log (xid_in r.body))) log ≡ place_where p os

-- whether the record ends its transaction
abbrev pub is_end : Body → Bool
is_end (Abort xid) = true
is_end (Commit xid time) = true
is_end _ = false

-- the transaction of the last record of a log; a note is of none
abbrev pub owner_of : List Record → Record → Option ℕ
owner_of log r = if is_note r.body then None else Some (top_of log (xid_in r.body))

-- what one more record of this transaction leaves, or of none
abbrev pub openings_after : Option ℕ → Bool → ℕ → List Opening → List Opening
openings_after None ends place os = os
openings_after (Some top) ends place os =
    if ends then filter (λ o. not (o.xid == top)) os
    else if list_any (λ o. o.xid == top) os then os
    else os ++ record { xid = top; place = place } ∷ []

abbrev pub place_or : ℕ → Option ℕ → ℕ
place_or other None = other
place_or other (Some place) = place

-- the place of the oldest after that record
abbrev pub restart_after : Option ℕ → Bool → ℕ → List Opening → ℕ
restart_after None ends place os = place_or (suc place) (place_where (λ x. true) os)
restart_after (Some top) ends place os = place_or (if ends then suc place else place) (place_where (λ x. not ends || not (x == top)) os)
