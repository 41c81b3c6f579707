-- Where the changes of a transaction lie, with their positions.
use Rattle.std.specs.Prelude.{◌≡◌, ℕ, ◌+◌, List, [], ◌∷◌}
use Rattle.reorder.specs.Entries.{position_in}
use Rattle.reorder.specs.Pool.{PoolState}
use Rattle.reorder.specs.Ready.{IsPlace, PlaceState, bytes_at}

-- where a change lies: its position in the log, its xid, and its place among the entries of that xid
pub record SpotState : Type 0 where
  pub position : ℕ
  pub xid : ℕ
  pub place : ℕ

abbrev pub place_of : SpotState → PlaceState
place_of spot = record { xid = spot.xid; place = spot.place }

-- an entry of this position lies there
abbrev pub IsSpot : PoolState → SpotState → Type 0
IsSpot pool spot = IsPlace pool (place_of spot) × (spot.position ≡ position_in (bytes_at pool (place_of spot)))

-- the spots of entries of an xid, the first of which has this place
abbrev pub spots_from : ℕ → ℕ → List (List ℕ) → List SpotState
spots_from xid place [] = []
spots_from xid place (entry ∷ entries) = record { position = position_in entry; xid = xid; place = place } ∷ spots_from xid (place + 1) entries
