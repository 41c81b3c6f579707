-- In which order the changes of a transaction come.
use Rattle.std.specs.Prelude.{ℕ, List, map}
use Rattle.std.specs.List.{range_with_len}
use Rattle.reorder.specs.Ready.{PlaceState}
use Rattle.reorder.specs.Spots.{place_of}
use Rattle.reorder.specs.declared.places.change_order.ChangeOrder.{ChangeOrder}
use Rattle.reorder.specs.declared.places.change_order.ChangeOrder.TheVariants as orders

-- the place of an xid's entry with this number
abbrev pub place_at : ℕ → ℕ → PlaceState
place_at xid place = record { xid = xid; place = place }

-- the places in an order, one after another
abbrev pub places_in : ChangeOrder → List PlaceState
places_in (orders.Whole xid count) = map (place_at xid) (range_with_len 0 count)
places_in (orders.Listed spots) = map place_of spots.items
