use Rattle.std.proofs.Common.{◌≡◌, ◌<◌, Some, length, refl, sym, ap, ◌∙◌, subst, arith}
use Rattle.std.specs.Prelude.{slice_get}
use Rattle.std.proofs.lemmas.List.{length-map}
use Rattle.std.proofs.lemmas.Option.{slice_get_read}
use Rattle.reorder.specs.Orders.{places_in}
use Rattle.reorder.specs.Spots.{place_of}
use Rattle.reorder.proofs.Spotting.{listed_place, whole_place}
use Rattle.reorder.proofs.places.change_order.ChangeOrder.place.Goals as goal

pub returns-in-Whole : goal.returns-in-Whole
returns-in-Whole c =
    let lt = subst (λ o. c.args.k < length (places_in o)) c.in-Whole.is c.requires in
    rw c.in-Whole.is (whole_place c.in-Whole.xid c.in-Whole.count c.args.k lt)

pub returns-in-Listed : goal.returns-in-Listed
returns-in-Listed c =
    let spots = c.in-Listed.spots.items in
    let lt = subst (λ o. c.args.k < length (places_in o)) c.in-Listed.is c.requires in
    let low : c.args.k < length spots = omega (arith, lt, length-map spots place_of) in
    let found : slice_get spots c.args.k ≡ Some c.index-spot.result.now = slice_get_read spots (length spots) c.args.k c.index-spot.result.now refl low c.index-spot.ensures in
    rw c.in-Listed.is (listed_place spots c.args.k c.index-spot.result.now found ∙ ap (λ s. Some (place_of s)) (sym c.spot.view_is))
