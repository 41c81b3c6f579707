-- The xids of a transaction, however few they are.
use Rattle.std.specs.Prelude.{ℕ, List}
use Rattle.reorder.specs.declared.places.members.Xids.{Xids}
use Rattle.reorder.specs.declared.places.members.Xids.TheVariants as xids

-- the transaction's own first
abbrev pub xids_in : Xids → List ℕ
xids_in (xids.One own) = own
xids_in (xids.Several more) = more.items
