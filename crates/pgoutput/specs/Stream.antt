-- A stream encoding of a list of published transactions and notes: blocks of exactly those, in order, and keepalives before,
-- between and after them. Only the keepalives and the clocks are free.
use Rattle.std.specs.Prelude.{◌≡◌, ℕ, ◌≤◌, List, [], ◌∷◌}
use Rattle.std.specs.List.{AllByRecursion}
use Rattle.pgoutput.specs.declared.messages.relation.Relation.{Relation}
use Rattle.pgoutput.specs.declared.published.Published.{Published}
use Rattle.pgoutput.specs.Items.{Item, KeepaliveItem, bytes_of_items, transactions_of, FitItems}

-- Safe keepalives. Each one carries a number that is at most the limit, the end of what was read of the log; and every
-- transaction whose commit record starts below that number stands whole before the keepalive. Told from the end: no
-- transaction that stands after the keepalive starts below its number.
abbrev pub AreSafeKeepalives : ℕ → List Item → Type 0
AreSafeKeepalives limit [] = Unit {0}
AreSafeKeepalives limit (KeepaliveItem k ∷ items) = (k.position ≤ limit) × AllByRecursion (λ t. k.position ≤ t.start) (transactions_of items) × AreSafeKeepalives limit items
AreSafeKeepalives limit (_ ∷ items) = AreSafeKeepalives limit items

pub record IsStream (relation : ℕ → Relation) (bytes : List ℕ) (transactions : List Published) (limit : ℕ) : Type 0 where
  pub items : List Item
  pub fits : FitItems relation items
  pub spells : bytes ≡ bytes_of_items relation [] items
  pub sends : transactions_of items ≡ transactions
  pub safe : AreSafeKeepalives limit items
