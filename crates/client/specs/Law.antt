-- What a stream makes of a subscriber: from each beginning of it, in any cuts, the transactions that stand whole there.
use Rattle.std.specs.Prelude.{◌≡◌, ℕ, ◌<◌, false, List, [], ◌∷◌, ◌++◌, length, max, nat_le, Result, Ok, Err, if◌then◌else◌}
use Rattle.std.specs.List.{AllByRecursion}
use Rattle.pgoutput.specs.declared.messages.relation.Relation.{Relation}
use Rattle.pgoutput.specs.declared.published.Published.{Published}
use Rattle.pgoutput.specs.Words.{frames_of}
use Rattle.pgoutput.specs.Items.{Item, KeepaliveItem, Block, bytes_of_items, item_words, relations_sent_after, transactions_of, FitItems}
use Rattle.client.specs.declared.fault.ClientFault.{ClientFault}
use Rattle.client.specs.declared.fault.ClientFault.TheVariants.{Memory}
use Rattle.client.specs.Subscriber.{Subscriber, subscriber_at_rest}
use Rattle.client.specs.Taking.{ApplierState, HasTaken}

-- a transaction's end lies past where its commit record starts
abbrev pub IsForward : Published → Type 0
IsForward t = t.is_note ≡ false → t.start < t.end

abbrev pub AreForward : List Item → Type 0
AreForward items = AllByRecursion IsForward (transactions_of items)

-- the position after these items: the greatest of the old one, the ends of the blocks and the numbers of the keepalives
abbrev pub position_after : ℕ → List Item → ℕ
position_after p [] = p
position_after p (KeepaliveItem k ∷ items) = position_after (max p k.position) items
position_after p (Block clock t ∷ items) = position_after (max p t.end) items

-- the transactions and notes of these items whose record doesn't start below the position that stood before the block
abbrev pub gained_transactions : ℕ → List Item → List Published
gained_transactions p [] = []
gained_transactions p (KeepaliveItem k ∷ items) = gained_transactions (max p k.position) items
gained_transactions p (Block clock t ∷ items) = (if nat_le p t.start then t ∷ [] else []) ++ gained_transactions (max p t.end) items

-- the Relations that were sent with these items
abbrev pub relations_sent_with : List ℕ → List Item → List ℕ
relations_sent_with relations_sent [] = relations_sent
relations_sent_with relations_sent (item ∷ items) = relations_sent_with (relations_sent_after relations_sent item) items

-- the next item isn't there whole; after the last nothing is there
abbrev pub IsLess : (ℕ → Relation) → List ℕ → List ℕ → List Item → Type 0
IsLess relation relations_sent part [] = part ≡ []
IsLess relation relations_sent part (item ∷ items) = length part < length (frames_of (item_words relation relations_sent item))

-- Of the items, the first stand whole in the bytes, and part of the others, and these are what the subscriber gained.
pub record Gained (relation : ℕ → Relation) (base : Subscriber) (bytes : List ℕ) (items : List Item) (new : Subscriber) : Type 0 where
  pub done : List Item
  pub others : List Item
  pub part : List ℕ
  pub is : items ≡ done ++ others
  pub text : bytes ≡ bytes_of_items relation [] done ++ part
  pub position : new.position ≡ position_after base.position done
  pub applied : new.applied ≡ base.applied ++ gained_transactions base.position done

-- exactly those that stand whole
pub record GainedAll (relation : ℕ → Relation) (base : Subscriber) (bytes : List ℕ) (items : List Item) (new : Subscriber) : Type 0 where
  pub gains : Gained relation base bytes items new
  pub all : IsLess relation (relations_sent_with [] gains.done) gains.part gains.others

-- Ok, with all that stands whole in the bytes; or want of memory, with what was taken before it
abbrev pub Ends : (ℕ → Relation) → Subscriber → ApplierState → List ℕ → List Item → Result (Unit {0}) ClientFault → Type 0
Ends relation base a bytes items (Ok u) = HasTaken base a bytes × GainedAll relation base bytes items a.subscriber
Ends relation base a bytes items (Err e) = (e ≡ Memory) × Gained relation base bytes items a.subscriber

-- A subscriber has connected at `base` and taken some bytes. Where these and those that come begin a stream whose transactions
-- end past their starts, nothing but want of memory refuses them, and all that stands whole in them has been gained.
abbrev pub Follows : ApplierState → ApplierState → List ℕ → Result (Unit {0}) ClientFault → Type 0
Follows old new bytes result =
    (relation : ℕ → Relation) (base : Subscriber) (before more : List ℕ) (items : List Item)
    → base ≡ subscriber_at_rest base.position base.applied → HasTaken base old before
    → FitItems relation items → AreForward items → (before ++ bytes) ++ more ≡ bytes_of_items relation [] items
    → Ends relation base new (before ++ bytes) items result
