-- Worked streams by which the definitions were checked: one transaction with one insert, and what is out of order.
use Rattle.std.specs.Prelude.{◌≡◌, ℕ, pos, negsuc, codes, Bool, true, false, List, [], ◌∷◌, None, Result, Ok, Err, refl}
use Rattle.pgoutput.specs.declared.logical.Logical.{Logical}
use Rattle.pgoutput.specs.declared.logical.Logical.TheVariants as logical
use Rattle.pgoutput.specs.declared.messages.relation.Relation.{Relation}
use Rattle.pgoutput.specs.declared.messages.relation.Identity.TheVariants as identities
use Rattle.pgoutput.specs.declared.parts.tuple.Cell.TheVariants as cells
use Rattle.pgoutput.specs.declared.copy_both_message.CopyBothMessage.{CopyBothMessage}
use Rattle.pgoutput.specs.declared.published.Published.{Published}
use Rattle.pgoutput.specs.Items.{Item, KeepaliveItem, Block, xlogdata_word, keepalive_word, begin_message, commit_message, words_of}
use Rattle.client.specs.declared.fault.ClientFault.{ClientFault}
use Rattle.client.specs.declared.fault.ClientFault.TheVariants.{CommitEnd, Order, UnknownRelation}
use Rattle.client.specs.Subscriber.{Subscriber, subscriber_at_rest, after_words}
use Rattle.client.specs.Law.{position_after, gained_transactions}

-- public.item: id int4, the key; name text; qty int8
abbrev item : ℕ → Relation
item oid = record {
  oid = oid;
  namespace = codes "public";
  name = codes "item";
  identity = identities.Default;
  columns = record { is_key = true; name = codes "id"; kind = 23; modifier = negsuc 0 }
      ∷ record { is_key = false; name = codes "name"; kind = 25; modifier = negsuc 0 }
      ∷ record { is_key = false; name = codes "qty"; kind = 20; modifier = negsuc 0 } ∷ [];
}

abbrev insert : Logical
insert = logical.Insert (record { oid = 16384; new = cells.Text (codes "1") ∷ cells.Text (codes "ab") ∷ cells.Text (codes "7") ∷ [] })

abbrev transaction : Published
transaction = record { is_note = false; start = 0x1000030; end = 0x1000050; time = pos 5; xid = 700; changes = record { position = 0x1000000; message = insert } ∷ [] }

abbrev block : Item
block = Block (pos 9) transaction

abbrev keepalive : ℕ → Item
keepalive position = KeepaliveItem (record { position = position; clock = pos 9; ask = false })

abbrev sent : List Item → List CopyBothMessage
sent items = words_of item [] items

abbrev applied : Subscriber → List CopyBothMessage → Result Subscriber ClientFault
applied = after_words

-- applied once, and once more it is not
once : applied (subscriber_at_rest 0 []) (sent (block ∷ block ∷ [])) ≡ Ok (record { position = 0x1000050; applied = transaction ∷ []; tables = (16384, 3) ∷ []; half = None })
once = refl

once_by_law : gained_transactions 0 (block ∷ block ∷ []) ≡ transaction ∷ []
once_by_law = refl

-- at its commit record's own position it is applied, and one after it is not
at_its_position : gained_transactions 0 (keepalive 0x1000030 ∷ block ∷ []) ≡ transaction ∷ []
at_its_position = refl

after_its_position : gained_transactions 0 (keepalive 0x1000031 ∷ block ∷ []) ≡ []
after_its_position = refl

never_back : position_after 0 (keepalive 0x1000100 ∷ block ∷ keepalive 0x1000000 ∷ []) ≡ 0x1000100
never_back = refl

-- a keepalive inside a transaction moves nothing
inside : applied (subscriber_at_rest 0 []) (xlogdata_word 0x1000030 (pos 9) (begin_message transaction) ∷ keepalive_word 0x1000100 (pos 9) false ∷ xlogdata_word 0x1000050 (pos 9) (commit_message transaction) ∷ [])
    ≡ Ok (record { position = 0x1000050; applied = record transaction { changes = [] } ∷ []; tables = []; half = None })
inside = refl

-- ---- notes

abbrev note : Published
note = record {
  is_note = true;
  start = 0x1000050;
  end = 0x1000070;
  time = pos 0;
  xid = 0;
  changes = record { position = 0x1000050; message = logical.Message (record { is_transactional = false; position = 0x1000050; prefix = codes "q"; content = codes "c" }) } ∷ [];
}

abbrev note_block : Item
note_block = Block (pos 9) note

-- applied once, by the position at which it starts
note_once : applied (subscriber_at_rest 0 []) (sent (block ∷ note_block ∷ note_block ∷ [])) ≡ Ok (record { position = 0x1000070; applied = transaction ∷ note ∷ []; tables = (16384, 3) ∷ []; half = None })
note_once = refl

note_at_its_position : gained_transactions 0x1000050 (note_block ∷ []) ≡ note ∷ []
note_at_its_position = refl

note_below_the_position : gained_transactions 0x1000051 (note_block ∷ []) ≡ []
note_below_the_position = refl

abbrev message : Bool → Logical
message is_transactional = logical.Message (record { is_transactional = is_transactional; position = 0x1000000; prefix = codes "p"; content = codes "ab" })

abbrev begun_with : Logical → List CopyBothMessage
begun_with m = xlogdata_word 0x1000030 (pos 9) (begin_message transaction) ∷ xlogdata_word 0x1000000 (pos 9) m ∷ xlogdata_word 0x1000050 (pos 9) (commit_message transaction) ∷ []

message_within : applied (subscriber_at_rest 0 []) (begun_with (message true))
    ≡ Ok (record { position = 0x1000050; applied = record transaction { changes = record { position = 0x1000000; message = message true } ∷ [] } ∷ []; tables = []; half = None })
message_within = refl

note_within : applied (subscriber_at_rest 0 []) (begun_with (message false)) ≡ Err Order
note_within = refl

message_alone : applied (subscriber_at_rest 0 []) (xlogdata_word 0x1000050 (pos 9) (message true) ∷ []) ≡ Err Order
message_alone = refl

-- ---- out of order

begin_twice : applied (subscriber_at_rest 0 []) (xlogdata_word 0 (pos 9) (begin_message transaction) ∷ xlogdata_word 0 (pos 9) (begin_message transaction) ∷ []) ≡ Err Order
begin_twice = refl

commit_alone : applied (subscriber_at_rest 0 []) (xlogdata_word 0 (pos 9) (commit_message transaction) ∷ []) ≡ Err Order
commit_alone = refl

insert_alone : applied (subscriber_at_rest 0 []) (xlogdata_word 0 (pos 9) insert ∷ []) ≡ Err Order
insert_alone = refl

never_told : applied (subscriber_at_rest 0 []) (xlogdata_word 0 (pos 9) (begin_message transaction) ∷ xlogdata_word 0 (pos 9) insert ∷ []) ≡ Err UnknownRelation
never_told = refl

too_short : applied (subscriber_at_rest 0 []) (xlogdata_word 0 (pos 9) (begin_message transaction) ∷ xlogdata_word 0 (pos 9) (logical.Relation (item 16384)) ∷ xlogdata_word 0 (pos 9) (logical.Insert (record { oid = 16384; new = [] })) ∷ []) ≡ Err Order
too_short = refl

another_commit : applied (subscriber_at_rest 0 []) (xlogdata_word 0 (pos 9) (begin_message transaction) ∷ xlogdata_word 0 (pos 9) (logical.Commit (record { position = 0x1000031; end = 0x1000050; time = pos 5 })) ∷ []) ≡ Err Order
another_commit = refl

-- ---- a commit that doesn't end past its start, applied before or not

abbrev ending_at : ℕ → List CopyBothMessage
ending_at end = xlogdata_word 0 (pos 9) (begin_message transaction) ∷ xlogdata_word 0 (pos 9) (logical.Commit (record { position = 0x1000030; end = end; time = pos 5 })) ∷ []

ends_below : applied (subscriber_at_rest 0 []) (ending_at 0) ≡ Err CommitEnd
ends_below = refl

ends_where_it_starts : applied (subscriber_at_rest 0 []) (ending_at 0x1000030) ≡ Err CommitEnd
ends_where_it_starts = refl

ends_past : applied (subscriber_at_rest 0 []) (ending_at 0x1000031) ≡ Ok (record { position = 0x1000031; applied = record transaction { end = 0x1000031; changes = [] } ∷ []; tables = []; half = None })
ends_past = refl

skipped_ends_below : applied (subscriber_at_rest 0x1000050 []) (ending_at 0) ≡ Err CommitEnd
skipped_ends_below = refl
