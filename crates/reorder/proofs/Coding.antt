-- Entries of an arena are written and read.
use Rattle.std.proofs.Common.{◌≡◌, ◌≤◌, ◌<◌, ◌^◌, ◌+◌, ◌++◌, ℕ, List, length, refl, sym, ap, subst, ◌∙◌, arith, length-append}
use Rattle.std.specs.Int.{w64, from_be_bytes, to_be_bytes}
use Rattle.std.proofs.lemmas.List.{take_at, drop_at}
use Rattle.std.proofs.lemmas.Nat.{from_be_bytes-to_be_bytes_8}
use Rattle.pqformat.specs.Fields.{int64}
use Rattle.pqformat.proofs.Numbers.{length-int64}
use Rattle.tables.specs.declared.changes.change.Change.{Change}
use Rattle.tables.specs.Spelling.{IsShort, spell_body, body_length}
use Rattle.tables.specs.Reading.{IsCoded, SpellsBody, body_at}
use Rattle.tables.proofs.ChangeBodies.{body_again}
use Rattle.tables.proofs.Lengths.{body_bounded}
use Rattle.wal.specs.declared.record.Record.{Record}
use Rattle.wal.specs.declared.record.Body.TheVariants.{Change as Changed}
use Rattle.reorder.specs.Kept.{kept_entry}
use Rattle.reorder.specs.Entries.{IsEntry, coded_entry, entry_in, position_in, body_in, decoded_change}

pub entry_length : (position : ℕ) (change : Change) → length (coded_entry position change) ≡ 8 + body_length change
entry_length position change = omega (arith, length-append (int64 position) (spell_body change), length-int64 position)

pub entry_fits : (position : ℕ) (change : Change) → IsShort change → length (coded_entry position change) ≤ 16380
entry_fits position change short = omega (arith, entry_length position change, body_bounded change short)

pub body_fits : (position : ℕ) (body : List ℕ) (change : Change) → IsShort change → SpellsBody body change → length (to_be_bytes w64 position ++ body) ≤ 16380
unfolding int64
body_fits position body change short spells = rw spells.text (entry_fits position change short)

pub body_of : (position : ℕ) (change : Change) → body_in (coded_entry position change) ≡ spell_body change
body_of position change = drop_at (int64 position) (spell_body change) 8 (length-int64 position)

unsigned_again : (n : ℕ) → n < 2 ^ 64 → from_be_bytes w64 (int64 n) ≡ n
unfolding int64
unsigned_again n fits = from_be_bytes-to_be_bytes_8 n fits

pub position_of : (position : ℕ) (change : Change) → position < 2 ^ 64 → position_in (coded_entry position change) ≡ position
position_of position change fits = ap (from_be_bytes w64) (take_at (int64 position) (spell_body change) 8 (length-int64 position)) ∙ unsigned_again position fits

-- what was written is read
pub entry_again : (xid position : ℕ) (change : Change) → position < 2 ^ 64 → IsCoded change → entry_in xid (coded_entry position change) ≡ record { position = position; xid = xid; change = change }
entry_again xid position change fits coded =
    let spells : SpellsBody (spell_body change) change = record { in_range = coded; text = refl } in
    rw (position_of position change fits, body_of position change, body_again (spell_body change) change spells) refl

pub long_entry : (bytes : List ℕ) → IsEntry bytes → 8 ≤ length bytes
long_entry bytes e = omega (arith, ap length e.is, entry_length e.position e.change)

-- of a record
pub kept_again : (r : Record) (xid : ℕ) (change : Change) → r.body ≡ Changed xid change → r.start < 2 ^ 64 → IsCoded change → entry_in xid (coded_entry r.start change) ≡ kept_entry r
kept_again r xid change body fits coded = entry_again xid r.start change fits coded ∙ rw body refl

-- what an entry's body is read as
pub body_spells : (bytes : List ℕ) → IsEntry bytes → SpellsBody (body_in bytes) (decoded_change (body_at (body_in bytes)))
body_spells bytes e =
    let text : body_in bytes ≡ spell_body e.change = ap body_in e.is ∙ body_of e.position e.change in
    let spells : SpellsBody (body_in bytes) e.change = record { in_range = e.coded; text = text } in
    subst (λ (c : Change). SpellsBody (body_in bytes) c) (sym (ap decoded_change (body_again (body_in bytes) e.change spells))) spells
