use Rattle.std.proofs.Common.{[], get_or, arith}
use Rattle.chgarena.proofs.Appending.{added, low_seen, room_seen}
use Rattle.chgarena.proofs.Coding.{taken_is}
use Rattle.chgarena.proofs.pages.Pages.append.Goals as goal

pub overflow_mul-count : goal.overflow_mul-count
overflow_mul-count c = record { fits = omega (arith, c.count-count.ensures, taken_is (get_or c.args.self.now c.args.chunk []), c.requires.room) }

pub overflow_sub-used-2 : goal.overflow_sub-used-2
overflow_sub-used-2 c = omega (arith, c.count-count.ensures, c.left-used.ensures, taken_is (get_or c.args.self.now c.args.chunk []))

pub write_entry-requires-clause-chunk : goal.write_entry-requires-clause-chunk
write_entry-requires-clause-chunk c =
    let i = c.self.inside in
    let low = low_seen i.region i.used.items i.counts.items c.self.invariant c.args.self.now c.self.view_is c.args.chunk c.requires.chunk in
    (omega (arith, low, c.self.invariant.few), room_seen i.region i.used.items i.counts.items c.self.invariant c.args.self.now c.self.view_is c.args.chunk c.requires.chunk)

pub write_entry-requires-clause-room : goal.write_entry-requires-clause-room
write_entry-requires-clause-room c = omega (arith, c.count-count.ensures, c.left-used.ensures, taken_is (get_or c.args.self.now c.args.chunk []), c.requires.room)

pub overflow_add-count : goal.overflow_add-count
overflow_add-count c = record { fits = omega (arith, c.count-count.ensures, taken_is (get_or c.args.self.now c.args.chunk []), c.requires.room) }

pub index_mut-requires : goal.index_mut-requires
index_mut-requires c =
    let i = c.self.inside in
    omega (arith, low_seen i.region i.used.items i.counts.items c.self.invariant c.args.self.now c.self.view_is c.args.chunk c.requires.chunk, i.used.ok)

pub index_mut-requires-2 : goal.index_mut-requires-2
index_mut-requires-2 c =
    let i = c.self.inside in
    omega (arith, low_seen i.region i.used.items i.counts.items c.self.invariant c.args.self.now c.self.view_is c.args.chunk c.requires.chunk, c.self.invariant.counted, i.counts.ok)

pub invariant_of-self : goal.invariant_of-self
invariant_of-self c =
    let i = c.self.inside in
    (added i.region c.write_entry.new.region i.used.items i.counts.items c.self.invariant c.args.self.now c.self.view_is c.args.chunk c.requires.chunk c.args.entry.now _ c.count-count.result
    (omega (arith, c.left-used.ensures)) c.count-count.ensures c.requires.room c.write_entry.ensures).0

pub returns : goal.returns
returns c =
    let i = c.self.inside in
    (added i.region c.write_entry.new.region i.used.items i.counts.items c.self.invariant c.args.self.now c.self.view_is c.args.chunk c.requires.chunk c.args.entry.now _ c.count-count.result
    (omega (arith, c.left-used.ensures)) c.count-count.ensures c.requires.room c.write_entry.ensures).1
