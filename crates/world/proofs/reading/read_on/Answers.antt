use Rattle.std.proofs.Common.{◌≡◌, ◌-◌, ℕ, length, sym, subst, ap, ◌∙◌}
use Rattle.std.specs.Prelude.{min}
use Rattle.std.specs.Int.{w64}
use Rattle.std.proofs.lemmas.Int.{to_z-of_z}
use Rattle.shared_log.specs.SeenPrefixes.{settled_records}
use Rattle.shared_log.specs.Readers.{seen_of}
use Rattle.walsender.specs.declared.walsender.Walsender.{Walsender}
use Rattle.walsender.specs.Serving.{IsServing}
use Rattle.world.proofs.Unread.{next_reads, next_serves}
use Rattle.world.proofs.reading.read_on.Goals as goal

pub returns-clause-reads : goal.returns-clause-reads
returns-clause-reads g c =
    let log = c.args.publisher.now.log in
    let old = c.args.walsender.now in
    let told = c.unread_of-unread.ensures in
    let clocked = rw (to_z-of_z w64 c.args.clock c.ranges.clock, told.place.1) at c.read.ensures.reads in
    next_reads log (settled_records c.read.new.self.reader.told) (seen_of c.read.new.self.reader) old.reader.place c.args.max c.min.result c.args.clock old.sender c.read.new.self.sender c.read.result
    (c.min.ensures ∙ ap (λ (n : ℕ). min n c.args.max) told.unread) (rw c.read.ensures.told told.told) c.read.ensures.sees clocked

pub returns-clause-serves : goal.returns-clause-serves
returns-clause-serves g c = λ written serving.
    let log = c.args.publisher.now.log in
    let old = c.args.walsender.now in
    let told = c.unread_of-unread.ensures in
    let mid : Walsender _ = record { sender = old.sender; reader = c.unread_of-unread.new.reader } in
    let N : ℕ → Type 0 = λ n. IsServing log n written old.sender in
    next_serves log (settled_records c.read.new.self.reader.told) c.args.max c.min.result written mid c.read.new.self c.read.result told.publisher.log.good
    (c.min.ensures ∙ ap (λ (n : ℕ). min n c.args.max) (told.unread ∙ ap (λ (n : ℕ). length log - n) (sym told.place.1))) (rw c.read.ensures.told told.told) c.read.ensures.sees c.read.ensures.serves c.read.ensures.unread
    (subst N (sym told.place.1) serving)
