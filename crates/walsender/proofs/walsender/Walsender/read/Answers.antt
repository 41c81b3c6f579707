use Rattle.std.proofs.Common.{◌≡◌, ◌+◌, ℕ, length, sym, ap, ◌∙◌}
use Rattle.std.specs.Int.{w64}
use Rattle.std.proofs.lemmas.Int.{to_z-of_z}
use Rattle.wal.specs.Records.{shared_records}
use Rattle.walsender.specs.Serving.{next_records}
use Rattle.walsender.proofs.Serving.{feeds, length_shared, read_on}
use Rattle.walsender.proofs.walsender.Walsender.read.Goals as goal

pub returns-clause-serves : goal.returns-clause-serves
returns-clause-serves g c = λ log written max good same serving.
    let place = c.args.self.now.reader.place in
    let s = c.args.self.now.sender in
    let section_is : shared_records c.as_slice.result.now ≡ next_records max place log = ap shared_records c.as_slice.ensures.value ∙ c.in_ok-records.ensures.gives.0 ∙ same in
    let len = ap length (sym section_is) ∙ length_shared c.as_slice.result.now ∙ c.as_slice.ensures.len in
    let moved : c.fetch.new.self.place ≡ place + length (next_records max place log) = c.in_ok-records.ensures.gives.1 ∙ sym (ap (λ (n : ℕ). place + n) len) in
    let told = c.feed.ensures in
    let clocked = to_z-of_z w64 c.args.clock c.ranges.clock in
    let reads = feeds c.args.clock s c.feed.new.self (next_records max place log) c.feed.result
    (record {
      ok = rw (clocked, section_is) at told.ok;
      running = told.running;
      full = rw (clocked, section_is) at told.full;
      memory = rw (clocked, section_is) at told.memory;
      failed = told.failed;
      unchanged = told.unchanged;
      unread = told.unread;
      gap = λ is. (rw section_is at (told.gap.0 is)).1;
    }) in
    read_on log place c.fetch.new.self.place max c.args.clock written s c.feed.new.self c.feed.result good c.ranges.clock moved reads serving
