use Rattle.std.proofs.Common.{◌≡◌, ◌<◌, ◌++◌, List, ℕ, length, take, ap, subst, sym, ◌∙◌, arith}
use Rattle.std.proofs.lemmas.List.{append-nil, take_all}
use Rattle.segments.specs.Entries.{header}
use Rattle.segments.proofs.Files.{appended, begins_itself, succeeded}
use Rattle.segments.proofs.Reading.{header_length}
use Rattle.segments.proofs.segment.Segment.create.Goals as goal

pub returns-clause-written : goal.returns-clause-written
returns-clause-written g c =
    let key = c.args.key in
    let old = g.D.Disk.seen c.args.disk in
    let new = g.D.Disk.seen c.write_at.new.self in
    let spelled : c.as_slice.result.now ≡ header key = c.as_slice.ensures ∙ c.in_ok-put_header.ensures ∙ ap (λ (l : List ℕ). l ++ header key) c.new-out.ensures.items in
    let some : 0 < length c.as_slice.result.now = subst (λ (l : List ℕ). 0 < length l) (sym spelled) (omega (arith, header_length key)) in
    let holds = succeeded c.write_at.result _ (sym c.if-is_err.ensures.value) c.write_at.ensures.written some in
    let more : new ≡ old ++ c.as_slice.result.now = appended old new c.as_slice.result.now 0 (sym (ap length c.requires.empty)) c.write_at.ensures.others holds in
    let file : g.D.Disk.seen c.sync.new.self ≡ header key = c.sync.ensures.seen ∙ more ∙ ap (λ (l : List ℕ). l ++ c.as_slice.result.now) c.requires.empty ∙ spelled in
    record {
      file = file ∙ sym (append-nil (header key));
      end = sym (ap length file ∙ header_length key);
      fit = tt;
    }

pub returns-clause-marked : goal.returns-clause-marked
returns-clause-marked g c =
    let seen = g.D.Disk.seen c.sync.new.self in
    let written = returns-clause-written g c in
    let size : 28 ≡ length seen = written.end in
    record {
      within = omega (arith, size);
      lasts = λ content left.
          let is : content ≡ g.D.Disk.seen c.write_at.new.self = succeeded c.sync.result _ (sym c.if-is_err-2.ensures.value) c.sync.ensures.durable content left in
          begins_itself (take 28 seen) content (take_all 28 seen (omega (arith, size)) ∙ c.sync.ensures.seen ∙ sym is);
    }
