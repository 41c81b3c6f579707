use Rattle.std.proofs.Common.{◌≡◌, ◌++◌, List, ℕ, ap, ◌∙◌}
use Rattle.segments.specs.Entries.{Written}
use Rattle.segments.specs.Records.{spell_record}
use Rattle.segments.proofs.Kept.{one_more, then_ok}
use Rattle.segments.proofs.keeping.write_one.Goals as goal

pub returns-clause-logged : goal.returns-clause-logged
returns-clause-logged g c =
    let record_told = c.args.one.now in
    let e : Written = record { synced = c.args.segment.now.synced; body = c.as_slice.result.now } in
    let text : c.as_slice.result.now ≡ spell_record record_told.body = c.as_slice.ensures ∙ c.in_ok-put_record.ensures.spelled ∙ ap (λ (l : List ℕ). l ++ spell_record record_told.body) c.clear.ensures.items in
    then_ok c.append.result c.append.ensures.written (λ more log has. one_more g.D.Disk.seen c.args.segment.now c.append.new.self log e record_told has (more has.es has.written) (record { in_range = c.in_ok-put_record.ensures.told; text = text }))
