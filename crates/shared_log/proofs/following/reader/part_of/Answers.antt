use Rattle.std.proofs.Common.{◌≡◌, arith, ap, ◌∙◌, drop, take}
use Rattle.std.proofs.lemmas.List.{length-map}
use Rattle.wal.specs.Records.{shared_records}
use Rattle.shared_log.specs.SeenPrefixes.{shown_records}
use Rattle.shared_log.specs.Kept.{records_in}
use Rattle.shared_log.proofs.Reading.{fetched_there, fits_there}
use Rattle.shared_log.proofs.following.reader.part_of.Goals as goal

pub returns-in-Ok-clause-gives : goal.returns-in-Ok-clause-gives
returns-in-Ok-clause-gives c =
    let copy = c.args.copy.now in
    c.in-Ok.ensures ∙ ap (λ n. take c.args.max (drop n (records_in copy.records.items))) c.in-Some.ensures.1
    ∙ fetched_there (shown_records copy.mark.seen.log) copy.edge copy.records.items c.args.place c.args.max c.requires.lies c.in-Some.ensures.0

pub returns-in-Ok-clause-fits : goal.returns-in-Ok-clause-fits
returns-in-Ok-clause-fits c =
    let copy = c.args.copy.now in
    let gives : shared_records c.in-Ok.records.items ≡ take c.args.max (drop c.args.place (shown_records copy.mark.seen.log)) =
    c.in-Ok.ensures ∙ ap (λ n. take c.args.max (drop n (records_in copy.records.items))) c.in-Some.ensures.1
    ∙ fetched_there (shown_records copy.mark.seen.log) copy.edge copy.records.items c.args.place c.args.max c.requires.lies c.in-Some.ensures.0 in
    let fits = fits_there copy.mark.seen.log c.args.place c.args.max 18446744073709551616 (shared_records c.in-Ok.records.items) gives c.ranges.place.fits copy.mark.short in
    omega (arith, fits, length-map c.in-Ok.records.items (λ r. r.value), c.in-Ok.records.ok)
