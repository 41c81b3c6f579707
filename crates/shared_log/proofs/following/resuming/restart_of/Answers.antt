use Rattle.std.proofs.Common.{◌≡◌, ◌≤◌, ◌⊎◌, inl, inr, ◌+◌, ℕ, arith, ap, ◌∙◌, take}
use Rattle.wal.specs.Log.{end_of}
use Rattle.wal.specs.declared.record.TheConstants.{FIRST_POSITION}
use Rattle.shared_log.specs.SeenPrefixes.{shown_records}
use Rattle.shared_log.proofs.Reading.{begins_there}
use Rattle.shared_log.proofs.following.resuming.restart_of.Goals as goal
use Rattle.shared_log.proofs.following.resuming.restart_of.Goals.{else-copy-gt0-via-then-copy-gt0+else-start-copy, else-copy-gt0-via-else-copy-gt0}

pub position_at-requires-clause-within : goal.position_at-requires-clause-within
position_at-requires-clause-within c =
    let copy = c.args.copy.now in
    let start : (copy.edge.place ≡ 0) ⊎ (copy.edge.position ≤ c.args.start) = elim c.else-copy-gt0.branch [ else-copy-gt0-via-then-copy-gt0+else-start-copy w ↦ inr (omega (arith, w.if-start-copy.false)) | else-copy-gt0-via-else-copy-gt0 w ↦ inl (omega (arith, w.if-copy-gt0.false)) ] in
    let begins = begins_there (shown_records copy.mark.seen.log) copy.edge copy.records.items c.args.start c.args.limit c.place_from.result c.min.result c.oldest_at-place.result c.requires.lies c.requires.good (omega (arith, c.in-Some.ensures)) start c.place_from.ensures.value
    (omega (arith, c.min.ensures, c.in-Some.ensures)) c.oldest_at-place.ensures in
    omega (arith, begins.within, c.in-Some-checked_sub.ensures, c.min.ensures, c.place_from.ensures.within)

pub returns-in-Some-checked_sub-clause-place : goal.returns-in-Some-checked_sub-clause-place
returns-in-Some-checked_sub-clause-place c =
    let copy = c.args.copy.now in
    let start : (copy.edge.place ≡ 0) ⊎ (copy.edge.position ≤ c.args.start) = elim c.else-copy-gt0.branch [ else-copy-gt0-via-then-copy-gt0+else-start-copy w ↦ inr (omega (arith, w.if-start-copy.false)) | else-copy-gt0-via-else-copy-gt0 w ↦ inl (omega (arith, w.if-copy-gt0.false)) ] in
    let begins = begins_there (shown_records copy.mark.seen.log) copy.edge copy.records.items c.args.start c.args.limit c.place_from.result c.min.result c.oldest_at-place.result c.requires.lies c.requires.good (omega (arith, c.in-Some.ensures)) start c.place_from.ensures.value
    (omega (arith, c.min.ensures, c.in-Some.ensures)) c.oldest_at-place.ensures in
    begins.place

pub returns-in-Some-checked_sub-clause-position : goal.returns-in-Some-checked_sub-clause-position
returns-in-Some-checked_sub-clause-position c =
    let copy = c.args.copy.now in
    let start : (copy.edge.place ≡ 0) ⊎ (copy.edge.position ≤ c.args.start) = elim c.else-copy-gt0.branch [ else-copy-gt0-via-then-copy-gt0+else-start-copy w ↦ inr (omega (arith, w.if-start-copy.false)) | else-copy-gt0-via-else-copy-gt0 w ↦ inl (omega (arith, w.if-copy-gt0.false)) ] in
    let begins = begins_there (shown_records copy.mark.seen.log) copy.edge copy.records.items c.args.start c.args.limit c.place_from.result c.min.result c.oldest_at-place.result c.requires.lies c.requires.good (omega (arith, c.in-Some.ensures)) start c.place_from.ensures.value
    (omega (arith, c.min.ensures, c.in-Some.ensures)) c.oldest_at-place.ensures in
    let at : copy.edge.place + c.in-Some-checked_sub.at ≡ c.oldest_at-place.result = omega (arith, c.in-Some-checked_sub.ensures) in
    c.position_at.ensures ∙ ap (λ (n : ℕ). end_of FIRST_POSITION (take n (shown_records copy.mark.seen.log))) at ∙ begins.position

pub returns-in-None-checked_sub-clause-none : goal.returns-in-None-checked_sub-clause-none
returns-in-None-checked_sub-clause-none c =
    let copy = c.args.copy.now in
    let start : (copy.edge.place ≡ 0) ⊎ (copy.edge.position ≤ c.args.start) = elim c.else-copy-gt0.branch [ else-copy-gt0-via-then-copy-gt0+else-start-copy w ↦ inr (omega (arith, w.if-start-copy.false)) | else-copy-gt0-via-else-copy-gt0 w ↦ inl (omega (arith, w.if-copy-gt0.false)) ] in
    let begins = begins_there (shown_records copy.mark.seen.log) copy.edge copy.records.items c.args.start c.args.limit c.place_from.result c.min.result c.oldest_at-place.result c.requires.lies c.requires.good (omega (arith, c.in-Some.ensures)) start c.place_from.ensures.value
    (omega (arith, c.min.ensures, c.in-Some.ensures)) c.oldest_at-place.ensures in
    inr (inr (omega (arith, begins.place, c.in-None-checked_sub.ensures)))
