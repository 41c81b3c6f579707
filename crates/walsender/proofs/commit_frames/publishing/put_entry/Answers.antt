use Rattle.std.proofs.Common.{◌≡◌, ◌<◌, ◌+◌, ℕ, Option, Some, None, drop, length, subst, arith}
use Rattle.std.specs.Option.{option_map}
use Rattle.walsender.specs.Published.{published_changes}
use Rattle.walsender.specs.Spelled.{Yields}
use Rattle.std.proofs.lemmas.List.{length-map}
use Rattle.reorder.specs.Ready.{entry_at, lent_from, ready_entries}
use Rattle.walsender.proofs.Spelled.{put_yields}
use Rattle.walsender.proofs.commit_frames.publishing.put_entry.Goals as goal

pub returns-in-Some-clause-yields : goal.returns-in-Some-clause-yields
returns-in-Some-clause-yields c =
    let pool = c.args.reorder.now.strands.pool in
    let entries = ready_entries pool c.args.ready.now in
    let lt : c.args.k < length entries = omega (arith, length-map c.args.ready.now.places (entry_at (lent_from pool c.args.ready.now))) in
    let puts = c.put.ensures in
    let found : c.put.result ≡ Some c.in-Some.length = cc in
    let P : Option ℕ → Type 0 = λ o. Yields c.args.selection.now (published_changes c.args.selection.now (drop c.args.k entries)) (published_changes c.args.selection.now (drop (c.args.k + 1) entries))
    (option_map (λ n. (c.entry-position.result.0, n)) o) c.put.new.out in
    subst P found (put_yields c.args.selection.now entries c.args.k c.entry-position.result.0 c.entry-position.result.1.now c.put.new.out c.put.result lt (omega arith) c.entry-position.ensures.entry puts.message puts.fits)

pub returns-in-None-clause-yields : goal.returns-in-None-clause-yields
returns-in-None-clause-yields c =
    let pool = c.args.reorder.now.strands.pool in
    let entries = ready_entries pool c.args.ready.now in
    let lt : c.args.k < length entries = omega (arith, length-map c.args.ready.now.places (entry_at (lent_from pool c.args.ready.now))) in
    let puts = c.put.ensures in
    let found : c.put.result ≡ None = cc in
    let P : Option ℕ → Type 0 = λ o. Yields c.args.selection.now (published_changes c.args.selection.now (drop c.args.k entries)) (published_changes c.args.selection.now (drop (c.args.k + 1) entries))
    (option_map (λ n. (c.entry-position.result.0, n)) o) c.put.new.out in
    subst P found (put_yields c.args.selection.now entries c.args.k c.entry-position.result.0 c.entry-position.result.1.now c.put.new.out c.put.result lt (omega arith) c.entry-position.ensures.entry puts.message puts.fits)
