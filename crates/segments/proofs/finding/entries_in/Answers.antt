use Rattle.std.proofs.Common.{[], ◌∷◌, ◌++◌, List, ℕ, ap, sym, subst, ◌∙◌, arith}
use Rattle.segments.specs.Entries.{Written, ReadsTo}
use Rattle.segments.proofs.Reading.{reads_more, rest_after}
use Rattle.segments.proofs.finding.entries_in.Goals as goal

pub loop-entry-smaller : goal.loop-entry-smaller
loop-entry-smaller c =
    let i = c.loop-entry.invariant in
    (rest_after c.args.key c.args.bytes.now c.loop-entry.rest.now c.in-Some.entry.rest.now _ (λ k. omega (arith, c.type_inv.bytes k)) i.within i.tail (sym c.in-Some.ensures)).0

pub loop-entry-preserved : goal.loop-entry-preserved
loop-entry-preserved c =
    let i = c.loop-entry.invariant in
    let after = rest_after c.args.key c.args.bytes.now c.loop-entry.rest.now c.in-Some.entry.rest.now _ (λ k. omega (arith, c.type_inv.bytes k)) i.within i.tail (sym c.in-Some.ensures) in
    let shorter = after.0 in
    let within = i.within in
    record {
      to =
          (let P : List Written → Type 0 = λ l. ReadsTo c.args.key l c.args.bytes.now c.in-Some.entry.rest.now in
          subst P (sym (c.in_ok-push.ensures.items ∙ ap (λ (l : List ℕ). c.loop-entry.found.items ++ record { synced = c.in-Some.entry.synced; body = l } ∷ []) c.in_ok-copy_of.ensures))
          (reads_more c.args.key c.loop-entry.found.items c.args.bytes.now c.loop-entry.rest.now c.in-Some.entry.rest.now _ i.to (sym c.in-Some.ensures)));
      within = omega (arith, shorter, within);
      tail = after.1;
    }
