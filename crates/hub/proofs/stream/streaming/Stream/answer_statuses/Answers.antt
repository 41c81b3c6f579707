use Rattle.std.proofs.Common.{w64, of_z, to_z, ◌+◌, ◌++◌, ℕ, ℤ, ap, arith, refl, subst, ◌∙◌}
use Rattle.std.proofs.lemmas.Int.{to_z-of_z}
use Rattle.walsender.specs.Sending.{SenderState}
use Rattle.hub.specs.Streams.{keepalives}
use Rattle.hub.specs.declared.stream.streaming.TheConstants.{MOST_KEEPALIVES}
use Rattle.hub.proofs.Streams.{Gave, gave_on, held_more, kept_on, nothing_kept, one_more, same_on, wrote_more, wrote_on}
use Rattle.hub.proofs.stream.streaming.Stream.answer_statuses.Goals as goal

pub loop-due-init : goal.loop-due-init
loop-due-init g c = record {
  rest = refl;
  reader = refl;
  hold = refl;
  kept = (0, omega arith, nothing_kept c.args.self.now.walsender.sender.held c.args.self.now.walsender.sender.position c.args.clock (g.W.Write.contents c.args.to.now));
  serves = same_on c.args.self.now.walsender c.args.self.now.walsender (g.W.Write.contents c.args.to.now) refl;
}

pub returns-in_err-write_held-clause-serves : goal.returns-in_err-write_held-clause-serves
returns-in_err-write_held-clause-serves g c =
    let old = c.args.self.now.walsender in
    let before = g.W.Write.contents c.args.to.now in
    let looped = c.loop-due.self.walsender in
    let between = g.W.Write.contents c.loop-due.to in
    let held = c.keep_alive.new.self.walsender in
    let written = c.write_held.new.self in
    let after = g.W.Write.contents c.write_held.new.to in
    let (given, _, gives, appended) = c.write_held.ensures.serves in
    let holds = one_more old looped held before between between c.loop-due.invariant.serves (kept_on looped held between c.keep_alive.ensures.reader c.keep_alive.ensures.serves) in
    one_more old held written before between after holds (gave_on held written between after given c.write_held.ensures.reader gives appended)

pub loop-due-preserved : goal.loop-due-preserved
loop-due-preserved g c =
    let clock = to_z w64 (of_z w64 c.args.clock) in
    let old = c.args.self.now.walsender in
    let before = g.W.Write.contents c.args.to.now in
    let looped = c.loop-due.self.walsender in
    let between = g.W.Write.contents c.loop-due.to in
    let held = c.keep_alive.new.self.walsender in
    let written = c.write_held.new.self in
    let after = g.W.Write.contents c.write_held.new.to in
    let (given, parts, gives, appended) = c.write_held.ensures.serves in
    let (done, whole, gave) = c.loop-due.invariant.kept in
    let holds = one_more old looped held before between between c.loop-due.invariant.serves (kept_on looped held between c.keep_alive.ensures.reader c.keep_alive.ensures.serves) in
    let more = c.in_ok-keep_alive.ensures.held ∙ ap (λ (p : ℕ). looped.sender.held ++ keepalives p clock MOST_KEEPALIVES) (ap (λ (s : SenderState). s.position) c.loop-due.invariant.rest) in
    record {
      rest = wrote_on old.sender looped.sender held.sender written.sender c.loop-due.invariant.rest c.keep_alive.ensures.rest c.write_held.ensures.rest;
      reader = c.write_held.ensures.reader ∙ c.keep_alive.ensures.reader ∙ c.loop-due.invariant.reader;
      hold = c.keep_alive.ensures.hold ∙ c.loop-due.invariant.hold;
      kept = (
        done + MOST_KEEPALIVES,
        omega (arith, whole, c.loop-due-test.true),
        wrote_more old.sender.held looped.sender.held held.sender.held written.sender.held given old.sender.position clock done MOST_KEEPALIVES before between after gave more parts appended,
      );
      serves = one_more old held written before between after holds (gave_on held written between after given c.write_held.ensures.reader gives appended);
    }

pub returns-clause-kept : goal.returns-clause-kept
returns-clause-kept g c =
    let clock = to_z w64 (of_z w64 c.args.clock) in
    let old = c.args.self.now.walsender in
    let before = g.W.Write.contents c.args.to.now in
    let looped = c.loop-due.self.walsender in
    let between = g.W.Write.contents c.loop-due.to in
    let held = c.keep_alive-2.new.self.walsender in
    let (done, whole, gave) = c.loop-due.invariant.kept in
    let more = c.in_ok-keep_alive-2.ensures.held ∙ ap (λ (p : ℕ). looped.sender.held ++ keepalives p clock c.loop-due.due) (ap (λ (s : SenderState). s.position) c.loop-due.invariant.rest) in
    let all = held_more old.sender.held looped.sender.held held.sender.held old.sender.position clock done c.loop-due.due before between gave more in
    let P : ℕ → Type 0 = λ n. Gave (old.sender.held ++ keepalives old.sender.position clock n) held.sender.held before between in
    let Under : ℤ → Type 0 = λ z. Gave (old.sender.held ++ keepalives old.sender.position z c.args.count) held.sender.held before between in
    subst Under (to_z-of_z w64 c.args.clock c.ranges.clock) (subst P whole all)
