use Rattle.std.specs.Int.{w64}
use Rattle.std.proofs.lemmas.Int.{to_z-of_z}
use Rattle.txlog.specs.Publishing.{after_commit, end_refusal}
use Rattle.schedule.proofs.Asking.{ended, given_back}
use Rattle.schedule.proofs.calls.commit.Goals as goal

pub returns-in-Ok-clause-calls : goal.returns-in-Ok-clause-calls
returns-in-Ok-clause-calls g c =
    ended c.args.name.now c.known_place-place.result c.args.sessions.now.items c.remove.new.self.items c.args.publisher.now c.commit.new.publisher c.remove.result
    (λ n. end_refusal n c.args.publisher.now) (λ n. after_commit n c.args.time c.args.publisher.now)
    (rw c.as_slice.ensures.value at c.known_place-place.ensures.there) c.remove.ensures.value c.in-Ok.ensures.ok.0 (rw (to_z-of_z w64 c.args.time c.ranges.time) at c.in-Ok.ensures.ok.1) c.remove.ensures.items

pub returns-in-Ok-insert-clause-calls : goal.returns-in-Ok-insert-clause-calls
returns-in-Ok-insert-clause-calls g c =
    given_back c.args.name.now c.known_place-place.result c.args.sessions.now.items c.remove.new.self.items c.insert.new.self.items c.args.publisher.now c.commit.new.publisher c.remove.result c.in-Err.session c.in-Err.fault
    (λ n. end_refusal n c.args.publisher.now) (λ n. after_commit n c.args.time c.args.publisher.now)
    (rw c.as_slice.ensures.value at c.known_place-place.ensures.there) c.remove.ensures.value c.in-Err.ensures.err.0 c.in-Err.ensures.err.1 c.in-Err.ensures.err.2 c.remove.ensures.items c.in-Ok-insert.ensures.items
