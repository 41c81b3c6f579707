use Rattle.std.proofs.Common.{◌≡◌, ◌==◌, Bool, true, cond, ◌∷◌, reverse, sym, ap, ◌∙◌}
use Rattle.std.specs.List.{list_any}
use Rattle.pgoutput.specs.Items.{is_relation_sent, relations_due}
use Rattle.walsender.specs.Spelled.{oids_in}
use Rattle.walsender.proofs.Lists.{any_reverse}
use Rattle.walsender.proofs.Heads.{either}
use Rattle.walsender.proofs.Spelled.{oids_next}
use Rattle.walsender.proofs.commit_frames.making.first_due.Goals as goal

pub returns-then-not-contains-clause-unsent : goal.returns-then-not-contains-clause-unsent
returns-then-not-contains-clause-unsent c = any_reverse (λ n. n == c.in-Some.oid) c.args.relations_sent.now ∙ sym c.contains.ensures.value ∙ c.if-not-contains.true

pub returns-then-not-contains-clause-due : goal.returns-then-not-contains-clause-due
returns-then-not-contains-clause-due c =
    let sent = reverse c.args.relations_sent.now in
    let rest = oids_in c.u32.new.self in
    let oid = c.in-Some.oid in
    let next = oids_next c.loop-oid.oids c.u32.new.self oid c.in-Some.ensures in
    let unsent = returns-then-not-contains-clause-unsent c in
    (relations_due (oid ∷ sent) rest, sym c.loop-oid.invariant.due ∙ ap (relations_due sent) next.0 ∙ ap (λ (b : Bool). cond b (relations_due sent rest) (oid ∷ relations_due (oid ∷ sent) rest)) unsent)

pub loop-oid-preserved : goal.loop-oid-preserved
loop-oid-preserved c =
    let sent = reverse c.args.relations_sent.now in
    let rest = oids_in c.u32.new.self in
    let oid = c.in-Some.oid in
    let next = oids_next c.loop-oid.oids c.u32.new.self oid c.in-Some.ensures in
    let is_sent : is_relation_sent sent oid ≡ true = any_reverse (λ n. n == oid) c.args.relations_sent.now ∙ sym c.contains.ensures.value ∙ c.if-not-contains.false in
    record {
      due = sym (ap (relations_due sent) next.0 ∙ ap (λ (b : Bool). cond b (relations_due sent rest) (oid ∷ relations_due (oid ∷ sent) rest)) is_sent) ∙ c.loop-oid.invariant.due;
      among = λ o is. c.loop-oid.invariant.among o (ap (list_any (λ n. n == o)) next.0 ∙ either (oid == o) (list_any (λ n. n == o) rest) is);
    }
