use Rattle.std.proofs.Common.{◌≡◌, ℕ, List, None, ap, cond, refl, sym, ◌∙◌, arith}
use Rattle.std.proofs.lemmas.List.{take_all}
use Rattle.reorder.specs.Pool.{strand_of}
use Rattle.reorder.specs.Strands.{is_in}
use Rattle.reorder.proofs.Lending.{left_more, lent_none, lent_some, stays_lent}
use Rattle.reorder.proofs.places.pool.Pool.lend_each.Goals as goal
use Rattle.reorder.proofs.places.pool.Pool.lend_each.Goals.{in-Some+in_ok-insert, in_default}

pub loop-xid-preserved : goal.loop-xid-preserved
loop-xid-preserved c =
    let i = c.loop-xid.invariant in
    let xids = c.args.xids.now in
    let old = strand_of c.args.self.now.strands in
    let strands = strand_of c.loop-xid.self.strands in
    let strands' = strand_of c.lend.new.self.strands in
    record {
      strands = elim c.match-lend.branch [
        | in-Some+in_ok-insert w ↦ rw w.lent-is (lent_some xids c.loop-xid.xid-index (omega arith) old strands strands' i.left c.lend.ensures.others (strand_of c.loop-xid.lent.entries) _ i.strands w.in-Some.strand (sym w.in-Some.ensures.strand) w.in_ok-insert.ensures.updates.0)
        | in_default w ↦ rw w.lent-is (lent_none xids c.loop-xid.xid-index (omega arith) old strands strands' i.left c.lend.ensures.others (strand_of c.loop-xid.lent.entries) (strand_of c.loop-xid.lent.entries) i.strands (let none : c.lend.result ≡ None = cc in sym c.lend.ensures.strand ∙ none) (λ x. refl))
      ];
      left = left_more xids c.loop-xid.xid-index (omega arith) old strands strands' i.left c.lend.ensures.others;
      arena = c.lend.ensures.arena ∙ i.arena;
      lent = stays_lent c.args.self.now c.loop-xid.self c.lend.new.self i.lent c.lend.ensures.lent;
    }

pub returns-clause-strands : goal.returns-clause-strands
returns-clause-strands c x =
    let all = take_all c.loop-xid.xid-index c.args.xids.now c.loop-xid-test.false in
    c.loop-xid.invariant.strands x ∙ ap (λ (xids : List ℕ). cond (is_in x xids) (strand_of c.args.self.now.strands x) None) all

pub returns-clause-left : goal.returns-clause-left
returns-clause-left c x =
    let all = take_all c.loop-xid.xid-index c.args.xids.now c.loop-xid-test.false in
    c.loop-xid.invariant.left x ∙ ap (λ (xids : List ℕ). cond (is_in x xids) None (strand_of c.args.self.now.strands x)) all
