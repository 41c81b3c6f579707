use Rattle.std.proofs.Common.{◌≡◌, ◌+◌, ℕ, List, None, Some, drop, get_or, refl, sym, ap, ◌∙◌, arith}
use Rattle.std.proofs.lemmas.List.{drop_all, drop_more}
use Rattle.chgarena.specs.Strands.{Strands as Arena}
use Rattle.reorder.specs.Lents.{strands_in}
use Rattle.reorder.specs.Pool.{strand_of}
use Rattle.reorder.specs.Settled.{heads_of, without_all}
use Rattle.reorder.proofs.Lending.{gone_all, left_more, taken_both, taken_itself, taken_none, taken_some}
use Rattle.reorder.proofs.Owning.{whole_finished}
use Rattle.reorder.proofs.Settling.{back_none, back_some}
use Rattle.reorder.proofs.strands.take_back_all.Goals as goal
use Rattle.reorder.proofs.strands.take_back_all.Goals.{in-Some, in_default}

pub loop-xid-init : goal.loop-xid-init
loop-xid-init c = record { taken = taken_itself c.args.pool.now (strands_in c.args.lent) c.requires; left = λ x. refl; arena = refl }

pub take_back-requires-clause-of : goal.take_back-requires-clause-of
take_back-requires-clause-of c = c.loop-xid.invariant.taken.still.own.made (get_or c.args.xids.now c.loop-xid.xid-index 0) c.in-Some.strand (sym c.in-Some.ensures.value)

pub take_back-requires-clause-apart : goal.take_back-requires-clause-apart
take_back-requires-clause-apart c = λ x head at same. c.loop-xid.invariant.taken.still.apart x (get_or c.args.xids.now c.loop-xid.xid-index 0) head at (sym c.in-Some.ensures.value ∙ ap Some same)

pub loop-xid-preserved : goal.loop-xid-preserved
loop-xid-preserved c =
    let i = c.loop-xid.invariant in
    let xid = get_or c.args.xids.now c.loop-xid.xid-index 0 in
    let lent = strands_in c.loop-xid.lent in
    let lent' = strands_in c.remove.new.self in
    let rest = drop (c.loop-xid.xid-index + 1) c.args.xids.now in
    let next = ap (λ (xs : List ℕ). without_all c.loop-xid.pool.arena (heads_of (strand_of lent) xs)) (drop_more c.args.xids.now c.loop-xid.xid-index 0 (omega arith)) in
    record {
      taken = elim c.match-remove.branch [
        | in-Some w ↦ rw w.pool-is (taken_both c.args.pool.now c.loop-xid.pool w.take_back.new.self (strands_in c.args.lent) lent lent' i.taken
            (taken_some c.loop-xid.pool w.take_back.new.self lent lent' xid w.in-Some.strand w.take_back.ensures.pool i.taken.still (sym w.in-Some.ensures.value) c.remove.ensures.others w.take_back.ensures.arena w.take_back.ensures.strands))
        | in_default w ↦ rw w.pool-is (taken_both c.args.pool.now c.loop-xid.pool c.loop-xid.pool (strands_in c.args.lent) lent lent' i.taken
            (taken_none c.loop-xid.pool lent lent' xid i.taken.still (let none : c.remove.result ≡ None = cc in sym c.remove.ensures.value ∙ none) c.remove.ensures.others))
      ];
      left = left_more c.args.xids.now c.loop-xid.xid-index (omega arith) (strand_of (strands_in c.args.lent)) (strand_of lent) (strand_of lent') i.left c.remove.ensures.others;
      arena = elim c.match-remove.branch [
        | in-Some w ↦ rw w.pool-is (i.arena ∙ next
            ∙ back_some c.loop-xid.pool.arena (strand_of lent) (strand_of lent') xid rest w.in-Some.strand (sym w.in-Some.ensures.value) c.remove.ensures.others
            ∙ ap (λ (a : Arena). without_all a (heads_of (strand_of lent') rest)) (sym w.take_back.ensures.arena))
        | in_default w ↦ rw w.pool-is (i.arena ∙ next
            ∙ back_none c.loop-xid.pool.arena (strand_of lent) (strand_of lent') xid rest (let none : c.remove.result ≡ None = cc in sym c.remove.ensures.value ∙ none) c.remove.ensures.others)
      ];
    }

pub returns-clause-arena : goal.returns-clause-arena
returns-clause-arena c =
    sym (c.loop-xid.invariant.arena
    ∙ ap (λ (xs : List ℕ). without_all c.loop-xid.pool.arena (heads_of (strand_of (strands_in c.loop-xid.lent)) xs)) (drop_all c.loop-xid.xid-index c.args.xids.now (omega arith)))

pub returns-clause-whole : goal.returns-clause-whole
returns-clause-whole c = λ known held whole.
    whole_finished c.loop-xid.pool (strands_in c.loop-xid.lent)
    (gone_all c.args.xids.now c.loop-xid.xid-index (omega arith) (strand_of (strands_in c.args.lent)) (strand_of (strands_in c.loop-xid.lent)) c.loop-xid.invariant.left known) held (c.loop-xid.invariant.taken.whole held whole)
