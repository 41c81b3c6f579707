use Rattle.std.proofs.Common.{rules, [], true, sym, subst}
use Rattle.reorder.specs.Chunks.{IsTidy, held_with}
use Rattle.reorder.specs.Settled.{AreLentIn, FillsReady, LeavesNoRoomBeside, after_giving_all_back, lent_chunks}
use Rattle.reorder.specs.Strands.{StrandsState}
use Rattle.reorder.specs.Taking.{HasTaken, ReorderState}
use Rattle.reorder.proofs.Settling.{lent_as, settled_as}
use Rattle.reorder.proofs.Steps.{has_taken}
use Rattle.reorder.proofs.reorder.Reorder.take.Goals as goal

pub returns-clause-tidy : goal.returns-clause-tidy
returns-clause-tidy c = λ count held tidy.
    subst (λ (s : ReorderState). IsTidy count (held_with held c.in_ok-step.step) s.strands) (sym c.self-2.view_is)
    (c.in_ok-step.ensures.tidy count held (subst (λ (s : ReorderState). IsTidy count held s.strands) (sym c.self.view_is) tidy))

pub returns-clause-chunks : goal.returns-clause-chunks
returns-clause-chunks c = λ rs taken next.
    let strands : StrandsState = c.self.inside.strands in
    let before : HasTaken (record { strands = strands; failed = c.self.inside.failed }) rs = subst (λ (s : ReorderState). HasTaken s rs) (sym c.self.view_is) taken in
    subst (λ (s : ReorderState). FillsReady s c.in_ok-step.step) (sym c.self-2.view_is) (c.in_ok-step.ensures.chunks rs (has_taken strands true rs before.ready) next)

pub returns-in_err-step-clause-full_beside : goal.returns-in_err-step-clause-full_beside
returns-in_err-step-clause-full_beside c = λ is rs ws count taken next are tidy.
    let strands : StrandsState = c.self.inside.strands in
    let before : HasTaken (record { strands = strands; failed = c.self.inside.failed }) rs = subst (λ (s : ReorderState). HasTaken s rs) (sym c.self.view_is) taken in
    subst (λ (s : ReorderState). LeavesNoRoomBeside (lent_chunks s ws) count rs c.args.next.now) c.self.view_is
    (c.in_err-step.ensures.full_beside (search rules) rs ws count (has_taken strands true rs before.ready) next
    (lent_as strands c.self.inside.failed true ws (subst (λ (s : ReorderState). AreLentIn s ws) (sym c.self.view_is) are))
    (subst (λ (s : StrandsState). IsTidy count [] s) (settled_as strands c.self.inside.failed true ws) (subst (λ (s : ReorderState). IsTidy count [] (after_giving_all_back s ws).strands) (sym c.self.view_is) tidy)))

pub returns-in_err-step-clause-lacks : goal.returns-in_err-step-clause-lacks
returns-in_err-step-clause-lacks c = λ rs count running taken next tidy lacks.
    let strands : StrandsState = c.self.inside.strands in
    let before : HasTaken (record { strands = strands; failed = c.self.inside.failed }) rs = subst (λ (s : ReorderState). HasTaken s rs) (sym c.self.view_is) taken in
    let full = c.in_err-step.ensures.lacks rs count (has_taken strands true rs before.ready) next (subst (λ (s : ReorderState). IsTidy count [] s.strands) (sym c.self.view_is) tidy) lacks in
    search (rules, full)

pub returns-in_err-step-clause-lacks_beside : goal.returns-in_err-step-clause-lacks_beside
returns-in_err-step-clause-lacks_beside c = λ rs ws count running taken next are tidy lacks.
    let strands : StrandsState = c.self.inside.strands in
    let before : HasTaken (record { strands = strands; failed = c.self.inside.failed }) rs = subst (λ (s : ReorderState). HasTaken s rs) (sym c.self.view_is) taken in
    let full = c.in_err-step.ensures.lacks_beside rs ws count (has_taken strands true rs before.ready) next
    (lent_as strands c.self.inside.failed true ws (subst (λ (s : ReorderState). AreLentIn s ws) (sym c.self.view_is) are))
    (subst (λ (s : StrandsState). IsTidy count [] s) (settled_as strands c.self.inside.failed true ws) (subst (λ (s : ReorderState). IsTidy count [] (after_giving_all_back s ws).strands) (sym c.self.view_is) tidy))
    (subst (λ (s : ReorderState). LeavesNoRoomBeside (lent_chunks s ws) count rs c.args.next.now) (sym c.self.view_is) lacks) in
    search (rules, full)

pub returns-clause-lacks : goal.returns-clause-lacks
returns-clause-lacks c = λ rs count running taken next tidy lacks.
    let strands : StrandsState = c.self.inside.strands in
    let before : HasTaken (record { strands = strands; failed = c.self.inside.failed }) rs = subst (λ (s : ReorderState). HasTaken s rs) (sym c.self.view_is) taken in
    let full = c.in_ok-step.ensures.lacks rs count (has_taken strands true rs before.ready) next (subst (λ (s : ReorderState). IsTidy count [] s.strands) (sym c.self.view_is) tidy) lacks in
    absurd cc

pub returns-clause-lacks_beside : goal.returns-clause-lacks_beside
returns-clause-lacks_beside c = λ rs ws count running taken next are tidy lacks.
    let strands : StrandsState = c.self.inside.strands in
    let before : HasTaken (record { strands = strands; failed = c.self.inside.failed }) rs = subst (λ (s : ReorderState). HasTaken s rs) (sym c.self.view_is) taken in
    let full = c.in_ok-step.ensures.lacks_beside rs ws count (has_taken strands true rs before.ready) next
    (lent_as strands c.self.inside.failed true ws (subst (λ (s : ReorderState). AreLentIn s ws) (sym c.self.view_is) are))
    (subst (λ (s : StrandsState). IsTidy count [] s) (settled_as strands c.self.inside.failed true ws) (subst (λ (s : ReorderState). IsTidy count [] (after_giving_all_back s ws).strands) (sym c.self.view_is) tidy))
    (subst (λ (s : ReorderState). LeavesNoRoomBeside (lent_chunks s ws) count rs c.args.next.now) (sym c.self.view_is) lacks) in
    absurd cc
