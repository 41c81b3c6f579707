use Rattle.std.proofs.Common.{sym, ap, subst, ◌∙◌}
use Rattle.slots.specs.State.{SlotsState, RefusedExactly, claim_refusal, claim_refusal_of}
use Rattle.slots.proofs.Names.{none_shown}
use Rattle.slots.proofs.Claiming.{claim_stands, claim_ok, claim_err, claim_lease, claim_only, claim_refused, claim_within}
use Rattle.slots.proofs.by_name.named.NamedSlots.claim.Goals as goal

pub returns-in_default-clause-refused : goal.returns-in_default-clause-refused
returns-in_default-clause-refused g c =
    let s = c.self.inside in
    ap (claim_refusal c.args.name.now) (sym c.self.view_is) ∙ ap claim_refusal_of (none_shown s.seat s.directory s.slots.items s.places c.args.name.now c.self.invariant.0 (sym c.find.ensures ∙ c.in_default.is))

pub invariant_of-self : goal.invariant_of-self
invariant_of-self g c =
    let s = c.self.inside in
    (c.self.invariant.0, claim_stands (λ l. l.place) s.seat c.claim.new.seat s.directory s.slots.items s.places c.args.name.now c.in-Some.place c.self.invariant.0 c.self.invariant.1 (sym c.find.ensures ∙ c.in-Some.is) c.claim.result c.claim.ensures)

pub returns-clause-ok : goal.returns-clause-ok
returns-clause-ok g c =
    let s = c.self.inside in
    claim_ok (λ l. l.place) s.seat c.claim.new.seat s.directory s.slots.items s.places c.args.name.now c.in-Some.place c.self.invariant.0 c.self.invariant.1 (sym c.find.ensures ∙ c.in-Some.is) c.args.self.now c.self.view_is c.claim.result c.claim.ensures

pub returns-clause-within : goal.returns-clause-within
returns-clause-within g c =
    let s = c.self.inside in
    claim_within (λ l. l.place) s.seat c.claim.new.seat s.directory s.slots.items s.places c.args.name.now c.in-Some.place c.self.invariant.0 c.self.invariant.1 (sym c.find.ensures ∙ c.in-Some.is) c.claim.result c.claim.ensures

pub returns-clause-only : goal.returns-clause-only
returns-clause-only g c =
    let s = c.self.inside in
    claim_only (λ l. l.place) s.seat c.claim.new.seat s.directory s.slots.items s.places c.args.name.now c.in-Some.place c.self.invariant.0 c.self.invariant.1 (sym c.find.ensures ∙ c.in-Some.is) c.args.self.now c.self.view_is c.claim.result c.claim.ensures

pub returns-clause-lease : goal.returns-clause-lease
returns-clause-lease g c =
    let s = c.self.inside in
    claim_lease (λ l. l.place) s.seat c.claim.new.seat s.directory s.slots.items s.places c.args.name.now c.in-Some.place c.self.invariant.0 c.self.invariant.1 (sym c.find.ensures ∙ c.in-Some.is) c.args.self.now c.self.view_is c.claim.result c.claim.ensures

pub returns-clause-err : goal.returns-clause-err
returns-clause-err g c =
    let s = c.self.inside in
    claim_err (λ l. l.place) s.seat c.claim.new.seat s.directory s.slots.items s.places c.args.name.now c.in-Some.place c.self.invariant.0 c.self.invariant.1 (sym c.find.ensures ∙ c.in-Some.is) c.args.self.now c.self.view_is c.claim.result c.claim.ensures

pub returns-clause-refused : goal.returns-clause-refused
returns-clause-refused g c =
    let s = c.self.inside in
    subst (λ (z : SlotsState). RefusedExactly (claim_refusal c.args.name.now z) c.claim.result) c.self.view_is
    (claim_refused (λ l. l.place) s.seat c.claim.new.seat s.directory s.slots.items s.places c.args.name.now c.in-Some.place c.self.invariant.0 c.self.invariant.1 (sym c.find.ensures ∙ c.in-Some.is) c.claim.result c.claim.ensures)
