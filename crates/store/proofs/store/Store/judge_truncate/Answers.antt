use Rattle.std.proofs.Common.{Bool, sym, ap, subst, arith, None, ◌∙◌}
use Rattle.store.specs.declared.store_fault.StoreFault.TheVariants as faults
use Rattle.store.specs.History.{unless, is_any_held}
use Rattle.store.specs.Keeping.{StoreState}
use Rattle.store.specs.Emptying.{AreAtPlace, is_other_within}
use Rattle.store.proofs.Refusing.{within_held, truncate_is, no_more, oids_fit}
use Rattle.store.proofs.store.Store.judge_truncate.Goals as goal

pub returns-then-oids-gt-MAX_TRUNCATED-clause-few : goal.returns-then-oids-gt-MAX_TRUNCATED-clause-few
returns-then-oids-gt-MAX_TRUNCATED-clause-few c _ =
    omega (arith, c.if-oids-gt-MAX_TRUNCATED.true, no_more c.args.self.now.tables c.args.oids.now (sym c.has_tables.ensures ∙ c.if-not-has_tables.false) (sym c.repeats.ensures ∙ c.if-repeats.false))

pub returns-then-is_held_within-clause-refused : goal.returns-then-is_held_within-clause-refused
returns-then-is_held_within-clause-refused c h keeps =
    let at = subst (λ (s : StoreState). AreAtPlace s.slots) c.self.view_is c.is_held_within.ensures.places in
    truncate_is c.args.self.now.tables c.args.oids.now (is_any_held c.args.self.now.tables c.args.top h c.args.oids.now) (sym c.has_tables.ensures ∙ c.if-not-has_tables.false)
    (sym c.is_empty.ensures ∙ c.if-is_empty.false) (sym c.repeats.ensures ∙ c.if-repeats.false) c.if-oids-gt-MAX_TRUNCATED.false
    ∙ ap (λ (a : Bool). unless a faults.KeyHeld None) (sym (within_held c.args.self.now h c.args.top c.args.oids.now at keeps)
    ∙ ap (λ (s : StoreState). is_other_within c.args.top c.args.oids.now s.slots) (sym c.self.view_is) ∙ sym c.is_held_within.ensures.held ∙ c.if-is_held_within.true)

pub returns-clause-refused : goal.returns-clause-refused
returns-clause-refused c h keeps =
    let at = subst (λ (s : StoreState). AreAtPlace s.slots) c.self.view_is c.is_held_within.ensures.places in
    truncate_is c.args.self.now.tables c.args.oids.now (is_any_held c.args.self.now.tables c.args.top h c.args.oids.now) (sym c.has_tables.ensures ∙ c.if-not-has_tables.false)
    (sym c.is_empty.ensures ∙ c.if-is_empty.false) (sym c.repeats.ensures ∙ c.if-repeats.false) c.if-oids-gt-MAX_TRUNCATED.false
    ∙ ap (λ (a : Bool). unless a faults.KeyHeld None) (sym (within_held c.args.self.now h c.args.top c.args.oids.now at keeps)
    ∙ ap (λ (s : StoreState). is_other_within c.args.top c.args.oids.now s.slots) (sym c.self.view_is) ∙ sym c.is_held_within.ensures.held ∙ c.if-is_held_within.false)

pub returns-clause-fits : goal.returns-clause-fits
returns-clause-fits c =
    (c.if-oids-gt-MAX_TRUNCATED.false, oids_fit c.args.self.now.tables c.args.oids.now (λ i. omega (arith, c.type_inv.oids i)) (sym c.has_tables.ensures ∙ c.if-not-has_tables.false))
