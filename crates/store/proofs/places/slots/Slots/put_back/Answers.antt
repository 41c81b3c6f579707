use Rattle.std.proofs.Common.{ℕ, List, cond, sym, ap, subst, ◌∙◌}
use Rattle.store.specs.Keeping.{AreShort}
use Rattle.store.specs.Slots.{Entries, AreUsed, is_used, same_key, slot_at, slots_with}
use Rattle.store.proofs.Undoing.{swapped, was_there, used_there, used_put, slot_put, short_there}
use Rattle.store.proofs.places.slots.Slots.put_back.Goals as goal

pub invariant_of-self : goal.invariant_of-self
invariant_of-self c =
    subst AreUsed (sym (swapped c.self.inside.by_place.entries c.insert.new.self.entries c.args.self.now c.into_vec.result c.args.undo.before c.self.view_is c.in-Ok.ensures.entries))
    (used_put c.into_vec.result.items c.args.undo.before c.args.self.now (sym c.is_used.ensures ∙ c.if-not-is_used.false)
    (subst AreUsed c.self.view_is c.self.invariant))

pub returns-in-Ok-clause-slots : goal.returns-in-Ok-clause-slots
returns-in-Ok-clause-slots c used place =
    ap (λ (es : Entries). slot_at es place) (swapped c.self.inside.by_place.entries c.insert.new.self.entries c.args.self.now c.into_vec.result c.args.undo.before c.self.view_is c.in-Ok.ensures.entries)
    ∙ slot_put c.into_vec.result.items c.args.undo.before c.args.self.now place
    ∙ ap (λ (k : List ℕ). cond (same_key place k) c.args.undo.before (slot_at c.args.self.now place)) c.into_vec.ensures

pub returns-in-Ok-clause-short : goal.returns-in-Ok-clause-short
returns-in-Ok-clause-short c used all =
    subst AreShort (sym (swapped c.self.inside.by_place.entries c.insert.new.self.entries c.args.self.now c.into_vec.result c.args.undo.before c.self.view_is c.in-Ok.ensures.entries
    ∙ ap (λ (k : List ℕ). slots_with k c.args.undo.before c.args.self.now) c.into_vec.ensures))
    (short_there c.args.undo.key c.args.undo.before c.args.self.now (used_there c.args.self.now c.args.undo.key used) all)

pub returns-clause-slots : goal.returns-clause-slots
returns-clause-slots c used place =
    absurd (was_there c.self.inside.by_place.entries c.args.self.now c.into_vec.result c.args.undo.key c.self.view_is c.into_vec.ensures c.in-Err.ensures.absent
    (used_there c.args.self.now c.args.undo.key used))
