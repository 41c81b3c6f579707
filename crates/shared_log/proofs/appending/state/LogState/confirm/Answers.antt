use Rattle.std.proofs.Common.{◌≡◌, arith, List, ◌++◌, ◌∷◌, [], None, length, ap, sym, subst, ◌∙◌}
use Rattle.shared_log.specs.declared.histories.entry.Entry.{Entry}
use Rattle.shared_log.specs.declared.histories.entry.Entry.TheVariants.{Confirmed}
use Rattle.shared_log.specs.SeenPrefixes.{open_from}
use Rattle.shared_log.specs.Writing.{IsOffered}
use Rattle.shared_log.proofs.Writing.{settled_within, stands_confirmed}
use Rattle.shared_log.proofs.appending.state.LogState.confirm.Goals as goal

pub note-requires : goal.note-requires
note-requires g c = record { room = c.self.invariant.room c.requires.offered (ap (open_from None) c.self.view_is ∙ c.requires.waits) }

pub overflow_add-self : goal.overflow_add-self
overflow_add-self g c = record { fits = omega (arith, c.self.invariant.counted, settled_within c.self.inside.front, ap length c.self.view_is, c.requires.short) }

pub invariant_of-self : goal.invariant_of-self
invariant_of-self g c =
    let offered : IsOffered c.self.inside.front c.args.outline = subst (λ (es : List Entry). IsOffered es c.args.outline) (sym c.self.view_is) c.requires in
    let next : c.confirmed.result ≡ c.self.inside.front ++ Confirmed ∷ [] = rw c.again.ensures at c.confirmed.ensures.value in
    stands_confirmed c.self.inside.front _ _ _ _ _ c.self.inside.openings c.note.new.self c.args.outline c.self.invariant offered next c.again-2.ensures c.note.ensures
