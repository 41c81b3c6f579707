use Rattle.std.proofs.Common.{false, refl, ap, ◌∙◌, arith}
use Rattle.slots.specs.State.{holds_at, slot_with_hold, slots_after_release}
use Rattle.slots.proofs.Claiming.{done_by_name}
use Rattle.slots.proofs.NamedStanding.{held_at, each_held, all_shown_held, still_stands, held_word, is_made}
use Rattle.slots.proofs.NamedFacts.{one_step}
use Rattle.slots.proofs.by_name.named.NamedSlots.release.Goals as goal

pub release-requires : goal.release-requires
release-requires g c = (held_at c.self.inside.seat c.args.lease.place c.self.inside.slots.items c.self.invariant.1.each (ap (holds_at c.args.lease.place) c.self.view_is ∙ c.requires)).held

pub invariant_of-self : goal.invariant_of-self
invariant_of-self g c =
    let stands = c.self.invariant.1 in
    let v = c.self.inside.seat in
    let p = c.args.lease.place in
    let ss = c.self.inside.slots.items in
    let is = held_at v p ss stands.each (ap (holds_at p) c.self.view_is ∙ c.requires) in
    let changes = one_step v c.release.new.seat _ c.release.ensures in (
      c.self.invariant.0,
      still_stands v c.release.new.seat p _ changes ss ss c.self.inside.places stands (is_made v p ss c.self.inside.places stands is) refl (λ gone. let word = held_word v p ss is in absurd (omega (arith, gone, word)))
          (each_held v c.release.new.seat p _ changes false refl refl refl ss stands.each),
    )

pub returns-clause-released : goal.returns-clause-released
returns-clause-released g c =
    let v = c.self.inside.seat in
    let changes = one_step v c.release.new.seat _ c.release.ensures in
    ap (λ ts. record { slots = ts; places = c.self.inside.places }) (all_shown_held v c.release.new.seat c.args.lease.place _ changes false refl refl refl c.self.inside.slots.items)
    ∙ ap (slots_after_release c.args.lease.place) c.self.view_is

pub returns-clause-named : goal.returns-clause-named
returns-clause-named g c = λ name found.
    returns-clause-released g c
    ∙ ap (λ ts. record { slots = ts; places = c.args.self.now.places })
    (done_by_name c.self.inside.seat c.self.inside.directory c.self.inside.slots.items c.self.inside.places c.args.self.now c.args.lease.place (slot_with_hold false) c.self.invariant.0 c.self.invariant.1 c.self.view_is name found)
