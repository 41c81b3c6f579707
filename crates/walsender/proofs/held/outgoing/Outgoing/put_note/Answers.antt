use Rattle.std.proofs.Common.{◌≡◌, List, drop, length, sym, subst, ◌∙◌, arith}
use Rattle.std.specs.Int.{w64}
use Rattle.std.proofs.lemmas.Int.{to_z-of_z}
use Rattle.std.proofs.lemmas.List.{take_at}
use Rattle.publication.specs.Logged.{note_message}
use Rattle.row_messages.specs.Spelling.{IsPut}
use Rattle.std.specs.Prelude.{ℕ, Some}
use Rattle.walsender.proofs.Noting.{note_fits, on_ok}
use Rattle.walsender.proofs.Noted.{note_grows}
use Rattle.walsender.proofs.held.outgoing.Outgoing.put_note.Goals as goal

pub returns-clause-grows : goal.returns-clause-grows
returns-clause-grows c = λ s good.
    let out = c.put_note.new.out in
    let whole : c.deref.result.now ≡ out =
    c.deref.ensures.value ∙ take_at out (drop (length out) c.make_room.new.room.items) c.make_room.new.room.len (c.put_note.ensures.same ∙ c.as_mut_slice.ensures.len) in
    let put = c.in-Some.ensures.message c.args.note.now c.body-body.ensures.spells in
    let put_there = subst (λ (room : List ℕ). IsPut (Some c.in-Some.length) room (note_message c.args.selection.now c.args.start c.args.note.now)) (sym whole) put in
    let adds = rw (to_z-of_z w64 c.args.clock c.ranges.clock) at c.note.ensures in
    note_grows c.args.selection.now s c.args.self.now c.note.new.self c.args.clock c.args.start c.args.end c.in-Some.length c.args.note.now c.deref.result.now c.note.result good put_there
    (λ m is. c.put_note.ensures.fits c.args.note.now m c.body-body.ensures.spells is) adds

pub returns-clause-fit : goal.returns-clause-fit
returns-clause-fit c =
    on_ok c.note.result _ (note_fits c.args.selection.now c.args.start c.args.end c.args.note.now (omega (arith, c.ranges.start.fits)) (omega (arith, c.ranges.end.fits))
    (λ m is. c.put_note.ensures.fits c.args.note.now m c.body-body.ensures.spells is))
