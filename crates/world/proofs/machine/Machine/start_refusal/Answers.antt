use Rattle.std.proofs.Common.{refl, sym, ap, ◌∙◌}
use Rattle.std.specs.Prelude.{Err, not, vec_len}
use Rattle.walsender.specs.declared.beginning.StartFault.{StartFault}
use Rattle.world.specs.Machine.{world_of}
use Rattle.world.proofs.Refusing.{answer_by, told_refusal}
use Rattle.world.proofs.machine.Machine.start_refusal.Goals as goal

pub returns-in-Ok : goal.returns-in-Ok
returns-in-Ok g c =
    ap answer_by (sym c.in-Ok.is) ∙ told_refusal _ c.begin.new.backend (world_of c.args.self.now) (vec_len c.args.self.now.readers) c.begin.result c.begin.ensures.asked refl refl (ap not c.is_empty.ensures) c.requires.machine.readers

pub returns-in-Err-NoSlot : goal.returns-in-Err-NoSlot
returns-in-Err-NoSlot g c =
    ap (λ (f : StartFault). answer_by (Err f)) (sym c.in-Err-NoSlot.field-0-is) ∙ ap answer_by (sym c.in-Err-NoSlot.is)
    ∙ told_refusal _ c.begin.new.backend (world_of c.args.self.now) (vec_len c.args.self.now.readers) c.begin.result c.begin.ensures.asked refl refl (ap not c.is_empty.ensures) c.requires.machine.readers

pub returns-in-Err-Publication : goal.returns-in-Err-Publication
returns-in-Err-Publication g c =
    ap (λ (f : StartFault). answer_by (Err f)) (sym c.in-Err-Publication.field-0-is) ∙ ap answer_by (sym c.in-Err-Publication.is)
    ∙ told_refusal _ c.begin.new.backend (world_of c.args.self.now) (vec_len c.args.self.now.readers) c.begin.result c.begin.ensures.asked refl refl (ap not c.is_empty.ensures) c.requires.machine.readers

pub returns-in-Err-NoReader : goal.returns-in-Err-NoReader
returns-in-Err-NoReader g c =
    ap (λ (f : StartFault). answer_by (Err f)) (sym c.in-Err-NoReader.field-0-is) ∙ ap answer_by (sym c.in-Err-NoReader.is)
    ∙ told_refusal _ c.begin.new.backend (world_of c.args.self.now) (vec_len c.args.self.now.readers) c.begin.result c.begin.ensures.asked refl refl (ap not c.is_empty.ensures) c.requires.machine.readers

pub returns-in-Err-Claim : goal.returns-in-Err-Claim
returns-in-Err-Claim g c =
    ap (λ (f : StartFault). answer_by (Err f)) (sym c.in-Err-Claim.field-0-is) ∙ ap answer_by (sym c.in-Err-Claim.is)
    ∙ told_refusal _ c.begin.new.backend (world_of c.args.self.now) (vec_len c.args.self.now.readers) c.begin.result c.begin.ensures.asked refl refl (ap not c.is_empty.ensures) c.requires.machine.readers
