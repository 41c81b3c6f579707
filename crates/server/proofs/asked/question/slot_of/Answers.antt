use Rattle.std.proofs.Common.{◌≡◌, false, refl, subst, rules}
use Rattle.std.specs.Prelude.{codes}
use Rattle.std.specs.Str.{IsUtf8}
use Rattle.replcmd.specs.Words.{is_slot_name}
use Rattle.server.proofs.Lists.{after_text}
use Rattle.server.proofs.Slots.{drops_quoted, named_text}
use Rattle.server.proofs.asked.question.slot_of.Goals as goal

pub returns-in_default : goal.returns-in_default
returns-in_default c slot spells = absurd (c.in_default.ensures _ spells.1.1)

pub quoted_slot_of-requires : goal.quoted_slot_of-requires
quoted_slot_of-requires c =
    named_text c.in-Some.rest.now c.in-Some-before.named.now c.in-Some-before.ensures (after_text (codes "DROP_REPLICATION_SLOT ") c.in-Some.rest.now refl (subst IsUtf8 c.in-Some.ensures c.requires))

pub returns-in-None : goal.returns-in-None
returns-in-None c =
    let bare : is_slot_name c.in-Some-before.named.now ≡ false = search rules in
    drops_quoted c.args.text.now c.in-Some.rest.now c.in-Some-before.named.now c.quoted_slot_of.result c.in-Some.ensures c.in-Some-before.ensures bare c.quoted_slot_of.ensures
