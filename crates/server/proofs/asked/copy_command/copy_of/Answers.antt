use Rattle.std.proofs.Common.{◌≡◌, ◌++◌, refl, sym, subst, ◌∙◌, arith}
use Rattle.std.specs.Prelude.{codes}
use Rattle.std.specs.Str.{IsUtf8}
use Rattle.replcmd.proofs.Texts.{cut_at_ascii}
use Rattle.server.proofs.CopyForms.{filtered_reads, has_end, whole_reads}
use Rattle.server.proofs.Lists.{after_text}
use Rattle.server.proofs.asked.copy_command.copy_of.Goals as goal

pub returns-in_default : goal.returns-in_default
returns-in_default c = has_end c.args.text.now (λ front is. c.in_default.ensures front (c.as_bytes.ensures.value ∙ is))

pub filtered_of-requires : goal.filtered_of-requires
filtered_of-requires c =
    let ends : c.args.text.now ≡ c.in-Some.front.now ++ codes ") TO STDOUT" = sym c.as_bytes.ensures.value ∙ c.in-Some.ensures in
    let front = (cut_at_ascii c.in-Some.front.now 41 (codes " TO STDOUT") (omega arith) (subst IsUtf8 ends c.utf8.text)).0 in
    after_text (codes "COPY (SELECT ") c.in-Some-behind.selected.now refl (subst IsUtf8 c.in-Some-behind.ensures front)

pub whole_of-requires : goal.whole_of-requires
whole_of-requires c =
    let ends : c.args.text.now ≡ c.in-Some.front.now ++ codes ") TO STDOUT" = sym c.as_bytes.ensures.value ∙ c.in-Some.ensures in
    (cut_at_ascii c.in-Some.front.now 41 (codes " TO STDOUT") (omega arith) (subst IsUtf8 ends c.utf8.text)).0

pub returns-in-Some-behind : goal.returns-in-Some-behind
returns-in-Some-behind c =
    let ends : c.args.text.now ≡ c.in-Some.front.now ++ codes ") TO STDOUT" = sym c.as_bytes.ensures.value ∙ c.in-Some.ensures in
    filtered_reads c.args.text.now c.in-Some.front.now c.in-Some-behind.selected.now c.filtered_of.result ends c.in-Some-behind.ensures c.filtered_of.ensures

pub returns-in-None : goal.returns-in-None
returns-in-None c =
    let ends : c.args.text.now ≡ c.in-Some.front.now ++ codes ") TO STDOUT" = sym c.as_bytes.ensures.value ∙ c.in-Some.ensures in
    whole_reads c.args.text.now c.in-Some.front.now c.whole_of.result ends c.in-None.ensures c.whole_of.ensures
