use Rattle.walsender.proofs.Sections.{section_may_follow}
use Rattle.walsender.proofs.section.a_section_may_be_fed.Goals as goal

pub returns : goal.returns
returns c = section_may_follow
