use Rattle.server.proofs.Once.{once}
use Rattle.server.proofs.asked.question.no_text_asks_two_questions.Goals as goal

pub returns : goal.returns
returns c = once
