-- What a session's line answers in a run, and the codes by which refusals are printed.
use Rattle.std.specs.Prelude.{ℕ, codes, List, Option, Some, None}
use Rattle.txlog.specs.Publishing.{code_of}
use Rattle.publication_config.specs.Faults.{publication_code_of}
use Rattle.walsender.specs.declared.fault.SendFault.{SendFault}
use Rattle.walsender.specs.declared.fault.SendFault.TheVariants as sends
use Rattle.client.specs.declared.fault.ClientFault.{ClientFault}
use Rattle.client.specs.declared.fault.ClientFault.TheVariants as clients
use Rattle.world.specs.declared.printed.answer.Answer.{Answer}
use Rattle.world.specs.declared.printed.answer.Answer.TheVariants as answers
use Rattle.schedule.specs.declared.session_answer.SessionAnswer.{SessionAnswer}
use Rattle.schedule.specs.declared.session_answer.SessionAnswer.TheVariants as lines
use Rattle.slots.specs.Codes.{slot_code}

abbrev pub answer_of : SessionAnswer → Answer
answer_of lines.Done = answers.Done
answer_of (lines.Refused fault) = answers.Session fault

abbrev pub sender_code : SendFault → List ℕ
sender_code sends.ArenaFull = codes "G1"
sender_code sends.Memory = codes "G2"
sender_code sends.Failed = codes "G3"
sender_code sends.Gap = codes "G4"

abbrev pub subscriber_code : ClientFault → List ℕ
subscriber_code clients.Frame = codes "K1"
subscriber_code clients.Order = codes "K2"
subscriber_code clients.UnknownRelation = codes "K3"
subscriber_code clients.Server = codes "K4"
subscriber_code clients.Memory = codes "K5"
subscriber_code clients.CommitEnd = codes "K8"

-- the code of a refusal; an event that was done has none
abbrev pub answer_code : Answer → Option (List ℕ)
answer_code answers.Done = None
answer_code (answers.Session fault) = Some (code_of fault)
answer_code (answers.Slot fault) = Some (slot_code fault)
answer_code answers.NoReader = Some (codes "L6")
answer_code answers.Removed = Some (codes "L9")
answer_code (answers.Front place) = None
answer_code (answers.Publication fault) = Some (publication_code_of fault)
answer_code (answers.Sender fault) = Some (sender_code fault)
answer_code (answers.Subscriber fault) = Some (subscriber_code fault)
