use Rattle.slots.proofs.Seating.{opens}
use Rattle.slots.proofs.opened.OpenedSlots.new.Goals as goal

pub of_words-requires : goal.of_words-requires
of_words-requires c = opens
