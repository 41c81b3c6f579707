-- How a place stands, and the word that says so.
use Rattle.std.specs.Prelude.{ℕ, zero, suc, ◌+◌}
use Rattle.slots.specs.declared.words_kept.standing.Standing.{Standing}
use Rattle.slots.specs.declared.words_kept.standing.Standing.TheVariants.{Never, Free, Dropped, Held}

-- the word of a place that this seat holds
abbrev pub held_by : ℕ → ℕ
held_by seat = seat + 3

abbrev pub word_of : Standing → ℕ
word_of Never = 0
word_of Free = 1
word_of Dropped = 2
word_of (Held seat) = held_by seat

abbrev pub standing_of : ℕ → Standing
standing_of zero = Never
standing_of (suc zero) = Free
standing_of (suc (suc zero)) = Dropped
standing_of (suc (suc (suc seat))) = Held seat
