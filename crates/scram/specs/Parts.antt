-- The parts of a text that a byte separates.
use Rattle.std.specs.Prelude.{ℕ, ◌==◌, ◌+◌, List, take, drop, Option}
use Rattle.std.specs.List.{position_from}
use Rattle.std.specs.Option.{option_map}

-- where the byte stands first
abbrev pub place_of : ℕ → List ℕ → Option ℕ
place_of mark text = position_from (λ b. b == mark) 0 text

-- the texts before and after that place
abbrev pub parted : ℕ → List ℕ → Option (List ℕ × List ℕ)
parted mark text = option_map (λ at. (take at text, drop (at + 1) text)) (place_of mark text)
