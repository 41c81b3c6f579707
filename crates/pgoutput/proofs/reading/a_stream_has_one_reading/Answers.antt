use Rattle.std.proofs.Common.{ℕ, List, [], ◌++◌, ap}
use Rattle.pgoutput.proofs.Whole.{two_spellings}
use Rattle.pgoutput.proofs.OneReading.{one_reading}
use Rattle.pgoutput.proofs.reading.a_stream_has_one_reading.Goals as goal

pub returns : goal.returns
returns c = one_reading (λ m n fits_m fits_n e. (two_spellings m n [] [] fits_m fits_n (ap (λ (l : List ℕ). l ++ []) e)).0)
