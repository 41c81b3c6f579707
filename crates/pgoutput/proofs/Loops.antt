-- A reader's loop over a count that ends at a fault.
use Rattle.std.proofs.Common.{◌≡◌, ℕ, ◌-◌, ◌<◌, List, Result}
use Rattle.pqformat.specs.Steps.{repeat_at}
use Rattle.pqformat.proofs.Loop as loop
use Rattle.pqformat.proofs.Loop.{with_front}
use Rattle.pgoutput.specs.declared.fault.PgoutputError.{PgoutputError}
use Rattle.pgoutput.specs.declared.fault.PgoutputError.TheVariants.{Short, UnknownKind, BadMark, BadText, Trailing, Memory}
use Rattle.pgoutput.specs.Reading.{Fails}

pub ends : {A : Type 0} (d : PgoutputError) (f : List ℕ → Result (A × List ℕ) PgoutputError) (front : List A) (count i : ℕ) (bytes : List ℕ) (total : Result (List A × List ℕ) PgoutputError)
    → i < count → Fails d (f bytes) → with_front front (repeat_at f (count - i) bytes) ≡ total → Fails d total
ends Short f front count i bytes total lt h so_far = loop.ends Short f front count i bytes total lt h so_far
ends UnknownKind f front count i bytes total lt h so_far = loop.ends UnknownKind f front count i bytes total lt h so_far
ends BadMark f front count i bytes total lt h so_far = loop.ends BadMark f front count i bytes total lt h so_far
ends BadText f front count i bytes total lt h so_far = loop.ends BadText f front count i bytes total lt h so_far
ends Trailing f front count i bytes total lt h so_far = loop.ends Trailing f front count i bytes total lt h so_far
ends Memory f front count i bytes total lt h so_far = tt
