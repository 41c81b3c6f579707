-- The pipe back of a connection holds bytes, the frames of statuses: how these are spelled, and which are read there.
use Rattle.std.specs.Prelude.{◌≡◌, ℕ, zero, suc, List, [], ◌∷◌, drop, length, Option, Some, None, Result, Ok, Err}
use Rattle.std.specs.Result.{result_ok}
use Rattle.std.specs.List.{AllByRecursion, flat_map}
use Rattle.frames.specs.declared.copy_data.TheConstants.{COPY_DATA}
use Rattle.frames.specs.declared.fault.FrameFault.{FrameFault}
use Rattle.frames.specs.declared.front.Front.{Front}
use Rattle.frames.specs.declared.front.Front.TheVariants.{CopyData}
use Rattle.frames.specs.Frame.{frame}
use Rattle.frames.specs.Front.{framed_front}
use Rattle.copyboth.specs.declared.status.Status.{Status}
use Rattle.copyboth.specs.Reading.{client_at}
use Rattle.copyboth.specs.Status.{SpellsStatus, status}

-- the frame in which a client sends a status
abbrev pub status_frame : Status → List ℕ
status_frame s = frame COPY_DATA (status s)

-- ---- Which statuses are read.

-- what a client's frame tells
abbrev pub told_in : Front → Option Status
told_in (CopyData m) = result_ok (client_at m.bytes)
told_in frame = None

abbrev pub before : Option Status → List Status → List Status
before None later = []
before (Some s) later = s ∷ later

-- what the frame at the front tells, and those after it
abbrev pub told_by : Result (Option (Front × ℕ)) FrameFault → (ℕ → List Status) → List Status
told_by (Ok (Some f)) later = before (told_in f.0) (later f.1)
told_by (Ok None) later = []
told_by (Err e) later = []

-- at most so many, one after the other from the front
unfoldable pub statuses_at : ℕ → List ℕ → List Status
statuses_at zero bytes = []
statuses_at (suc most) bytes = told_by (framed_front bytes) (λ n. statuses_at most (drop n bytes))

unfoldable pub statuses_in : List ℕ → List Status
statuses_in bytes = statuses_at (length bytes) bytes

-- ---- What a pipe holds.

-- a status that can be sent
abbrev pub IsSpelled : Status → Type 0
IsSpelled s = SpellsStatus (status s) s

-- The bytes are the frames of the statuses that are read there, and no others.
pub record IsPipe (bytes : List ℕ) : Type 0 where
  pub fits : AllByRecursion IsSpelled (statuses_in bytes)
  pub is : bytes ≡ flat_map status_frame (statuses_in bytes)
