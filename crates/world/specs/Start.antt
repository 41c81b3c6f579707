-- A start as it is seen from outside.
use Rattle.std.specs.Prelude.{ℕ, ◌+◌, Bool, ◌&&◌, List, [], ◌∷◌, if◌then◌else◌}
use Rattle.std.specs.Str.{bytes_eq}
use Rattle.publication.specs.Publications.{PublicationSet}

-- A start of a connection's sender: what it selects, from which position on, how far it has read the log, whether it has
-- failed, and which bytes it has produced and holds. It is open until it is cut; then it holds nothing any more.
pub record StartState : Type 0 where
  pub connection : List ℕ
  pub is_open : Bool
  pub selection : PublicationSet
  pub start : ℕ
  pub position : ℕ
  pub failed : Bool
  pub produced : List ℕ
  pub held : List ℕ

-- whether this is the open start of the connection
abbrev pub is_open_for : List ℕ → StartState → Bool
is_open_for connection s = bytes_eq s.connection connection && s.is_open

-- how many senders are running: one for each open start, whether it has failed or not
abbrev pub running_count : List StartState → ℕ
running_count [] = 0
running_count (s ∷ starts) = if s.is_open then running_count starts + 1 else running_count starts
