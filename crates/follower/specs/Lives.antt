-- Runs one after the other over one output, each ended or killed at any place: the next goes on from what the output holds.
use Rattle.std.specs.Prelude.{◌≡◌, ℕ, ◌+◌, ◌<◌, ◌≤◌, true, List, [], ◌∷◌, ◌++◌, Option, if◌then◌else◌}
use Rattle.std.specs.List.{AllByRecursion}
use Rattle.pgoutput.specs.declared.published.Published.{Published}
use Rattle.follower.specs.Standing.{Standing, Deed, Runs}
use Rattle.follower.specs.Promise.{begun_at, printed_in}

-- where a run goes on, as its last line tells: at a transaction's end, or a byte past a note's start
abbrev pub place_after : Published → ℕ
place_after t = if t.is_note then t.start + 1 else t.end

-- where one goes on after all of them
abbrev pub place_after_all : ℕ → List Published → ℕ
place_after_all start [] = start
place_after_all start (t ∷ ts) = place_after_all (place_after t) ts

-- From a position on, each starts where a run would go on after the one before it, or later. So none stands there twice.
abbrev pub EachBehind : ℕ → List Published → Type 0
EachBehind from [] = Unit {0}
EachBehind from (t ∷ ts) = (from ≤ t.start) × (t.start < place_after t) × EachBehind (place_after t) ts

-- a note's record ends past its start
abbrev pub IsForwardNote : Published → Type 0
IsForwardNote t = t.is_note ≡ true → t.start < t.end

-- where a run began, what it did until it ended or was killed, and which of the transactions that waited then had come whole to
-- the output; what came of the rest is cut off
pub record Life : Type 0 where
  pub from : ℕ
  pub written : Option (List ℕ)
  pub kept : Option (List ℕ)
  pub sent : Option (List ℕ)
  pub deeds : List Deed
  pub now : Standing
  pub whole : List Published
  pub rest : List Published

abbrev pub beginning : Life → Standing
beginning life = begun_at life.from life.written life.kept life.sent

-- It began after all that the output held. Its server is asked for one thing: that the records of notes end past their starts.
pub record Lived (start : ℕ) (printed : List Published) (life : Life) : Type 0 where
  pub behind : place_after_all start printed ≤ life.from
  pub run : Runs (beginning life) life.deeds life.now
  pub waited : life.now.applier.subscriber.applied ≡ life.whole ++ life.rest
  pub forward : AllByRecursion IsForwardNote (printed_in (beginning life) life.deeds life.now run ++ life.whole)

-- what the output holds after it
abbrev pub printed_after : (start : ℕ) (printed : List Published) (life : Life) → Lived start printed life → List Published
printed_after start printed life lived = printed ++ (printed_in (beginning life) life.deeds life.now lived.run ++ life.whole)

abbrev pub Lives : ℕ → List Published → List Life → Type 0
Lives start printed [] = Unit {0}
Lives start printed (life ∷ lives) = (lived : Lived start printed life) × Lives start (printed_after start printed life lived) lives

-- and after all of them
abbrev pub printed_over : (start : ℕ) (printed : List Published) (lives : List Life) → Lives start printed lives → List Published
printed_over start printed [] lived = printed
printed_over start printed (life ∷ lives) lived = printed_over start (printed_after start printed life lived.0) lives lived.1
