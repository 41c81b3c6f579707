-- A segment that is written, and one that is found.
use Rattle.std.specs.Prelude.{◌≡◌, ◌<◌, ◌≤◌, ◌+◌, ℕ, List, ◌++◌, drop, length, take, Ok}
use Rattle.std.specs.List.{AllByRecursion}
use Rattle.segments.specs.Crashes.{Outlives}
use Rattle.segments.specs.Entries.{Fits, Reads, Written, entries, entry_at, header}
use Rattle.segments.specs.declared.segment.Segment.{Segment}
use Rattle.segments.specs.declared.header.TheConstants.{HEADER_LENGTH}

-- the file is a header and these entries, and nothing else
pub record HasWritten {D : Type 0} (seen : D → List ℕ) (s : Segment D) (es : List Written) : Type 0 where
  pub file : seen s.disk ≡ header s.key ++ entries s.key es
  pub end : s.end ≡ length (seen s.disk)
  pub fit : AllByRecursion (Fits s.key) es

-- up to its mark it is on the disk
pub record IsMarked {D : Type 0} (seen : D → List ℕ) (may_leave : D → List ℕ → Type 0) (s : Segment D) : Type 0 where
  pub within : s.synced ≤ length (seen s.disk)
  pub lasts : Outlives (take s.synced (seen s.disk)) (may_leave s.disk)

-- an entry stands at the front that tells that more than so much was on the disk
pub record Tells (key : ℕ) (bytes : List ℕ) (at : ℕ) : Type 0 where
  pub entry : Written
  pub next : List ℕ
  pub stands : entry_at key bytes ≡ Ok (entry, next)
  pub more : at < entry.synced

-- one does at this place of the content, or after it
pub record TellsMore (key : ℕ) (content : List ℕ) (at : ℕ) : Type 0 where
  pub later : ℕ
  pub after : at ≤ later
  pub told : Tells key (drop later content) at

-- A content of a header and these entries, which end where no entry stands.
pub record Finds (key : ℕ) (es : List Written) (content : List ℕ) : Type 0 where
  pub rest : List ℕ
  pub header : take HEADER_LENGTH content ≡ header key
  pub reads : Reads key es (drop HEADER_LENGTH content) rest

-- where its entries end, at this place, something else stands, though later ones tell that this was on the disk
pub record IsDamaged (content : List ℕ) (at : ℕ) : Type 0 where
  pub key : ℕ
  pub es : List Written
  pub found : Finds key es content
  pub place : at + length found.rest ≡ length content
  pub told : TellsMore key content at
