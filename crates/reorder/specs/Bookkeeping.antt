-- NOT NEEDED BY A READER OF THE PROMISE. How a regrouping stands for the records that it has taken, xid by xid, so that it can
-- take the next one: `HasTaken` has it as its last field, the proofs alone look inside.
use Rattle.std.specs.Prelude.{◌≡◌, ◌==◌, ℕ, true, false, List, [], ◌∷◌, filter, reverse, Some, None, IsSome}
use Rattle.std.specs.List.{AllByRecursion}
use Rattle.wal.specs.declared.record.Record.{Record}
use Rattle.wal.specs.Log.{Entry, is_named, is_undone, is_dropped, has_ended, chain, last_of, top_of, entries}
use Rattle.reorder.specs.Strands.{StrandState, ByXid, above_of, is_in, AreDistinct}
use Rattle.reorder.specs.Rising.{IsRising}

-- the changes of an xid, in order
abbrev pub changes_of : List Record → ℕ → List Entry
changes_of rs x = filter (λ e. e.xid == x) (entries rs)

-- A strand is what these records say of its xid; the xid and all above it are among those of its transaction.
pub record IsStrand (l : ByXid) (rs : List Record) (x : ℕ) (s : StrandState) : Type 0 where
  pub chain : chain rs x ≡ x ∷ s.above
  pub changes : is_dropped rs x ≡ false → s.changes ≡ changes_of rs x
  pub freed : is_dropped rs x ≡ true → s.changes ≡ []
  pub members : List ℕ
  pub members_are : l.members (last_of x s.above) ≡ Some members
  pub within : AllByRecursion (λ y. is_in y members ≡ true) (x ∷ s.above)

-- told from the last one on: no xid stands twice, and all that are above one come after it
abbrev pub AreOrdered : ByXid → List ℕ → Type 0
AreOrdered l [] = Unit {0}
AreOrdered l (x ∷ xs) = (is_in x xs ≡ false) × AllByRecursion (λ y. is_in y xs ≡ true) (above_of l x) × AreOrdered l xs

-- the xids of a transaction in progress, each with a strand
pub record IsTransaction (l : ByXid) (rs : List Record) (t : ℕ) (xs : List ℕ) : Type 0 where
  pub running : has_ended rs t ≡ false
  pub own : is_in t xs ≡ true
  pub distinct : AreDistinct xs
  pub strands : (x : ℕ) → is_in x xs ≡ true → IsSome (l.strand x)
  pub tops : (x : ℕ) → is_in x xs ≡ true → top_of rs x ≡ t
  pub ordered : AreOrdered l (reverse xs)

-- Each xid of a transaction in progress has its strand, unless all that these records say of it is that it is rolled back.
pub record AreStrandsOf (l : ByXid) (rs : List Record) : Type 0 where
  pub strands : (x : ℕ) (s : StrandState) → l.strand x ≡ Some s → IsStrand l rs x s
  pub transactions : (t : ℕ) (xs : List ℕ) → l.members t ≡ Some xs → IsTransaction l rs t xs
  pub complete : (x : ℕ) → is_named rs x ≡ true → is_undone rs x ≡ false → has_ended rs (top_of rs x) ≡ false → IsSome (l.strand x)
  pub rising : IsRising (entries rs)

-- and no other xid has one
pub record IsBookkeeping (l : ByXid) (rs : List Record) : Type 0 where
  pub strands : AreStrandsOf l rs
  pub unnamed : (x : ℕ) → is_named rs x ≡ false → l.strand x ≡ None
