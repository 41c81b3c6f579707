-- What stands in a segment, a file of the log on the disk: a header, and entries, one after the other, as long as whole ones come.
use Rattle.std.specs.Prelude.{◌≡◌, ◌<◌, ◌^◌, ◌==◌, ℕ, List, [], ◌∷◌, ◌++◌, length, Option, Result, Ok, Err, ok_or, if◌then◌else◌}
use Rattle.std.specs.Int.{w32, w64}
use Rattle.std.specs.List.{flat_map}
use Rattle.pqformat.specs.Fields.{bytes_at, int32, int64, number_at}
use Rattle.pqformat.specs.Steps.{◌>>=◌}
use Rattle.sqlite_disk.specs.Digest.{digest}
use Rattle.segments.specs.declared.header.TheConstants.{MAGIC, VERSION}

-- A body, and up to where its segment was on the disk when the entry was written.
pub record Written : Type 0 where
  pub synced : ℕ
  pub body : List ℕ

-- what a digest is taken of
abbrev pub payload : Written → List ℕ
payload e = int64 e.synced ++ e.body

-- an entry: the length of its payload, the payload's digest under the segment's key, and the payload
abbrev pub entry : ℕ → Written → List ℕ
entry key e = int32 (length (payload e)) ++ (int64 (digest key (payload e)) ++ payload e)

abbrev pub entries : ℕ → List Written → List ℕ
entries key es = flat_map (entry key) es

-- its fields have room for it
abbrev pub Fits : ℕ → Written → Type 0
Fits key e = (length (payload e) < 2 ^ 32) × (digest key (payload e) < 2 ^ 64) × (e.synced < 2 ^ 64)

-- what a segment is, the version of its format, and its key
abbrev pub signature : ℕ → List ℕ
signature key = int64 MAGIC ++ (int32 VERSION ++ int64 key)

-- what a segment begins with: that, and its digest
abbrev pub header : ℕ → List ℕ
header key = signature key ++ int64 (digest key (signature key))

-- READING

-- a field that is there
abbrev pub there : {A : Type 0} → Option A → Result A (Unit {0})
there field = ok_or field tt

-- the payload, if it has this digest, as an entry
abbrev pub tested : ℕ → ℕ → List ℕ × List ℕ → Result (Written × List ℕ) (Unit {0})
tested key wanted p = if digest key p.0 == wanted then (there (number_at w64 p.0) >>= λ s. Ok (record { synced = s.0; body = s.1 }, p.1)) else Err tt

-- the entry at the front, with what follows it, if one stands there whole
abbrev pub entry_at : ℕ → List ℕ → Result (Written × List ℕ) (Unit {0})
entry_at key bytes = there (number_at w32 bytes) >>= λ n. there (number_at w64 n.1) >>= λ d. there (bytes_at n.0 d.1) >>= tested key d.0

-- these entries stand at the front, one after the other, and this follows
abbrev pub ReadsTo : ℕ → List Written → List ℕ → List ℕ → Type 0
ReadsTo key [] bytes rest = rest ≡ bytes
ReadsTo key (e ∷ es) bytes rest = (next : List ℕ) × (entry_at key bytes ≡ Ok (e, next)) × ReadsTo key es next rest

-- the same, and where they end none does
abbrev pub Reads : ℕ → List Written → List ℕ → List ℕ → Type 0
Reads key es bytes rest = ReadsTo key es bytes rest × (entry_at key rest ≡ Err tt)
