-- The records as they are kept, and one more of them.
use Rattle.std.proofs.Common.{◌≡◌, ℕ, List, [], ◌∷◌, ◌++◌, take, drop, refl}
use Rattle.std.specs.declared.sync.Arc.{Arc}
use Rattle.std.specs.List.{take-map, drop-map}
use Rattle.std.proofs.lemmas.List.{map-append}
use Rattle.wal.specs.declared.record.Record.{Record}
use Rattle.wal.specs.Log.{end_of}
use Rattle.wal.specs.Records.{shared_records}
use Rattle.wal.proofs.Laws.{end_of-append}

pub shared_push : {A : Type 0} (records : List (Arc Record A)) (record' : Arc Record A) → shared_records (records ++ record' ∷ []) ≡ shared_records records ++ record'.value ∷ []
shared_push records record' = map-append (λ r. r.value) records (record' ∷ [])

pub end_of_push : (at : ℕ) (log : List Record) (r : Record) → end_of at (log ++ r ∷ []) ≡ r.end
end_of_push at log r = end_of-append at log (r ∷ [])

pub shared_part : {A : Type 0} (records : List (Arc Record A)) (place max : ℕ) → shared_records (take max (drop place records)) ≡ take max (drop place (shared_records records))
shared_part records place max = rw (drop-map (λ r. r.value) place records, take-map (λ r. r.value) max (drop place records)) refl
