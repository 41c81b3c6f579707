-- Commit (PostgreSQL 15, 55.9): C, a flags byte that is 0, the commit record's position, its end, the commit time.
use Rattle.std.specs.Prelude.{ℕ, ◌<◌, ◌^◌, FitsSigned, List, [], ◌∷◌, ◌++◌, Result, Ok}
use Rattle.std.specs.Int.{w64, cast_unsigned}
use Rattle.pqformat.specs.Fields.{int64, number_at}
use Rattle.pqformat.specs.Steps.{◌>>=◌}
use Rattle.pgoutput.specs.Reading.{short, expected_letter, signed64_at}
use Rattle.pgoutput.specs.declared.fault.PgoutputError.{PgoutputError}
use Rattle.pgoutput.specs.declared.messages.commit.Commit.{Commit}
use Rattle.pgoutput.specs.declared.messages.commit.TheConstants.{COMMIT_FLAGS}

abbrev pub commit : Commit → List ℕ
commit m = (COMMIT_FLAGS ∷ []) ++ (int64 m.position ++ (int64 m.end ++ int64 (cast_unsigned w64 m.time)))

abbrev pub FitsCommit : Commit → Type 0
FitsCommit m = (m.position < 2 ^ 64) × ((m.end < 2 ^ 64) × FitsSigned w64 m.time)

unfoldable pub commit_at : List ℕ → Result (Commit × List ℕ) PgoutputError
commit_at bytes = do
  flags ← expected_letter COMMIT_FLAGS bytes
  position ← short (number_at w64 flags.1)
  end ← short (number_at w64 position.1)
  time ← signed64_at end.1
  Ok (record { position = position.0; end = end.0; time = time.0 }, time.1)
