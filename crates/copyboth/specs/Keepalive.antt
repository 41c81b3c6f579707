-- Primary keepalive (PostgreSQL 15, 55.4): k, the end of the log at the server, the server's clock, and a byte that is
-- 1 where the client should answer at once, else 0.
use Rattle.std.specs.Prelude.{ℕ, ℤ, Bool, true, false, List, [], ◌∷◌, ◌++◌}
use Rattle.std.specs.Int.{w64, cast_unsigned}
use Rattle.pqformat.specs.Fields.{int64}
use Rattle.copyboth.specs.declared.keepalive.TheConstants.{KEEPALIVE, ASKS, SILENT}

abbrev pub ask_byte : Bool → ℕ
ask_byte true = ASKS
ask_byte false = SILENT

abbrev pub keepalive : ℕ → ℤ → Bool → List ℕ
keepalive end clock ask = KEEPALIVE ∷ (int64 end ++ (int64 (cast_unsigned w64 clock) ++ (ask_byte ask ∷ [])))
