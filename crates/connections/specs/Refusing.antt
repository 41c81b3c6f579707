-- Why a client may not connect, as it is told (PostgreSQL 15, 55.8 and appendix A): a fatal error ends the connection.
use Rattle.std.specs.Prelude.{ℕ, nat_le, List, [], ◌∷◌, ◌++◌, length, codes, if◌then◌else◌}
use Rattle.frames.specs.declared.back.Back.{Back}
use Rattle.frames.specs.declared.back.Back.TheVariants.{ErrorResponse}
use Rattle.frames.specs.declared.fault.FrameFault.{FrameFault}
use Rattle.frames.specs.declared.fault.FrameFault.TheVariants as frames
use Rattle.scram.specs.declared.fault.ExchangeFault.{ExchangeFault}
use Rattle.scram.specs.declared.fault.ExchangeFault.TheVariants.{Password}
use Rattle.scram.specs.Told.{fault_code, fault_text}
use Rattle.server.specs.Said.{sent_frame}
use Rattle.connections.specs.declared.authentication.refusing.TheConstants.{MOST_NAME_BYTES}

abbrev pub fatal_frame : List ℕ → List ℕ → Back
fatal_frame code text = ErrorResponse (record {
  fields =
      record { code = 83; text = codes "FATAL" } ∷ record { code = 86; text = codes "FATAL" } ∷ record { code = 67; text = code } ∷ record { code = 77; text = text } ∷ [];
})

unfoldable pub fatal : List ℕ → List ℕ → List ℕ
fatal code text = sent_frame (fatal_frame code text)

abbrev pub password_text : List ℕ → List ℕ
password_text user = codes "password authentication failed for user \"" ++ user ++ codes "\""

-- a wrong password is told of its user; a name that is too long for one isn't repeated
abbrev pub told_text : ExchangeFault → List ℕ → List ℕ
told_text Password user = if nat_le (length user) MOST_NAME_BYTES then password_text user else fault_text Password
told_text fault user = fault_text fault

abbrev pub failed : ExchangeFault → List ℕ → List ℕ
failed fault user = fatal (fault_code fault) (told_text fault user)

-- no user is named
abbrev pub nobody : List ℕ
nobody = fatal (codes "28000") (codes "no PostgreSQL user name specified in startup packet")

-- What is no message of the exchange. One that is too long isn't read, and fails as a wrong password does.
abbrev pub not_a_message : FrameFault → List ℕ → List ℕ
not_a_message frames.TooLong user = failed Password user
not_a_message frames.UnknownType user = fatal (codes "08P01") (codes "expected SASL response")
not_a_message fault user = fatal (codes "08P01") (codes "invalid message length")
