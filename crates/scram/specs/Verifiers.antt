-- A verifier as text (PostgreSQL 15, 53.8, rolpassword): SCRAM-SHA-256$<iteration count>:<salt>$<StoredKey>:<ServerKey>, the
-- salt and the keys in base64.
use Rattle.std.specs.Prelude.{◌≡◌, ℕ, List, ◌++◌, ◌||◌, not, Result, Ok, Err, codes, if◌then◌else◌}
use Rattle.std.specs.Option.{ok_or}
use Rattle.std.specs.Str.{bytes_eq}
use Rattle.scram.specs.Parts.{parted}
use Rattle.scram.specs.Coding.{base64, spelled}
use Rattle.scram.specs.declared.server_side.verifier.Verifier.{Verifier}
use Rattle.scram.specs.declared.fault.VerifierFault.{VerifierFault}
use Rattle.scram.specs.declared.fault.VerifierFault.TheVariants.{NotServed, Malformed, Memory}

abbrev pub beginning : List ℕ
beginning = codes "SCRAM-SHA-256$4096:"

abbrev pub verifier_text : Verifier → List ℕ
verifier_text verifier = beginning ++ base64 verifier.salt ++ codes "$" ++ base64 verifier.stored_key ++ codes ":" ++ base64 verifier.server_key

infixl 10 ◌>>=◌
abbrev pub ◌>>=◌ : {A B : Type 0} → Result A VerifierFault → (A → Result B VerifierFault) → Result B VerifierFault
(Ok x) >>= f = f x
(Err e) >>= f = Err e

unfoldable pub read_verifier : List ℕ → Result Verifier VerifierFault
read_verifier text =
    ok_or (parted 36 text) NotServed >>= λ scheme.
    ok_or (parted 58 scheme.1) NotServed >>= λ rounds.
    if not (bytes_eq scheme.0 (codes "SCRAM-SHA-256")) || not (bytes_eq rounds.0 (codes "4096")) then Err NotServed
    else (ok_or (parted 36 rounds.1) Malformed >>= λ parts.
    ok_or (parted 58 parts.1) Malformed >>= λ keys.
    ok_or (spelled 16 parts.0) Malformed >>= λ salt.
    ok_or (spelled 32 keys.0) Malformed >>= λ stored.
    ok_or (spelled 32 keys.1) Malformed >>= λ server.
    Ok (record { salt = salt; stored_key = stored; server_key = server }))

-- A call that answers what reading gives, unless memory ran out.
abbrev pub Fails : VerifierFault → Result Verifier VerifierFault → Type 0
Fails Memory read = Unit {0}
Fails e read = read ≡ Err e

abbrev pub Reads : Result Verifier VerifierFault → Result Verifier VerifierFault → Type 0
Reads (Ok x) read = read ≡ Ok x
Reads (Err e) read = Fails e read
