-- What fails with a server is told, unless memory ran out.
use Rattle.std.proofs.Common.{◌≡◌, Result, Err}
use Rattle.scram.specs.declared.client_side.server_fault.ServerFault.{ServerFault}
use Rattle.scram.specs.declared.client_side.server_fault.ServerFault.TheVariants.{Malformed, Extension, Nonce, Salt, Rounds, Refused, Signature, Memory}
use Rattle.scram.specs.Challenges.{Fails}

pub fails : {Y : Type 0} (e : ServerFault) (read : Result Y ServerFault) → read ≡ Err e → Fails e read
fails Malformed read is = is
fails Extension read is = is
fails Nonce read is = is
fails Salt read is = is
fails Rounds read is = is
fails Refused read is = is
fails Signature read is = is
fails Memory read is = tt
