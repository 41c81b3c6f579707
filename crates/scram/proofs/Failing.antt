-- What fails is told, unless memory ran out.
use Rattle.std.proofs.Common.{◌≡◌, Result, Err}
use Rattle.scram.specs.declared.fault.ExchangeFault.{ExchangeFault}
use Rattle.scram.specs.declared.fault.ExchangeFault.TheVariants.{NoMechanism, Mechanism, Short, Trailing, Malformed, AuthorizationIdentity, Extension, UnprintableNonce, Binding, Nonce, Password, Memory}
use Rattle.scram.specs.Attributes.{Fails}

pub fails : {Y : Type 0} (e : ExchangeFault) (read : Result Y ExchangeFault) → read ≡ Err e → Fails e read
fails NoMechanism read is = is
fails Mechanism read is = is
fails Short read is = is
fails Trailing read is = is
fails (Malformed form) read is = is
fails AuthorizationIdentity read is = is
fails Extension read is = is
fails UnprintableNonce read is = is
fails Binding read is = is
fails Nonce read is = is
fails Password read is = is
fails Memory read is = tt
