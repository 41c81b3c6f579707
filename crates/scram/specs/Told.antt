-- What an ErrorResponse says of an exchange that fails (PostgreSQL 15, appendix A): the code, and the text.
use Rattle.std.specs.Prelude.{ℕ, List, codes}
use Rattle.scram.specs.declared.fault.ExchangeFault.{ExchangeFault}
use Rattle.scram.specs.declared.fault.ExchangeFault.TheVariants.{NoMechanism, Mechanism, Short, Trailing, Malformed, AuthorizationIdentity, Extension, UnprintableNonce, Binding, Nonce, Password, Memory}

abbrev pub fault_code : ExchangeFault → List ℕ
fault_code NoMechanism = codes "08P01"
fault_code Mechanism = codes "08P01"
fault_code Short = codes "08P01"
fault_code Trailing = codes "08P01"
fault_code (Malformed form) = codes "08P01"
fault_code AuthorizationIdentity = codes "0A000"
fault_code Extension = codes "0A000"
fault_code UnprintableNonce = codes "08P01"
fault_code Binding = codes "08P01"
fault_code Nonce = codes "08P01"
fault_code Password = codes "28P01"
fault_code Memory = codes "53200"

abbrev pub fault_text : ExchangeFault → List ℕ
fault_text NoMechanism = codes "invalid string in message"
fault_text Mechanism = codes "client selected an invalid SASL authentication mechanism"
fault_text Short = codes "insufficient data left in message"
fault_text Trailing = codes "invalid message format"
fault_text (Malformed form) = codes "malformed SCRAM message"
fault_text AuthorizationIdentity = codes "client uses authorization identity, but it is not supported"
fault_text Extension = codes "client requires an unsupported SCRAM extension"
fault_text UnprintableNonce = codes "non-printable characters in SCRAM nonce"
fault_text Binding = codes "unexpected SCRAM channel-binding attribute in client-final-message"
fault_text Nonce = codes "invalid SCRAM response"
fault_text Password = codes "password authentication failed for user"
fault_text Memory = codes "out of memory"
