-- "client-first-message = gs2-header client-first-message-bare" (RFC 5802, 7), where no channel binding is offered.
use Rattle.std.specs.Prelude.{◌≡◌, ℕ, ◌==◌, ◌&&◌, not, nat_le, List, drop, Bool, Result, Ok, Err, codes, if◌then◌else◌}
use Rattle.std.specs.List.{list_all}
use Rattle.scram.specs.Attributes.{◌>>=◌, Bad, extensions_at, front, message_at, named_at}
use Rattle.std.specs.Prelude.{length}
use Rattle.scram.specs.declared.fault.Malformed.TheVariants as form
use Rattle.scram.specs.declared.fault.ExchangeFault.{ExchangeFault}
use Rattle.scram.specs.declared.fault.ExchangeFault.TheVariants.{AuthorizationIdentity, Extension, UnprintableNonce}
use Rattle.scram.specs.declared.client_side.client_first.Binding.{Binding}
use Rattle.scram.specs.declared.client_side.client_first.Binding.TheVariants.{Absent, Unused}
use Rattle.scram.specs.declared.client_side.client_first.ClientFirst.{ClientFirst}

-- "n,," and "y,," in base64
abbrev pub repeated : Binding → List ℕ
repeated Absent = codes "biws"
repeated Unused = codes "eSws"

abbrev pub comma_at : Binding → List ℕ → Result (Binding × List ℕ) ExchangeFault
comma_at binding text = if front text == 44 then Ok (binding, drop 1 text) else Bad (form.Comma (front text))

-- "gs2-cbind-flag = ("p=" cb-name) / "n" / "y"", and a comma
abbrev pub binding_at : List ℕ → Result (Binding × List ℕ) ExchangeFault
binding_at text =
    if front text == 110 then comma_at Absent (drop 1 text)
    else if front text == 121 then comma_at Unused (drop 1 text)
    else if front text == 112 then Bad form.Bound
    else Bad (form.Flag (front text))

-- "[ authzid ] ","", which is to be absent
abbrev pub identity_at : List ℕ → Result (List ℕ) ExchangeFault
identity_at text =
    if front text == 44 then Ok (drop 1 text)
    else if front text == 97 then Err AuthorizationIdentity
    else Bad (form.Unexpected (front text))

-- "printable = %x21-2B / %x2D-7E"
abbrev pub is_printable : List ℕ → Bool
is_printable nonce = list_all (λ b. nat_le 0x21 b && (nat_le b 0x7e && not (b == 44))) nonce

-- "client-first-message-bare = [reserved-mext ","] username "," nonce ["," extensions]"
unfoldable pub client_first_of : List ℕ → Result ClientFirst ExchangeFault
client_first_of text =
    message_at text >>= λ whole.
    binding_at whole >>= λ binding.
    identity_at binding.1 >>= λ bare.
    if front bare == 109 then Err Extension
    else (named_at 110 bare >>= λ name.
    named_at 114 name.1 >>= λ nonce.
    if not (is_printable nonce.0) then Err UnprintableNonce
    else (extensions_at (length nonce.1) nonce.1 >>= λ rest.
    Ok (record { binding = binding.0; bare = bare; nonce = nonce.0 })))

-- a call that gives a binding and goes on
abbrev pub GivesBinding : {S : Type 0} → Result Binding ExchangeFault → S → Result (Binding × S) ExchangeFault → Type 0
GivesBinding (Ok x) rest read = read ≡ Ok (x, rest)
GivesBinding (Err e) rest read = read ≡ Err e
