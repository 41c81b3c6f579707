-- "client-final-message = client-final-message-without-proof "," proof" (RFC 5802, 7), "client-final-message-without-proof =
-- channel-binding "," nonce ["," extensions]".
use Rattle.std.specs.Prelude.{ℕ, ◌-◌, not, List, length, take, Result, Ok, Err, if◌then◌else◌}
use Rattle.std.specs.Option.{ok_or}
use Rattle.std.specs.Str.{bytes_eq}
use Rattle.scram.specs.Attributes.{◌>>=◌, end_at, message_at, named_at, proof_at}
use Rattle.scram.specs.ClientFirst.{repeated}
use Rattle.scram.specs.Coding.{spelled}
use Rattle.scram.specs.declared.fault.Malformed.TheVariants as form
use Rattle.scram.specs.declared.fault.ExchangeFault.{ExchangeFault}
use Rattle.scram.specs.declared.fault.ExchangeFault.TheVariants.{Malformed as Misformed, Binding as BindingFault}
use Rattle.scram.specs.declared.client_side.client_first.Binding.{Binding}
use Rattle.scram.specs.declared.client_side.client_final.ClientFinal.{ClientFinal}

abbrev pub proof_of : List ℕ → Result (List ℕ) ExchangeFault
proof_of text = ok_or (spelled 32 text) (Misformed form.Proof)

-- what stands before the comma of a proof from which on so many bytes stand
abbrev pub before_proof : ℕ → List ℕ → List ℕ
before_proof standing text = take (length text - standing - 1) text

unfoldable pub client_final_of : Binding → List ℕ → Result ClientFinal ExchangeFault
client_final_of binding text =
    message_at text >>= λ whole.
    named_at 99 whole >>= λ header.
    if not (bytes_eq header.0 (repeated binding)) then Err BindingFault
    else (named_at 114 header.1 >>= λ nonce.
    proof_at (length nonce.1) nonce.1 >>= λ found.
    proof_of found.0.1 >>= λ proof.
    end_at found.1 >>= λ end.
    Ok (record { nonce = nonce.0; without_proof = before_proof found.0.0 text; proof = proof }))
