-- What ends an exchange well is a proof.
use Rattle.std.proofs.Common.{◌≡◌, Bool, true, false, cond, ℕ, List, Result, Ok, Err, refl}
use Rattle.std.specs.Prelude.{◌&&◌, not, if◌then◌else◌}
use Rattle.std.specs.Str.{bytes_eq}
use Rattle.std.specs.Cmp.Lexicographic.{bytes_decides}
use Rattle.sha2.specs.Sha256.{sha256}
use Rattle.scram.specs.Attributes.{◌>>=◌}
use Rattle.scram.specs.declared.client_side.client_final.ClientFinal.{ClientFinal}
use Rattle.scram.specs.declared.fault.ExchangeFault.{ExchangeFault}
use Rattle.scram.specs.declared.fault.ExchangeFault.TheVariants.{Nonce, Password}
use Rattle.scram.specs.declared.server_side.server_exchange.Exchange.{Exchange}
use Rattle.scram.specs.ClientFinal.{client_final_of}
use Rattle.scram.specs.Exchanges.{HasProved, auth_message, is_proof, judged, key_proved, signed, verdict}

same : (a b : List ℕ) → bytes_eq a b ≡ true → a ≡ b
same a b is = (bytes_decides a b).0 is

both : (a b : Bool) → (a && b) ≡ true → (a ≡ true) × (b ≡ true)
both true true is = (refl, refl)
both true false is = absurd cc
both false b is = absurd cc

bind_ok : {A B : Type 0} (r : Result A ExchangeFault) (f : A → Result B ExchangeFault) (y : B) → (r >>= f) ≡ Ok y → (x : A) × (r ≡ Ok x) × (f x ≡ Ok y)
bind_ok (Ok x) f y is = (x, refl, is)
bind_ok (Err e) f y is = absurd cc

judged_right : (exchange : Exchange) (text : List ℕ) (last : ClientFinal) (said : List ℕ) → client_final_of exchange.first.binding text ≡ Ok last → last.nonce ≡ exchange.nonce
    → judged exchange last ≡ Ok said → HasProved exchange text said
judged_right exchange text last said spells nonces is = by_test (is_proof exchange.account.verifier.stored_key (auth_message exchange last.without_proof) last.proof && exchange.account.is_known) refl is
  where
    by_test : (b : Bool) → (is_proof exchange.account.verifier.stored_key (auth_message exchange last.without_proof) last.proof && exchange.account.is_known) ≡ b
        → cond b (Ok (signed exchange.account.verifier.server_key (auth_message exchange last.without_proof))) (Err Password) ≡ Ok said → HasProved exchange text said
    by_test true right is =
        let parts = both (is_proof exchange.account.verifier.stored_key (auth_message exchange last.without_proof) last.proof) exchange.account.is_known right in
        record {
          last = last;
          spells = spells;
          nonces = nonces;
          known = parts.1;
          key = same (sha256 (key_proved exchange.account.verifier.stored_key (auth_message exchange last.without_proof) last.proof)) exchange.account.verifier.stored_key parts.0;
          signature = cc;
        }
    by_test false right is = absurd cc

pub verdict_right : (exchange : Exchange) (text said : List ℕ) → verdict exchange text ≡ Ok said → HasProved exchange text said
verdict_right exchange text said is =
    let read = bind_ok (client_final_of exchange.first.binding text) (λ last. if not (bytes_eq last.nonce exchange.nonce) then Err Nonce else judged exchange last) said is in
    by_test read.0 read.1 (bytes_eq read.0.nonce exchange.nonce) refl read.2
  where
    by_test : (last : ClientFinal) → client_final_of exchange.first.binding text ≡ Ok last → (b : Bool) → bytes_eq last.nonce exchange.nonce ≡ b
        → cond (not b) (Err Nonce) (judged exchange last) ≡ Ok said → HasProved exchange text said
    by_test last spells true nonces is = judged_right exchange text last said spells (same last.nonce exchange.nonce nonces) is
    by_test last spells false nonces is = absurd cc
