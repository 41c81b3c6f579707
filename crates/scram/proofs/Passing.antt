-- Attributes are passed over one by one: what is left after some of them gives what all of it gives.
use Rattle.std.proofs.Common.{◌≡◌, ℕ, zero, suc, ◌+◌, ◌-◌, ◌<◌, ◌==◌, true, false, List, [], ◌∷◌, length, Ok, Err, refl, arith}
use Rattle.scram.specs.declared.fault.ExchangeFault.{ExchangeFault}
use Rattle.scram.specs.declared.fault.ExchangeFault.TheVariants.{Malformed as Misformed}
use Rattle.scram.specs.declared.fault.Malformed.TheVariants as form
use Rattle.scram.specs.Attributes.{any_at, extensions_at, proof_at}

abbrev pub Found : Type 0
Found = (ℕ × List ℕ) × List ℕ

one_more : (n i : ℕ) → i < n → n - i ≡ suc (n - (i + 1))
one_more n i less = omega arith

next_extension : (n : ℕ) (text : List ℕ) (found : Found) → any_at text ≡ Ok found → extensions_at (suc n) text ≡ extensions_at n found.1
unfolding extensions_at
next_extension n [] found is = cc
next_extension n (b ∷ bytes) found is = rw is refl

bad_extension : (n : ℕ) (text : List ℕ) (e : ExchangeFault) → 0 < length text → any_at text ≡ Err e → extensions_at (suc n) text ≡ Err e
unfolding extensions_at
bad_extension n [] e some is = absurd (omega arith)
bad_extension n (b ∷ bytes) e some is = rw is refl

pub extension_passed : (n i : ℕ) (text : List ℕ) (found : Found) → i < n → any_at text ≡ Ok found → extensions_at (n - i) text ≡ extensions_at (n - (i + 1)) found.1
extension_passed n i text found less is = rw (one_more n i less) (next_extension (n - (i + 1)) text found is)

pub extension_refused : (n i : ℕ) (text : List ℕ) (e : ExchangeFault) → i < n → 0 < length text → any_at text ≡ Err e → extensions_at (n - i) text ≡ Err e
extension_refused n i text e less some is = rw (one_more n i less) (bad_extension (n - (i + 1)) text e some is)

pub extensions_end : (n : ℕ) (text : List ℕ) → length text ≡ 0 → extensions_at n text ≡ Ok text
unfolding extensions_at
extensions_end zero text none = refl
extensions_end (suc n) [] none = refl
extensions_end (suc n) (b ∷ bytes) none = absurd (omega arith)

pub no_more_extensions : (text : List ℕ) → extensions_at 0 text ≡ Ok text
unfolding extensions_at
no_more_extensions text = refl

next_proof : (n : ℕ) (text : List ℕ) (found : Found) → any_at text ≡ Ok found → (found.0.0 == 112) ≡ false → proof_at (suc n) text ≡ proof_at n found.1
unfolding proof_at
next_proof n text found is other = rw (is, other) refl

pub proof_passed : (n i : ℕ) (text : List ℕ) (found : Found) → i < n → any_at text ≡ Ok found → (found.0.0 == 112) ≡ false → proof_at (n - i) text ≡ proof_at (n - (i + 1)) found.1
proof_passed n i text found less is other = rw (one_more n i less) (next_proof (n - (i + 1)) text found is other)

proof_here : (n : ℕ) (text : List ℕ) (found : Found) → any_at text ≡ Ok found → (found.0.0 == 112) ≡ true → proof_at (suc n) text ≡ Ok ((length text, found.0.1), found.1)
unfolding proof_at
proof_here n text found is it = rw (is, it) refl

pub proof_found : (n i : ℕ) (text : List ℕ) (found : Found) → i < n → any_at text ≡ Ok found → (found.0.0 == 112) ≡ true → proof_at (n - i) text ≡ Ok ((length text, found.0.1), found.1)
proof_found n i text found less is it = rw (one_more n i less) (proof_here (n - (i + 1)) text found is it)

bad_proof : (n : ℕ) (text : List ℕ) (e : ExchangeFault) → any_at text ≡ Err e → proof_at (suc n) text ≡ Err e
unfolding proof_at
bad_proof n text e is = rw is refl

pub proof_refused : (n i : ℕ) (text : List ℕ) (e : ExchangeFault) → i < n → any_at text ≡ Err e → proof_at (n - i) text ≡ Err e
proof_refused n i text e less is = rw (one_more n i less) (bad_proof (n - (i + 1)) text e is)

pub no_proof : (text : List ℕ) → proof_at 0 text ≡ Err (Misformed form.Attribute)
unfolding proof_at
no_proof text = refl
