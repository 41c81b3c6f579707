-- The messages of an exchange: which stands at the front.
use Rattle.std.proofs.Common.{◌≡◌, ℕ, ◌<◌, ◌≤◌, ◌+◌, Bool, true, false, cond, List, ◌++◌, length, take, Option, Some, None, Result, Ok, Err, refl, sym, ap, ◌∙◌, arith}
use Rattle.std.specs.Prelude.{◌==◌, IfOk, IfSome}
use Rattle.std.proofs.lemmas.Bool.{eqb-true}
use Rattle.std.specs.Borrow.{Bor}
use Rattle.std.proofs.lemmas.List.{length-append, take_at}
use Rattle.pqformat.specs.Fields.{int32}
use Rattle.pqformat.proofs.Numbers.{length-int32}
use Rattle.pqformat.proofs.Codec.{IsBytes, bind_ok, ok_is, some_is}
use Rattle.frames.specs.declared.fault.FrameFault.{FrameFault}
use Rattle.frames.specs.Frame.{frame, raw_at}
use Rattle.frames.specs.Raw.{lent}
use Rattle.frames.proofs.Frames.{raw_takes}
use Rattle.connections.specs.declared.authentication.password_message.TheConstants.{PASSWORD, MOST_PASSWORD_BYTES}
use Rattle.connections.specs.Messages.{framed_password, password_limit, password_raw}

-- ---- the message at the front

limited : (kind most : ℕ) → password_limit kind ≡ Some most → kind ≡ PASSWORD
limited kind most allowed = by_test (kind == PASSWORD) refl allowed
  where
    by_test : (b : Bool) → (kind == PASSWORD) ≡ b → cond b (Some MOST_PASSWORD_BYTES) None ≡ Some most → kind ≡ PASSWORD
    by_test true is allowed = eqb-true kind PASSWORD is
    by_test false is allowed = absurd cc

length-frame : (body : List ℕ) → length (frame PASSWORD body) ≡ 5 + length body
length-frame body = omega (arith, length-append (int32 (4 + length body)) body, length-int32 (4 + length body))

-- what stands there whole
abbrev pub IsMessage : List ℕ → List ℕ → ℕ → Type 0
IsMessage bytes body n = (0 < n) × (n ≤ length bytes) × (take n bytes ≡ frame PASSWORD body)

raw_found : (bytes : List ℕ) (raw : Option ((ℕ × List ℕ) × ℕ)) (body : List ℕ) (n : ℕ) → IsBytes bytes → raw_at password_limit bytes ≡ Ok raw → password_raw raw ≡ Some (body, n) → IsMessage bytes body n
raw_found bytes None body n fits is made = absurd cc
raw_found bytes (Some raw) body n fits is made =
    let found : List ℕ × ℕ = (raw.0.1, raw.1) in
    let wanted : List ℕ × ℕ = (body, n) in
    let pair : found ≡ wanted = some_is found wanted made in
    let same : raw.0.1 ≡ body = ap (λ (p : List ℕ × ℕ). p.0) pair in
    let r = raw_takes password_limit bytes raw.0.0 raw.0.1 raw.1 fits is in
    let kind : raw.0.0 ≡ PASSWORD = limited raw.0.0 r.most r.allowed in
    let size : n ≡ 5 + length body = sym (ap (λ (p : List ℕ × ℕ). p.1) pair) ∙ r.size ∙ ap (λ (l : List ℕ). 5 + length l) same in
    let long : n ≡ length (frame PASSWORD body) = size ∙ sym (length-frame body) in
    let text : bytes ≡ frame PASSWORD body ++ r.rest = r.text ∙ ap (λ (k : ℕ). frame k raw.0.1 ++ r.rest) kind ∙ ap (λ (l : List ℕ). frame PASSWORD l ++ r.rest) same in (
      omega (arith, size),
      rw text (omega (arith, long, length-append (frame PASSWORD body) r.rest)),
      rw text (take_at (frame PASSWORD body) r.rest n (sym long)),
    )

message_found : (bytes body : List ℕ) (n : ℕ) → IsBytes bytes → framed_password bytes ≡ Ok (Some (body, n)) → IsMessage bytes body n
message_found bytes body n fits is =
    let raw = bind_ok (raw_at password_limit bytes) (λ raw. Ok (password_raw raw)) (Some (body, n)) is in
    raw_found bytes raw.0 body n fits raw.1 (ok_is FrameFault (password_raw raw.0) (Some (body, n)) raw.2)

pub found_of : (bytes : List ℕ) (r : Result (Option (Bor (List ℕ) × ℕ)) FrameFault) → IsBytes bytes → lent r ≡ framed_password bytes
    → IfOk r (λ o. IfSome o (λ x. (0 < x.1) × (x.1 ≤ length bytes) × (take x.1 bytes ≡ frame PASSWORD x.0.now)))
found_of bytes (Ok (Some x)) fits is = message_found bytes x.0.now x.1 fits (sym is)
found_of bytes (Ok None) fits is = tt
found_of bytes (Err e) fits is = tt
