-- The frames of extended queries: which stands at the front, and the turns for them.
use Rattle.std.proofs.Common.{◌≡◌, ℕ, ◌<◌, ◌≤◌, ◌+◌, List, length, take, Option, Some, None, Result, Ok, Err, refl, sym, ap, ◌∙◌, arith}
use Rattle.std.specs.Prelude.{IfOk, IfSome}
use Rattle.std.specs.Option.{ok_or}
use Rattle.std.proofs.lemmas.List.{length-append, take_at}
use Rattle.pqformat.specs.Fields.{int32}
use Rattle.pqformat.proofs.Numbers.{length-int32}
use Rattle.pqformat.proofs.Codec.{IsBytes, bind_ok, ok_is, some_is, found_some}
use Rattle.frames.specs.declared.fault.FrameFault.{FrameFault}
use Rattle.frames.specs.declared.fault.FrameFault.TheVariants.{UnknownType}
use Rattle.frames.specs.declared.parts.frame.TheConstants.{FRAME_LIMIT}
use Rattle.frames.specs.Frame.{frame, raw_at}
use Rattle.frames.proofs.Frames.{raw_takes}
use Rattle.server.specs.declared.asked.extended.Extended.{Extended}
use Rattle.server.specs.Extended.{SpellsExtended, extended_of, extended_limit, extended_raw, framed_extended}

limited : (kind most : ℕ) (e : Extended) → extended_of kind ≡ Some e → extended_limit kind ≡ Some most → most ≡ FRAME_LIMIT
limited kind most e of allowed = some_is most FRAME_LIMIT (sym allowed ∙ rw of refl)

length-frame : (kind : ℕ) (body : List ℕ) → length (frame kind body) ≡ 5 + length body
length-frame kind body = omega (arith, length-append (int32 (4 + length body)) body, length-int32 (4 + length body))

-- what stands after the type byte is whole
raw_found : (bytes : List ℕ) (raw : Option ((ℕ × List ℕ) × ℕ)) (e : Extended) (n : ℕ) → IsBytes bytes → raw_at extended_limit bytes ≡ Ok raw → extended_raw raw ≡ Ok (Some (e, n)) → (0 < n) × (n ≤ length bytes) × SpellsExtended (take n bytes) e
raw_found bytes None e n fits is made = absurd cc
raw_found bytes (Some raw) e n fits is made =
    let named = bind_ok (ok_or (extended_of raw.0.0) UnknownType) (λ e. Ok (Some (e, raw.1))) (Some (e, n)) made in
    let found : Extended × ℕ = (named.0, raw.1) in
    let wanted : Extended × ℕ = (e, n) in
    let pair : found ≡ wanted = some_is found wanted (ok_is FrameFault (Some found) (Some wanted) named.2) in
    let of : extended_of raw.0.0 ≡ Some e = found_some (extended_of raw.0.0) UnknownType named.0 named.1 ∙ ap Some (ap (λ (p : Extended × ℕ). p.0) pair) in
    let r = raw_takes extended_limit bytes raw.0.0 raw.0.1 raw.1 fits is in
    let size : n ≡ 5 + length raw.0.1 = sym (ap (λ (p : Extended × ℕ). p.1) pair) ∙ r.size in
    let long : n ≡ length (frame raw.0.0 raw.0.1) = size ∙ omega (arith, length-frame raw.0.0 raw.0.1) in (
      omega (arith, size),
      rw r.text (omega (arith, long, length-append (frame raw.0.0 raw.0.1) r.rest)),
      record {
        kind = raw.0.0;
        body = raw.0.1;
        of = of;
        within = rw (← limited raw.0.0 r.most e of r.allowed) r.within;
        text = rw r.text (take_at (frame raw.0.0 raw.0.1) r.rest n (sym long));
      },
    )

pub extended_found : (bytes : List ℕ) (e : Extended) (n : ℕ) → IsBytes bytes → framed_extended bytes ≡ Ok (Some (e, n)) → (0 < n) × (n ≤ length bytes) × SpellsExtended (take n bytes) e
extended_found bytes e n fits is =
    let raw = bind_ok (raw_at extended_limit bytes) (λ raw. extended_raw raw) (Some (e, n)) is in
    raw_found bytes raw.0 e n fits raw.1 raw.2

pub found_of : (bytes : List ℕ) (r : Result (Option (Extended × ℕ)) FrameFault) → IsBytes bytes → r ≡ framed_extended bytes → IfOk r (λ o. IfSome o (λ x. (0 < x.1) × (x.1 ≤ length bytes) × SpellsExtended (take x.1 bytes) x.0))
found_of bytes (Ok (Some x)) fits is = extended_found bytes x.0 x.1 fits (sym is)
found_of bytes (Ok None) fits is = tt
found_of bytes (Err e) fits is = tt
