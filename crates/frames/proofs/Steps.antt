-- The steps in which a function reads a frame, over any set of them: what each of its answers says of the whole.
use Rattle.std.proofs.Common.{◌≡◌, ℕ, Bool, true, List, [], ◌∷◌, Option, Some, None, Result, Ok, Err, refl, sym, ap, subst, ◌∙◌}
use Rattle.std.specs.Prelude.{IsOkAnd}
use Rattle.pqformat.specs.Fields.{byte_at}
use Rattle.pqformat.specs.Steps.{◌>>=◌}
use Rattle.pqformat.proofs.Codec.{some_is}
use Rattle.frames.specs.declared.fault.FrameFault.{FrameFault}
use Rattle.frames.specs.declared.fault.FrameFault.TheVariants.{Memory}
use Rattle.frames.specs.Frame.{Fails, Gives, with_kind, body_at, raw_at, whole_of, framed_at, IsWhole, IsKept}
use Rattle.frames.proofs.Faults.{by_fault, failed, same_fault}

-- what fails, fails whatever would have followed
pub fails_on : {A B : Type 0} (e : FrameFault) (r : Result A FrameFault) (f : A → Result B FrameFault) → Fails e r → Fails e (r >>= f)
fails_on {A} e r f h = same_fault e r (r >>= f) (λ is. ap (λ (x : Result A FrameFault). x >>= f) is) h

-- a fault that no step answers, no step after it answers
pub never_memory : (A B : Type 0) (e : FrameFault) → (failed A e ≡ Err Memory → ⊥) → failed B e ≡ Err Memory → ⊥
never_memory A B e steady h =
    let same : e ≡ Memory = cc in
    steady (ap (λ (d : FrameFault). failed A d) same)

begins : (bytes : List ℕ) (kind : ℕ) (rest : List ℕ) → byte_at bytes ≡ Some (kind, rest) → bytes ≡ kind ∷ rest
begins [] kind rest e = absurd cc
begins (b ∷ bytes) kind rest e = ap (λ (p : ℕ × List ℕ). p.0 ∷ p.1) (some_is (b, bytes) (kind, rest) e)

raw_is : (limit : ℕ → Option ℕ) (most : Option ℕ) (bytes : List ℕ) (kind : ℕ) (rest : List ℕ) → byte_at bytes ≡ Some (kind, rest) → most ≡ limit kind
    → raw_at limit bytes ≡ (body_at most rest >>= λ found. Ok (with_kind kind found))
raw_is limit most bytes kind rest first is =
    ap (λ (b : List ℕ). raw_at limit b) (begins bytes kind rest first) ∙ ap (λ (m : Option ℕ). body_at m rest >>= λ found. Ok (with_kind kind found)) (sym is)

-- no byte stands there
pub waits_for_kind : {F : Type 0} (limit : ℕ → Option ℕ) (of : ℕ → List ℕ → Result F FrameFault) (bytes : List ℕ) → byte_at bytes ≡ None → framed_at limit of bytes ≡ Ok None
waits_for_kind limit of [] e = refl
waits_for_kind limit of (b ∷ bytes) e = absurd cc

-- no body is read after the type byte
pub fails_at_body : {F : Type 0} (limit : ℕ → Option ℕ) (of : ℕ → List ℕ → Result F FrameFault) (most : Option ℕ) (bytes : List ℕ) (kind : ℕ) (rest : List ℕ) (e : FrameFault)
    → byte_at bytes ≡ Some (kind, rest) → most ≡ limit kind → Fails e (body_at most rest) → Fails e (framed_at limit of bytes)
fails_at_body limit of most bytes kind rest e first is failed =
    rw (raw_is limit most bytes kind rest first is) (fails_on e (body_at most rest >>= λ found. Ok (with_kind kind found)) (λ raw. whole_of of raw) (fails_on e (body_at most rest) (λ found. Ok (with_kind kind found)) failed))

-- what stands after the type byte
pub raw_found : (limit : ℕ → Option ℕ) (most : Option ℕ) (bytes : List ℕ) (kind : ℕ) (rest : List ℕ) (found : Option (List ℕ × ℕ))
    → byte_at bytes ≡ Some (kind, rest) → most ≡ limit kind → body_at most rest ≡ Ok found → raw_at limit bytes ≡ Ok (with_kind kind found)
raw_found limit most bytes kind rest found first is there =
    raw_is limit most bytes kind rest first is ∙ ap (λ (r : Result (Option (List ℕ × ℕ)) FrameFault). r >>= λ found. Ok (with_kind kind found)) there

-- the body isn't there whole
pub waits_for_body : {F : Type 0} (limit : ℕ → Option ℕ) (of : ℕ → List ℕ → Result F FrameFault) (bytes : List ℕ) → raw_at limit bytes ≡ Ok None → framed_at limit of bytes ≡ Ok None
waits_for_body limit of bytes e = ap (λ (r : Result (Option ((ℕ × List ℕ) × ℕ)) FrameFault). r >>= λ raw. whole_of of raw) e

-- the body is no frame's
pub fails_whole : {F : Type 0} (limit : ℕ → Option ℕ) (of : ℕ → List ℕ → Result F FrameFault) (bytes : List ℕ) (kind : ℕ) (body : List ℕ) (size : ℕ) (e : FrameFault)
    → raw_at limit bytes ≡ Ok (Some ((kind, body), size)) → Fails e (of kind body) → Fails e (framed_at limit of bytes)
fails_whole limit of bytes kind body size e there failed = rw there (fails_on e (of kind body) (λ f. Ok (Some (f, size))) failed)

pub framed : {F : Type 0} (limit : ℕ → Option ℕ) (of : ℕ → List ℕ → Result F FrameFault) (bytes : List ℕ) (kind : ℕ) (body : List ℕ) (size : ℕ) (f : F)
    → raw_at limit bytes ≡ Ok (Some ((kind, body), size)) → of kind body ≡ Ok f → framed_at limit of bytes ≡ Ok (Some (f, size))
framed limit of bytes kind body size f there is = rw (there, is) refl

-- a frame that needs memory stands there whole
pub is_kept : {F : Type 0} (needs_memory : F → Bool) (of : ℕ → List ℕ → Result F FrameFault) (read : Result (Option ((ℕ × List ℕ) × ℕ)) FrameFault) (raw : (ℕ × List ℕ) × ℕ)
    → read ≡ Ok (Some raw) → IsOkAnd (of raw.0.0 raw.0.1) (λ f. needs_memory f ≡ true) → IsKept needs_memory (read >>= λ raw. whole_of of raw)
is_kept {F} needs_memory of read raw there right = rw there (by_body (of raw.0.0 raw.0.1) right)
  where
    by_body : (r : Result F FrameFault) → IsOkAnd r (λ f. needs_memory f ≡ true) → IsKept needs_memory (r >>= λ f. Ok (Some (f, raw.1)))
    by_body (Ok f) right = right
    by_body (Err e) right = absurd right

pub kept_is_whole : {F : Type 0} (needs_memory : F → Bool) (of : ℕ → List ℕ → Result F FrameFault) (read : Result (Option ((ℕ × List ℕ) × ℕ)) FrameFault) → IsKept needs_memory (read >>= λ raw. whole_of of raw) → IsWhole read
kept_is_whole needs_memory of (Ok (Some raw)) kept = tt
kept_is_whole needs_memory of (Ok None) kept = absurd kept
kept_is_whole needs_memory of (Err e) kept = absurd kept

-- the body of a frame that needs memory
pub kept_body : {F : Type 0} (needs_memory : F → Bool) (r : Result F FrameFault) (n : ℕ) → IsKept needs_memory (r >>= λ f. Ok (Some (f, n))) → (f : F) × (r ≡ Ok f) × (needs_memory f ≡ true)
kept_body needs_memory (Ok f) n kept = (f, refl, kept)
kept_body needs_memory (Err e) n kept = absurd kept

-- a fault that a step answers for want of memory, and the whole too
pub still_memory : (A B : Type 0) (e : FrameFault) → failed B e ≡ Err Memory → failed A e ≡ Err Memory
still_memory A B e h =
    let same : e ≡ Memory = cc in
    ap (λ (d : FrameFault). failed A d) same

-- ---- what a call answers by what it has read

-- where the raw reading waits, so does the call
pub still_waits : {F : Type 0} (raw : Result (Option ((ℕ × List ℕ) × ℕ)) FrameFault) (of : Option ((ℕ × List ℕ) × ℕ) → Result (Option (F × ℕ)) FrameFault) (r : Result (Option (F × ℕ)) FrameFault)
    → Gives r (raw >>= of) → (r ≡ Err Memory → IsWhole raw) → of None ≡ Ok None → raw ≡ Ok None → r ≡ Ok None
still_waits {F} raw of r given memory nothing none = by_answer r given memory
  where
    read : (raw >>= of) ≡ Ok None
    read = rw none nothing

    none_whole : (x : Result (Option ((ℕ × List ℕ) × ℕ)) FrameFault) → x ≡ Ok None → IsWhole x → ⊥
    none_whole (Ok None) is whole = whole
    none_whole (Ok (Some y)) is whole = absurd cc
    none_whole (Err d) is whole = whole

    by_answer : (r : Result (Option (F × ℕ)) FrameFault) → Gives r (raw >>= of) → (r ≡ Err Memory → IsWhole raw) → r ≡ Ok None
    by_answer (Ok o) given memory = sym given ∙ read
    by_answer (Err e) given memory =
        let P : FrameFault → Type 0 = λ d. (failed (Option (F × ℕ)) d ≡ Err Memory → IsWhole raw) → failed (Option (F × ℕ)) d ≡ Ok None in
        let Q : Result (Option (F × ℕ)) FrameFault → Type 0 = λ x. Fails e x in
        by_fault {A = Option (F × ℕ)} P (Ok None) (λ d is whole. absurd cc) (λ whole. absurd (none_whole raw none (whole refl))) e (subst Q read given) memory

-- each fault of the raw reading and of a body stands where it says, and so does want of memory for a frame
pub record FaultsStand {F : Type 0} (Stands : FrameFault → Type 0) (of : ℕ → List ℕ → Result F FrameFault) (needs_memory : F → Bool) (raw : Result (Option ((ℕ × List ℕ) × ℕ)) FrameFault) : Type 0 where
  pub unread : (e : FrameFault) → raw ≡ Err e → Stands e
  pub refused : (x : (ℕ × List ℕ) × ℕ) (e : FrameFault) → raw ≡ Ok (Some x) → of x.0.0 x.0.1 ≡ Err e → Stands e
  pub kept : (x : (ℕ × List ℕ) × ℕ) (f : F) → raw ≡ Ok (Some x) → of x.0.0 x.0.1 ≡ Ok f → needs_memory f ≡ true → Stands Memory

-- so each fault of a call does
pub fault_stands : {F : Type 0} {Stands : FrameFault → Type 0} {of : ℕ → List ℕ → Result F FrameFault} {needs_memory : F → Bool} {raw : Result (Option ((ℕ × List ℕ) × ℕ)) FrameFault} → FaultsStand Stands of needs_memory raw
    → (e : FrameFault) → Fails e (raw >>= λ x. whole_of of x) → (failed (Option (F × ℕ)) e ≡ Err Memory → IsKept needs_memory (raw >>= λ x. whole_of of x)) → Stands e
fault_stands {F} {Stands} {of} {needs_memory} {raw} all e given memory =
    let P : FrameFault → Type 0 = λ d. (failed (Option (F × ℕ)) d ≡ Err Memory → IsKept needs_memory (raw >>= λ x. whole_of of x)) → Stands d in
    by_fault P (raw >>= λ x. whole_of of x) (λ d is _. by_raw d raw refl is) (λ kept. by_kept raw refl (kept refl)) e given memory
  where
    sized : ℕ → F → Result (Option (F × ℕ)) FrameFault
    sized n f = Ok (Some (f, n))

    alone : (n : ℕ) (e : FrameFault) (r : Result F FrameFault) → (r >>= sized n) ≡ Err e → r ≡ Err e
    alone n e (Ok x) is = absurd cc
    alone n e (Err d) is = cc

    by_raw : (e : FrameFault) (x : Result (Option ((ℕ × List ℕ) × ℕ)) FrameFault) → raw ≡ x → (x >>= λ y. whole_of of y) ≡ Err e → Stands e
    by_raw e (Err d) is read =
        let same : d ≡ e = cc in
        subst Stands same (all.unread d is)
    by_raw e (Ok None) is read = absurd cc
    by_raw e (Ok (Some x)) is read = all.refused x e is (alone x.1 e (of x.0.0 x.0.1) read)

    by_kept : (x : Result (Option ((ℕ × List ℕ) × ℕ)) FrameFault) → raw ≡ x → IsKept needs_memory (x >>= λ y. whole_of of y) → Stands Memory
    by_kept (Ok (Some x)) is kept =
        let f = kept_body needs_memory (of x.0.0 x.0.1) x.1 kept in
        all.kept x f.0 is f.1 f.2
    by_kept (Ok None) is kept = absurd kept
    by_kept (Err d) is kept = absurd kept
