-- The bytes of a pipe back, and the statuses that are read there.
use Rattle.std.proofs.Common.{◌≡◌, ℕ, ℤ, zero, suc, ◌+◌, ◌^◌, ◌<◌, ◌≤◌, false, eqb, List, [], ◌∷◌, ◌++◌, length, drop, Option, Some, None, Result, Ok, Err, refl, sym, ap, subst, ◌∙◌, append_assoc, arith}
use Rattle.std.specs.Prelude.{FitsSigned, OnErr, OnOk, not, slice_get}
use Rattle.std.specs.declared.alloc.AllocError.{AllocError}
use Rattle.std.specs.Result.{result_ok}
use Rattle.std.specs.List.{AllByRecursion, flat_map}
use Rattle.std.specs.Int.{w32, w64, cast_unsigned}
use Rattle.std.proofs.lemmas.Bool.{ne_eqb}
use Rattle.std.proofs.lemmas.List.{append-nil, drop_at, length-append}
use Rattle.std.proofs.lemmas.List.Concat.{flat_map-append, flat_map-cons}
use Rattle.std.proofs.lemmas.Option.{some_pair_parts}
use Rattle.pqformat.specs.Fields.{byte_at, bytes_at, int32, int64, number_at}
use Rattle.pqformat.specs.Putting.{Extends, Puts}
use Rattle.pqformat.proofs.Numbers.{length-int64}
use Rattle.pqformat.proofs.Putting.{extends_more}
use Rattle.frames.specs.declared.copy_data.TheConstants.{COPY_DATA}
use Rattle.frames.specs.declared.parts.frame.TheConstants.{FRAME_LIMIT}
use Rattle.frames.specs.declared.fault.FrameFault.{FrameFault}
use Rattle.frames.specs.declared.front.Front.{Front}
use Rattle.frames.specs.declared.front.Front.TheVariants.{CopyData}
use Rattle.frames.specs.Frame.{frame}
use Rattle.frames.specs.Front.{framed_front, front_limit}
use Rattle.frames.proofs.Frames.{bytes_there, length-frame, number_there, raw_again}
use Rattle.copyboth.specs.declared.status.Status.{Status}
use Rattle.copyboth.specs.declared.fault.CopyFault.{CopyFault}
use Rattle.copyboth.specs.Keepalive.{ask_byte}
use Rattle.copyboth.specs.Status.{SpellsStatus, status}
use Rattle.copyboth.proofs.Bodies.{client_again}
use Rattle.pgoutput.proofs.Lists.{all_of_both}
use Rattle.world.specs.PipeBack.{IsPipe, IsSpelled, before, status_frame, statuses_at, statuses_in, told_by}
use Rattle.world.specs.Slots.{is_waiting}

-- ---- A status and its frame.

length-status : (s : Status) → length (status s) ≡ 34
length-status s =
    let clock = int64 (cast_unsigned w64 s.clock) in
    omega (
      arith,
      length-int64 s.written,
      length-int64 s.flushed,
      length-int64 s.applied,
      length-int64 (cast_unsigned w64 s.clock),
      length-append (int64 s.written) (int64 s.flushed ++ (int64 s.applied ++ (clock ++ (ask_byte s.ask ∷ [])))),
      length-append (int64 s.flushed) (int64 s.applied ++ (clock ++ (ask_byte s.ask ∷ []))),
      length-append (int64 s.applied) (clock ++ (ask_byte s.ask ∷ [])),
      length-append clock (ask_byte s.ask ∷ []),
    )

length-status_frame : (s : Status) → length (status_frame s) ≡ 39
length-status_frame s = omega (arith, length-frame COPY_DATA (status s), length-status s)

pub frame_is : (s : Status) → status_frame s ≡ COPY_DATA ∷ (int32 38 ++ status s)
frame_is s = ap (λ (n : ℕ). COPY_DATA ∷ (int32 (4 + n) ++ status s)) (length-status s)

-- of a status that asks for no answer, by the ranges of its numbers
pub is_spelled : (written flushed applied : ℕ) (clock : ℤ) → written < 2 ^ 64 → flushed < 2 ^ 64 → applied < 2 ^ 64 → FitsSigned w64 clock
    → IsSpelled (record { written = written; flushed = flushed; applied = applied; clock = clock; ask = false })
is_spelled written flushed applied clock w f a k = record { written = w; flushed = f; applied = a; clock = k; ask = 0; asks = refl; text = refl }

-- ---- What is read of frames.

abbrev at_front : Front → ℕ → Result (Option (Front × ℕ)) FrameFault
at_front f n = Ok (Some (f, n))

framed_body : (body rest : List ℕ) → 4 + length body ≤ FRAME_LIMIT → framed_front (frame COPY_DATA body ++ rest) ≡ at_front (CopyData (record { bytes = body })) (5 + length body)
framed_body body rest short =
    let raw = raw_again front_limit COPY_DATA FRAME_LIMIT body rest refl short (omega (arith, short)) in
    rw raw refl

framed : (s : Status) (rest : List ℕ) → framed_front (status_frame s ++ rest) ≡ at_front (CopyData (record { bytes = status s })) 39
framed s rest =
    let long = length-status s in
    framed_body (status s) rest (omega (arith, long)) ∙ ap (λ (n : ℕ). at_front (CopyData (record { bytes = status s })) (5 + n)) long

reads_on : (ss : List Status) (most : ℕ) → AllByRecursion IsSpelled ss → length ss ≤ most → statuses_at most (flat_map status_frame ss) ≡ ss
unfolding statuses_at
reads_on [] zero fits le = refl
reads_on [] (suc most) fits le = refl
reads_on (s ∷ ss) zero fits le = absurd (omega arith)
reads_on (s ∷ ss) (suc most) fits le =
    let bytes : List ℕ = flat_map status_frame (s ∷ ss) in
    let parts : bytes ≡ status_frame s ++ flat_map status_frame ss = flat_map-cons status_frame s ss in
    let later : ℕ → List Status = λ n. statuses_at most (drop n bytes) in
    ap (λ (r : Result (Option (Front × ℕ)) FrameFault). told_by r later) (ap framed_front parts ∙ framed s (flat_map status_frame ss))
    ∙ ap (λ (r : Result Status CopyFault). before (result_ok r) (later 39)) (client_again (status s) s fits.0)
    ∙ ap (λ (l : List ℕ). s ∷ statuses_at most l) (ap (drop 39) parts ∙ drop_at (status_frame s) (flat_map status_frame ss) 39 (length-status_frame s))
    ∙ ap (λ (l : List Status). s ∷ l) (reads_on ss most fits.1 (omega arith))

fewer : (ss : List Status) → length ss ≤ length (flat_map status_frame ss)
fewer [] = omega arith
fewer (s ∷ ss) =
    omega (
      arith,
      fewer ss,
      length-status_frame s,
      ap (length {A = ℕ}) (flat_map-cons status_frame s ss),
      length-append (status_frame s) (flat_map status_frame ss),
    )

reads : (ss : List Status) → AllByRecursion IsSpelled ss → statuses_in (flat_map status_frame ss) ≡ ss
unfolding statuses_in
reads ss fits = reads_on ss (length (flat_map status_frame ss)) fits (fewer ss)

-- ---- Bytes that are a pipe, of these statuses.

pub record Holds (bytes : List ℕ) (ss : List Status) : Type 0 where
  pub pipe : IsPipe bytes
  pub read : statuses_in bytes ≡ ss

holds : (bytes : List ℕ) (ss : List Status) → AllByRecursion IsSpelled ss → bytes ≡ flat_map status_frame ss → Holds bytes ss
holds bytes ss fits is =
    let read : statuses_in bytes ≡ ss = ap statuses_in is ∙ reads ss fits in
    let P : List Status → Type 0 = AllByRecursion IsSpelled in
    record { pipe = record { fits = subst P (sym read) fits; is = is ∙ ap (flat_map status_frame) (sym read) }; read = read }

pub holds_none : Holds [] []
holds_none = holds [] [] tt refl

pub holds_one : (s : Status) → IsSpelled s → Holds (status_frame s) (s ∷ [])
holds_one s fits = holds (status_frame s) (s ∷ []) (fits, tt) (sym (flat_map-cons status_frame s [] ∙ append-nil (status_frame s)))

pub holds_more : (bytes more : List ℕ) (ss : List Status) → IsPipe bytes → Holds more ss → Holds (bytes ++ more) (statuses_in bytes ++ ss)
holds_more bytes more ss pipe h =
    let old = statuses_in bytes in
    let fits : AllByRecursion IsSpelled ss = subst (λ (l : List Status). AllByRecursion IsSpelled l) h.read h.pipe.fits in
    let text : more ≡ flat_map status_frame ss = h.pipe.is ∙ ap (flat_map status_frame) h.read in
    holds (bytes ++ more) (old ++ ss) (all_of_both IsSpelled old ss pipe.fits fits)
    (ap (λ (l : List ℕ). l ++ more) pipe.is ∙ ap (λ (l : List ℕ). flat_map status_frame old ++ l) text ∙ sym (flat_map-append status_frame old ss))

-- what a call leaves that puts frames at the end, or nothing
pub record Sent {A E : Type 0} (r : Result A E) (old new : List ℕ) (ss : List Status) : Type 0 where
  pub pipe : IsPipe new
  pub ok : OnOk r (statuses_in new ≡ statuses_in old ++ ss)
  pub err : OnErr r (statuses_in new ≡ statuses_in old)

pub sent : {A E : Type 0} (r : Result A E) (old new more : List ℕ) (ss : List Status) → IsPipe old → Holds more ss → OnOk r (new ≡ old ++ more) → OnErr r (new ≡ old) → Sent r old new ss
sent (Ok x) old new more ss pipe h ok err =
    let both = holds_more old more ss pipe h in
    record { pipe = subst (λ (l : List ℕ). IsPipe l) (sym ok) both.pipe; ok = ap statuses_in ok ∙ both.read; err = tt }
sent (Err e) old new more ss pipe h ok err = record { pipe = subst (λ (l : List ℕ). IsPipe l) (sym err) pipe; ok = tt; err = ap statuses_in err }

-- a frame is written in three parts
pub puts_frame : (r : Result (Unit {0}) AllocError) (old one two new : List ℕ) (s : Status) → one ≡ old ++ COPY_DATA ∷ [] → two ≡ one ++ int32 38 → OnOk r (new ≡ two ++ status s) → OnErr r (new ≡ two)
    → Puts r old new (status_frame s)
puts_frame (Ok x) old one two new s first second ok err =
    ok ∙ ap (λ (l : List ℕ). l ++ status s) (second ∙ ap (λ (l : List ℕ). l ++ int32 38) first)
    ∙ append_assoc (old ++ COPY_DATA ∷ []) (int32 38) (status s) ∙ append_assoc old (COPY_DATA ∷ []) (int32 38 ++ status s) ∙ ap (λ (l : List ℕ). old ++ l) (sym (frame_is s))
puts_frame (Err e) old one two new s first second ok err =
    subst (λ (l : List ℕ). Extends old l) (sym (err ∙ second ∙ ap (λ (l : List ℕ). l ++ int32 38) first ∙ append_assoc old (COPY_DATA ∷ []) (int32 38)))
    (extends_more old (COPY_DATA ∷ int32 38))

-- what stands at the front of a pipe: nothing, or the frame of its next status
front : (P : List Status → Type 0) (bytes : List ℕ) → IsPipe bytes → (bytes ≡ [] → P [])
    → ((s : Status) (ss : List Status) → IsSpelled s → AllByRecursion IsSpelled ss → bytes ≡ status_frame s ++ flat_map status_frame ss → P (s ∷ ss)) → P (statuses_in bytes)
front P bytes pipe none some = by_list (statuses_in bytes) pipe.fits pipe.is
  where
    by_list : (ss : List Status) → AllByRecursion IsSpelled ss → bytes ≡ flat_map status_frame ss → P ss
    by_list [] fits is = none is
    by_list (s ∷ ss) fits is = some s ss fits.0 fits.1 (is ∙ flat_map-cons status_frame s ss)

pub waits : (bytes : List ℕ) → IsPipe bytes → not (eqb (length bytes) 0) ≡ is_waiting (statuses_in bytes)
waits bytes pipe =
    front (λ ss. not (eqb (length bytes) 0) ≡ is_waiting ss) bytes pipe
    (λ is. ap (λ (l : List ℕ). not (eqb (length l) 0)) is)
    (λ s ss fits all is. ap not (ne_eqb (length bytes) 0 (λ none. absurd (omega (arith, none, ap (length {A = ℕ}) is)))))

-- ---- The next status.

-- the status that a pipe begins with, and where its frame ends
pub record Next (bytes : List ℕ) (ss : List Status) (s : Status) : Type 0 where
  pub whole : 39 ≤ length bytes
  pub rest : IsPipe (drop 39 bytes)
  pub first : ss ≡ s ∷ statuses_in (drop 39 bytes)

pub next : (bytes : List ℕ) (s : Status) → IsPipe bytes → Some s ≡ slice_get (statuses_in bytes) 0 → Next bytes (statuses_in bytes) s
next bytes s pipe =
    front (λ ss. Some s ≡ slice_get ss 0 → Next bytes ss s) bytes pipe
    (λ is found. absurd cc)
    (λ t ss fits all is found.
    let long = length-status_frame t in
    let rest = holds (drop 39 bytes) ss all (ap (drop 39) is ∙ drop_at (status_frame t) (flat_map status_frame ss) 39 long) in
    let same : t ≡ s = cc in
    record {
      whole = omega (arith, long, ap (length {A = ℕ}) is, length-append (status_frame t) (flat_map status_frame ss));
      rest = rest.pipe;
      first = ap (λ (u : Status). u ∷ ss) same ∙ ap (λ (l : List Status). s ∷ l) (sym rest.read);
    })

pub empty : (bytes : List ℕ) → IsPipe bytes → None ≡ slice_get (statuses_in bytes) 0 → statuses_in bytes ≡ []
empty bytes pipe = front (λ ss. None ≡ slice_get ss 0 → ss ≡ []) bytes pipe (λ is found. refl) (λ s ss fits all is found. absurd cc)

-- ---- Reading it field by field.

pub nothing : (bytes : List ℕ) → IsPipe bytes → byte_at bytes ≡ None → None ≡ slice_get (statuses_in bytes) 0
nothing bytes pipe none = front (λ ss. None ≡ slice_get ss 0) bytes pipe (λ is. refl) (λ s ss fits all is. let byte = ap byte_at (sym is) ∙ none in absurd cc)

-- after this type byte stands the rest of a status's frame
pub record HasFrame (ss : List Status) (kind : ℕ) (behind : List ℕ) : Type 0 where
  pub told : Status
  pub rest : List ℕ
  pub first : Some told ≡ slice_get ss 0
  pub fits : IsSpelled told
  pub is_data : kind ≡ COPY_DATA
  pub number : number_at w32 behind ≡ Some (38, status told ++ rest)

pub frame_there : (bytes : List ℕ) (kind : ℕ) (behind : List ℕ) → IsPipe bytes → byte_at bytes ≡ Some (kind, behind) → HasFrame (statuses_in bytes) kind behind
frame_there bytes kind behind pipe found =
    front (λ ss. HasFrame ss kind behind) bytes pipe
    (λ is. let byte = ap byte_at (sym is) ∙ found in absurd cc)
    (λ s ss fits all is.
    let later = flat_map status_frame ss in
    let byte : Some (COPY_DATA, int32 38 ++ (status s ++ later)) ≡ Some (kind, behind) =
    ap (λ (l : List ℕ). Option.Some (COPY_DATA, l)) (sym (append_assoc (int32 38) (status s) later)) ∙ ap byte_at (ap (λ (l : List ℕ). l ++ later) (sym (frame_is s)) ∙ sym is) ∙ found in
    let same = some_pair_parts COPY_DATA kind (int32 38 ++ (status s ++ later)) behind byte in
    record {
      told = s;
      rest = later;
      first = refl;
      fits = fits;
      is_data = sym same.0;
      number = ap (number_at w32) (sym same.1) ∙ number_there 38 (status s ++ later) (omega arith);
    })

-- after this length stands its body
pub record HasBody (ss : List Status) (n : ℕ) (behind : List ℕ) : Type 0 where
  pub told : Status
  pub rest : List ℕ
  pub first : Some told ≡ slice_get ss 0
  pub fits : IsSpelled told
  pub is_length : n ≡ 38
  pub body : bytes_at 34 behind ≡ Some (status told, rest)

pub body_there : {ss : List Status} {kind : ℕ} {fields : List ℕ} (n : ℕ) (behind : List ℕ) → HasFrame ss kind fields → number_at w32 fields ≡ Some (n, behind) → HasBody ss n behind
body_there n behind f number =
    let parts = some_pair_parts n 38 behind (status f.told ++ f.rest) (sym number ∙ f.number) in
    record {
      told = f.told;
      rest = f.rest;
      first = f.first;
      fits = f.fits;
      is_length = parts.0;
      body = ap (bytes_at 34) parts.1 ∙ ap (λ (n : ℕ). bytes_at n (status f.told ++ f.rest)) (sym (length-status f.told)) ∙ bytes_there (status f.told) f.rest;
    }

-- what a reader of the body makes of it
pub read_there : {ss : List Status} {n : ℕ} {behind : List ℕ} (body rest : List ℕ) (r : Result Status CopyFault) → HasBody ss n behind → bytes_at 34 behind ≡ Some (body, rest)
    → ((s : Status) → SpellsStatus body s → r ≡ Ok s) → result_ok r ≡ slice_get ss 0
read_there {ss} body rest r b found only =
    let is = (some_pair_parts (status b.told) body b.rest rest (sym b.body ∙ found)).0 in
    ap (λ (r : Result Status CopyFault). result_ok r) (only b.told (subst (λ (l : List ℕ). SpellsStatus l b.told) is b.fits)) ∙ b.first
