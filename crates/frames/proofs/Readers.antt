-- The laws of a reader of regular frames, over any set of them: it finds what was spelled and nothing else, it waits while
-- a frame is there in part, and its faults stand where they say.
use Rattle.std.proofs.Common.{◌≡◌, ℕ, ◌+◌, ◌<◌, ◌≤◌, Bool, true, false, cond, List, ◌++◌, length, take, Option, Some, None, Result, Ok, Err, refl, sym, ap, subst, ◌∙◌, arith, inl, inr}
use Rattle.std.specs.Prelude.{◌⊎◌, IfOk, IfErr, IfSome, IsSomeAnd}
use Rattle.std.proofs.lemmas.List.{take_at, length-append}
use Rattle.pqformat.specs.Steps.{◌>>=◌}
use Rattle.frames.specs.declared.fault.FrameFault.{FrameFault}
use Rattle.frames.specs.declared.fault.FrameFault.TheVariants.{BadLength, BadVersion, UnknownType, BadBody, NotUtf8, TooLong, Memory}
use Rattle.frames.specs.Body.{checked_text}
use Rattle.frames.specs.Frame.{frame, Fits, SpellsFrame, IsShort, Gives, raw_at, whole_of, framed_at, IsKept, HasBody, StandsAt}
use Rattle.pqformat.proofs.Codec.{IsBytes, bind_ok, some_is, done, ok_is}
use Rattle.frames.proofs.Cases.{Cases}
use Rattle.frames.proofs.Steps.{kept_is_whole, FaultsStand, fault_stands, still_waits}
use Rattle.frames.proofs.Frames.{IsRaw, StandsBefore, frame_begins, length-frame, raw_again, raw_faults, raw_takes, raw_waits}

-- ---- a set of frames, whose bodies are read as they are spelled

pub record AreBodies {F : Type 0} (limit : ℕ → Option ℕ) (kind_of : F → ℕ) (body_of : F → List ℕ) (Shaped : F → Type 0) (is_text : F → Bool) (of : ℕ → List ℕ → Result F FrameFault) : Type 0 where
  pub cases : Cases kind_of body_of Shaped is_text limit of
  pub again : (f : F) → Shaped f → of (kind_of f) (body_of f) ≡ checked_text is_text f

read_again : {F : Type 0} {limit : ℕ → Option ℕ} {kind_of : F → ℕ} {body_of : F → List ℕ} {Shaped : F → Type 0} {is_text : F → Bool} {of : ℕ → List ℕ → Result F FrameFault} → AreBodies limit kind_of body_of Shaped is_text of
    → (f : F) → Fits Shaped is_text f → of (kind_of f) (body_of f) ≡ Ok f
read_again bodies f fits = bodies.again f fits.0 ∙ rw fits.1 refl

framed_takes : {F : Type 0} (limit : ℕ → Option ℕ) (kind_of : F → ℕ) (body_of : F → List ℕ) (Shaped : F → Type 0) (is_text : F → Bool) (of : ℕ → List ℕ → Result F FrameFault) → AreBodies limit kind_of body_of Shaped is_text of
    → (bytes : List ℕ) (f : F) (n : ℕ) → IsBytes bytes → framed_at limit of bytes ≡ Ok (Some (f, n))
    → (n ≤ length bytes) × SpellsFrame kind_of body_of (Fits Shaped is_text) (take n bytes) f × IsShort limit kind_of body_of f
framed_takes {F} limit kind_of body_of Shaped is_text of bodies bytes f n fits e = by_raw (raw_at limit bytes) refl e
  where
    Found : F → ℕ → Type 0
    Found f n = (n ≤ length bytes) × SpellsFrame kind_of body_of (Fits Shaped is_text) (take n bytes) f × IsShort limit kind_of body_of f

    by_raw : (r : Result (Option ((ℕ × List ℕ) × ℕ)) FrameFault) → raw_at limit bytes ≡ r → (r >>= λ raw. whole_of of raw) ≡ Ok (Some (f, n)) → Found f n
    by_raw (Err d) is e = absurd cc
    by_raw (Ok None) is e = absurd cc
    by_raw (Ok (Some raw)) is e =
        let answer : F × ℕ = (f, n) in
        let t = raw_takes limit bytes raw.0.0 raw.0.1 raw.1 fits is in
        let g = bind_ok (of raw.0.0 raw.0.1) (λ f. Ok (Some (f, raw.1))) (Some answer) e in
        let read : F × ℕ = (g.0, raw.1) in
        let c = bodies.cases.takes raw.0.0 raw.0.1 g.0 t.body_fits g.1 in
        let b = c.0 in
        let same = some_is read answer (ok_is FrameFault (Some read) (Some answer) g.2) in
        let text : bytes ≡ frame (kind_of g.0) (body_of g.0) ++ t.rest = rw (b.0, b.1) t.text in
        let size : length (frame (kind_of g.0) (body_of g.0)) ≡ raw.1 = length-frame (kind_of g.0) (body_of g.0) ∙ ap (λ (l : List ℕ). 5 + length l) b.1 ∙ sym t.size in
        let within : raw.1 ≤ length bytes = rw text (omega (arith, size, length-append (frame (kind_of g.0) (body_of g.0)) t.rest)) in
        let front : take raw.1 bytes ≡ frame (kind_of g.0) (body_of g.0) = ap (take raw.1) text ∙ take_at (frame (kind_of g.0) (body_of g.0)) t.rest raw.1 size in
        let short : IsShort limit kind_of body_of g.0 = rw (b.0, t.allowed, b.1) t.within in
        let P : F × ℕ → Type 0 = λ p. Found p.0 p.1 in
        subst P same (within, record { in_range = (b.2, c.1); fits_length = rw b.1 t.fits_length; text = front }, short)

-- ---- the clauses of a reader

abbrev pub Reads : {F : Type 0} → (ℕ → Option ℕ) → (F → ℕ) → (F → List ℕ) → (F → Type 0) → (F → Bool) → List ℕ → Option (F × ℕ) → Type 0
Reads limit kind_of body_of Shaped is_text bytes o = IfSome o (λ x. (x.1 ≤ length bytes) × SpellsFrame kind_of body_of (Fits Shaped is_text) (take x.1 bytes) x.0 × IsShort limit kind_of body_of x.0)

pub is_found : {F : Type 0} {limit : ℕ → Option ℕ} {kind_of : F → ℕ} {body_of : F → List ℕ} {Shaped : F → Type 0} {is_text : F → Bool} {of : ℕ → List ℕ → Result F FrameFault} → AreBodies limit kind_of body_of Shaped is_text of
    → (bytes : List ℕ) (r : Result (Option (F × ℕ)) FrameFault) → IsBytes bytes → Gives r (framed_at limit of bytes) → IfOk r (λ o. Reads limit kind_of body_of Shaped is_text bytes o)
is_found {F} {limit} {kind_of} {body_of} {Shaped} {is_text} {of} bodies bytes (Ok (Some x)) fits given = framed_takes limit kind_of body_of Shaped is_text of bodies bytes x.0 x.1 fits given
is_found bodies bytes (Ok None) fits given = tt
is_found bodies bytes (Err e) fits given = tt

pub is_only : {F : Type 0} {limit : ℕ → Option ℕ} {kind_of : F → ℕ} {body_of : F → List ℕ} {Shaped : F → Type 0} {is_text : F → Bool} {of : ℕ → List ℕ → Result F FrameFault} → AreBodies limit kind_of body_of Shaped is_text of
    → (bytes : List ℕ) (r : Result (Option (F × ℕ)) FrameFault) → Gives r (framed_at limit of bytes)
    → (text rest : List ℕ) (f : F) → SpellsFrame kind_of body_of (Fits Shaped is_text) text f → IsShort limit kind_of body_of f → bytes ≡ text ++ rest → Gives r (Ok (Some (f, length text)))
is_only {F} {limit} {kind_of} {body_of} {Shaped} {is_text} {of} bodies bytes r given text rest f spells short parts =
    let P : Result (Option (F × ℕ)) FrameFault → Type 0 = λ read. Gives r read in
    subst P (by_limit (limit (kind_of f)) refl short) given
  where
    by_limit : (o : Option ℕ) → limit (kind_of f) ≡ o → IsSomeAnd o (λ most. 4 + length (body_of f) ≤ most) → framed_at limit of bytes ≡ Ok (Some (f, length text))
    by_limit None none short = absurd short
    by_limit (Some most) allowed short =
        let raw = raw_again limit (kind_of f) most (body_of f) rest allowed short spells.fits_length in
        let whole : bytes ≡ frame (kind_of f) (body_of f) ++ rest = parts ∙ ap (λ (l : List ℕ). l ++ rest) spells.text in
        let size : 5 + length (body_of f) ≡ length text = sym (length-frame (kind_of f) (body_of f)) ∙ ap length (sym spells.text) in
        rw (whole, raw, read_again bodies f spells.in_range, size) refl

pub is_waiting : {F : Type 0} {limit : ℕ → Option ℕ} {kind_of : F → ℕ} {body_of : F → List ℕ} {Shaped : F → Type 0} {is_text : F → Bool} {of : ℕ → List ℕ → Result F FrameFault} → AreBodies limit kind_of body_of Shaped is_text of
    → (needs_memory : F → Bool) (bytes : List ℕ) (r : Result (Option (F × ℕ)) FrameFault) → Gives r (framed_at limit of bytes) → (r ≡ Err Memory → IsKept needs_memory (framed_at limit of bytes))
    → (text more : List ℕ) (f : F) → SpellsFrame kind_of body_of (Fits Shaped is_text) text f → IsShort limit kind_of body_of f → text ≡ bytes ++ more → length bytes < length text → r ≡ Ok None
is_waiting {F} {limit} {kind_of} {body_of} {Shaped} {is_text} {of} bodies needs_memory bytes r given memory text more f spells short parts less =
    still_waits (raw_at limit bytes) (λ raw. whole_of of raw) r given (λ h. kept_is_whole needs_memory of (raw_at limit bytes) (memory h)) refl (by_limit (limit (kind_of f)) refl short)
  where
    by_limit : (o : Option ℕ) → limit (kind_of f) ≡ o → IsSomeAnd o (λ most. 4 + length (body_of f) ≤ most) → raw_at limit bytes ≡ Ok None
    by_limit None none short = absurd short
    by_limit (Some most) allowed short =
        raw_waits limit (kind_of f) most (body_of f) bytes more allowed short spells.fits_length (sym spells.text ∙ parts)
        (omega (arith, length-frame (kind_of f) (body_of f), ap length spells.text))

pub is_fault : {F : Type 0} {limit : ℕ → Option ℕ} {kind_of : F → ℕ} {body_of : F → List ℕ} {Shaped : F → Type 0} {is_text : F → Bool} {of : ℕ → List ℕ → Result F FrameFault} → AreBodies limit kind_of body_of Shaped is_text of
    → (needs_memory : F → Bool) (bytes : List ℕ) (r : Result (Option (F × ℕ)) FrameFault) → IsBytes bytes → Gives r (framed_at limit of bytes) → (r ≡ Err Memory → IsKept needs_memory (framed_at limit of bytes))
    → IfErr r (λ e. StandsAt limit kind_of body_of Shaped is_text needs_memory e bytes)
is_fault {F} {limit} {kind_of} {body_of} {Shaped} {is_text} {of} bodies needs_memory bytes (Ok o) fits given memory = tt
is_fault {F} {limit} {kind_of} {body_of} {Shaped} {is_text} {of} bodies needs_memory bytes (Err e) fits given memory = fault_stands all e given memory
  where
    Stands : FrameFault → Type 0
    Stands e = StandsAt limit kind_of body_of Shaped is_text needs_memory e bytes

    before : (e : FrameFault) → StandsBefore limit e bytes → Stands e
    before BadLength is = is
    before BadVersion is = absurd is
    before UnknownType is = is
    before BadBody is = absurd is
    before NotUtf8 is = absurd is
    before TooLong is = is
    before Memory is = absurd is

    never_bad : (f : F) (b : Bool) → cond b (Ok f) (Err NotUtf8) ≡ Err BadBody → ⊥
    never_bad f true is = absurd cc
    never_bad f false is = absurd cc

    none_has : (kind : ℕ) (body : List ℕ) → of kind body ≡ Err BadBody → (f : F) → HasBody kind_of body_of Shaped kind body f → ⊥
    none_has kind body bad f has =
        let P : ℕ → Type 0 = λ k. of k body ≡ checked_text is_text f in
        let Q : List ℕ → Type 0 = λ b. of (kind_of f) b ≡ checked_text is_text f in
        let read : of kind body ≡ checked_text is_text f = subst P has.0 (subst Q has.1 (bodies.again f has.2)) in
        never_bad f (is_text f) (sym read ∙ bad)

    by_body : (raw : (ℕ × List ℕ) × ℕ) (e : FrameFault) → IsRaw limit bytes raw.0.0 raw.0.1 raw.1 → of raw.0.0 raw.0.1 ≡ Err e
        → (e ≡ BadBody) ⊎ ((e ≡ NotUtf8) × (f : F) × HasBody kind_of body_of Shaped raw.0.0 raw.0.1 f × (is_text f ≡ false)) → Stands e
    by_body raw e t refused (inl bad) =
        let P : FrameFault → Type 0 = λ f. Stands f in
        let E : FrameFault → Type 0 = λ d. of raw.0.0 raw.0.1 ≡ Err d in
        subst P (sym bad) (raw.0.0, t.most, raw.0.1, t.rest, t.allowed, t.within, t.text, none_has raw.0.0 raw.0.1 (subst E bad refused))
    by_body raw e t refused (inr x) =
        let P : FrameFault → Type 0 = λ f. Stands f in
        subst P (sym x.0) (raw.0.0, t.most, raw.0.1, t.rest, t.allowed, t.within, t.text, (x.1, x.2, x.3))

    all : FaultsStand Stands of needs_memory (raw_at limit bytes)
    all = record {
      unread = λ e is. before e (raw_faults limit bytes e fits is);
      refused = λ raw e is refused.
          let t = raw_takes limit bytes raw.0.0 raw.0.1 raw.1 fits is in
          by_body raw e t refused (bodies.cases.fails raw.0.0 t.most raw.0.1 e t.body_fits t.allowed refused);
      kept = λ raw f is read needs.
          let t = raw_takes limit bytes raw.0.0 raw.0.1 raw.1 fits is in
          let b = bodies.cases.takes raw.0.0 raw.0.1 f t.body_fits read in
          (raw.0.0, t.most, raw.0.1, t.rest, t.allowed, t.within, t.text, (f, b.0, b.1, needs));
    }

-- of two frames that begin the same bytes one is the other
pub same_frame : {F : Type 0} {limit : ℕ → Option ℕ} {kind_of : F → ℕ} {body_of : F → List ℕ} {Shaped : F → Type 0} {is_text : F → Bool} {of : ℕ → List ℕ → Result F FrameFault} → AreBodies limit kind_of body_of Shaped is_text of
    → (a b x y : List ℕ) (f g : F) → SpellsFrame kind_of body_of (Fits Shaped is_text) a f → SpellsFrame kind_of body_of (Fits Shaped is_text) b g → a ++ x ≡ b ++ y → (a ≡ b) × (f ≡ g) × (x ≡ y)
same_frame {F} {limit} {kind_of} {body_of} {Shaped} {is_text} {of} bodies a b x y f g is_a is_b e =
    let both : frame (kind_of f) (body_of f) ++ x ≡ frame (kind_of g) (body_of g) ++ y = ap (λ (l : List ℕ). l ++ x) (sym is_a.text) ∙ e ∙ ap (λ (l : List ℕ). l ++ y) is_b.text in
    let same = frame_begins (kind_of f) (kind_of g) (body_of f) (body_of g) x y is_a.fits_length is_b.fits_length both in
    let kinds : kind_of f ≡ kind_of g = same.0 in
    let bodies_same : body_of f ≡ body_of g = same.1 in
    let texts : a ≡ b = is_a.text ∙ ap (λ (k : ℕ). frame k (body_of f)) kinds ∙ ap (frame (kind_of g)) bodies_same ∙ sym is_b.text in
    let read : Ok f ≡ done FrameFault g = sym (read_again bodies f is_a.in_range) ∙ ap (λ (k : ℕ). of k (body_of f)) kinds ∙ ap (of (kind_of g)) bodies_same ∙ read_again bodies g is_b.in_range in
    (texts, ok_is FrameFault f g read, same.2)
