-- What stands at the front of the bytes of words: the first word, whole or in part.
use Rattle.std.proofs.Common.{◌≡◌, ℕ, ◌+◌, ◌<◌, ◌≤◌, Bool, true, false, eqb, List, [], ◌∷◌, ◌++◌, length, take, drop, Some, None, Ok, refl, sym, ap, subst, ◌∙◌, append_assoc, arith, inl, inr}
use Rattle.std.specs.Prelude.{◌⊎◌}
use Rattle.std.specs.List.{AllByRecursion}
use Rattle.std.proofs.lemmas.Bool.{cases_lt}
use Rattle.std.proofs.lemmas.List.{length-append, take-append-le, take-append-drop, take_at}
use Rattle.std.proofs.lemmas.List.Concat.{flat_map-cons}
use Rattle.frames.specs.Frame.{frame, FitsLength, IsKept}
use Rattle.frames.specs.Back.{framed_back, back_limit, back_needs_memory}
use Rattle.frames.specs.declared.copy_data.TheConstants.{COPY_DATA}
use Rattle.frames.specs.declared.parts.frame.TheConstants.{FRAME_LIMIT}
use Rattle.frames.specs.declared.back.Back.TheVariants.{CopyData}
use Rattle.frames.proofs.Frames.{raw_again, raw_waits, frame_begins, length-frame}
use Rattle.frames.proofs.Bodies.{back_bodies}
use Rattle.copyboth.specs.declared.keepalive.TheConstants.{ASKS}
use Rattle.copyboth.specs.Keepalive.{ask_byte}
use Rattle.pgoutput.specs.Logical.{spell_logical}
use Rattle.pgoutput.specs.declared.copy_both_message.CopyBothMessage.{CopyBothMessage}
use Rattle.pgoutput.specs.declared.copy_both_message.CopyBothMessage.TheVariants as words
use Rattle.pgoutput.specs.Words.{word_body, word_bytes, frames_of, FitsWord}
use Rattle.client.specs.Words.{Says, SpellsWord, AreSpelled, Waits, TakesMemory}
use Rattle.client.proofs.Bodies.{says_once}

-- ---- a word's own bytes

pub says_word : (w : CopyBothMessage) → FitsWord w → Says (word_body w) w
says_word (words.Keepalive k) fits = record { end = fits.fields.0; clock = fits.fields.1; ask = ask_byte k.ask; asks = asked k.ask; text = refl }
  where
    asked : (ask : Bool) → ask ≡ eqb (ask_byte ask) ASKS
    asked true = refl
    asked false = refl
says_word (words.XLogData x) fits =
    (spell_logical x.message, record { start = fits.fields.0; end = fits.fields.1; clock = fits.fields.2; text = refl }, record { in_range = fits.fields.3; text = refl })

fits_length : (w : CopyBothMessage) → FitsWord w → FitsLength (word_body w)
fits_length w fits = omega (arith, fits.short)

-- ---- reading at the front

pub framed_word : (body rest : List ℕ) → 4 + length body ≤ FRAME_LIMIT → framed_back (frame COPY_DATA body ++ rest) ≡ Ok (Some (CopyData (record { bytes = body }), 5 + length body))
framed_word body rest short =
    let raw = raw_again back_limit COPY_DATA FRAME_LIMIT body rest refl short (omega (arith, short)) in
    let read = back_bodies.again (CopyData (record { bytes = body })) (tt, tt) in
    rw (raw, read) refl

-- the frame of a word is kept
pub takes_memory : (bytes : List ℕ) (n : ℕ) (w : CopyBothMessage) → SpellsWord (take n bytes) w → TakesMemory bytes
takes_memory bytes n w spelled =
    let whole : bytes ≡ frame COPY_DATA spelled.body ++ drop n bytes = sym (take-append-drop n bytes) ∙ ap (λ (l : List ℕ). l ++ drop n bytes) spelled.frame in
    subst (IsKept back_needs_memory) (sym (ap framed_back whole ∙ framed_word spelled.body (drop n bytes) spelled.short)) refl

framed_waits : (body bytes more : List ℕ) → 4 + length body ≤ FRAME_LIMIT → frame COPY_DATA body ≡ bytes ++ more → length bytes < 5 + length body → framed_back bytes ≡ Ok None
framed_waits body bytes more short text less = rw (raw_waits back_limit COPY_DATA FRAME_LIMIT body bytes more refl short (omega (arith, short)) text less) refl

-- of two texts that begin the same bytes the shorter begins the longer
pub longer : (a x b y : List ℕ) → a ++ x ≡ b ++ y → length b ≤ length a → a ≡ b ++ drop (length b) a
longer a x b y e le =
    let front : take (length b) a ≡ b = sym (take-append-le (length b) a x le) ∙ ap (take (length b)) e ∙ take_at b y (length b) refl in
    sym (take-append-drop (length b) a) ∙ ap (λ (l : List ℕ). l ++ drop (length b) a) front

-- The word is there whole, or the bytes wait for more of it.
abbrev pub Shows : CopyBothMessage → List ℕ → Type 0
Shows v rest = ((length rest < length (word_bytes v)) × Waits rest) ⊎ ((length (word_bytes v) ≤ length rest) × (framed_back rest ≡ Ok (Some (CopyData (record { bytes = word_body v }), 5 + length (word_body v)))))

pub shows : (v : CopyBothMessage) (rest more tail : List ℕ) → FitsWord v → rest ++ more ≡ word_bytes v ++ tail → Shows v rest
shows v rest more tail fits e = elim (cases_lt (length rest) (length (word_bytes v))) [
  | inl less ↦
      let whole : word_bytes v ≡ rest ++ drop (length rest) (word_bytes v) = longer (word_bytes v) tail rest more (sym e) (omega (arith, less)) in
      inl (less, framed_waits (word_body v) rest (drop (length rest) (word_bytes v)) fits.short whole (omega (arith, less, length-frame COPY_DATA (word_body v))))
  | inr le ↦
      let whole : rest ≡ word_bytes v ++ drop (length (word_bytes v)) rest = longer rest more (word_bytes v) tail e le in
      inr (le, ap framed_back whole ∙ framed_word (word_body v) (drop (length (word_bytes v)) rest) fits.short)
]

-- ---- of words that begin the same bytes

pub same_word : (text : List ℕ) (w v : CopyBothMessage) (x y : List ℕ) → SpellsWord text w → FitsWord v → text ++ x ≡ word_bytes v ++ y → (w ≡ v) × (text ≡ word_bytes v) × (x ≡ y)
same_word text w v x y spelled fits e =
    let both : frame COPY_DATA spelled.body ++ x ≡ frame COPY_DATA (word_body v) ++ y = ap (λ (l : List ℕ). l ++ x) (sym spelled.frame) ∙ e in
    let same = frame_begins COPY_DATA COPY_DATA spelled.body (word_body v) x y (omega (arith, spelled.short)) (fits_length v fits) both in
    let says : Says (word_body v) w = subst (λ (b : List ℕ). Says b w) same.1 spelled.says in
    (says_once (word_body v) w v says (says_word v fits), spelled.frame ∙ ap (frame COPY_DATA) same.1, same.2)

pub not_empty : (text : List ℕ) (w : CopyBothMessage) (x : List ℕ) → SpellsWord text w → text ++ x ≡ [] → ⊥
not_empty text w x spelled e = absurd (omega (arith, ap (length {A = ℕ}) e, length-append text x, ap (length {A = ℕ}) spelled.frame, length-frame COPY_DATA spelled.body))

-- words that are spelled at the front of the bytes of others are a beginning of those
pub record Aligned (text : List ℕ) (ws vs : List CopyBothMessage) (x : List ℕ) : Type 0 where
  pub more : List CopyBothMessage
  pub is : vs ≡ ws ++ more
  pub front : text ≡ frames_of ws
  pub rest : x ≡ frames_of more
  pub fits : AllByRecursion FitsWord more

pub aligned : (text : List ℕ) (ws vs : List CopyBothMessage) (x : List ℕ) → AreSpelled text ws → AllByRecursion FitsWord vs → text ++ x ≡ frames_of vs → Aligned text ws vs x
aligned text [] vs x spelled fits e = record { more = vs; is = refl; front = spelled; rest = ap (λ (l : List ℕ). l ++ x) (sym spelled) ∙ e; fits = fits }
aligned text (w ∷ ws) [] x spelled fits e =
    absurd (not_empty spelled.0 w (spelled.1 ++ x) spelled.3 (sym (append_assoc spelled.0 spelled.1 x) ∙ ap (λ (l : List ℕ). l ++ x) (sym spelled.2) ∙ e))
aligned text (w ∷ ws) (v ∷ vs) x spelled fits e =
    let parted : spelled.0 ++ (spelled.1 ++ x) ≡ word_bytes v ++ frames_of vs = sym (append_assoc spelled.0 spelled.1 x) ∙ ap (λ (l : List ℕ). l ++ x) (sym spelled.2) ∙ e ∙ flat_map-cons word_bytes v vs in
    let same = same_word spelled.0 w v (spelled.1 ++ x) (frames_of vs) spelled.3 fits.0 parted in
    let inner = aligned spelled.1 ws vs x spelled.4 fits.1 same.2 in
    let heads : w ≡ v = same.0 in
    record {
      more = inner.more;
      is = ap (λ (l : List CopyBothMessage). v ∷ l) inner.is ∙ ap (λ (u : CopyBothMessage). u ∷ (ws ++ inner.more)) (sym heads);
      front = spelled.2 ∙ ap (λ (l : List ℕ). l ++ spelled.1) same.1 ∙ ap (λ (l : List ℕ). word_bytes v ++ l) inner.front ∙ sym (flat_map-cons word_bytes v ws) ∙ ap (λ (u : CopyBothMessage). frames_of (u ∷ ws)) (sym heads);
      rest = inner.rest;
      fits = inner.fits;
    }
