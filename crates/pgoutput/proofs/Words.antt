-- Frames to words, by the law of frames and of their bodies: words that begin the same bytes are the same.
use Rattle.std.proofs.Common.{◌≡◌, ℕ, ℤ, ◌^◌, ◌<◌, Bool, true, false, List, [], ◌∷◌, ◌++◌, length, refl, sym, ap, ◌∙◌, append_assoc, arith}
use Rattle.std.specs.Prelude.{FitsSigned}
use Rattle.std.specs.List.{flat_map, AllByRecursion}
use Rattle.std.specs.Int.{w64, cast_signed, cast_unsigned}
use Rattle.std.specs.Option.{ok_or}
use Rattle.std.proofs.lemmas.Int.{to_z-of_z}
use Rattle.std.proofs.Math.Facts.{Fits-of_z, Fits-lt-pow}
use Rattle.std.proofs.lemmas.List.{length-append}
use Rattle.std.proofs.lemmas.List.Concat.{flat_map-cons}
use Rattle.pqformat.specs.Fields.{int64, number_at}
use Rattle.frames.specs.declared.copy_data.TheConstants.{COPY_DATA}
use Rattle.frames.specs.declared.fault.FrameFault.{FrameFault}
use Rattle.frames.specs.declared.fault.FrameFault.TheVariants.{BadBody}
use Rattle.frames.specs.Frame.{FitsLength}
use Rattle.pqformat.proofs.Codec.{done, ok_is}
use Rattle.pqformat.proofs.Numbers.{number64}
use Rattle.frames.proofs.Frames.{frame_begins}
use Rattle.copyboth.specs.Keepalive.{ask_byte}
use Rattle.pgoutput.specs.declared.logical.Logical.{Logical}
use Rattle.pgoutput.specs.Logical.{spell_logical, FitsLogical}
use Rattle.pgoutput.specs.declared.copy_both_message.CopyBothMessage.{CopyBothMessage}
use Rattle.pgoutput.specs.declared.copy_both_message.CopyBothMessage.TheVariants as words
use Rattle.pgoutput.specs.declared.copy_both_message.Keepalive.{Keepalive}
use Rattle.pgoutput.specs.declared.copy_both_message.XLogData.{XLogData}
use Rattle.pgoutput.specs.Words.{word_body, word_bytes, FitsWord}

-- Of two words that begin the same bytes one is the other.
abbrev pub IsCode : {W : Type 0} → (W → List ℕ) → (W → Type 0) → Type 0
IsCode {W} text Fits = (a b : W) (x y : List ℕ) → Fits a → Fits b → text a ++ x ≡ text b ++ y → (a ≡ b) × (x ≡ y)

-- no word is spelled by nothing
abbrev pub IsFull : {W : Type 0} → (W → List ℕ) → Type 0
IsFull {W} text = (a : W) → 0 < length (text a)

pub record Begins {W : Type 0} (text : W → List ℕ) (ws vs : List W) (x : List ℕ) : Type 0 where
  pub more : List W
  pub is : vs ≡ ws ++ more
  pub rest : x ≡ flat_map text more

pub begins : {W : Type 0} (text : W → List ℕ) (Fits : W → Type 0) → IsCode text Fits → IsFull text → (ws vs : List W) (x : List ℕ)
    → AllByRecursion Fits ws → AllByRecursion Fits vs → flat_map text ws ++ x ≡ flat_map text vs → Begins text ws vs x
begins text Fits code full [] vs x fits_ws fits_vs e = record { more = vs; is = refl; rest = e }
begins text Fits code full (w ∷ ws) [] x fits_ws fits_vs e =
    let len : length (text w ++ (flat_map text ws ++ x)) ≡ 0 = ap length (sym (append_assoc (text w) (flat_map text ws) x) ∙ ap (λ (l : List ℕ). l ++ x) (sym (flat_map-cons text w ws)) ∙ e) in
    absurd (omega (arith, full w, length-append (text w) (flat_map text ws ++ x)))
begins text Fits code full (w ∷ ws) (v ∷ vs) x fits_ws fits_vs e =
    let regrouped : text w ++ (flat_map text ws ++ x) ≡ text v ++ flat_map text vs = sym (append_assoc (text w) (flat_map text ws) x) ∙ ap (λ (l : List ℕ). l ++ x) (sym (flat_map-cons text w ws)) ∙ e ∙ flat_map-cons text v vs in
    let same = code w v (flat_map text ws ++ x) (flat_map text vs) fits_ws.0 fits_vs.0 regrouped in
    let inner = begins text Fits code full ws vs x fits_ws.1 fits_vs.1 same.1 in
    let heads : w ≡ v = same.0 in
    record { more = inner.more; is = ap (λ (l : List _). v ∷ l) inner.is ∙ ap (λ u. u ∷ (ws ++ inner.more)) (sym heads); rest = inner.rest }

-- a number that begins the same bytes
peel64 : (m n : ℕ) (x y : List ℕ) → m < 2 ^ 64 → n < 2 ^ 64 → int64 m ++ x ≡ int64 n ++ y → (m ≡ n) × (x ≡ y)
peel64 m n x y lt_m lt_n e =
    let a : ℕ × List ℕ = (m, x) in
    let b : ℕ × List ℕ = (n, y) in
    let read : done FrameFault a ≡ done FrameFault b = sym ((number64 BadBody).again m x lt_m) ∙ ap (λ (l : List ℕ). ok_or (number_at w64 l) BadBody) e ∙ (number64 BadBody).again n y lt_n in
    let same = ok_is FrameFault a b read in
    (ap (λ (p : ℕ × List ℕ). p.0) same, ap (λ (p : ℕ × List ℕ). p.1) same)

peel_signed : (m n : ℤ) (x y : List ℕ) → FitsSigned w64 m → FitsSigned w64 n → int64 (cast_unsigned w64 m) ++ x ≡ int64 (cast_unsigned w64 n) ++ y → (m ≡ n) × (x ≡ y)
peel_signed m n x y fits_m fits_n e =
    let same = peel64 (cast_unsigned w64 m) (cast_unsigned w64 n) x y (Fits-lt-pow (Fits-of_z fits_m)) (Fits-lt-pow (Fits-of_z fits_n)) e in
    (sym (to_z-of_z w64 m fits_m) ∙ ap (cast_signed w64) same.0 ∙ to_z-of_z w64 n fits_n, same.1)

-- what of messages the words need
abbrev pub IsSpelledOnce : Type 0
IsSpelledOnce = (m n : Logical) → FitsLogical m → FitsLogical n → spell_logical m ≡ spell_logical n → m ≡ n

heads : (a b : ℕ) (x y : List ℕ) → a ∷ x ≡ b ∷ y → a ≡ b
heads a b x y e = cc

word_body_once : IsSpelledOnce → (a b : CopyBothMessage) → FitsWord a → FitsWord b → word_body a ≡ word_body b → a ≡ b
word_body_once once (words.Keepalive k) (words.Keepalive l) fits_a fits_b e =
    let tails : int64 k.position ++ (int64 (cast_unsigned w64 k.clock) ++ (ask_byte k.ask ∷ [])) ≡ int64 l.position ++ (int64 (cast_unsigned w64 l.clock) ++ (ask_byte l.ask ∷ [])) = cc in
    let at = peel64 k.position l.position (int64 (cast_unsigned w64 k.clock) ++ (ask_byte k.ask ∷ [])) (int64 (cast_unsigned w64 l.clock) ++ (ask_byte l.ask ∷ [])) fits_a.fields.0 fits_b.fields.0 tails in
    let clocks = peel_signed k.clock l.clock (ask_byte k.ask ∷ []) (ask_byte l.ask ∷ []) fits_a.fields.1 fits_b.fields.1 at.1 in
    let asks : k.ask ≡ l.ask = same_ask k.ask l.ask clocks.1 in
    ap words.Keepalive (ap (λ (p : ℕ). keepalive_of p k.clock k.ask) at.0 ∙ ap (λ (c : ℤ). keepalive_of l.position c k.ask) clocks.0 ∙ ap (keepalive_of l.position l.clock) asks)
  where
    keepalive_of : ℕ → ℤ → Bool → Keepalive
    keepalive_of position clock ask = record { position = position; clock = clock; ask = ask }

    same_ask : (a b : Bool) → ask_byte a ∷ [] ≡ ask_byte b ∷ [] → a ≡ b
    same_ask true true e = refl
    same_ask true false e = absurd (omega (arith, heads 1 0 [] [] e))
    same_ask false true e = absurd (omega (arith, heads 0 1 [] [] e))
    same_ask false false e = refl
word_body_once once (words.Keepalive k) (words.XLogData s) fits_a fits_b e = absurd (omega (arith, heads 107 119 _ _ e))
word_body_once once (words.XLogData s) (words.Keepalive k) fits_a fits_b e = absurd (omega (arith, heads 119 107 _ _ e))
word_body_once once (words.XLogData s) (words.XLogData t) fits_a fits_b e =
    let tails : int64 s.start ++ (int64 s.end ++ (int64 (cast_unsigned w64 s.clock) ++ spell_logical s.message)) ≡ int64 t.start ++ (int64 t.end ++ (int64 (cast_unsigned w64 t.clock) ++ spell_logical t.message)) = cc in
    let starts = peel64 s.start t.start (int64 s.end ++ (int64 (cast_unsigned w64 s.clock) ++ spell_logical s.message)) (int64 t.end ++ (int64 (cast_unsigned w64 t.clock) ++ spell_logical t.message)) fits_a.fields.0 fits_b.fields.0 tails in
    let ends = peel64 s.end t.end (int64 (cast_unsigned w64 s.clock) ++ spell_logical s.message) (int64 (cast_unsigned w64 t.clock) ++ spell_logical t.message) fits_a.fields.1 fits_b.fields.1 starts.1 in
    let clocks = peel_signed s.clock t.clock (spell_logical s.message) (spell_logical t.message) fits_a.fields.2 fits_b.fields.2 ends.1 in
    let messages = once s.message t.message fits_a.fields.3 fits_b.fields.3 clocks.1 in
    ap words.XLogData (ap (λ (p : ℕ). xlogdata_of p s.end s.clock s.message) starts.0 ∙ ap (λ (p : ℕ). xlogdata_of t.start p s.clock s.message) ends.0 ∙ ap (λ (c : ℤ). xlogdata_of t.start t.end c s.message) clocks.0 ∙ ap (xlogdata_of t.start t.end t.clock) messages)
  where
    xlogdata_of : ℕ → ℕ → ℤ → Logical → XLogData
    xlogdata_of start end clock message = record { start = start; end = end; clock = clock; message = message }

pub words_are_code : IsSpelledOnce → IsCode word_bytes FitsWord
words_are_code once a b x y fits_a fits_b e =
    let whole_a : FitsLength (word_body a) = omega (arith, fits_a.short) in
    let whole_b : FitsLength (word_body b) = omega (arith, fits_b.short) in
    let same = frame_begins COPY_DATA COPY_DATA (word_body a) (word_body b) x y whole_a whole_b e in
    (word_body_once once a b fits_a fits_b same.1, same.2)

pub words_are_full : IsFull word_bytes
words_are_full a = omega arith
