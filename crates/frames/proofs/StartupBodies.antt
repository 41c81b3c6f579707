-- The bodies of startups, which are read as they are spelled.
use Rattle.std.proofs.Common.{◌≡◌, ℕ, ◌^◌, ◌<◌, Bool, true, false, cond, eqb, List, [], ◌∷◌, ◌++◌, length, Result, Ok, Err, refl, sym, ap, subst, ◌∙◌, arith}
use Rattle.std.specs.Prelude.{◌||◌, not}
use Rattle.std.specs.List.{AllByRecursion, list_all}
use Rattle.std.proofs.lemmas.List.{length-append}
use Rattle.pqformat.specs.Fields.{string, has_zero}
use Rattle.pqformat.specs.Steps.{◌>>=◌, closed_list}
use Rattle.frames.specs.Body.{checked_text, always, nothing_at, starts}
use Rattle.frames.specs.Frame.{Fits, HasBody}
use Rattle.frames.specs.Plain.{backend_key, backend_key_at}
use Rattle.frames.specs.Parameter.{parameter, parameter_at, is_empty, FitsParameter, is_parameter_text}
use Rattle.frames.specs.Startup.{startup_number, startup_body, IsShapedStartup, is_startup_text, startup_limit, parameters_at, startup_at}
use Rattle.frames.specs.declared.frontend.parameter.Parameter.{Parameter}
use Rattle.frames.specs.declared.frontend.startup.Startup.{Startup}
use Rattle.frames.specs.declared.frontend.startup.Startup.TheVariants.{Session, Ssl, Gss, Cancel}
use Rattle.frames.specs.declared.frontend.startup.TheConstants.{STARTUP_LIMIT, PROTOCOL_VERSION, SSL_REQUEST, GSS_REQUEST, CANCEL_REQUEST}
use Rattle.frames.specs.declared.fault.FrameFault.{FrameFault}
use Rattle.frames.specs.declared.fault.FrameFault.TheVariants.{BadVersion, BadBody, NotUtf8}
use Rattle.pqformat.proofs.Codec.{done, Codec, field, last_field, codec_of}
use Rattle.pqformat.proofs.Numbers.{number32, string_codec, nothing_codec}
use Rattle.frames.proofs.Cases.{Body, Cases, body_of_codec, case, no_case, whole_again, made}
use Rattle.frames.proofs.ClosedLists.{Starting, until_body}

pub parameter_codec : Codec parameter_at parameter (λ p. (has_zero p.name ≡ false) × (has_zero p.value ≡ false))
unfolding parameter_at
parameter_codec = codec_of (
    field (string_codec tt) (λ (p : Parameter). p.name) _ _ _ _ (λ name.
    last_field (string_codec tt) (λ (p : Parameter). p.value) _ (λ value. record { name = name; value = value })
    (λ _. refl) (λ _ _. (refl, tt)) (λ p known. rw (← known.0) refl)))

long_parameter : (p : Parameter) → 0 < length (parameter p)
long_parameter p = omega (arith, length-append (string p.name) (string p.value), length-append p.name (0 ∷ []))

starts_named : (name more : List ℕ) → starts ((name ++ 0 ∷ []) ++ more) ≡ true → is_empty name ≡ false
starts_named [] more is = absurd cc
starts_named (b ∷ name) more is = refl

named_starts : (name more : List ℕ) → is_empty name ≡ false → has_zero name ≡ false → starts ((name ++ 0 ∷ []) ++ more) ≡ true
named_starts [] more is none = absurd cc
named_starts (b ∷ name) more is none = by_test (eqb b 0) none
  where
    by_test : (t : Bool) → (t || has_zero name) ≡ false → not t ≡ true
    by_test true none = absurd cc
    by_test false none = refl

abbrev Named : Parameter → Type 0
Named p = Starting (λ q. (has_zero q.name ≡ false) × (has_zero q.value ≡ false)) parameter p

all_fit : (ps : List Parameter) → AllByRecursion Named ps → AllByRecursion FitsParameter ps
all_fit [] all = tt
all_fit (p ∷ ps) all = ((starts_named p.name (string p.value) all.0.1, all.0.0.0, all.0.0.1), all_fit ps all.1)

all_named : (ps : List Parameter) → AllByRecursion FitsParameter ps → AllByRecursion Named ps
all_named [] all = tt
all_named (p ∷ ps) all = (((all.0.1, all.0.2), named_starts p.name (string p.value) all.0.0 all.0.1), all_named ps all.1)

session_body : Body parameters_at (closed_list parameter) (AllByRecursion FitsParameter)
session_body =
    let b = until_body parameter_codec long_parameter in
    record {
      takes = λ bytes ps rest fits e. let t = b.takes bytes ps rest fits e in (t.0, all_fit ps t.1);
      again = λ ps fits. b.again ps (all_named ps fits);
    }

pub key_codec : Codec backend_key_at backend_key (λ m. (m.0 < 2 ^ 32) × (m.1 < 2 ^ 32))
unfolding backend_key_at
key_codec = codec_of (
    field (number32 tt) (λ (m : ℕ × ℕ). m.0) _ _ _ _ (λ process.
    last_field (number32 tt) (λ (m : ℕ × ℕ). m.1) _ (λ key. (process, key))
    (λ _. refl) (λ _ _. (refl, tt)) (λ m known. rw (← known.0) refl)))

pub empty_body : Body nothing_at (λ _. []) (λ _. Unit {0})
empty_body = body_of_codec nothing_codec

pub startup_cases : Cases startup_number startup_body IsShapedStartup is_startup_text startup_limit startup_at
startup_cases =
    case PROTOCOL_VERSION STARTUP_LIMIT session_body (list_all is_parameter_text) (λ ps. Session ps) (λ _ fits. (refl, refl, fits)) (λ _. refl) (
    case SSL_REQUEST 8 empty_body always (λ _. Ssl) (λ _ _. (refl, refl, tt)) (λ _. refl) (
    case GSS_REQUEST 8 empty_body always (λ _. Gss) (λ _ _. (refl, refl, tt)) (λ _. refl) (
    case CANCEL_REQUEST 16 (body_of_codec key_codec) always (λ m. Cancel m.0 m.1) (λ _ fits. (refl, refl, fits)) (λ _. refl) (
    no_case startup_number startup_body IsShapedStartup is_startup_text BadVersion))))

startup_again : (f : Startup) → IsShapedStartup f → startup_at (startup_number f) (startup_body f) ≡ checked_text is_startup_text f
startup_again (Session ps) shaped = ap (λ (r : Result (List Parameter) FrameFault). r >>= λ x. done FrameFault (Session x)) (whole_again session_body (list_all is_parameter_text) ps shaped) ∙ made Session (list_all is_parameter_text ps) ps
startup_again Ssl shaped = refl
startup_again Gss shaped = refl
startup_again (Cancel p k) shaped =
    let m : ℕ × ℕ = (p, k) in
    ap (λ (r : Result (ℕ × ℕ) FrameFault). r >>= λ x. done FrameFault (Cancel x.0 x.1)) (whole_again (body_of_codec key_codec) always m shaped)

pub read_again : (f : Startup) → Fits IsShapedStartup is_startup_text f → startup_at (startup_number f) (startup_body f) ≡ Ok f
read_again f fits = startup_again f fits.0 ∙ rw fits.1 refl

pub none_has : (number : ℕ) (body : List ℕ) → startup_at number body ≡ Err BadBody → (f : Startup) → HasBody startup_number startup_body IsShapedStartup number body f → ⊥
none_has number body bad f has =
    let P : ℕ → Type 0 = λ k. startup_at k body ≡ checked_text is_startup_text f in
    let Q : List ℕ → Type 0 = λ b. startup_at (startup_number f) b ≡ checked_text is_startup_text f in
    let read : startup_at number body ≡ checked_text is_startup_text f = subst P has.0 (subst Q has.1 (startup_again f has.2)) in
    never_bad (is_startup_text f) (sym read ∙ bad)
  where
    never_bad : (b : Bool) → cond b (done FrameFault f) (Err NotUtf8) ≡ Err BadBody → ⊥
    never_bad true is = absurd cc
    never_bad false is = absurd cc
