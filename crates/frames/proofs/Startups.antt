-- The laws of startups: they are read as they are spelled, what is waited for, and where their faults stand.
use Rattle.std.proofs.Common.{◌≡◌, ℕ, ◌+◌, ◌-◌, ◌^◌, ◌<◌, ◌≤◌, Bool, true, false, cond, ltb, List, ◌++◌, length, take, drop, Option, Some, None, Result, Ok, Err, refl, sym, ap, subst, ◌∙◌, append_assoc, arith, inl, inr}
use Rattle.std.specs.Prelude.{◌⊎◌, IfOk, IfErr, IfSome}
use Rattle.std.specs.Option.{ok_or}
use Rattle.std.specs.Int.{w32}
use Rattle.std.proofs.lemmas.Bool.{ltb-true, ltb-false, le-ltb, lt-ltb, cases_lt}
use Rattle.std.proofs.lemmas.List.{take_at, drop_at, take-append-drop, take-append-le, length-append, length-drop}
use Rattle.pqformat.specs.Fields.{int32, bytes_at, number_at}
use Rattle.pqformat.specs.Steps.{◌>>=◌}
use Rattle.frames.specs.Frame.{HasBody, Gives, whole_of, IsKept}
use Rattle.frames.specs.Startup.{startup, startup_number, startup_body, IsShapedStartup, is_startup_text, startup_needs_memory, SpellsStartup, startup_limit, is_length, lengthy, numbered, numbered_at, headed_at, raw_startup, startup_at, framed_startup, IsStartupFault}
use Rattle.frames.specs.declared.frontend.startup.Startup.{Startup}
use Rattle.frames.specs.declared.frontend.startup.Startup.TheVariants.{Session, Ssl, Gss, Cancel}
use Rattle.frames.specs.declared.frontend.startup.TheConstants.{STARTUP_LIMIT}
use Rattle.frames.specs.declared.fault.FrameFault.{FrameFault}
use Rattle.frames.specs.declared.fault.FrameFault.TheVariants.{BadLength, BadVersion, BadBody, NotUtf8, TooLong, Memory}
use Rattle.pqformat.proofs.Codec.{IsBytes, IsBytes-take, bind_ok, found_some, some_is, done, ok_is}
use Rattle.pqformat.proofs.Numbers.{number32, bytes_codec, length-int32}
use Rattle.frames.proofs.Frames.{went_on, mapped, number_there, bytes_there}
use Rattle.frames.proofs.Steps.{FaultsStand, kept_is_whole, fault_stands, still_waits}
use Rattle.frames.proofs.StartupBodies.{none_has, read_again, startup_cases}

-- ---- a startup at the front

pub record IsRawStartup (bytes : List ℕ) (number : ℕ) (body : List ℕ) (n : ℕ) : Type 0 where
  pub most : ℕ
  pub allowed : startup_limit number ≡ Some most
  pub within : 8 + length body ≤ STARTUP_LIMIT
  pub size : n ≡ 8 + length body
  pub rest : List ℕ
  pub text : bytes ≡ startup number body ++ rest
  pub body_fits : IsBytes body

-- what a number at the front is
at_front : (bytes : List ℕ) (m : ℕ × List ℕ) → IsBytes bytes → number_at w32 bytes ≡ Some m → (bytes ≡ int32 m.0 ++ m.1) × IsBytes m.1 × (m.0 < 2 ^ 32)
at_front bytes m fits is =
    let t = (number32 BadBody).takes bytes m.0 m.1 fits (ap (λ (o : Option (ℕ × List ℕ)). ok_or o BadBody) is) in
    (t.0.parts, t.0.rest_fits, t.1)

raw_takes : (bytes : List ℕ) (number : ℕ) (body : List ℕ) (n : ℕ) → IsBytes bytes → raw_startup bytes ≡ Ok (Some ((number, body), n)) → IsRawStartup bytes number body n
raw_takes bytes number body n fits e = by_length (number_at w32 bytes) refl e
  where
    answer : (ℕ × List ℕ) × ℕ
    answer = ((number, body), n)

    by_number : (m : ℕ × List ℕ) → (bytes ≡ int32 m.0 ++ m.1) → IsBytes m.1 → (8 ≤ m.0) → (m.0 ≤ STARTUP_LIMIT) → (o : Option (ℕ × List ℕ)) → number_at w32 m.1 ≡ o → numbered_at m.0 o ≡ Ok (Some answer) → IsRawStartup bytes number body n
    by_number m head head_fits eight most_is None is e = absurd cc
    by_number m head head_fits eight most_is (Some k) is e =
        let found = numbered k.0 m.0 (bytes_at (m.0 - 8) k.1) in
        let l = bind_ok (lengthy k.0 m.0) (λ _. Ok found) (Some answer) e in
        let most = bind_ok (ok_or (startup_limit k.0) BadVersion) (λ most. cond (is_length k.0 most m.0) (Ok tt) (Err BadLength)) l.0 l.1 in
        let x = mapped (λ (b : List ℕ × List ℕ). ((k.0, b.0), m.0)) (bytes_at (m.0 - 8) k.1) answer (ok_is FrameFault found (Some answer) l.2) in
        let second = at_front m.1 k head_fits is in
        let tail = (bytes_codec BadBody (m.0 - 8)).takes k.1 x.0.0 x.0.1 second.1 (ap (λ (o : Option (List ℕ × List ℕ)). ok_or o BadBody) x.1) in
        let len : 8 + length x.0.0 ≡ m.0 = omega (arith, tail.1) in
        let bytes_fit : IsBytes x.0.0 = subst (λ (l : List ℕ). IsBytes l) (ap (λ (l : List ℕ). take (length x.0.0) l) tail.0.parts ∙ take_at x.0.0 x.0.1 (length x.0.0) refl) (IsBytes-take (length x.0.0) k.1 second.1) in
        let made : IsRawStartup bytes k.0 x.0.0 m.0 = record {
          most = most.0;
          allowed = found_some (startup_limit k.0) BadVersion most.0 most.1;
          within = omega arith;
          size = omega arith;
          rest = x.0.1;
          text = head ∙ ap (λ (l : List ℕ). int32 m.0 ++ l) (second.0 ∙ ap (λ (l : List ℕ). int32 k.0 ++ l) tail.0.parts ∙ sym (append_assoc (int32 k.0) x.0.0 x.0.1))
              ∙ sym (append_assoc (int32 m.0) (int32 k.0 ++ x.0.0) x.0.1) ∙ ap (λ (i : ℕ). (int32 i ++ (int32 k.0 ++ x.0.0)) ++ x.0.1) (sym len);
          body_fits = bytes_fit;
        } in
        let P : (ℕ × List ℕ) × ℕ → Type 0 = λ p. IsRawStartup bytes p.0.0 p.0.1 p.1 in
        subst P x.2 made

    by_length : (o : Option (ℕ × List ℕ)) → number_at w32 bytes ≡ o → headed_at o ≡ Ok (Some answer) → IsRawStartup bytes number body n
    by_length None is e = absurd cc
    by_length (Some m) is e =
        let long = went_on (ltb m.0 8) BadLength (cond (ltb STARTUP_LIMIT m.0) (Err TooLong) (numbered_at m.0 (number_at w32 m.1))) (Some answer) e in
        let short = went_on (ltb STARTUP_LIMIT m.0) TooLong (numbered_at m.0 (number_at w32 m.1)) (Some answer) long.1 in
        let head = at_front bytes m fits is in
        by_number m head.0 head.1 (ltb-false _ _ long.0) (ltb-false _ _ short.0) (number_at w32 m.1) refl short.1

-- a number that is known, with a length that it may have
record IsAllowed (number : ℕ) (body : List ℕ) : Type 0 where
  most : ℕ
  limit : startup_limit number ≡ Some most
  right : is_length number most (8 + length body) ≡ true
  narrow : number < 2 ^ 32
  within : 8 + length body ≤ STARTUP_LIMIT

raw_again : (number : ℕ) (body rest : List ℕ) → IsAllowed number body → raw_startup (startup number body ++ rest) ≡ Ok (Some ((number, body), 8 + length body))
raw_again number body rest allowed =
    let n = 8 + length body in
    let regrouped : startup number body ++ rest ≡ int32 n ++ (int32 number ++ (body ++ rest)) =
    append_assoc (int32 n) (int32 number ++ body) rest ∙ ap (λ (l : List ℕ). int32 n ++ l) (append_assoc (int32 number) body rest) in
    let within : n ≤ STARTUP_LIMIT = allowed.within in
    let head : number_at w32 (startup number body ++ rest) ≡ Some (n, int32 number ++ (body ++ rest)) = ap (number_at w32) regrouped ∙ number_there n (int32 number ++ (body ++ rest)) (omega arith) in
    let second = number_there number (body ++ rest) allowed.narrow in
    let short : ltb n 8 ≡ false = le-ltb _ _ (omega arith) in
    let long : ltb STARTUP_LIMIT n ≡ false = le-ltb _ _ within in
    let size : n - 8 ≡ length body = omega arith in
    rw (head, short, long, second, allowed.limit, allowed.right, size, bytes_there body rest) refl

-- a number whose four bytes have come
number_came : (n : ℕ) (text bytes more : List ℕ) → n < 2 ^ 32 → int32 n ++ text ≡ bytes ++ more → 4 ≤ length bytes → (number_at w32 bytes ≡ Some (n, drop 4 bytes)) × (text ≡ drop 4 bytes ++ more)
number_came n text bytes more lt e le =
    let front : take 4 bytes ≡ int32 n = sym (take-append-le 4 bytes more le) ∙ ap (take 4) (sym e) ∙ take_at (int32 n) text 4 (length-int32 n) in
    let whole : bytes ≡ int32 n ++ drop 4 bytes = sym (take-append-drop 4 bytes) ∙ ap (λ (l : List ℕ). l ++ drop 4 bytes) front in
    let all : int32 n ++ text ≡ int32 n ++ (drop 4 bytes ++ more) = e ∙ ap (λ (l : List ℕ). l ++ more) whole ∙ append_assoc (int32 n) (drop 4 bytes) more in
    let back : text ≡ drop 4 bytes ++ more = sym (drop_at (int32 n) text 4 (length-int32 n)) ∙ ap (drop 4) all ∙ drop_at (int32 n) (drop 4 bytes ++ more) 4 (length-int32 n) in
    (ap (number_at w32) whole ∙ number_there n (drop 4 bytes) lt, back)

raw_waits : (number : ℕ) (body bytes more : List ℕ) → IsAllowed number body → startup number body ≡ bytes ++ more → length bytes < 8 + length body → raw_startup bytes ≡ Ok None
raw_waits number body bytes more allowed text less = by_length (cases_lt (length bytes) 4)
  where
    waiting : Result (Option ((ℕ × List ℕ) × ℕ)) FrameFault
    waiting = Ok None

    by_number : (rest : List ℕ) → length rest + 4 ≡ length bytes → int32 number ++ body ≡ rest ++ more → (length rest < 4) ⊎ (4 ≤ length rest) → numbered_at (8 + length body) (number_at w32 rest) ≡ waiting
    by_number rest len tail (inl lt) =
        let short : ltb (length rest) 4 ≡ true = lt-ltb _ _ lt in
        rw short refl
    by_number rest len tail (inr le) =
        let came = number_came number body rest more allowed.narrow tail le in
        let size : 8 + length body - 8 ≡ length body = omega arith in
        let part : ltb (length (drop 4 rest)) (length body) ≡ true = lt-ltb _ _ (omega (arith, length-drop 4 rest)) in
        rw (came.0, allowed.limit, allowed.right, size, part) refl

    by_length : (length bytes < 4) ⊎ (4 ≤ length bytes) → raw_startup bytes ≡ waiting
    by_length (inl lt) =
        let short : ltb (length bytes) 4 ≡ true = lt-ltb _ _ lt in
        rw short refl
    by_length (inr le) =
        let n = 8 + length body in
        let within : n ≤ STARTUP_LIMIT = allowed.within in
        let came = number_came n (int32 number ++ body) bytes more (omega arith) text le in
        let short : ltb n 8 ≡ false = le-ltb _ _ (omega arith) in
        let long : ltb STARTUP_LIMIT n ≡ false = le-ltb _ _ within in
        rw (came.0, short, long) (by_number (drop 4 bytes) (omega (arith, length-drop 4 bytes)) came.1 (cases_lt (length (drop 4 bytes)) 4))

is_allowed : (f : Startup) → 8 + length (startup_body f) ≤ STARTUP_LIMIT → IsAllowed (startup_number f) (startup_body f)
is_allowed (Session ps) within = record { most = STARTUP_LIMIT; limit = refl; right = refl; narrow = omega arith; within = within }
is_allowed Ssl within = record { most = 8; limit = refl; right = refl; narrow = omega arith; within = within }
is_allowed Gss within = record { most = 8; limit = refl; right = refl; narrow = omega arith; within = within }
is_allowed (Cancel p k) within =
    let len : length (int32 p ++ int32 k) ≡ 8 = omega (arith, length-append (int32 p) (int32 k), length-int32 p, length-int32 k) in
    record { most = 16; limit = refl; right = rw len refl; narrow = omega arith; within = within }

-- ---- the clauses of the reader

length-startup : (number : ℕ) (body : List ℕ) → length (startup number body) ≡ 8 + length body
length-startup number body = omega (arith, length-append (int32 (8 + length body)) (int32 number ++ body), length-append (int32 number) body, length-int32 (8 + length body), length-int32 number)

abbrev Found : List ℕ → Startup → ℕ → Type 0
Found bytes f n = (n ≤ length bytes) × SpellsStartup (take n bytes) f

framed_takes : (bytes : List ℕ) (f : Startup) (n : ℕ) → IsBytes bytes → framed_startup bytes ≡ Ok (Some (f, n)) → Found bytes f n
framed_takes bytes f n fits e = by_raw (raw_startup bytes) refl e
  where
    by_raw : (r : Result (Option ((ℕ × List ℕ) × ℕ)) FrameFault) → raw_startup bytes ≡ r → (r >>= λ raw. whole_of startup_at raw) ≡ Ok (Some (f, n)) → Found bytes f n
    by_raw (Err d) is e = absurd cc
    by_raw (Ok None) is e = absurd cc
    by_raw (Ok (Some raw)) is e =
        let answer : Startup × ℕ = (f, n) in
        let t = raw_takes bytes raw.0.0 raw.0.1 raw.1 fits is in
        let g = bind_ok (startup_at raw.0.0 raw.0.1) (λ f. Ok (Some (f, raw.1))) (Some answer) e in
        let read : Startup × ℕ = (g.0, raw.1) in
        let c = startup_cases.takes raw.0.0 raw.0.1 g.0 t.body_fits g.1 in
        let b = c.0 in
        let same = some_is read answer (ok_is FrameFault (Some read) (Some answer) g.2) in
        let text : bytes ≡ startup (startup_number g.0) (startup_body g.0) ++ t.rest = rw (b.0, b.1) t.text in
        let size : length (startup (startup_number g.0) (startup_body g.0)) ≡ raw.1 = length-startup (startup_number g.0) (startup_body g.0) ∙ ap (λ (l : List ℕ). 8 + length l) b.1 ∙ sym t.size in
        let within : raw.1 ≤ length bytes = rw text (omega (arith, size, length-append (startup (startup_number g.0) (startup_body g.0)) t.rest)) in
        let front : take raw.1 bytes ≡ startup (startup_number g.0) (startup_body g.0) = ap (take raw.1) text ∙ take_at (startup (startup_number g.0) (startup_body g.0)) t.rest raw.1 size in
        let P : Startup × ℕ → Type 0 = λ p. Found bytes p.0 p.1 in
        subst P same (within, record { in_range = (b.2, c.1); short = rw b.1 t.within; text = front })

pub is_found : (bytes : List ℕ) (r : Result (Option (Startup × ℕ)) FrameFault) → IsBytes bytes → Gives r (framed_startup bytes) → IfOk r (λ o. IfSome o (λ x. Found bytes x.0 x.1))
is_found bytes (Ok (Some x)) fits given = framed_takes bytes x.0 x.1 fits given
is_found bytes (Ok None) fits given = tt
is_found bytes (Err e) fits given = tt

reads_again : (text rest : List ℕ) (f : Startup) → SpellsStartup text f → framed_startup (text ++ rest) ≡ Ok (Some (f, length text))
reads_again text rest f spells =
    let raw = raw_again (startup_number f) (startup_body f) rest (is_allowed f spells.short) in
    let all : text ++ rest ≡ startup (startup_number f) (startup_body f) ++ rest = ap (λ (l : List ℕ). l ++ rest) spells.text in
    let size : 8 + length (startup_body f) ≡ length text = sym (length-startup (startup_number f) (startup_body f)) ∙ ap length (sym spells.text) in
    rw (all, raw, read_again f spells.in_range, size) refl

pub is_only : (bytes : List ℕ) (r : Result (Option (Startup × ℕ)) FrameFault) → Gives r (framed_startup bytes)
    → (text rest : List ℕ) (f : Startup) → SpellsStartup text f → bytes ≡ text ++ rest → Gives r (Ok (Some (f, length text)))
is_only bytes r given text rest f spells parts =
    let P : Result (Option (Startup × ℕ)) FrameFault → Type 0 = λ read. Gives r read in
    subst P (ap framed_startup parts ∙ reads_again text rest f spells) given

pub is_waiting : (bytes : List ℕ) (r : Result (Option (Startup × ℕ)) FrameFault) → Gives r (framed_startup bytes) → (r ≡ Err Memory → IsKept startup_needs_memory (framed_startup bytes))
    → (text more : List ℕ) (f : Startup) → SpellsStartup text f → text ≡ bytes ++ more → length bytes < length text → r ≡ Ok None
is_waiting bytes r given memory text more f spells parts less =
    still_waits (raw_startup bytes) (λ raw. whole_of startup_at raw) r given (λ h. kept_is_whole startup_needs_memory startup_at (raw_startup bytes) (memory h)) refl
    (raw_waits (startup_number f) (startup_body f) bytes more (is_allowed f spells.short) (sym spells.text ∙ parts)
    (omega (arith, length-startup (startup_number f) (startup_body f), ap length spells.text)))

-- of two startups that begin the same bytes one is the other
pub same_startup : (a b x y : List ℕ) (f g : Startup) → SpellsStartup a f → SpellsStartup b g → a ++ x ≡ b ++ y → (a ≡ b) × (f ≡ g) × (x ≡ y)
same_startup a b x y f g is_a is_b e =
    let one : Startup × ℕ = (f, length a) in
    let two : Startup × ℕ = (g, length b) in
    let read = sym (reads_again a x f is_a) ∙ ap framed_startup e ∙ reads_again b y g is_b in
    let same = some_is one two (ok_is FrameFault (Some one) (Some two) read) in
    let len : length a ≡ length b = ap (λ (p : Startup × ℕ). p.1) same in
    let front : a ≡ b = sym (take_at a x (length a) refl) ∙ ap (take (length a)) e ∙ take_at b y (length a) (sym len) in
    let back : x ≡ y = sym (drop_at a x (length a) refl) ∙ ap (drop (length a)) e ∙ drop_at b y (length a) (sym len) in
    (front, ap (λ (p : Startup × ℕ). p.0) same, back)

-- ---- where a fault stands

abbrev fine : Result (Unit {0}) FrameFault
fine = Ok tt

wrong_length : (b : Bool) (e : FrameFault) → cond b fine (Err BadLength) ≡ Err e → (b ≡ false) × (BadLength ≡ e)
wrong_length true e is = absurd cc
wrong_length false e is = (refl, cc)

raw_faults : (bytes : List ℕ) (e : FrameFault) → IsBytes bytes → raw_startup bytes ≡ Err e → IsStartupFault e bytes
raw_faults bytes e fits is = by_length (number_at w32 bytes) refl is
  where
    by_limit : (m k : ℕ × List ℕ) → bytes ≡ int32 m.0 ++ m.1 → m.0 < 2 ^ 32 → m.1 ≡ int32 k.0 ++ k.1 → (o : Option ℕ) → startup_limit k.0 ≡ o
        → (ok_or o BadVersion >>= λ most. cond (is_length k.0 most m.0) fine (Err BadLength)) ≡ Err e → IsStartupFault e bytes
    by_limit m k head narrow second None limit is =
        let P : FrameFault → Type 0 = λ d. IsStartupFault d bytes in
        let same : BadVersion ≡ e = cc in
        subst P same (m.0, m.1, narrow, head, (k.0, k.1, second, limit))
    by_limit m k head narrow second (Some most) limit is =
        let P : FrameFault → Type 0 = λ d. IsStartupFault d bytes in
        let wrong = wrong_length (is_length k.0 most m.0) e is in
        subst P wrong.1 (m.0, m.1, narrow, head, inr (k.0, most, k.1, second, limit, wrong.0))

    refused : (m k : ℕ × List ℕ) (r : Result (Unit {0}) FrameFault) → (r >>= λ _. done FrameFault (numbered k.0 m.0 (bytes_at (m.0 - 8) k.1))) ≡ Err e → r ≡ Err e
    refused m k (Ok u) is = absurd cc
    refused m k (Err d) is = cc

    by_number : (m : ℕ × List ℕ) → bytes ≡ int32 m.0 ++ m.1 → IsBytes m.1 → m.0 < 2 ^ 32 → (o : Option (ℕ × List ℕ)) → number_at w32 m.1 ≡ o → numbered_at m.0 o ≡ Err e → IsStartupFault e bytes
    by_number m head head_fits narrow None came is = absurd cc
    by_number m head head_fits narrow (Some k) came is =
        let second = at_front m.1 k head_fits came in
        by_limit m k head narrow second.0 (startup_limit k.0) refl (refused m k (lengthy k.0 m.0) is)

    by_long : (m : ℕ × List ℕ) → bytes ≡ int32 m.0 ++ m.1 → IsBytes m.1 → m.0 < 2 ^ 32 → (b : Bool) → (b ≡ true → STARTUP_LIMIT < m.0)
        → cond b (Err TooLong) (numbered_at m.0 (number_at w32 m.1)) ≡ Err e → IsStartupFault e bytes
    by_long m head head_fits narrow true over is =
        let P : FrameFault → Type 0 = λ d. IsStartupFault d bytes in
        let same : TooLong ≡ e = cc in
        subst P same (m.0, m.1, narrow, head, over refl)
    by_long m head head_fits narrow false over is = by_number m head head_fits narrow (number_at w32 m.1) refl is

    by_short : (m : ℕ × List ℕ) → bytes ≡ int32 m.0 ++ m.1 → IsBytes m.1 → m.0 < 2 ^ 32 → (b : Bool) → (b ≡ true → m.0 < 8)
        → cond b (Err BadLength) (cond (ltb STARTUP_LIMIT m.0) (Err TooLong) (numbered_at m.0 (number_at w32 m.1))) ≡ Err e → IsStartupFault e bytes
    by_short m head head_fits narrow true under is =
        let P : FrameFault → Type 0 = λ d. IsStartupFault d bytes in
        let same : BadLength ≡ e = cc in
        subst P same (m.0, m.1, narrow, head, inl (under refl))
    by_short m head head_fits narrow false under is = by_long m head head_fits narrow (ltb STARTUP_LIMIT m.0) (λ over. ltb-true _ _ over) is

    by_length : (o : Option (ℕ × List ℕ)) → number_at w32 bytes ≡ o → headed_at o ≡ Err e → IsStartupFault e bytes
    by_length None came is = absurd cc
    by_length (Some m) came is =
        let head = at_front bytes m fits came in
        by_short m head.0 head.1 head.2 (ltb m.0 8) (λ under. ltb-true _ _ under) is

pub is_fault : (bytes : List ℕ) (r : Result (Option (Startup × ℕ)) FrameFault) → IsBytes bytes → Gives r (framed_startup bytes) → (r ≡ Err Memory → IsKept startup_needs_memory (framed_startup bytes))
    → IfErr r (λ e. IsStartupFault e bytes)
is_fault bytes (Ok o) fits given memory = tt
is_fault bytes (Err e) fits given memory = fault_stands all e given memory
  where
    by_body : (raw : (ℕ × List ℕ) × ℕ) (e : FrameFault) → IsRawStartup bytes raw.0.0 raw.0.1 raw.1 → startup_at raw.0.0 raw.0.1 ≡ Err e
        → (e ≡ BadBody) ⊎ ((e ≡ NotUtf8) × (f : Startup) × HasBody startup_number startup_body IsShapedStartup raw.0.0 raw.0.1 f × (is_startup_text f ≡ false)) → IsStartupFault e bytes
    by_body raw e t refused (inl bad) =
        let P : FrameFault → Type 0 = λ d. IsStartupFault d bytes in
        let E : FrameFault → Type 0 = λ d. startup_at raw.0.0 raw.0.1 ≡ Err d in
        subst P (sym bad) (raw.0.0, t.most, raw.0.1, t.rest, t.allowed, t.within, t.text, none_has raw.0.0 raw.0.1 (subst E bad refused))
    by_body raw e t refused (inr x) =
        let P : FrameFault → Type 0 = λ d. IsStartupFault d bytes in
        subst P (sym x.0) (raw.0.0, t.most, raw.0.1, t.rest, t.allowed, t.within, t.text, (x.1, x.2, x.3))

    all : FaultsStand (λ e. IsStartupFault e bytes) startup_at startup_needs_memory (raw_startup bytes)
    all = record {
      unread = λ e is. raw_faults bytes e fits is;
      refused = λ raw e is refused.
          let t = raw_takes bytes raw.0.0 raw.0.1 raw.1 fits is in
          by_body raw e t refused (startup_cases.fails raw.0.0 t.most raw.0.1 e t.body_fits t.allowed refused);
      kept = λ raw f is read needs.
          let t = raw_takes bytes raw.0.0 raw.0.1 raw.1 fits is in
          let b = startup_cases.takes raw.0.0 raw.0.1 f t.body_fits read in
          (raw.0.0, t.most, raw.0.1, t.rest, t.allowed, t.within, t.text, (f, b.0, b.1, needs));
    }
