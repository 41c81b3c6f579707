-- Turns of a session in which the backend is asked nothing.
use Rattle.std.proofs.Common.{◌≡◌, ℕ, zero, suc, ◌<◌, ◌≤◌, true, false, List, [], ◌∷◌, ◌++◌, length, take, Result, Ok, Err, refl, sym, ap, subst, ◌∙◌, inl, inr, arith}
use Rattle.std.specs.Prelude.{◌≢◌, IfOk, OnOk}
use Rattle.std.specs.declared.alloc.AllocError.{AllocError}
use Rattle.std.proofs.lemmas.List.{take_all, append-nil}
use Rattle.frames.specs.declared.fault.FrameFault.{FrameFault}
use Rattle.frames.specs.declared.fault.FrameFault.TheVariants.{Memory}
use Rattle.frames.specs.declared.front.Front.{Front}
use Rattle.frames.specs.Frame.{Gives}
use Rattle.frames.specs.Front.{SpellsFront, IsShortFront, framed_front}
use Rattle.server.specs.declared.asked.extended.Extended.{Extended}
use Rattle.server.specs.declared.connection_terms.ConnectionTerms.{ConnectionTerms}
use Rattle.server.specs.declared.stages.stage.Stage.{Stage}
use Rattle.server.specs.declared.stages.stage.Stage.TheVariants.{Closed}
use Rattle.server.specs.declared.stages.stage.Turned.{Turned}
use Rattle.server.specs.Calls.{Call}
use Rattle.server.specs.Extended.{SpellsExtended, framed_extended, is_extended}
use Rattle.server.specs.Said.{error_of_refusal}
use Rattle.server.specs.Segment.{Said, IsTurned}
use Rattle.server.specs.Turns.{Turn, IsTurn, IsFrameTurn, IsExtendedTurn, refusal_of}
use Rattle.server.proofs.Turning.{front_has, front_of_some, faulty_front, read_fault}

-- ---- the type byte of what is taken

pub same_kind : (n : ℕ) (bytes : List ℕ) → 0 < n → is_extended (take n bytes) ≡ is_extended bytes
same_kind zero bytes some = absurd (omega (arith, some))
same_kind (suc n) [] some = refl
same_kind (suc n) (b ∷ bytes) some = refl

pub all_of : (bytes : List ℕ) → take (length bytes) bytes ≡ bytes
all_of bytes = take_all (length bytes) bytes (omega arith)

pub some_if_extended : (bytes : List ℕ) → is_extended bytes ≡ true → 0 < length bytes
some_if_extended [] is = absurd cc
some_if_extended (b ∷ bytes) is = omega arith

-- ---- a turn that says this

pub said_turned : (service : ConnectionTerms) (stage : Stage) (pending : List ℕ) (count : ℕ) (next : Stage) (Same : Type 0) (out out' : List ℕ) (Fact : List Call → List ℕ → Type 0)
    → 0 < count → count ≤ length pending
    → ((asked : List Call) (said : List ℕ) → Fact asked said → IsTurn service stage (record { text = take count pending; asked = asked; said = said }) next)
    → Said Fact out out' → IsTurned service stage pending (record { stage = next; count = count }) Same (λ fact. Said fact out out')
said_turned service stage pending count next Same out out' Fact some le turn said = inr (some, le, record { text = said.text; fact = turn [] said.text said.fact; says = said.says })

pub said_refused : (service : ConnectionTerms) (stage : Stage) (pending : List ℕ) (fault : FrameFault) (out out' : List ℕ) (r : Result Turned AllocError)
    → (fault ≢ Memory → 0 < length pending) → (fault ≢ Memory → IsTurn service stage (record { text = take (length pending) pending; asked = []; said = error_of_refusal (refusal_of fault) }) Closed)
    → OnOk r (fault ≢ Memory) → IfOk r (λ t. t ≡ record { stage = Closed; count = length pending }) → OnOk r (out' ≡ out ++ error_of_refusal (refusal_of fault))
    → IfOk r (λ t. IsTurned service stage pending t (out' ≡ out) (λ fact. Said fact out out'))
said_refused service stage pending fault out out' (Ok t) some turn other is says =
    subst (λ (x : Turned). IsTurned service stage pending x (out' ≡ out) (λ fact. Said fact out out')) (sym is)
    (inr (some other, omega arith, record { text = error_of_refusal (refusal_of fault); fact = turn other; says = says }))
said_refused service stage pending fault out out' (Err e) some turn other is says = tt

-- ---- by the frame

pub extended_turned : (service : ConnectionTerms) (stage : Stage) (Answers : Extended → List Call → List ℕ → Stage → Type 0) (pending : List ℕ) (count : ℕ) (e : Extended) (next : Stage) (Same : Type 0) (out out' : List ℕ)
    → ((t : Turn) (n : Stage) → is_extended t.text ≡ true → IsExtendedTurn Answers t n → IsTurn service stage t n)
    → is_extended pending ≡ true → 0 < count → count ≤ length pending → SpellsExtended (take count pending) e
    → Said (λ asked said. Answers e asked said next) out out' → IsTurned service stage pending (record { stage = next; count = count }) Same (λ fact. Said fact out out')
extended_turned service stage Answers pending count e next Same out out' turn is some le spells said =
    said_turned service stage pending count next Same out out' (λ asked said. Answers e asked said next) some le
    (λ asked said fact. turn (record { text = take count pending; asked = asked; said = said }) next (same_kind count pending some ∙ is) (inl (e, spells, fact))) said

pub extended_refused : (service : ConnectionTerms) (stage : Stage) (Answers : Extended → List Call → List ℕ → Stage → Type 0) (pending : List ℕ) (fault : FrameFault) (out out' : List ℕ) (r : Result Turned AllocError)
    → ((t : Turn) (n : Stage) → is_extended t.text ≡ true → IsExtendedTurn Answers t n → IsTurn service stage t n)
    → is_extended pending ≡ true → framed_extended pending ≡ Err fault
    → OnOk r (fault ≢ Memory) → IfOk r (λ t. t ≡ record { stage = Closed; count = length pending }) → OnOk r (out' ≡ out ++ error_of_refusal (refusal_of fault))
    → IfOk r (λ t. IsTurned service stage pending t (out' ≡ out) (λ fact. Said fact out out'))
extended_refused service stage Answers pending fault out out' r turn is read other closes says =
    said_refused service stage pending fault out out' r (λ _. some_if_extended pending is)
    (λ _. turn (record { text = take (length pending) pending; asked = []; said = error_of_refusal (refusal_of fault) }) Closed (ap is_extended (all_of pending) ∙ is) (inr (fault, ap framed_extended (all_of pending) ∙ read, (refl, refl, refl)))) other closes says

pub front_passed : (service : ConnectionTerms) (stage : Stage) (Answers : Front → List Call → List ℕ → Stage → Type 0) (pending : List ℕ) (count : ℕ) (front : Front) (next : Stage) (Same : Type 0) (out out' : List ℕ)
    → ((t : Turn) (n : Stage) → is_extended t.text ≡ false → IsFrameTurn Answers t n → IsTurn service stage t n)
    → is_extended pending ≡ false → count ≤ length pending → SpellsFront (take count pending) front → IsShortFront front
    → Answers front [] [] next → out' ≡ out → IsTurned service stage pending (record { stage = next; count = count }) Same (λ fact. Said fact out out')
front_passed service stage Answers pending count front next Same out out' turn is le spells short passes same =
    let some : 0 < count = front_of_some count pending le (front_has (take count pending) front spells) in
    said_turned service stage pending count next Same out out' (λ asked said. (asked ≡ []) × (said ≡ [])) some le
    (λ asked said fact. turn (record { text = take count pending; asked = asked; said = said }) next (same_kind count pending some ∙ is) (inl (front, spells, short, rw (fact.0, fact.1) passes)))
    (record { text = []; fact = (refl, refl); says = same ∙ sym (append-nil out) })

pub front_refused_quietly : (service : ConnectionTerms) (stage : Stage) (Answers : Front → List Call → List ℕ → Stage → Type 0) (pending : List ℕ) (fault : FrameFault) (out out' : List ℕ) (r : Result Turned AllocError)
    → ((t : Turn) (n : Stage) → is_extended t.text ≡ false → IsFrameTurn Answers t n → IsTurn service stage t n)
    → is_extended pending ≡ false → Gives (Err fault) (framed_front pending)
    → OnOk r (fault ≢ Memory) → IfOk r (λ t. t ≡ record { stage = Closed; count = length pending }) → OnOk r (out' ≡ out ++ error_of_refusal (refusal_of fault))
    → IfOk r (λ t. IsTurned service stage pending t (out' ≡ out) (λ fact. Said fact out out'))
front_refused_quietly service stage Answers pending fault out out' r turn is gives other closes says =
    said_refused service stage pending fault out out' r (λ known. faulty_front pending fault (read_fault fault (framed_front pending) known gives))
    (λ known. turn (record { text = take (length pending) pending; asked = []; said = error_of_refusal (refusal_of fault) }) Closed (ap is_extended (all_of pending) ∙ is) (inr (fault, ap framed_front (all_of pending) ∙ read_fault fault (framed_front pending) known gives, (refl, refl, refl)))) other closes says

pub front_kind_taken : (pending : List ℕ) (count : ℕ) (front : Front) → count ≤ length pending → SpellsFront (take count pending) front → is_extended (take count pending) ≡ is_extended pending
front_kind_taken pending count front le spells = same_kind count pending (front_of_some count pending le (front_has (take count pending) front spells))
