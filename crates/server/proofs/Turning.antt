-- One turn, from what was read at the front of the pending bytes.
use Rattle.std.proofs.Common.{◌≡◌, ℕ, ◌<◌, ◌≤◌, ◌+◌, List, [], ◌∷◌, ◌++◌, length, take, drop, Result, Ok, Err, refl, sym, ap, subst, ◌∙◌, inl, inr, arith}
use Rattle.std.specs.Prelude.{◌≢◌, ◌⊎◌, IfOk, OnOk, OnErr}
use Rattle.std.specs.declared.alloc.AllocError.{AllocError}
use Rattle.std.proofs.lemmas.List.{length-append, length-take-le, take_all, append-nil, take-append-drop}
use Rattle.frames.specs.declared.fault.FrameFault.{FrameFault}
use Rattle.frames.specs.declared.fault.FrameFault.TheVariants.{BadLength, BadVersion, UnknownType, BadBody, NotUtf8, TooLong, Memory}
use Rattle.frames.specs.declared.frontend.startup.Startup.{Startup}
use Rattle.frames.specs.declared.front.Front.{Front}
use Rattle.frames.specs.declared.front.Front.TheVariants as fronts
use Rattle.frames.specs.declared.copy_data.CopyData.{CopyData}
use Rattle.frames.specs.declared.frontend.copy_fail.CopyFail.{CopyFail}
use Rattle.frames.specs.declared.frontend.query.Query.{Query}
use Rattle.pqformat.specs.Fields.{int32}
use Rattle.pqformat.specs.Putting.{Extends}
use Rattle.frames.specs.Frame.{Gives}
use Rattle.frames.specs.Front.{SpellsFront, IsShortFront, framed_front}
use Rattle.frames.specs.Startup.{SpellsStartup, framed_startup, startup_number, startup_body}
use Rattle.pqformat.proofs.Numbers.{length-int32}
use Rattle.server.specs.declared.connection_terms.Dialect.{Dialect}
use Rattle.server.specs.declared.connection_terms.ConnectionTerms.{ConnectionTerms}
use Rattle.server.specs.declared.connection.Connection.{Connection}
use Rattle.server.specs.declared.refusal.Refusal.TheVariants.{Violation}
use Rattle.server.specs.declared.stages.stage.Stage.{Stage}
use Rattle.server.specs.declared.stages.stage.Stage.TheVariants.{Fresh, Closed}
use Rattle.server.specs.declared.stages.stage.Turned.{Turned}
use Rattle.server.specs.Calls.{Call}
use Rattle.server.specs.Conversation.{Gave, Tried}
use Rattle.server.specs.Said.{error_of_refusal}
use Rattle.server.specs.Turns.{Turn, IsTurn, IsFrameTurn, Hears, Opens, Streams, refusal_of}
use Rattle.server.specs.Segment.{Went, HasCause, Asks, Said, IsTurned, TakesTurn}
use Rattle.server.proofs.Steps.{nothing_tried, tried_as}
use Rattle.server.proofs.Segments.{went-none, went-one}

-- ---- what is read takes bytes

pub read_fault : {X : Type 0} (fault : FrameFault) (read : Result X FrameFault) → fault ≢ Memory → Gives (Err fault) read → read ≡ Err fault
read_fault BadLength read other is = is
read_fault BadVersion read other is = is
read_fault UnknownType read other is = is
read_fault BadBody read other is = is
read_fault NotUtf8 read other is = is
read_fault TooLong read other is = is
read_fault Memory read other is = absurd (other refl)

pub front_has : (text : List ℕ) (f : Front) → SpellsFront text f → 0 < length text
front_has text f spells = rw spells.text (omega arith)

startup_has : (text : List ℕ) (f : Startup) → SpellsStartup text f → 0 < length text
startup_has text f spells =
    let coded : List ℕ = int32 (startup_number f) ++ startup_body f in
    rw spells.text (omega (arith, length-append (int32 (8 + length (startup_body f))) coded, length-int32 (8 + length (startup_body f))))

pub faulty_front : (bytes : List ℕ) (fault : FrameFault) → framed_front bytes ≡ Err fault → 0 < length bytes
faulty_front [] fault is = absurd cc
faulty_front (b ∷ bytes) fault is = omega arith

faulty_startup : (bytes : List ℕ) (fault : FrameFault) → framed_startup bytes ≡ Err fault → 0 < length bytes
faulty_startup [] fault is = absurd cc
faulty_startup (b ∷ bytes) fault is = omega arith

pub front_of_some : (n : ℕ) (bytes : List ℕ) → n ≤ length bytes → 0 < length (take n bytes) → 0 < n
front_of_some n bytes le some = rw (length-take-le n bytes le) at some

-- ---- turns

pub front_turned : {D : Type 0} (told : D → Call → D → Type 0) (service : ConnectionTerms) (stage : Stage) (Answers : Front → List Call → List ℕ → Stage → Type 0) (pending : List ℕ) (count : ℕ) (front : Front) (next : Stage) (Same : Type 0) (backend : D) (out : List ℕ) (backend' : D) (out' : List ℕ)
    → ((t : Turn) (n : Stage) → t.text ≡ take count pending → IsFrameTurn Answers t n → IsTurn service stage t n)
    → count ≤ length pending → SpellsFront (take count pending) front → IsShortFront front
    → Gave told (λ asked said. Answers front asked said next) backend out backend' out'
    → IsTurned service stage pending (record { stage = next; count = count }) Same (λ fact. Gave told fact backend out backend' out')
front_turned told service stage Answers pending count front next Same backend out backend' out' turn le spells short gave = inr (
  front_of_some count pending le (front_has (take count pending) front spells),
  le,
  record {
    asked = gave.asked;
    text = gave.text;
    fact = turn (record { text = take count pending; asked = gave.asked; said = gave.text }) next refl (inl (front, spells, short, gave.fact));
    asks = gave.asks;
    says = gave.says;
  },
)

pub front_refused : {D : Type 0} (told : D → Call → D → Type 0) (service : ConnectionTerms) (stage : Stage) (Answers : Front → List Call → List ℕ → Stage → Type 0) (pending : List ℕ) (fault : FrameFault) (Same : Type 0) (backend : D) (out out' : List ℕ)
    → ((t : Turn) (n : Stage) → t.text ≡ take (length pending) pending → IsFrameTurn Answers t n → IsTurn service stage t n)
    → fault ≢ Memory → Gives (Err fault) (framed_front pending) → out' ≡ out ++ error_of_refusal (refusal_of fault)
    → IsTurned service stage pending (record { stage = Closed; count = length pending }) Same (λ fact. Gave told fact backend out backend out')
front_refused told service stage Answers pending fault Same backend out out' turn other gives says =
    let is : framed_front pending ≡ Err fault = read_fault fault (framed_front pending) other gives in
    let whole : take (length pending) pending ≡ pending = take_all (length pending) pending (omega arith) in
    inr (
      faulty_front pending fault is,
      omega arith,
      record {
        asked = [];
        text = error_of_refusal (refusal_of fault);
        fact = turn (record { text = take (length pending) pending; asked = []; said = error_of_refusal (refusal_of fault) }) Closed refl (inr (fault, rw whole is, (refl, refl, refl)));
        asks = refl;
        says = says;
      },
    )

pub startup_turned : (service : ConnectionTerms) (pending : List ℕ) (count : ℕ) (startup : Startup) (next : Stage) (Same : Type 0) (out out' : List ℕ)
    → count ≤ length pending → SpellsStartup (take count pending) startup → Said (λ asked said. Opens service startup asked said next) out out'
    → IsTurned service Fresh pending (record { stage = next; count = count }) Same (λ fact. Said fact out out')
startup_turned service pending count startup next Same out out' le spells said = inr (
  front_of_some count pending le (startup_has (take count pending) startup spells),
  le,
  record { text = said.text; fact = inl (startup, spells, said.fact); says = said.says },
)

pub startup_refused : (service : ConnectionTerms) (pending : List ℕ) (fault : FrameFault) (Same : Type 0) (out out' : List ℕ)
    → fault ≢ Memory → Gives (Err fault) (framed_startup pending) → out' ≡ out ++ error_of_refusal (refusal_of fault)
    → IsTurned service Fresh pending (record { stage = Closed; count = length pending }) Same (λ fact. Said fact out out')
startup_refused service pending fault Same out out' other gives says =
    let is : framed_startup pending ≡ Err fault = read_fault fault (framed_startup pending) other gives in
    let whole : take (length pending) pending ≡ pending = take_all (length pending) pending (omega arith) in
    inr (
      faulty_startup pending fault is,
      omega arith,
      record { text = error_of_refusal (refusal_of fault); fact = inr (fault, rw whole is, (refl, refl, refl)); says = says },
    )

pub quiet_turned : {D : Type 0} (told : D → Call → D → Type 0) (service : ConnectionTerms) (stage : Stage) (pending : List ℕ) (backend : D) (out out' : List ℕ) (r : Result Turned AllocError)
    → IfOk r (λ t. IsTurned service stage pending t (out' ≡ out) (λ fact. Said fact out out')) → OnErr r (Extends out out') → TakesTurn told service stage pending r backend out backend out'
quiet_turned told service stage pending backend out out' (Ok t) (inl (none, same, waits, kept)) keeps = inl (none, same, waits, (refl, kept))
quiet_turned told service stage pending backend out out' (Ok t) (inr (some, le, said)) keeps = inr (some, le, record { asked = []; text = said.text; fact = said.fact; asks = refl; says = said.says })
quiet_turned told service stage pending backend out out' (Err e) is keeps = (nothing_tried told (Asks service stage pending) backend, keeps)

-- what the answer of a frame tried, its turn tried
pub front_tried : {D : Type 0} (told : D → Call → D → Type 0) (service : ConnectionTerms) (stage : Stage) (Answers : Front → List Call → List ℕ → Stage → Type 0) (pending : List ℕ) (count : ℕ) (front : Front) (backend backend' : D)
    → ((t : Turn) (n : Stage) → t.text ≡ take count pending → IsFrameTurn Answers t n → IsTurn service stage t n)
    → SpellsFront (take count pending) front → IsShortFront front
    → Tried told (λ asked. (next : Stage) × (text : List ℕ) × Answers front asked text next) backend backend' → Tried told (Asks service stage pending) backend backend'
front_tried told service stage Answers pending count front backend backend' turn spells short tried =
    tried_as told (λ asked. (next : Stage) × (text : List ℕ) × Answers front asked text next) (Asks service stage pending) backend backend'
    (λ asked part. (
      record { text = take count pending; asked = asked; said = part.1 },
      part.0,
      drop count pending,
      turn (record { text = take count pending; asked = asked; said = part.1 }) part.0 refl (inl (front, spells, short, part.2)),
      refl,
      sym (take-append-drop count pending),
    )) tried

pub closed_turned : {D : Type 0} (told : D → Call → D → Type 0) (service : ConnectionTerms) (pending : List ℕ) (backend : D) (out : List ℕ)
    → IsTurned service Closed pending (record { stage = Closed; count = length pending }) ((backend ≡ backend) × (out ≡ out)) (λ fact. Gave told fact backend out backend out)
closed_turned told service [] backend out = inl (refl, refl, refl, (refl, refl))
closed_turned told service (b ∷ bytes) backend out = inr (omega arith, omega arith, record { asked = []; text = []; fact = (refl, refl, refl); asks = refl; says = sym (append-nil out) })

-- ---- what can't be read

pub refused_takes : {D : Type 0} (told : D → Call → D → Type 0) (service : ConnectionTerms) (stage : Stage) (Answers : Front → List Call → List ℕ → Stage → Type 0) (pending : List ℕ) (fault : FrameFault) (backend : D) (out out' : List ℕ) (r : Result Turned AllocError)
    → ((t : Turn) (n : Stage) → t.text ≡ take (length pending) pending → IsFrameTurn Answers t n → IsTurn service stage t n)
    → Gives (Err fault) (framed_front pending)
    → OnOk r (fault ≢ Memory) → IfOk r (λ t. t ≡ record { stage = Closed; count = length pending }) → OnOk r (out' ≡ out ++ error_of_refusal (refusal_of fault)) → OnErr r (Extends out out')
    → TakesTurn told service stage pending r backend out backend out'
refused_takes told service stage Answers pending fault backend out out' (Ok t) turn gives other is says keeps =
    subst (λ (x : Turned). IsTurned service stage pending x ((backend ≡ backend) × (out' ≡ out)) (λ fact. Gave told fact backend out backend out')) (sym is)
    (front_refused told service stage Answers pending fault ((backend ≡ backend) × (out' ≡ out)) backend out out' turn other gives says)
refused_takes told service stage Answers pending fault backend out out' (Err e) turn gives other is says keeps = (nothing_tried told (Asks service stage pending) backend, keeps)

pub startup_refused_turned : (service : ConnectionTerms) (pending : List ℕ) (fault : FrameFault) (out out' : List ℕ) (r : Result Turned AllocError)
    → Gives (Err fault) (framed_startup pending)
    → OnOk r (fault ≢ Memory) → IfOk r (λ t. t ≡ record { stage = Closed; count = length pending }) → OnOk r (out' ≡ out ++ error_of_refusal (refusal_of fault))
    → IfOk r (λ t. IsTurned service Fresh pending t (out' ≡ out) (λ fact. Said fact out out'))
startup_refused_turned service pending fault out out' (Ok t) gives other is says =
    subst (λ (x : Turned). IsTurned service Fresh pending x (out' ≡ out) (λ fact. Said fact out out')) (sym is)
    (startup_refused service pending fault (out' ≡ out) out out' other gives says)
startup_refused_turned service pending fault out out' (Err e) gives other is says = tt

-- ---- the connection after a turn

pub turned_went : {D : Type 0} (told : D → Call → D → Type 0) (old : Connection) (backend : D) (out : List ℕ) (t : Turned) (new : Connection) (backend' : D) (out' : List ℕ)
    → new.service ≡ old.service → new.stage ≡ t.stage → new.pending.items ≡ drop t.count old.pending.items
    → IsTurned old.service old.stage old.pending.items t ((backend' ≡ backend) × (out' ≡ out)) (λ fact. Gave told fact backend out backend' out')
    → Went told HasCause [] old backend out new backend' out'
turned_went told old backend out t new backend' out' service stage pending (inl (none, same, waits, (backends, outs))) =
    went-none told HasCause [] old backend out new backend' out' service (stage ∙ same) (pending ∙ ap (λ (n : ℕ). drop n old.pending.items) none ∙ sym (append-nil old.pending.items)) backends outs
turned_went told old backend out t new backend' out' service stage pending (inr (some, le, gave)) =
    went-one told HasCause [] old backend out new backend' out' (record { text = take t.count old.pending.items; asked = gave.asked; said = gave.text }) (rw (length-take-le t.count old.pending.items le) (omega (arith, some))) service (rw stage gave.fact)
    (append-nil old.pending.items ∙ sym (take-append-drop t.count old.pending.items) ∙ ap (λ (l : List ℕ). take t.count old.pending.items ++ l) (sym pending))
    gave.asks gave.says

-- ---- frames out of their place

pub out_of_place : (dialect : Dialect) (database : List ℕ) (f : Front) → ((bytes : CopyData) × (f ≡ fronts.CopyData bytes)) ⊎ ((f ≡ fronts.CopyDone) ⊎ ((fail : CopyFail) × (f ≡ fronts.CopyFail fail))) → Hears dialect database f [] (error_of_refusal Violation) Closed
out_of_place dialect database f (inl (bytes, is)) = subst (λ (g : Front). Hears dialect database g [] (error_of_refusal Violation) Closed) (sym is) (refl, refl, refl)
out_of_place dialect database f (inr (inl is)) = subst (λ (g : Front). Hears dialect database g [] (error_of_refusal Violation) Closed) (sym is) (refl, refl, refl)
out_of_place dialect database f (inr (inr (fail, is))) = subst (λ (g : Front). Hears dialect database g [] (error_of_refusal Violation) Closed) (sym is) (refl, refl, refl)

-- the same in a stream
pub out_of_stream : (database : List ℕ) (f : Front) → ((query : Query) × (f ≡ fronts.Query query)) ⊎ ((fail : CopyFail) × (f ≡ fronts.CopyFail fail)) → Streams database f [] (error_of_refusal Violation) Closed
out_of_stream database f (inl (query, is)) = subst (λ (g : Front). Streams database g [] (error_of_refusal Violation) Closed) (sym is) (refl, refl, refl)
out_of_stream database f (inr (fail, is)) = subst (λ (g : Front). Streams database g [] (error_of_refusal Violation) Closed) (sym is) (refl, refl, refl)
