-- Segments of a conversation: one that goes no further, one turn, and one after the other.
use Rattle.std.proofs.Common.{◌≡◌, ℕ, ◌+◌, ◌<◌, List, [], ◌∷◌, ◌++◌, length, take, get_or, Result, Ok, Err, refl, sym, ap, subst, ◌∙◌, inl, inr, append_assoc, arith}
use Rattle.std.specs.Prelude.{◌≢◌, ◌⊎◌}
use Rattle.std.specs.List.{flat_map, AllByRecursion}
use Rattle.std.proofs.lemmas.Grind.{flat_map-append}
use Rattle.std.proofs.lemmas.List.{append-nil, take_more}
use Rattle.server.specs.declared.connection_terms.ConnectionTerms.{ConnectionTerms}
use Rattle.server.specs.declared.connection.Connection.{Connection}
use Rattle.server.specs.declared.connection.Phase.TheVariants as phases
use Rattle.server.specs.declared.conversation.ConnectionEvent.{ConnectionEvent}
use Rattle.server.specs.declared.conversation.ConnectionEvent.TheVariants.{Came, AllSent}
use Rattle.server.specs.declared.fault.ConnFault.{ConnFault}
use Rattle.server.specs.declared.fault.ConnFault.TheVariants as faults
use Rattle.server.specs.declared.stages.stage.Stage.{Stage}
use Rattle.server.specs.declared.stages.stage.Stage.TheVariants.{Fresh, Idle, InBlock, Copying, Skipping, Streaming, Stopping, Closed}
use Rattle.server.specs.Calls.{Call, AreAsked}
use Rattle.server.specs.Conversation.{Gave}
use Rattle.server.specs.Turns.{Turn, IsTurn, AreTurns, Waits, HaveEnded, IsConversation, end_turn}
use Rattle.server.specs.Segment.{Went, HasCause, IsAny, Ended, Happened, IfStopping, UnlessMemory, bytes_heard, phase_of}

kind-append : (Kind : Turn → Type 0) (ts us : List Turn) → AllByRecursion Kind ts → AllByRecursion Kind us → AllByRecursion Kind (ts ++ us)
kind-append Kind [] us first then = then
kind-append Kind (t ∷ ts) us first then = (first.0, kind-append Kind ts us first.1 then)

turns-append : (service : ConnectionTerms) (a : Stage) (ts : List Turn) (b : Stage) (us : List Turn) (c : Stage) → AreTurns service a ts b → AreTurns service b us c → AreTurns service a (ts ++ us) c
turns-append service a [] b us c first then = subst (λ (s : Stage). AreTurns service s us c) first then
turns-append service a (t ∷ ts) b us c first then = (first.0, first.1, turns-append service first.0 ts b us c first.2 then)

asked-append : {D : Type 0} (told : D → Call → D → Type 0) (a : D) (xs : List Call) (b : D) (ys : List Call) (c : D) → AreAsked told a xs b → AreAsked told b ys c → AreAsked told a (xs ++ ys) c
asked-append {D} told a [] b ys c first then = subst (λ (d : D). AreAsked told d ys c) first then
asked-append told a (x ∷ xs) b ys c first then = (first.0, first.1, asked-append told first.0 xs b ys c first.2 then)

pub went-append : {D : Type 0} (told : D → Call → D → Type 0) (Kind : Turn → Type 0) (x y : List ℕ) (a : Connection) (d : D) (out : List ℕ) (b : Connection) (e : D) (mid : List ℕ) (c : Connection) (f : D) (end : List ℕ)
    → Went told Kind x a d out b e mid → Went told Kind y b e mid c f end → Went told Kind (x ++ y) a d out c f end
went-append told Kind x y a d out b e mid c f end first then = record {
  turns = first.turns ++ then.turns;
  kind = kind-append Kind first.turns then.turns first.kind then.kind;
  same = then.same ∙ first.same;
  follow = turns-append a.service a.stage first.turns b.stage then.turns c.stage first.follow (subst (λ (s : ConnectionTerms). AreTurns s b.stage then.turns c.stage) first.same then.follow);
  spell =
      sym (append_assoc a.pending.items x y)
      ∙ ap (λ (l : List ℕ). l ++ y) first.spell
      ∙ append_assoc (flat_map (λ t. t.text) first.turns) b.pending.items y
      ∙ ap (λ (l : List ℕ). flat_map (λ t. t.text) first.turns ++ l) then.spell
      ∙ sym (append_assoc (flat_map (λ t. t.text) first.turns) (flat_map (λ t. t.text) then.turns) c.pending.items)
      ∙ ap (λ (l : List ℕ). l ++ c.pending.items) (sym (flat_map-append (λ (t : Turn). t.text) first.turns then.turns));
  ask =
      subst
      (λ (l : List Call). AreAsked told d l f)
      (sym (flat_map-append (λ (t : Turn). t.asked) first.turns then.turns))
      (asked-append told d (flat_map (λ t. t.asked) first.turns) e (flat_map (λ t. t.asked) then.turns) f first.ask then.ask);
  say =
      then.say
      ∙ ap (λ (l : List ℕ). l ++ flat_map (λ t. t.said) then.turns) first.say
      ∙ append_assoc out (flat_map (λ t. t.said) first.turns) (flat_map (λ t. t.said) then.turns)
      ∙ ap (λ (l : List ℕ). out ++ l) (sym (flat_map-append (λ (t : Turn). t.said) first.turns then.turns));
}

-- no turn: what came is left after what was left
pub went-none : {D : Type 0} (told : D → Call → D → Type 0) (Kind : Turn → Type 0) (x : List ℕ) (a : Connection) (d : D) (out : List ℕ) (b : Connection) (e : D) (end : List ℕ)
    → b.service ≡ a.service → b.stage ≡ a.stage → b.pending.items ≡ a.pending.items ++ x → e ≡ d → end ≡ out → Went told Kind x a d out b e end
went-none told Kind x a d out b e end service stage pending backend says = record {
  turns = [];
  kind = tt;
  same = service;
  follow = stage;
  spell = sym pending;
  ask = backend;
  say = says ∙ sym (append-nil out);
}

-- one turn, of the front of what was pending with what came
pub went-one : {D : Type 0} (told : D → Call → D → Type 0) (Kind : Turn → Type 0) (x : List ℕ) (a : Connection) (d : D) (out : List ℕ) (b : Connection) (e : D) (end : List ℕ) (t : Turn)
    → Kind t → b.service ≡ a.service → IsTurn a.service a.stage t b.stage → a.pending.items ++ x ≡ t.text ++ b.pending.items → AreAsked told d t.asked e → end ≡ out ++ t.said → Went told Kind x a d out b e end
went-one {D} told Kind x a d out b e end t kind service turn text ask says = record {
  turns = t ∷ [];
  kind = (kind, tt);
  same = service;
  follow = (b.stage, turn, refl);
  spell = text ∙ ap (λ (l : List ℕ). l ++ b.pending.items) (sym (append-nil t.text));
  ask = subst (λ (l : List Call). AreAsked told d l e) (sym (append-nil t.asked)) ask;
  say = says ∙ ap (λ (l : List ℕ). out ++ l) (sym (append-nil t.said));
}

-- one more segment, in which nothing comes
pub went-on : {D : Type 0} (told : D → Call → D → Type 0) (Kind : Turn → Type 0) (x : List ℕ) (a : Connection) (d : D) (out : List ℕ) (b : Connection) (e : D) (mid : List ℕ) (c : Connection) (f : D) (end : List ℕ)
    → Went told Kind x a d out b e mid → Went told Kind [] b e mid c f end → Went told Kind x a d out c f end
went-on {D} told Kind x a d out b e mid c f end first then = subst (λ (l : List ℕ). Went told Kind l a d out c f end) (append-nil x) (went-append told Kind x [] a d out b e mid c f end first then)

passes : (service : ConnectionTerms) (stage : Stage) (text : List ℕ) → stage ≡ Closed → IsTurn service stage (record { text = text; asked = []; said = [] }) stage
passes service stage text is = rw is (refl, refl, refl)

-- what comes to a closed connection
passed-over : {D : Type 0} (told : D → Call → D → Type 0) (x : List ℕ) (a : Connection) (d : D) (out : List ℕ) (b : Connection) (all : List ℕ) → all ≡ a.pending.items ++ x
    → b.service ≡ a.service → b.stage ≡ a.stage → b.pending.items ≡ [] → a.stage ≡ Closed → Went told HasCause x a d out b d out
passed-over told x a d out b [] all service stage pending is = went-none told HasCause x a d out b d out service stage (pending ∙ all) refl refl
passed-over told x a d out b (n ∷ ns) all service stage pending is =
    let text : List ℕ = n ∷ ns in
    went-one told HasCause x a d out b d out (record { text = text; asked = []; said = [] }) (omega arith) service (rw stage (passes a.service a.stage text is)) (sym all ∙ sym (append-nil text) ∙ ap (λ (l : List ℕ). text ++ l) (sym pending)) refl (sym (append-nil out))

pub went-closed : {D : Type 0} (told : D → Call → D → Type 0) (x : List ℕ) (a : Connection) (d : D) (out : List ℕ) (b : Connection)
    → b.service ≡ a.service → b.stage ≡ a.stage → b.pending.items ≡ [] → a.stage ≡ Closed → Went told HasCause x a d out b d out
went-closed told x a d out b service stage pending is = passed-over told x a d out b (a.pending.items ++ x) refl service stage pending is

-- a stream's end
went-ended : {D : Type 0} (told : D → Call → D → Type 0) (a : Connection) (d : D) (out : List ℕ) (b : Connection) (end : List ℕ) → Ended a out b end → Went told IsAny [] a d out b d end
went-ended told a d out b end e = went-one told IsAny [] a d out b d end (end_turn a.service.dialect) tt e.same e.turn (append-nil a.pending.items ∙ sym e.keep) refl e.say

are-any : (turns : List Turn) → AllByRecursion IsAny turns
are-any [] = tt
are-any (t ∷ turns) = (tt, are-any turns)

went-any : {D : Type 0} (told : D → Call → D → Type 0) (x : List ℕ) (a : Connection) (d : D) (out : List ℕ) (b : Connection) (e : D) (end : List ℕ) → Went told HasCause x a d out b e end → Went told IsAny x a d out b e end
went-any told x a d out b e end went = record { turns = went.turns; kind = are-any went.turns; same = went.same; follow = went.follow; spell = went.spell; ask = went.ask; say = went.say }

-- ---- from a new connection on

pub record Began {D : Type 0} (told : D → Call → D → Type 0) (service : ConnectionTerms) (input : List ℕ) (backend : D) (out : List ℕ) (new : Connection) (backend' : D) (out' : List ℕ) : Type 0 where
  pub old : Connection
  pub numbered : old.service ≡ service
  pub fresh : old.stage ≡ Fresh
  pub empty : old.pending.items ≡ []
  pub went : Went told IsAny input old backend out new backend' out'
  pub waits : HaveEnded service went.turns ⊎ Waits new.stage new.pending.items

pub began : {D : Type 0} (told : D → Call → D → Type 0) (service : ConnectionTerms) (c : Connection) (backend : D) (out : List ℕ) → c.service ≡ service → c.stage ≡ Fresh → c.pending.items ≡ [] → Began told service [] backend out c backend out
began told service c backend out numbered fresh empty = record {
  old = c;
  numbered = numbered;
  fresh = fresh;
  empty = empty;
  went = went-none told IsAny [] c backend out c backend out refl refl (sym (append-nil c.pending.items)) refl refl;
  waits = inr (rw (fresh, empty) refl);
}

began-took : {D : Type 0} (told : D → Call → D → Type 0) (service : ConnectionTerms) (x y : List ℕ) (d : D) (out : List ℕ) (b : Connection) (e : D) (mid : List ℕ) (c : Connection) (f : D) (end : List ℕ)
    → Began told service x d out b e mid → Went told HasCause y b e mid c f end → Waits c.stage c.pending.items → Began told service (x ++ y) d out c f end
began-took told service x y d out b e mid c f end first then waits = record {
  old = first.old;
  numbered = first.numbered;
  fresh = first.fresh;
  empty = first.empty;
  went = went-append told IsAny x y first.old d out b e mid c f end first.went (went-any told y b e mid c f end then);
  waits = inr waits;
}

began-ended : {D : Type 0} (told : D → Call → D → Type 0) (service : ConnectionTerms) (x : List ℕ) (d : D) (out : List ℕ) (b : Connection) (e : D) (mid : List ℕ) (c : Connection) (end : List ℕ)
    → Began told service x d out b e mid → Ended b mid c end → Began told service (x ++ []) d out c e end
unfolding went-append went-ended went-one
began-ended told service x d out b e mid c end first then = record {
  old = first.old;
  numbered = first.numbered;
  fresh = first.fresh;
  empty = first.empty;
  went = went-append told IsAny x [] first.old d out b e mid c e end first.went (went-ended told b e mid c end then);
  waits = inl (first.went.turns, ap (λ (s : ConnectionTerms). first.went.turns ++ end_turn s.dialect ∷ []) (first.went.same ∙ first.numbered));
}

either : (stage : Stage) (A B : Type 0) → IfStopping stage A B → A ⊎ B
either (Stopping database) A B is = inl is
either Fresh A B is = inr is
either (Idle database) A B is = inr is
either (InBlock block) A B is = inr is
either (Copying copying) A B is = inr is
either (Skipping database) A B is = inr is
either (Streaming database) A B is = inr is
either Closed A B is = inr is

all-sent : {D : Type 0} (told : D → Call → D → Type 0) (service : ConnectionTerms) (x : List ℕ) (d : D) (out : List ℕ) (b : Connection) (e : D) (mid : List ℕ) (c : Connection) (f : D) (end : List ℕ)
    → Began told service x d out b e mid → f ≡ e → Ended b mid c end ⊎ ((c ≡ b) × (end ≡ mid)) → Began told service (x ++ []) d out c f end
all-sent told service x d out b e mid c f end first backend (inl then) = rw backend (began-ended told service x d out b e mid c end first then)
all-sent told service x d out b e mid c f end first backend (inr (same, says)) = rw (backend, same, says, append-nil x) first

-- one more event
pub began-on : {D : Type 0} (told : D → Call → D → Type 0) (service : ConnectionTerms) (x : List ℕ) (d : D) (out : List ℕ) (b : Connection) (e : D) (mid : List ℕ) (event : ConnectionEvent) (c : Connection) (f : D) (end : List ℕ)
    → Began told service x d out b e mid → Happened told event b e mid c f end → Began told service (x ++ bytes_heard event) d out c f end
began-on told service x d out b e mid (Came bytes) c f end first then = began-took told service x bytes.items d out b e mid c f end first then.0 then.1
began-on told service x d out b e mid AllSent c f end first (backend, then) = all-sent told service x d out b e mid c f end first backend (either b.stage (Ended b mid c end) ((c ≡ b) × (end ≡ mid)) then)

-- ---- whether a stream stops

pub if_stopping : (stage : Stage) (A B : Type 0) → phase_of stage ≡ phases.Stopping → A → IfStopping stage A B
if_stopping (Stopping database) A B is a = a
if_stopping Fresh A B is a = absurd cc
if_stopping (Idle database) A B is a = absurd cc
if_stopping (InBlock block) A B is a = absurd cc
if_stopping (Copying copying) A B is a = absurd cc
if_stopping (Skipping database) A B is a = absurd cc
if_stopping (Streaming database) A B is a = absurd cc
if_stopping Closed A B is a = absurd cc

pub unless_stopping : (stage : Stage) (A B : Type 0) → phase_of stage ≢ phases.Stopping → B → IfStopping stage A B
unless_stopping (Stopping database) A B other b = absurd (other refl)
unless_stopping Fresh A B other b = b
unless_stopping (Idle database) A B other b = b
unless_stopping (InBlock block) A B other b = b
unless_stopping (Copying copying) A B other b = b
unless_stopping (Skipping database) A B other b = b
unless_stopping (Streaming database) A B other b = b
unless_stopping Closed A B other b = b

pub conversed : {D : Type 0} (told : D → Call → D → Type 0) (service : ConnectionTerms) (input : List ℕ) (backend : D) (out : List ℕ) (new : Connection) (backend' : D) (out' : List ℕ)
    → Began told service input backend out new backend' out' → Gave told (λ asked said. IsConversation service input asked said) backend out backend' out'
conversed told service input backend out new backend' out' b = record {
  asked = flat_map (λ t. t.asked) b.went.turns;
  text = flat_map (λ t. t.said) b.went.turns;
  fact = record {
    turns = b.went.turns;
    end = new.stage;
    rest = new.pending.items;
    follow = rw (b.numbered, b.fresh) at b.went.follow;
    spell = rw b.empty at b.went.spell;
    ask = refl;
    say = refl;
    waits = b.waits;
  };
  asks = b.went.ask;
  says = b.went.say;
}

pub unless_memory : {A : Type 0} (r : Result A ConnFault) (Fact : Type 0) → UnlessMemory r Fact → r ≢ Err faults.Memory → Fact
unless_memory (Ok a) Fact is other = is
unless_memory (Err faults.Closed) Fact is other = is
unless_memory (Err faults.Memory) Fact is other = absurd (other refl)

-- the events up to the next one
pub event_more : {X : Type 0} (f : X → List ℕ) (events : List X) (i : ℕ) (x : X) → i < length events → get_or events i x ≡ x → flat_map f (take (i + 1) events) ≡ flat_map f (take i events) ++ f x
event_more {X} f events i x lt is =
    ap (λ (l : List X). flat_map f l) (take_more events i x lt)
    ∙ flat_map-append f (take i events) (get_or events i x ∷ [])
    ∙ ap (λ (l : List ℕ). flat_map f (take i events) ++ l) (append-nil (f (get_or events i x)) ∙ ap f is)
