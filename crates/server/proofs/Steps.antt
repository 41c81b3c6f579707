-- One step of a conversation, from what was asked and what was said.
use Rattle.std.proofs.Common.{ℕ, Bool, false, List, [], Result, Ok, Err, refl, inl, inr}
use Rattle.std.specs.Prelude.{◌≢◌}
use Rattle.std.specs.declared.alloc.AllocError.{AllocError}
use Rattle.replcmd.specs.declared.command.Command.{Command}
use Rattle.replcmd.specs.declared.fault.CmdFault.{CmdFault}
use Rattle.replcmd.specs.declared.fault.CmdFault.TheVariants.{Syntax, BadName, BadPosition, Unsupported, BadOption, Memory}
use Rattle.replcmd.specs.Reading.{Answers}
use Rattle.pqformat.specs.Putting.{Extends, Puts}
use Rattle.server.specs.Calls.{Call, AreAsked}
use Rattle.server.specs.Conversation.{Tried, Answered}

-- a step that says its text at the end
pub gave : {D : Type 0} (told : D → Call → D → Type 0) (Fact : List Call → List ℕ → Type 0) (asked : List Call) (text : List ℕ) (r : Result (Unit {0}) AllocError) (backend : D) (old : List ℕ) (backend' : D) (new : List ℕ)
    → AreAsked told backend asked backend' → Fact asked text → Puts r old new text → Answered told r (λ _. Fact) backend old backend' new
gave told Fact asked text (Ok u) backend old backend' new asks fact says = record { asked = asked; text = text; fact = fact; asks = asks; says = says }
gave told Fact asked text (Err e) backend old backend' new asks fact says = (record { asked = asked; fact = inr (tt, text, fact); asks = asks }, says)

pub nothing_tried : {D : Type 0} (told : D → Call → D → Type 0) (Asks : List Call → Type 0) (backend : D) → Tried told Asks backend backend
nothing_tried told Asks backend = record { asked = []; fact = inl refl; asks = refl }

-- what a part of a step tried, the step tried
pub tried_as : {D : Type 0} (told : D → Call → D → Type 0) (Part Whole : List Call → Type 0) (backend backend' : D) → ((asked : List Call) → Part asked → Whole asked) → Tried told Part backend backend' → Tried told Whole backend backend'
tried_as told Part Whole backend backend' goes tried = record {
  asked = tried.asked;
  fact = elim tried.fact [ inl none ↦ inl none | inr part ↦ inr (goes tried.asked part) ];
  asks = tried.asks;
}

-- a step whose answer is that of a part of it
pub answered_as : {D A : Type 0} (told : D → Call → D → Type 0) (r : Result A AllocError) (Part Whole : A → List Call → List ℕ → Type 0) (backend : D) (out : List ℕ) (backend' : D) (out' : List ℕ)
    → ((a : A) (asked : List Call) (text : List ℕ) → Part a asked text → Whole a asked text) → Answered told r Part backend out backend' out' → Answered told r Whole backend out backend' out'
answered_as told (Ok a) Part Whole backend out backend' out' goes gave = record { asked = gave.asked; text = gave.text; fact = goes a gave.asked gave.text gave.fact; asks = gave.asks; says = gave.says }
answered_as {D} {A} told (Err e) Part Whole backend out backend' out' goes (tried, keeps) =
    (tried_as told (λ asked. (a : A) × (text : List ℕ) × Part a asked text) (λ asked. (a : A) × (text : List ℕ) × Whole a asked text) backend backend' (λ asked part. (part.0, part.1, goes part.0 asked part.1 part.2)) tried, keeps)

-- a step that was cut off in a part that begins no stream
pub no_stream : {D : Type 0} (told : D → Call → D → Type 0) (Fact : Bool → List Call → List ℕ → Type 0) (backend : D) (out : List ℕ) (backend' : D) (out' : List ℕ)
    → Tried told (λ asked. (u : Unit {0}) × (text : List ℕ) × Fact false asked text) backend backend' × Extends out out' → Tried told (λ asked. (b : Bool) × (text : List ℕ) × Fact b asked text) backend backend' × Extends out out'
no_stream told Fact backend out backend' out' (tried, keeps) =
    (tried_as told (λ asked. (u : Unit {0}) × (text : List ℕ) × Fact false asked text) (λ asked. (b : Bool) × (text : List ℕ) × Fact b asked text) backend backend' (λ asked part. (false, part.1, part.2)) tried, keeps)

-- a text that is a command isn't refused, but for want of memory
pub not_read : (fault : CmdFault) (c : Command) → fault ≢ Memory → Answers (Err fault) (Ok c) → ⊥
not_read Syntax c other is = absurd cc
not_read BadName c other is = absurd cc
not_read BadPosition c other is = absurd cc
not_read Unsupported c other is = absurd cc
not_read (BadOption fault) c other is = absurd cc
not_read Memory c other is = other refl
