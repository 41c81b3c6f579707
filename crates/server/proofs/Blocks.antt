-- Answers in a transaction block, from what was said and asked.
use Rattle.std.proofs.Common.{◌≡◌, ℕ, Bool, List, [], Option, Some, None, Result, Ok, Err, refl, sym, ap, subst, ◌∙◌, inl, inr}
use Rattle.std.specs.Prelude.{◌≢◌, ◌⊎◌, IfOk}
use Rattle.std.specs.declared.alloc.AllocError.{AllocError}
use Rattle.frames.specs.declared.front.Front.{Front}
use Rattle.frames.specs.declared.front.Front.TheVariants as fronts
use Rattle.frames.specs.declared.copy_data.CopyData.{CopyData}
use Rattle.frames.specs.declared.frontend.copy_fail.CopyFail.{CopyFail}
use Rattle.replcmd.specs.declared.command.Command.{Command}
use Rattle.replcmd.specs.declared.command.Command.TheVariants as commands
use Rattle.replcmd.specs.declared.clauses.snapshot_clause.SnapshotClause.TheVariants as snapshots
use Rattle.replcmd.specs.declared.clauses.strictness.Strictness.TheVariants.{Lenient}
use Rattle.replcmd.specs.declared.fault.CmdFault.{CmdFault}
use Rattle.replcmd.specs.declared.fault.CmdFault.TheVariants.{Memory}
use Rattle.replcmd.specs.Grammar.{SpellsCommand}
use Rattle.replcmd.specs.Reading.{Answers as ReadAnswers}
use Rattle.pqformat.specs.Putting.{Puts}
use Rattle.server.specs.declared.sessions.block.Apart.{Apart}
use Rattle.server.specs.declared.sessions.block.Block.{Block}
use Rattle.server.specs.declared.refusal.Refusal.TheVariants.{Violation}
use Rattle.server.specs.declared.stages.stage.Stage.{Stage}
use Rattle.server.specs.declared.stages.stage.Stage.TheVariants.{InBlock, Closed}
use Rattle.server.specs.Blocks.{Goes, HasShortUse, ReadsApart, Says, Settles, apart_of, block_after, given, told_in_block}
use Rattle.server.specs.Calls.{Call, AreAsked}
use Rattle.server.specs.Conversation.{Answered}
use Rattle.server.specs.Said.{error_of_refusal}
use Rattle.server.specs.Turns.{HearsInBlock}
use Rattle.server.proofs.Names.{short_slot}
use Rattle.server.proofs.Steps.{not_read, tried_as}

-- a step that says its text at the end, and gives this
pub gave_given : {D A : Type 0} (told : D → Call → D → Type 0) (Fact : A → List Call → List ℕ → Type 0) (a : A) (asked : List Call) (text : List ℕ) (r : Result (Unit {0}) AllocError) (backend : D) (old : List ℕ) (backend' : D) (new : List ℕ)
    → AreAsked told backend asked backend' → Fact a asked text → Puts r old new text → Answered told (given r a) Fact backend old backend' new
gave_given told Fact a asked text (Ok u) backend old backend' new asks fact says = record { asked = asked; text = text; fact = fact; asks = asks; says = says }
gave_given told Fact a asked text (Err e) backend old backend' new asks fact says = (record { asked = asked; fact = inr (a, text, fact); asks = asks }, says)

-- a query that doesn't end the block
pub goes : {D : Type 0} (told : D → Call → D → Type 0) (block : Block) (query : List ℕ) (answered : Result Bool AllocError) (plain : List ℕ) (r : Result Stage AllocError) (backend : D) (old : List ℕ) (backend' : D) (new : List ℕ)
    → Answered told answered (λ held. Says block.state block query held) backend [] backend' plain → Settles block answered plain r old new
    → Answered told r (λ next asked said. Goes block query asked said next) backend old backend' new
goes told block query (Ok holds) plain (Ok next) backend old backend' new gave (same, says) = record {
  asked = gave.asked;
  text = told_in_block plain;
  fact = (holds, plain, subst (λ (l : List ℕ). Says block.state block query holds gave.asked l) (sym gave.says) gave.fact, refl, same);
  asks = gave.asks;
  says = says;
}
goes told block query (Ok holds) plain (Err e) backend old backend' new gave kept = (
  record {
    asked = gave.asked;
    fact = inr (InBlock (block_after block holds gave.text), told_in_block gave.text, (holds, gave.text, gave.fact, refl, refl));
    asks = gave.asks;
  },
  kept,
)
goes told block query (Err e) plain (Ok next) backend old backend' new gave kept = absurd kept
goes {D} told block query (Err e) plain (Err f) backend old backend' new gave kept = (
  tried_as told (λ asked. (holds : Bool) × (text : List ℕ) × Says block.state block query holds asked text)
      (λ asked. (next : Stage) × (text : List ℕ) × Goes block query asked text next) backend backend'
      (λ asked part. (InBlock (block_after block part.0 part.1), told_in_block part.1, (part.0, part.1, part.2, refl, refl))) gave.0,
  kept,
)

-- frames out of their place
pub out_of_block : (block : Block) (f : Front) → ((bytes : CopyData) × (f ≡ fronts.CopyData bytes)) ⊎ ((f ≡ fronts.CopyDone) ⊎ ((fail : CopyFail) × (f ≡ fronts.CopyFail fail))) → HearsInBlock block f [] (error_of_refusal Violation) Closed
out_of_block block f (inl (bytes, is)) = subst (λ (g : Front). HearsInBlock block g [] (error_of_refusal Violation) Closed) (sym is) (refl, refl, refl)
out_of_block block f (inr (inl is)) = subst (λ (g : Front). HearsInBlock block g [] (error_of_refusal Violation) Closed) (sym is) (refl, refl, refl)
out_of_block block f (inr (inr (fail, is))) = subst (λ (g : Front). HearsInBlock block g [] (error_of_refusal Violation) Closed) (sym is) (refl, refl, refl)

-- the slot of a command is short
pub short_use : (text : List ℕ) (c : Command) → SpellsCommand Lenient text c → HasShortUse (apart_of c)
short_use text (commands.Create slot snapshots.Use) spells = short_slot Lenient text (commands.Create slot snapshots.Use) spells
short_use text (commands.Create slot snapshots.Export) spells = tt
short_use text (commands.Create slot snapshots.Nothing) spells = tt
short_use text (commands.Start slot position options) spells = tt
short_use text commands.Identify spells = tt
short_use text (commands.Drop slot) spells = tt

-- ---- which command a text spells

-- the command that is read is the one that is spelled
pub reads_command : (text : List ℕ) (c : Command) → SpellsCommand Lenient text c → ((d : Command) → SpellsCommand Lenient text d → ReadAnswers (Ok c) (Ok d)) → ReadsApart text (apart_of c)
reads_command text c spells only = by_found (apart_of c) refl
  where
    by_found : (o : Option Apart) → apart_of c ≡ o → ReadsApart text o
    by_found (Some apart) is = (c, spells, is)
    by_found None is = λ d other. let same : d ≡ c = (let e = only d other in cc) in ap apart_of same ∙ is

pub reads_none : (text : List ℕ) (fault : CmdFault) (r : Result (Option Apart) AllocError) → IfOk r (λ found. (found ≡ None) × (fault ≢ Memory))
    → ((d : Command) → SpellsCommand Lenient text d → ReadAnswers (Err fault) (Ok d)) → IfOk r (λ found. ReadsApart text found)
reads_none text fault (Ok found) is only = subst (λ (o : Option Apart). ReadsApart text o) (sym is.0) (λ d spells. absurd (not_read fault d is.1 (only d spells)))
reads_none text fault (Err e) is only = tt
