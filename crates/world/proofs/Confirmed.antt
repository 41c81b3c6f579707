-- What each event makes of the confirmed position of a slot, and what a run makes of it.
use Rattle.std.proofs.Common.{◌≡◌, ℕ, max, min, Bool, true, false, cond, List, [], ◌∷◌, ◌++◌, map, Option, Some, None, option_map, refl, sym, ap, ◌∙◌}
use Rattle.std.specs.Str.{bytes_eq}
use Rattle.std.proofs.lemmas.Slice.Eq.{bytes_eq-Decides}
use Rattle.copyboth.specs.declared.status.Status.{Status}
use Rattle.slots.specs.declared.fault.SlotFault.{SlotFault}
use Rattle.slots.specs.declared.fault.SlotFault.TheVariants as slot_faults
use Rattle.slots.specs.State.{NamedSlot, SlotsState, create_refusal, if_named, slot_of, slot_with_confirmed, slot_with_hold, slots_after_create, slots_after_refusal}
use Rattle.txlog.specs.Publishing.{log_end}
use Rattle.publication_config.specs.declared.fault.PubFault.TheVariants as pubs
use Rattle.schedule.specs.declared.lines.start_options.StartOptions.{StartOptions}
use Rattle.schedule.specs.declared.event.Event.{Event}
use Rattle.schedule.specs.declared.event.Event.TheVariants as events
use Rattle.schedule.specs.declared.event.ConnectionStep.{ConnectionStep}
use Rattle.schedule.specs.declared.event.ConnectionStep.TheVariants as steps
use Rattle.world.specs.declared.printed.answer.Answer.{Answer}
use Rattle.world.specs.declared.printed.answer.Answer.TheVariants as answers
use Rattle.world.specs.Start.{StartState}
use Rattle.world.specs.State.{SubscriberState, WorldState, slot_of_connection, subscriber_of}
use Rattle.world.specs.ConnectionLines.{IsStart}
use Rattle.slots.specs.Words.{slot_named, slots_after_taking}
use Rattle.world.specs.Slots.{Acknowledges, Creates}
use Rattle.slots.specs.Words.{slots_after_confirming, slots_after_letting_go}
use Rattle.world.specs.Steps.{IsRun, IsStep, IsStepAt}
use Rattle.world.specs.Confirming.{confirmed_after, confirmed_at, confirmed_through, next_told_position, raised_by, told_if, told_to}

-- ---- Changes of one slot.

-- a change that keeps names and positions
kept_by : (name other : List ℕ) (change : NamedSlot → NamedSlot) (ss : List NamedSlot) → ((s : NamedSlot) → ((change s).name ≡ s.name) × ((change s).confirmed ≡ s.confirmed))
    → option_map (λ s. s.confirmed) (slot_of name (map (if_named other change) ss)) ≡ option_map (λ s. s.confirmed) (slot_of name ss)
kept_by name other change [] keeps = refl
kept_by name other change (s ∷ ss) keeps = by_other (bytes_eq s.name other) (kept_by name other change ss keeps)
  where
    rest : List NamedSlot
    rest = map (if_named other change) ss

    one : (t : NamedSlot) → t.name ≡ s.name → t.confirmed ≡ s.confirmed → option_map (λ s. s.confirmed) (slot_of name rest) ≡ option_map (λ s. s.confirmed) (slot_of name ss)
        → option_map (λ s. s.confirmed) (slot_of name (t ∷ rest)) ≡ option_map (λ s. s.confirmed) (slot_of name (s ∷ ss))
    one t named same later = ap (λ (n : List ℕ). option_map (λ s. s.confirmed) (cond (bytes_eq n name) (Some t) (slot_of name rest))) named ∙ by_name (bytes_eq s.name name)
      where
        by_name : (b : Bool) → option_map (λ s. s.confirmed) (cond b (Some t) (slot_of name rest)) ≡ option_map (λ s. s.confirmed) (cond b (Some s) (slot_of name ss))
        by_name true = ap (λ (n : ℕ). Option.Some n) same
        by_name false = later

    by_other : (b : Bool) → option_map (λ s. s.confirmed) (slot_of name rest) ≡ option_map (λ s. s.confirmed) (slot_of name ss)
        → option_map (λ s. s.confirmed) (slot_of name (cond b (change s) s ∷ rest)) ≡ option_map (λ s. s.confirmed) (slot_of name (s ∷ ss))
    by_other true later = one (change s) (keeps s).0 (keeps s).1 later
    by_other false later = one s refl refl later

-- the slot of a name that was raised
raised_there : (name other : List ℕ) (by : ℕ) (ss : List NamedSlot)
    → option_map (λ s. s.confirmed) (slot_of name (map (if_named other (slot_with_confirmed by)) ss)) ≡ option_map (raised_by (cond (bytes_eq other name) (Some by) None)) (option_map (λ s. s.confirmed) (slot_of name ss))
raised_there name other by [] = refl
raised_there name other by (s ∷ ss) = by_name (bytes_eq s.name name) refl (bytes_eq s.name other) refl (raised_there name other by ss)
  where
    rest : List NamedSlot
    rest = map (if_named other (slot_with_confirmed by)) ss

    found : ℕ → Option ℕ
    found n = Some n

    meets : bytes_eq s.name name ≡ true → bytes_eq s.name other ≡ true → bytes_eq other name ≡ true
    meets is same = (bytes_eq-Decides other name).1 (sym ((bytes_eq-Decides s.name other).0 same) ∙ (bytes_eq-Decides s.name name).0 is)

    misses : bytes_eq s.name name ≡ true → bytes_eq s.name other ≡ false → bytes_eq other name ≡ false
    misses is else = by_test (bytes_eq other name) refl
      where
        by_test : (b : Bool) → bytes_eq other name ≡ b → bytes_eq other name ≡ false
        by_test false e = e
        by_test true e = let never : true ≡ false = sym ((bytes_eq-Decides s.name other).1 ((bytes_eq-Decides s.name name).0 is ∙ sym ((bytes_eq-Decides other name).0 e))) ∙ else in absurd cc

    by_name : (b : Bool) → bytes_eq s.name name ≡ b → (c : Bool) → bytes_eq s.name other ≡ c
        → option_map (λ s. s.confirmed) (slot_of name rest) ≡ option_map (raised_by (cond (bytes_eq other name) (Some by) None)) (option_map (λ s. s.confirmed) (slot_of name ss))
        → option_map (λ s. s.confirmed) (slot_of name (cond c (slot_with_confirmed by s) s ∷ rest)) ≡ option_map (raised_by (cond (bytes_eq other name) (Some by) None)) (option_map (λ s. s.confirmed) (cond b (Some s) (slot_of name ss)))
    by_name true is true same later = ap (λ (b : Bool). option_map (λ s. s.confirmed) (cond b (Some (slot_with_confirmed by s)) (slot_of name rest))) is
        ∙ ap (λ (b : Bool). found (raised_by (cond b (Some by) None) s.confirmed)) (sym (meets is same))
    by_name true is false same later = ap (λ (b : Bool). option_map (λ s. s.confirmed) (cond b (Some s) (slot_of name rest))) is
        ∙ ap (λ (b : Bool). found (raised_by (cond b (Some by) None) s.confirmed)) (sym (misses is same))
    by_name false is true same later = ap (λ (b : Bool). option_map (λ s. s.confirmed) (cond b (Some (slot_with_confirmed by s)) (slot_of name rest))) is ∙ later
    by_name false is false same later = ap (λ (b : Bool). option_map (λ s. s.confirmed) (cond b (Some s) (slot_of name rest))) is ∙ later

-- a slot more, of a name that no slot had
one_more : (name : List ℕ) (ss : List NamedSlot) (new : NamedSlot) → slot_of new.name ss ≡ None
    → option_map (λ s. s.confirmed) (slot_of name (ss ++ new ∷ [])) ≡ cond (bytes_eq new.name name) (Some new.confirmed) (option_map (λ s. s.confirmed) (slot_of name ss))
one_more name [] new none = by_name (bytes_eq new.name name)
  where
    by_name : (b : Bool) → option_map (λ s. s.confirmed) (cond b (Some new) None) ≡ cond b (Some new.confirmed) None
    by_name true = refl
    by_name false = refl
one_more name (s ∷ ss) new none = by_name (bytes_eq s.name name) refl (one_more name ss new (tail (bytes_eq s.name new.name) none))
  where
    tail : (b : Bool) → cond b (Some s) (slot_of new.name ss) ≡ None → slot_of new.name ss ≡ None
    tail true is = absurd cc
    tail false is = is

    other : (b : Bool) → bytes_eq s.name new.name ≡ b → cond b (Some s) (slot_of new.name ss) ≡ None → bytes_eq s.name name ≡ true → bytes_eq new.name name ≡ false
    other true e is same = absurd cc
    other false e is same = by_test (bytes_eq new.name name) refl
      where
        by_test : (b : Bool) → bytes_eq new.name name ≡ b → bytes_eq new.name name ≡ false
        by_test false d = d
        by_test true d = let never : true ≡ false = sym ((bytes_eq-Decides s.name new.name).1 ((bytes_eq-Decides s.name name).0 same ∙ sym ((bytes_eq-Decides new.name name).0 d))) ∙ e in absurd cc

    by_name : (b : Bool) → bytes_eq s.name name ≡ b
        → option_map (λ s. s.confirmed) (slot_of name (ss ++ new ∷ [])) ≡ cond (bytes_eq new.name name) (Some new.confirmed) (option_map (λ s. s.confirmed) (slot_of name ss))
        → option_map (λ s. s.confirmed) (cond b (Some s) (slot_of name (ss ++ new ∷ []))) ≡ cond (bytes_eq new.name name) (Some new.confirmed) (option_map (λ s. s.confirmed) (cond b (Some s) (slot_of name ss)))
    by_name true is later = ap (λ (b : Bool). cond b (Some new.confirmed) (Some s.confirmed)) (sym (other (bytes_eq s.name new.name) refl none is))
    by_name false is later = later

-- ---- Events.

refused_same : (name : List ℕ) (fault : SlotFault) (s : SlotsState) → confirmed_at name (slots_after_refusal fault s) ≡ confirmed_at name s
refused_same name slot_faults.Missing s = refl
refused_same name slot_faults.InUse s = refl
refused_same name slot_faults.Exists s = refl
refused_same name slot_faults.NoPlace s = refl
refused_same name slot_faults.Memory s = refl

pub let_go_same : (name : List ℕ) (slot : Option (List ℕ)) (s : SlotsState) → confirmed_at name (slots_after_letting_go slot s) ≡ confirmed_at name s
let_go_same name None s = refl
let_go_same name (Some other) s = kept_by name other (slot_with_hold false) s.slots (λ _. (refl, refl))

pub taken_same : (name : List ℕ) (slot : Option (List ℕ)) (s : SlotsState) → confirmed_at name (slots_after_taking slot s) ≡ confirmed_at name s
taken_same name None s = refl
taken_same name (Some other) s = kept_by name other (slot_with_hold true) s.slots (λ _. (refl, refl))

-- what a line leaves that touches no slot
same_slots : (name : List ℕ) (old new w : WorldState) → new ≡ w → w.slots ≡ old.slots → confirmed_at name new.slots ≡ confirmed_at name old.slots
same_slots name old new w is same = ap (λ (x : WorldState). confirmed_at name x.slots) is ∙ ap (confirmed_at name) same

pub not_named : (created : List ℕ) (s : SlotsState) → create_refusal created s ≡ None → slot_of created s.slots ≡ None
not_named created s none = by_slot (slot_of created s.slots) refl
  where
    by_slot : (o : Option NamedSlot) → slot_of created s.slots ≡ o → slot_of created s.slots ≡ None
    by_slot None is = is
    by_slot (Some t) is = let never : Option.Some slot_faults.Exists ≡ Option.None = rw is at none in absurd cc

pub created_step : (name created : List ℕ) (old new : WorldState) (a : Answer) → Creates created old a new → confirmed_at name new.slots ≡ confirmed_after name old (events.Slot created) a (confirmed_at name old.slots)
created_step name created old new answers.Done step =
    ap (λ (w : WorldState). confirmed_at name w.slots) step.1
    ∙ one_more name old.slots.slots (record { name = created; place = old.slots.places; confirmed = log_end old.publisher; is_held = false }) (not_named created old.slots step.0)
created_step name created old new (answers.Slot fault) step = ap (λ (w : WorldState). confirmed_at name w.slots) step.1 ∙ refused_same name fault old.slots
created_step name created old new (answers.Session fault) step = absurd step
created_step name created old new (answers.Publication fault) step = absurd step
created_step name created old new answers.NoReader step = absurd step
created_step name created old new answers.Removed step = absurd step
created_step name created old new (answers.Front place) step = absurd step
created_step name created old new (answers.Sender fault) step = absurd step
created_step name created old new (answers.Subscriber fault) step = absurd step

started_step : (name c : List ℕ) (slot : Option (List ℕ)) (position : ℕ) (wanted : StartOptions) (old new : WorldState) (a : Answer) → IsStart c slot position wanted old a new → confirmed_at name new.slots ≡ confirmed_at name old.slots
started_step name c slot position wanted old new answers.Done step = ap (λ (w : WorldState). confirmed_at name w.slots) step.2 ∙ taken_same name slot old.slots
started_step name c slot position wanted old new (answers.Publication pubs.Memory) step = ap (λ (w : WorldState). confirmed_at name w.slots) step.1
started_step name c slot position wanted old new (answers.Publication pubs.Unknown) step = ap (λ (w : WorldState). confirmed_at name w.slots) step.1
started_step name c slot position wanted old new (answers.Publication pubs.ListConflict) step = ap (λ (w : WorldState). confirmed_at name w.slots) step.1
started_step name c slot position wanted old new (answers.Publication (pubs.FilterOutsideIdentity place)) step = ap (λ (w : WorldState). confirmed_at name w.slots) step.1
started_step name c slot position wanted old new (answers.Publication (pubs.ListWithoutIdentity place)) step = ap (λ (w : WorldState). confirmed_at name w.slots) step.1
started_step name c slot position wanted old new (answers.Publication (pubs.NoIdentity place)) step = ap (λ (w : WorldState). confirmed_at name w.slots) step.1
started_step name c slot position wanted old new (answers.Publication (pubs.NotToml n)) step = ap (λ (w : WorldState). confirmed_at name w.slots) step.1
started_step name c slot position wanted old new (answers.Publication (pubs.BadToml misfit)) step = ap (λ (w : WorldState). confirmed_at name w.slots) step.1
started_step name c slot position wanted old new (answers.Publication (pubs.BadFilter place fault)) step = ap (λ (w : WorldState). confirmed_at name w.slots) step.1
started_step name c slot position wanted old new (answers.Session fault) step = ap (λ (w : WorldState). confirmed_at name w.slots) step.1
started_step name c slot position wanted old new (answers.Slot fault) step = ap (λ (w : WorldState). confirmed_at name w.slots) step.1
started_step name c slot position wanted old new answers.NoReader step = ap (λ (w : WorldState). confirmed_at name w.slots) step.1
started_step name c slot position wanted old new answers.Removed step = ap (λ (w : WorldState). confirmed_at name w.slots) step.2
started_step name c slot position wanted old new (answers.Front place) step = ap (λ (w : WorldState). confirmed_at name w.slots) step.1
started_step name c slot position wanted old new (answers.Sender fault) step = ap (λ (w : WorldState). confirmed_at name w.slots) step.1
started_step name c slot position wanted old new (answers.Subscriber fault) step = ap (λ (w : WorldState). confirmed_at name w.slots) step.1

pub confirmed_once : (name : List ℕ) (slot : Option (List ℕ)) (by : ℕ) (s : SlotsState) → confirmed_at name (slots_after_confirming slot by s) ≡ option_map (raised_by (told_if name slot (Some by))) (confirmed_at name s)
confirmed_once name None by s = same (confirmed_at name s)
  where
    same : (o : Option ℕ) → o ≡ option_map (raised_by None) o
    same None = refl
    same (Some n) = refl
confirmed_once name (Some other) by s = raised_there name other by s.slots

acknowledged_step : (name c : List ℕ) (old new : WorldState) (a : Answer) → Acknowledges c old a new → confirmed_at name new.slots ≡ confirmed_after name old (events.Connection c steps.Ack) a (confirmed_at name old.slots)
acknowledged_step name c old new a step =
    ap (λ (w : WorldState). confirmed_at name w.slots) step.is
    ∙ confirmed_once name step.before.slot (min step.status.flushed step.start.position) old.slots
    ∙ ap (λ (told : Option ℕ). option_map (raised_by told) (confirmed_at name old.slots)) (ap (λ (back : List Status). told_if name step.before.slot (next_told_position step.start.position back)) (sym step.waits)
    ∙ ap (λ (o : Option SubscriberState). told_to name (Some step.start) o) (sym step.known) ∙ ap (λ (o : Option StartState). told_to name o (subscriber_of c old.subscribers)) (sym step.there))

pub connection_confirms : (name c : List ℕ) (step : ConnectionStep) (old : WorldState) (a : Answer) (new : WorldState) → IsStepAt c step old a new → confirmed_at name new.slots ≡ confirmed_after name old (events.Connection c step) a (confirmed_at name old.slots)
connection_confirms name c (steps.Start slot position options) old a new step = started_step name c (slot_named slot) position options old new a step.1
connection_confirms name c (steps.Read max clock) old a new step = ap (λ (w : WorldState). confirmed_at name w.slots) step.is
connection_confirms name c (steps.Keepalive clock) old a new step = ap (λ (w : WorldState). confirmed_at name w.slots) step.is
connection_confirms name c (steps.Drain n) old a new step = ap (λ (w : WorldState). confirmed_at name w.slots) step.is
connection_confirms name c (steps.Deliver n) old a new step = ap (λ (w : WorldState). confirmed_at name w.slots) step.is
connection_confirms name c (steps.Status clock) old a new step = ap (λ (w : WorldState). confirmed_at name w.slots) step.is
connection_confirms name c (steps.Flushed number) old a new step = ap (λ (w : WorldState). confirmed_at name w.slots) step.is
connection_confirms name c steps.Ack old a new step = acknowledged_step name c old new a step
connection_confirms name c steps.Cut old a new step = ap (λ (w : WorldState). confirmed_at name w.slots) step.is ∙ let_go_same name (slot_of_connection c old.subscribers) old.slots

pub step_confirms : (name : List ℕ) (old : WorldState) (e : Event) (a : Answer) (new : WorldState) → IsStep old e a new → confirmed_at name new.slots ≡ confirmed_after name old e a (confirmed_at name old.slots)
step_confirms name old (events.Session t s) a new step = ap (λ (w : WorldState). confirmed_at name w.slots) step.is
step_confirms name old (events.Note prefix content) a new step = ap (λ (w : WorldState). confirmed_at name w.slots) step.is
step_confirms name old (events.Connection c s) a new step = connection_confirms name c s old a new step
step_confirms name old (events.Slot created) a new step = created_step name created old new a step
step_confirms name old events.Forget a new step = ap (λ (w : WorldState). confirmed_at name w.slots) step.is
step_confirms name old events.Front a new step = ap (λ (w : WorldState). confirmed_at name w.slots) step.1

pub run_confirms : (name : List ℕ) (old : WorldState) (es : List Event) (given : List Answer) (new : WorldState) (run : IsRun old es given new) → confirmed_at name new.slots ≡ confirmed_through name old es given new run (confirmed_at name old.slots)
run_confirms name old [] [] new run = ap (λ (w : WorldState). confirmed_at name w.slots) run
run_confirms name old [] (a ∷ given) new run = absurd run
run_confirms name old (e ∷ es) [] new run = absurd run
run_confirms name old (e ∷ es) (a ∷ given) new run = run_confirms name run.0 es given new run.2 ∙ ap (confirmed_through name run.0 es given new run.2) (step_confirms name old e a run.0 run.1)
