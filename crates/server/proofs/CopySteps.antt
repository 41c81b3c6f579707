-- A copy goes on row by row.
use Rattle.std.proofs.Common.{◌≡◌, ℕ, ◌+◌, ◌-◌, ◌^◌, ◌<◌, ◌≤◌, List, [], ◌∷◌, ◌++◌, length, map, drop, Option, Some, None, Result, Ok, Err, refl, sym, ap, subst, ◌∙◌, inl, inr, append-nil, append_assoc, arith}
use Rattle.std.specs.Prelude.{IfOk, codes}
use Rattle.std.specs.Fmt.{decimal}
use Rattle.std.specs.List.{flat_map}
use Rattle.std.specs.declared.alloc.AllocError.{AllocError}
use Rattle.std.proofs.lemmas.Grind.{flat_map-append}
use Rattle.std.proofs.lemmas.List.{length-append, length-drop, map-append}
use Rattle.pqformat.specs.Putting.{Puts}
use Rattle.frames.specs.declared.back.Back.{Back}
use Rattle.frames.specs.declared.back.Back.TheVariants.{CopyData, CopyDone, ReadyForQuery}
use Rattle.frames.specs.declared.backend.ready_for_query.TransactionStatus.TheVariants as statuses
use Rattle.server.specs.declared.refusal.Refusal.TheVariants.{Asked}
use Rattle.server.specs.Blocks.{given}
use Rattle.server.specs.Refusals.{refusal_code, refusal_text}
use Rattle.server.specs.RowText.{row_text}
use Rattle.server.specs.Said.{completion, error_frame, error_of_refusal, sent_frame}
use Rattle.server.specs.declared.backend_fault.BackendFault.{BackendFault}
use Rattle.server.specs.declared.sessions.block.Block.{Block}
use Rattle.server.specs.declared.connection.Connection.{Connection}
use Rattle.server.specs.declared.stages.copying.Copying.{Copying}
use Rattle.server.specs.declared.connection_terms.ConnectionTerms.{ConnectionTerms}
use Rattle.server.specs.declared.stages.stage.Stage.{Stage}
use Rattle.server.specs.declared.stages.stage.Stage.TheVariants as stages
use Rattle.server.specs.declared.stages.stage.Turned.{Turned}
use Rattle.server.specs.Calls.{Call, AreAsked, NextRow}
use Rattle.server.specs.Conversation.{Gave, Tried}
use Rattle.server.specs.Copies.{CopiesFrom, CopiesOn, after_row, after_rows, copied_row, copy_ended, end_asked, end_said, next_said, refused_in_block, row_asked}
use Rattle.server.specs.Segment.{Asks, HasCause, IsTurned, Went, most_turns, rows_left}
use Rattle.server.specs.Turns.{IsTurn, Waits}
use Rattle.server.proofs.Segments.{went-one}
use Rattle.server.proofs.Steps.{tried_as}

-- ---- how long a call can go on

rows_bound : (stage : Stage) → rows_left stage ≤ 2 ^ 64 + 1
rows_bound (stages.Copying copying) = omega arith
rows_bound stages.Fresh = omega arith
rows_bound (stages.Idle database) = omega arith
rows_bound (stages.InBlock block) = omega arith
rows_bound (stages.Skipping database) = omega arith
rows_bound (stages.Streaming database) = omega arith
rows_bound (stages.Stopping database) = omega arith
rows_bound stages.Closed = omega arith

-- a turn that takes bytes
pub taken_less : (old new : Connection) (count : ℕ) → 0 < count → count ≤ length old.pending.items → new.pending.items ≡ drop count old.pending.items → most_turns new < most_turns old
taken_less old new count some le is =
    let left : length new.pending.items + count ≡ length old.pending.items = omega (arith, ap length is, length-drop count old.pending.items) in
    omega (arith, left, rows_bound new.stage)

-- one that says rows
pub copied_less : (old new : Connection) → rows_left new.stage < rows_left old.stage → new.pending.items ≡ old.pending.items → most_turns new < most_turns old
copied_less old new less is = omega (arith, ap length is)

pub turned_less : (service : ConnectionTerms) (stage : Stage) (pending : List ℕ) (t : Turned) (Same : Type 0) (Step : (List Call → List ℕ → Type 0) → Type 0) → IsTurned service stage pending t Same Step → 0 < t.count → t.count ≤ length pending
turned_less service stage pending t Same Step (inl x) some = absurd (omega (arith, x.0))
turned_less service stage pending t Same Step (inr x) some = x.1

pub turned_waits : (service : ConnectionTerms) (stage : Stage) (pending : List ℕ) (t : Turned) (Same : Type 0) (Step : (List Call → List ℕ → Type 0) → Type 0) → IsTurned service stage pending t Same Step → t.count ≡ 0 → (t.stage ≡ stage) × Waits stage pending
turned_waits service stage pending t Same Step (inl x) none = (x.1, x.2)
turned_waits service stage pending t Same Step (inr x) none = absurd (omega (arith, x.0))

-- ---- a turn of a copy

copied_some : (stage : Stage) (asked : List Call) (said : List ℕ) (next : Stage) → CopiesFrom stage asked said next → 0 < length asked
copied_some (stages.Copying copying) asked said next copies = copies.some
copied_some stages.Fresh asked said next copies = absurd copies
copied_some (stages.Idle database) asked said next copies = absurd copies
copied_some (stages.InBlock block) asked said next copies = absurd copies
copied_some (stages.Skipping database) asked said next copies = absurd copies
copied_some (stages.Streaming database) asked said next copies = absurd copies
copied_some (stages.Stopping database) asked said next copies = absurd copies
copied_some stages.Closed asked said next copies = absurd copies

-- it is one of the conversation
copied_turn : (service : ConnectionTerms) (stage : Stage) (asked : List Call) (said : List ℕ) (next : Stage) → CopiesFrom stage asked said next → IsTurn service stage (record { text = []; asked = asked; said = said }) next
copied_turn service (stages.Copying copying) asked said next copies = (refl, copies)
copied_turn service stages.Fresh asked said next copies = absurd copies
copied_turn service (stages.Idle database) asked said next copies = absurd copies
copied_turn service (stages.InBlock block) asked said next copies = absurd copies
copied_turn service (stages.Skipping database) asked said next copies = absurd copies
copied_turn service (stages.Streaming database) asked said next copies = absurd copies
copied_turn service (stages.Stopping database) asked said next copies = absurd copies
copied_turn service stages.Closed asked said next copies = absurd copies

pub copied_went : {D : Type 0} (told : D → Call → D → Type 0) (old : Connection) (backend : D) (out : List ℕ) (new : Connection) (backend' : D) (out' : List ℕ)
    → new.service ≡ old.service → new.pending.items ≡ old.pending.items
    → Gave told (λ asked said. CopiesFrom old.stage asked said new.stage) backend out backend' out'
    → Went told HasCause [] old backend out new backend' out'
copied_went told old backend out new backend' out' service pending gave =
    let some = copied_some old.stage gave.asked gave.text new.stage gave.fact in
    went-one told HasCause [] old backend out new backend' out' (record { text = []; asked = gave.asked; said = gave.text }) (omega (arith, some)) service (copied_turn old.service old.stage gave.asked gave.text new.stage gave.fact) (append-nil old.pending.items ∙ sym pending) gave.asks gave.says

pub copied_tried : {D : Type 0} (told : D → Call → D → Type 0) (service : ConnectionTerms) (stage : Stage) (pending : List ℕ) (backend backend' : D)
    → Tried told (λ asked. (next : Stage) × (text : List ℕ) × CopiesFrom stage asked text next) backend backend'
    → Tried told (Asks service stage pending) backend backend'
copied_tried told service stage pending backend backend' tried =
    tried_as told (λ asked. (next : Stage) × (text : List ℕ) × CopiesFrom stage asked text next) (Asks service stage pending) backend backend'
    (λ asked part. (record { text = []; asked = asked; said = part.1 }, part.0, pending, copied_turn service stage asked part.1 part.0 part.2, refl, refl)) tried

-- ---- one row

pub row_copies : (copying : Copying) (answer : Result (Option (List (Option (List ℕ)))) BackendFault) → CopiesOn copying (NextRow answer ∷ []) (next_said copying.count answer) (after_row copying answer)
row_copies copying (Ok (Some row)) = record { rows = row ∷ []; end = None; some = omega arith; ask = refl; say = sym (append-nil (copied_row row)) ∙ sym (append-nil (copied_row row ++ [])); led = refl }
row_copies copying (Ok None) = record { rows = []; end = Some (Ok tt); some = omega arith; ask = refl; say = ap copy_ended (zero_more copying.count); led = refl }
  where
    zero_more : (n : ℕ) → n ≡ n + 0
    zero_more n = omega arith
row_copies copying (Err fault) = record { rows = []; end = Some (Err fault); some = omega arith; ask = refl; say = refl; led = refl }

after_less : (copying : Copying) (answer : Result (Option (List (Option (List ℕ)))) BackendFault) → copying.count < 2 ^ 64 - 1 → rows_left (after_row copying answer) < rows_left (stages.Copying copying)
after_less copying (Ok (Some row)) small = omega (arith, small)
after_less copying (Ok None) small = omega arith
after_less copying (Err fault) small = omega arith

pub given_less : (r : Result (Unit {0}) AllocError) (copying : Copying) (answer : Result (Option (List (Option (List ℕ)))) BackendFault) → copying.count < 2 ^ 64 - 1
    → IfOk (given r (after_row copying answer)) (λ next. rows_left next < rows_left (stages.Copying copying))
given_less (Ok u) copying answer small = after_less copying answer small
given_less (Err e) copying answer small = tt

-- something is said of each
frame_longer : (f : Back) (more : List ℕ) → 0 < length (sent_frame f ++ more)
unfolding sent_frame
frame_longer f more = omega arith

next_longer : (count : ℕ) (answer : Result (Option (List (Option (List ℕ)))) BackendFault) → 0 < length (next_said count answer)
unfolding copied_row copy_ended refused_in_block error_of_refusal
next_longer count (Ok (Some row)) = omega (arith, frame_longer (CopyData (record { bytes = row_text row })) [], length-append (sent_frame (CopyData (record { bytes = row_text row }))) [])
next_longer count (Ok None) = frame_longer CopyDone (sent_frame (completion (codes "COPY " ++ decimal count)) ++ sent_frame (ReadyForQuery statuses.InTransaction))
next_longer count (Err fault) = frame_longer (error_frame (refusal_code (Asked fault)) (refusal_text (Asked fault))) (sent_frame (ReadyForQuery statuses.Failed))

pub given_longer : (r : Result (Unit {0}) AllocError) (copying : Copying) (answer : Result (Option (List (Option (List ℕ)))) BackendFault) (old new : List ℕ) → Puts r old new (next_said copying.count answer)
    → IfOk (given r (after_row copying answer)) (λ next. length old < length new)
given_longer (Ok u) copying answer old new says = omega (arith, next_longer copying.count answer, ap length says, length-append old (next_said copying.count answer))
given_longer (Err e) copying answer old new says = tt

-- ---- row by row

asked-append : {D : Type 0} (told : D → Call → D → Type 0) (a : D) (xs : List Call) (b : D) (ys : List Call) (c : D) → AreAsked told a xs b → AreAsked told b ys c → AreAsked told a (xs ++ ys) c
asked-append {D} told a [] b ys c first then = subst (λ (d : D). AreAsked told d ys c) first then
asked-append told a (x ∷ xs) b ys c first then = (first.0, first.1, asked-append told first.0 xs b ys c first.2 then)

-- rows that were said so far, if any
pub record SoFar (old : Copying) (asked : List Call) (said : List ℕ) (new : Copying) : Type 0 where
  pub rows : List (List (Option (List ℕ)))
  pub ask : asked ≡ map row_asked rows
  pub say : said ≡ flat_map copied_row rows
  pub same : new ≡ record { block = old.block; count = old.count + length rows }

-- what a copy goes on with behind these
pub further : (old mid : Copying) (xs ys : List Call) (a b : List ℕ) (next : Stage) → SoFar old xs a mid → CopiesOn mid ys b next → CopiesOn old (xs ++ ys) (a ++ b) next
further old mid xs ys a b next first then =
    let rows = first.rows ++ then.rows in
    let count : mid.count + length then.rows ≡ old.count + length rows =
    ap (λ (n : ℕ). n + length then.rows) (ap (λ (c : Copying). c.count) first.same) ∙ omega (arith, length-append first.rows then.rows) in
    let block : mid.block ≡ old.block = ap (λ (c : Copying). c.block) first.same in
    record {
      rows = rows;
      end = then.end;
      some = omega (arith, then.some, length-append xs ys);
      ask =
          ap (λ (l : List Call). l ++ ys) first.ask
          ∙ ap (λ (l : List Call). map row_asked first.rows ++ l) then.ask
          ∙ sym (append_assoc (map row_asked first.rows) (map row_asked then.rows) (end_asked then.end))
          ∙ ap (λ (l : List Call). l ++ end_asked then.end) (sym (map-append row_asked first.rows then.rows));
      say =
          ap (λ (l : List ℕ). l ++ b) first.say
          ∙ ap (λ (l : List ℕ). flat_map copied_row first.rows ++ l) then.say
          ∙ sym (append_assoc (flat_map copied_row first.rows) (flat_map copied_row then.rows) (end_said (mid.count + length then.rows) then.end))
          ∙ ap (λ (l : List ℕ). l ++ end_said (mid.count + length then.rows) then.end) (sym (flat_map-append copied_row first.rows then.rows))
          ∙ ap (λ (n : ℕ). flat_map copied_row rows ++ end_said n then.end) count;
      led = then.led ∙ ap (λ (n : ℕ). after_rows mid.block n then.end) count ∙ ap (λ (k : Block). after_rows k (old.count + length rows) then.end) block;
    }

-- a copy that goes on has no end yet
goes_on_so_far : (old : Copying) (asked : List Call) (said : List ℕ) (new : Copying) → CopiesOn old asked said (stages.Copying new) → SoFar old asked said new
goes_on_so_far old asked said new copies = by_end copies.end copies.ask copies.say copies.led
  where
    by_end : (end : Option (Result (Unit {0}) BackendFault)) → asked ≡ map row_asked copies.rows ++ end_asked end → said ≡ flat_map copied_row copies.rows ++ end_said (old.count + length copies.rows) end
        → stages.Copying new ≡ after_rows old.block (old.count + length copies.rows) end → SoFar old asked said new
    by_end None ask say led = record {
      rows = copies.rows;
      ask = ask ∙ append-nil (map row_asked copies.rows);
      say = say ∙ append-nil (flat_map copied_row copies.rows);
      same = cc;
    }
    by_end (Some (Ok u)) ask say led = absurd cc
    by_end (Some (Err fault)) ask say led = absurd cc

-- rows behind rows
pub copies_further : (old : Stage) (mid : Stage) (xs ys : List Call) (a b : List ℕ) (next : Stage) → CopiesFrom old xs a mid → CopiesFrom mid ys b next → CopiesFrom old (xs ++ ys) (a ++ b) next
copies_further (stages.Copying old) (stages.Copying mid) xs ys a b next first then = further old mid xs ys a b next (goes_on_so_far old xs a mid first) then
copies_further (stages.Copying old) stages.Fresh xs ys a b next first then = absurd then
copies_further (stages.Copying old) (stages.Idle database) xs ys a b next first then = absurd then
copies_further (stages.Copying old) (stages.InBlock block) xs ys a b next first then = absurd then
copies_further (stages.Copying old) (stages.Skipping database) xs ys a b next first then = absurd then
copies_further (stages.Copying old) (stages.Streaming database) xs ys a b next first then = absurd then
copies_further (stages.Copying old) (stages.Stopping database) xs ys a b next first then = absurd then
copies_further (stages.Copying old) stages.Closed xs ys a b next first then = absurd then
copies_further stages.Fresh mid xs ys a b next first then = absurd first
copies_further (stages.Idle database) mid xs ys a b next first then = absurd first
copies_further (stages.InBlock block) mid xs ys a b next first then = absurd first
copies_further (stages.Skipping database) mid xs ys a b next first then = absurd first
copies_further (stages.Streaming database) mid xs ys a b next first then = absurd first
copies_further (stages.Stopping database) mid xs ys a b next first then = absurd first
copies_further stages.Closed mid xs ys a b next first then = absurd first

pub gave_further : {D : Type 0} (told : D → Call → D → Type 0) (old mid next : Stage) (backend : D) (out : List ℕ) (backend' : D) (out' : List ℕ) (backend'' : D) (out'' : List ℕ)
    → Gave told (λ asked said. CopiesFrom old asked said mid) backend out backend' out' → Gave told (λ asked said. CopiesFrom mid asked said next) backend' out' backend'' out''
    → Gave told (λ asked said. CopiesFrom old asked said next) backend out backend'' out''
gave_further told old mid next backend out backend' out' backend'' out'' first then = record {
  asked = first.asked ++ then.asked;
  text = first.text ++ then.text;
  fact = copies_further old mid first.asked then.asked first.text then.text next first.fact then.fact;
  asks = asked-append told backend first.asked backend' then.asked backend'' first.asks then.asks;
  says = then.says ∙ ap (λ (l : List ℕ). l ++ then.text) first.says ∙ append_assoc out first.text then.text;
}

-- a row for which memory ran out, behind others
pub tried_further : {D : Type 0} (told : D → Call → D → Type 0) (old mid : Stage) (backend : D) (out : List ℕ) (backend' : D) (out' : List ℕ) (backend'' : D)
    → Gave told (λ asked said. CopiesFrom old asked said mid) backend out backend' out'
    → Tried told (λ asked. (next : Stage) × (text : List ℕ) × CopiesFrom mid asked text next) backend' backend''
    → Tried told (λ asked. (next : Stage) × (text : List ℕ) × CopiesFrom old asked text next) backend backend''
tried_further told old mid backend out backend' out' backend'' first then = record {
  asked = first.asked ++ then.asked;
  fact =
      elim then.fact [
        | inl none ↦ inr (mid, first.text, subst (λ (l : List Call). CopiesFrom old l first.text mid) (sym (append-nil first.asked) ∙ ap (λ (l : List Call). first.asked ++ l) (sym none)) first.fact)
        | inr part ↦ inr (part.0, first.text ++ part.1, copies_further old mid first.asked then.asked first.text part.1 part.0 first.fact part.2)
      ];
  asks = asked-append told backend first.asked backend' then.asked backend'' first.asks then.asks;
}
