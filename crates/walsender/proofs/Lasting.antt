-- Transactions that are lent: those that are left are the last ones, and their Commits are held.
use Rattle.std.proofs.Common.{◌≡◌, ℕ, ℤ, Bool, true, false, cond, List, [], ◌∷◌, ◌++◌, drop, map, take, filter, reverse, refl, sym, ap, subst, ◌∙◌, append_assoc, arith}
use Rattle.std.specs.Prelude.{nat_le, sum_by}
use Rattle.std.specs.List.{flat_map}
use Rattle.std.proofs.lemmas.Grind.{flat_map-append}
use Rattle.std.proofs.lemmas.List.Sums.{sum_by-cons}
use Rattle.chgarena.specs.Strands.{Strands as Arena}
use Rattle.publication.specs.Publications.{PublicationSet}
use Rattle.tables.specs.declared.changes.change.Change.{Change}
use Rattle.wal.specs.declared.record.Record.{Record}
use Rattle.wal.specs.declared.record.Body.{Body}
use Rattle.wal.specs.declared.record.Body.TheVariants.{Assign, Change as Changed, AbortSub, Abort, Commit, Note}
use Rattle.wal.specs.Log.{Transaction, committed_at, committed_from, kept_changes}
use Rattle.wal.proofs.Laws.{committed_from-append}
use Rattle.pgoutput.specs.Items.{relations_sent_by_all}
use Rattle.reorder.specs.Chunks.{transaction_chunks}
use Rattle.reorder.specs.Pool.{PoolState}
use Rattle.reorder.specs.Ready.{ReadyState}
use Rattle.reorder.specs.Settled.{FillsReady, lent_chunks, ready_chunks}
use Rattle.reorder.specs.Taking.{ReorderState, promised_changes, readied_changes}
use Rattle.reorder.specs.declared.ready.RecordOutcome.{RecordOutcome}
use Rattle.reorder.specs.declared.ready.RecordOutcome.TheVariants as steps
use Rattle.walsender.specs.Lent.{AreHeld, AreLastOf, LentTransaction, lent_with, sent_as, sent_from}
use Rattle.walsender.specs.Outgoing.{frames_left, held_of, lent_by_step, lent_in, lent_of}
use Rattle.walsender.specs.Published.{has_message, published_as}
use Rattle.walsender.specs.Sending.{published_by_record, sent_by_record}
use Rattle.walsender.specs.Waiting.{bytes_after, changes_bytes, commit_bytes, left_of, ready_states}
use Rattle.walsender.specs.declared.held.outgoing.Outgoing.{Outgoing}
use Rattle.walsender.specs.declared.held.committed_transaction.CommittedTransaction.{CommittedTransaction}

-- ---- the last ones

pub last_then : (all some few : List LentTransaction) → AreLastOf some all → AreLastOf few some → AreLastOf few all
last_then all some few first then = (first.0 ++ then.0, first.1 ∙ ap (λ (l : List LentTransaction). first.0 ++ l) then.1 ∙ sym (append_assoc first.0 then.0 few))

pub last_more : (all some more : List LentTransaction) → AreLastOf some all → AreLastOf (some ++ more) (all ++ more)
last_more all some more last = (last.0, ap (λ (l : List LentTransaction). l ++ more) last.1 ∙ append_assoc last.0 some more)

pub last_same : (all some : List LentTransaction) → some ≡ all → AreLastOf some all
last_same all some same = ([], sym same)

-- ---- those that wait

pub lents_same : (arena arena' : Arena) (ws : List CommittedTransaction) → map (ready_chunks arena') (ready_states ws) ≡ map (ready_chunks arena) (ready_states ws) → map (lent_in arena') ws ≡ map (lent_in arena) ws
lents_same arena arena' [] same = refl
lents_same arena arena' (w ∷ ws) same =
    ap (λ (n : ℕ). record { commit = record { position = w.header.start; end = w.header.end; time = w.header.time }; chunks = n } ∷ map (lent_in arena') ws) (heads same)
    ∙ ap (λ (l : List LentTransaction). lent_in arena w ∷ l) (lents_same arena arena' ws (tails same))
  where
    heads : {A : Type 0} {x y : A} {xs ys : List A} → x ∷ xs ≡ y ∷ ys → x ≡ y
    heads e = cc

    tails : {A : Type 0} {x y : A} {xs ys : List A} → x ∷ xs ≡ y ∷ ys → xs ≡ ys
    tails e = cc

-- they take the chunks of what is ready
pub lent_sum : (s : ReorderState) (ws : List CommittedTransaction) → sum_by (λ (t : LentTransaction). t.chunks) (map (lent_in s.strands.pool.arena) ws) ≡ lent_chunks s (ready_states ws)
lent_sum s [] = refl
lent_sum s (w ∷ ws) =
    let arena = s.strands.pool.arena in
    let rest = lent_sum s ws in
    omega (arith, rest, sum_by-cons (λ (t : LentTransaction). t.chunks) (lent_in arena w) (map (lent_in arena) ws), sum_by-cons (λ (ready : ReadyState). ready_chunks arena ready) w.ready (ready_states ws))

-- each one's Commit is among the bytes that are held
commits_held : (selection : PublicationSet) (pool : PoolState) (front sent made : List ℕ) (ws : List CommittedTransaction) → AreHeld (front ++ bytes_after selection pool sent made ws) (map (lent_in pool.arena) ws)
commits_held selection pool front sent made [] = tt
commits_held selection pool front sent made (w ∷ ws) =
    let before = take w.before made in
    let changes = changes_bytes selection sent w.clock (left_of selection pool w) in
    let commit = commit_bytes w.clock w.header in
    let next = relations_sent_by_all sent (left_of selection pool w) in
    let behind = bytes_after selection pool next (drop w.before made) ws in
    ((front ++ before) ++ changes, w.clock, behind, regroup front before changes commit behind, commits_held selection pool [] next (drop w.before made) ws)
  where
    regroup : (front before changes commit behind : List ℕ) → front ++ (before ++ ((changes ++ commit) ++ behind)) ≡ ((front ++ before) ++ changes) ++ (commit ++ behind)
    regroup front before changes commit behind = simp append_assoc

pub lent_held : (selection : PublicationSet) (s : ReorderState) (o : Outgoing) → AreHeld (held_of selection s o) (lent_of s o)
lent_held selection s o =
    let behind = bytes_after selection s.strands.pool (reverse o.relations_sent.items) o.made.items o.waiting.items in
    subst (λ (l : List ℕ). AreHeld l (lent_of s o)) (append_assoc o.front.items (frames_left o) behind) (commits_held selection s.strands.pool (o.front.items ++ frames_left o) (reverse o.relations_sent.items) o.made.items o.waiting.items)

-- ---- by the records

pub sent_from-append : (selection : PublicationSet) (s : ℕ) (before m n : List Record) → sent_from selection s before (m ++ n) ≡ sent_from selection s before m ++ sent_from selection s (before ++ m) n
sent_from-append selection s before m n =
    ap (flat_map (sent_as selection)) (committed_from-append s before m n) ∙ flat_map-append (sent_as selection) (committed_from s before m) (committed_from s (before ++ m) n)

-- what is ready takes the chunks that its changes fill
pub step_fills : (selection : PublicationSet) (start : ℕ) (r : Record) (s : ReorderState) (step : RecordOutcome) → FillsReady s step
    → lent_by_step (published_by_record selection start r (readied_changes s step)) s step ≡ sent_by_record selection start r (readied_changes s step)
step_fills selection start r s steps.Quiet fills = refl
step_fills selection start r s (steps.Ready ready) fills = ap (λ (n : ℕ). map (lent_with n) (published_by_record selection start r (readied_changes s (steps.Ready ready)))) fills

-- what a record sends by what it made ready is what it sends by the records
pub sent_by_record_is : (selection : PublicationSet) (s : ℕ) (before : List Record) (r : Record) → sent_by_record selection s r (promised_changes before r.body) ≡ sent_from selection s before (r ∷ [])
sent_by_record_is selection s before r = by_body r.body refl
  where
    Same : Body → Type 0
    Same body = sent_by_record selection s (record r { body = body }) (promised_changes before body) ≡ flat_map (sent_as selection) (committed_at s before r.start r.end body ++ [])

    by_message : (t : Transaction) (chunks : ℕ) (b : Bool)
        → map (lent_with chunks) (cond b (published_as selection t ∷ []) []) ≡ cond b (lent_with chunks (published_as selection t) ∷ []) [] ++ []
    by_message t chunks true = refl
    by_message t chunks false = refl

    committed : (xid : ℕ) (time : ℤ) → Transaction
    committed xid time = record { is_note = false; start = r.start; end = r.end; time = time; xid = xid; changes = kept_changes before xid }

    by_start : (xid : ℕ) (time : ℤ) (b : Bool)
        → map (lent_with (transaction_chunks (kept_changes before xid))) (filter has_message (map (published_as selection) (cond b (committed xid time ∷ []) []))) ≡ flat_map (sent_as selection) (cond b (committed xid time ∷ []) [] ++ [])
    by_start xid time true = by_message (committed xid time) (transaction_chunks (kept_changes before xid)) (has_message (published_as selection (committed xid time)))
    by_start xid time false = refl

    by_note : (change : Change) (b : Bool) (t : Transaction) → t.is_note ≡ true → [] ≡ flat_map (sent_as selection) (cond b (t ∷ []) [] ++ [])
    by_note change true t is = rw is refl
    by_note change false t is = refl

    by_body : (body : Body) → r.body ≡ body → Same body
    by_body (Assign sub parent) is = refl
    by_body (Changed xid change) is = refl
    by_body (AbortSub xid) is = refl
    by_body (Abort xid) is = refl
    by_body (Note change) is = by_note change (nat_le s r.start) _ refl
    by_body (Commit xid time) is = by_start xid time (nat_le s r.start)
