-- Reading records one by one and in batches comes to the same: exactly the blocks that all of them publish.
use Rattle.std.proofs.Common.{◌≡◌, ◌<◌, ◌+◌, zero, suc, take, get_or, ℕ, ℤ, Bool, true, false, cond, List, [], ◌∷◌, ◌++◌, Some, None, length, map, filter, refl, sym, ap, subst, ◌∙◌, append_assoc, arith}
use Rattle.std.proofs.lemmas.List.{append-nil, take_all}
use Rattle.std.proofs.lemmas.Grind.{flat_map-append}
use Rattle.std.specs.Prelude.{nat_le, slice_get}
use Rattle.std.specs.Option.{option_map}
use Rattle.std.proofs.lemmas.Option.{slice_get-get_or, slice_get-map}
use Rattle.std.specs.Global.{Global}
use Rattle.std.specs.List.{AllByRecursion}
use Rattle.pgoutput.proofs.Lists.{all_of_both}
use Rattle.std.specs.declared.sync.Arc.{Arc}
use Rattle.wal.specs.Records.{shared_records}
use Rattle.publication.specs.Publications.{PublicationSet}
use Rattle.wal.specs.declared.record.Record.{Record}
use Rattle.wal.specs.declared.record.Body.{Body}
use Rattle.wal.specs.declared.record.Body.TheVariants.{Assign, Change as Changed, AbortSub, Abort, Commit, Note}
use Rattle.tables.specs.declared.changes.change.Change.{Change}
use Rattle.wal.specs.Log.{note_as_transaction, committed_at, committed_from, end_of}
use Rattle.wal.proofs.Laws.{end_of-append, committed_from-append}
use Rattle.chgarena.specs.Strands.{fills}
use Rattle.reorder.specs.Chunks.{LeavesNoRoom}
use Rattle.reorder.specs.Taking.{HasTaken, MayCome, ReorderState, StartsBehind, promised_changes}
use Rattle.publication.specs.Selection.{relation}
use Rattle.pgoutput.specs.declared.messages.relation.Relation.{Relation}
use Rattle.pgoutput.specs.declared.published.Published.{Published}
use Rattle.pgoutput.specs.Words.{word_bytes, frames_of}
use Rattle.pgoutput.specs.Items.{Block, FitsPublished, words_of, item_words, bytes_of_items, relations_sent_by_all, relations_sent_through}
use Rattle.walsender.specs.Published.{published_transactions, published_as, published_from, published_note, has_message}
use Rattle.walsender.specs.Lent.{AreLastOf, LentTransaction, sent_transactions}
use Rattle.walsender.specs.Sending.{SenderState, Fills, IsFilled, MayFollow, HasChunks, HasRead, HasRoom, LacksRoom, blocks, published_bytes, published_by_record, sent_by_record, ReadOne, ReadAll, RanOut, OutputUnchanged, AddsPublished}
use Rattle.walsender.proofs.Lasting.{last_more, last_then, sent_by_record_is, sent_from-append}

-- ---- items after items

filter_append : {A : Type 0} (p : A → Bool) (xs ys : List A) → filter p (xs ++ ys) ≡ filter p xs ++ filter p ys
filter_append p [] ys = refl
filter_append p (x ∷ xs) ys = by_test (p x) (filter_append p xs ys)
  where
    by_test : (b : Bool) → filter p (xs ++ ys) ≡ filter p xs ++ filter p ys → cond b (x ∷ filter p (xs ++ ys)) (filter p (xs ++ ys)) ≡ cond b (x ∷ filter p xs) (filter p xs) ++ filter p ys
    by_test true e = ap (λ l. x ∷ l) e
    by_test false e = e

map_append : {A B : Type 0} (f : A → B) (xs ys : List A) → map f (xs ++ ys) ≡ map f xs ++ map f ys
map_append f [] ys = refl
map_append f (x ∷ xs) ys = ap (λ l. f x ∷ l) (map_append f xs ys)

pub published_from-append : (selection : PublicationSet) (s : ℕ) (before m n : List Record) → published_from selection s before (m ++ n) ≡ published_from selection s before m ++ published_from selection s (before ++ m) n
published_from-append selection s before m n =
    ap (λ ts. filter has_message (map (published_as selection) ts)) (committed_from-append s before m n)
    ∙ ap (filter has_message) (map_append (published_as selection) (committed_from s before m) (committed_from s (before ++ m) n))
    ∙ filter_append has_message (map (published_as selection) (committed_from s before m)) (map (published_as selection) (committed_from s (before ++ m) n))

pub relations_sent_through-append : (relations_sent : List ℕ) (a b : List Published) → relations_sent_through relations_sent (a ++ b) ≡ relations_sent_through (relations_sent_through relations_sent a) b
relations_sent_through-append relations_sent [] b = refl
relations_sent_through-append relations_sent (t ∷ a) b = relations_sent_through-append (relations_sent_by_all relations_sent t.changes) a b

-- blocks after blocks
pub spelled-blocks : (rel : ℕ → Relation) (relations_sent : List ℕ) (clock : ℤ) (a b : List Published)
    → bytes_of_items rel relations_sent (blocks clock (a ++ b)) ≡ bytes_of_items rel relations_sent (blocks clock a) ++ bytes_of_items rel (relations_sent_through relations_sent a) (blocks clock b)
spelled-blocks rel relations_sent clock [] b = refl
spelled-blocks rel relations_sent clock (t ∷ a) b =
    let first = item_words rel relations_sent (Block clock t) in
    let then = relations_sent_by_all relations_sent t.changes in
    flat_map-append word_bytes first (words_of rel then (blocks clock (a ++ b)))
    ∙ ap (λ (l : List ℕ). frames_of first ++ l) (spelled-blocks rel then clock a b)
    ∙ sym (append_assoc (frames_of first) (bytes_of_items rel then (blocks clock a)) (bytes_of_items rel (relations_sent_through then a) (blocks clock b)))
    ∙ ap (λ (l : List ℕ). l ++ bytes_of_items rel (relations_sent_through then a) (blocks clock b)) (sym (flat_map-append word_bytes first (words_of rel then (blocks clock a))))

MayFollow-front : (before m n : List Record) → MayFollow before (m ++ n) → MayFollow before m
MayFollow-front before [] n may = tt
MayFollow-front before (r ∷ m) n may = (may.0, may.1, MayFollow-front (before ++ r ∷ []) m n may.2)

MayFollow-back : (before m n : List Record) → MayFollow before (m ++ n) → MayFollow (before ++ m) n
MayFollow-back before [] n may = let P : List Record → Type 0 = λ l. MayFollow l n in subst P (sym (append-nil before)) may
MayFollow-back before (r ∷ m) n may = let P : List Record → Type 0 = λ l. MayFollow l n in subst P (append_assoc before (r ∷ []) m) (MayFollow-back (before ++ r ∷ []) m n may.2)

-- ---- one record

-- what is ready by the definition is what the record publishes
published_by_record_is : (selection : PublicationSet) (s : ℕ) (before : List Record) (r : Record) → published_by_record selection s r (promised_changes before r.body) ≡ published_from selection s before (r ∷ [])
published_by_record_is selection s before r = by_body r.body refl
  where
    Same : Body → Type 0
    Same body = published_by_record selection s (record r { body = body }) (promised_changes before body) ≡ filter has_message (map (published_as selection) (committed_at s before r.start r.end body ++ []))

    by_commit : (xid : ℕ) (time : ℤ) → Same (Commit xid time)
    by_commit xid time = ap (λ ts. filter has_message (map (published_as selection) ts)) (sym (append-nil (committed_at s before r.start r.end (Commit xid time))))

    by_note : (change : Change) (b : Bool) → cond b (published_note selection r.start r.end change) [] ≡ filter has_message (map (published_as selection) (cond b (note_as_transaction r.start r.end change ∷ []) [] ++ []))
    by_note change true = refl
    by_note change false = refl

    by_body : (body : Body) → r.body ≡ body → Same body
    by_body (Assign sub parent) is = refl
    by_body (Changed xid change) is = refl
    by_body (AbortSub xid) is = refl
    by_body (Abort xid) is = refl
    by_body (Note change) is = by_note change (nat_le s r.start)
    by_body (Commit xid time) is = by_commit xid time

pub ReadOne-ReadAll : (clock : ℤ) (old new : SenderState) (r : Record) → ReadOne clock old new r → ReadAll clock old new (r ∷ [])
ReadOne-ReadAll clock old new r one = record {
  selection = one.selection;
  start = one.start;
  position = one.position;
  after = λ before has may.
      let taken = one.takes.after before has.taken may.0 may.1 in
      let is : commits ≡ published_from old.selection old.start before (r ∷ []) = ap (published_by_record old.selection old.start r) taken.1 ∙ published_by_record_is old.selection old.start before r in
      (record { taken = taken.0; running = one.running; relations_sent = sent before has is; lent = lent before has may taken.1 }, adds before has is);
} where
  commits : List Published
  commits = published_by_record old.selection old.start r one.ready

  sent : (before : List Record) → HasRead old before → commits ≡ published_from old.selection old.start before (r ∷ []) → new.relations_sent ≡ relations_sent_through [] (published_transactions new.selection (before ++ r ∷ []) new.start)
  sent before has is =
      one.relations_sent ∙ ap (relations_sent_through old.relations_sent) is ∙ ap (λ n. relations_sent_through n (published_from old.selection old.start before (r ∷ []))) has.relations_sent
      ∙ sym (relations_sent_through-append [] (published_transactions old.selection before old.start) (published_from old.selection old.start before (r ∷ [])))
      ∙ ap (relations_sent_through []) (sym (published_from-append old.selection old.start [] before (r ∷ [])))
      ∙ ap (λ sel. relations_sent_through [] (published_transactions sel (before ++ r ∷ []) old.start)) (sym one.selection) ∙ ap (λ s. relations_sent_through [] (published_transactions new.selection (before ++ r ∷ []) s)) (sym one.start)

  lent : (before : List Record) → HasRead old before → MayFollow before (r ∷ []) → one.ready ≡ promised_changes before r.body → AreLastOf new.lent (sent_transactions new.selection (before ++ r ∷ []) new.start)
  lent before has may ready =
      let here = sent_by_record old.selection old.start r one.ready in
      let earlier = sent_transactions old.selection before old.start in
      let is : earlier ++ here ≡ sent_transactions new.selection (before ++ r ∷ []) new.start =
      ap (λ (l : List LentTransaction). earlier ++ l) (ap (sent_by_record old.selection old.start r) ready ∙ sent_by_record_is old.selection old.start before r)
      ∙ sym (sent_from-append old.selection old.start [] before (r ∷ []))
      ∙ ap (λ sel. sent_transactions sel (before ++ r ∷ []) old.start) (sym one.selection) ∙ ap (λ s. sent_transactions new.selection (before ++ r ∷ []) s) (sym one.start) in
      let P : List LentTransaction → Type 0 = λ l. AreLastOf new.lent l in
      subst P is (last_then (earlier ++ here) (old.lent ++ here) new.lent (last_more earlier old.lent here has.lent) (one.lent before has.taken may.0))

  adds : (before : List Record) → HasRead old before → commits ≡ published_from old.selection old.start before (r ∷ []) → AddsPublished clock old new.held before (r ∷ [])
  adds before has is = record {
    adds =
        one.held ∙ ap (λ ts. old.held ++ bytes_of_items (relation old.selection) old.relations_sent (blocks clock ts)) is
        ∙ ap (λ n. old.held ++ bytes_of_items (relation old.selection) n (blocks clock (published_from old.selection old.start before (r ∷ [])))) has.relations_sent;
    fit = (let P : List Published → Type 0 = λ ts. AllByRecursion (FitsPublished (relation old.selection)) ts in subst P is one.fit);
  }

-- ---- batches

pub ReadAll-append : (clock : ℤ) (a b c : SenderState) (m n : List Record) → ReadAll clock a b m → ReadAll clock b c n → ReadAll clock a c (m ++ n)
ReadAll-append clock a b c m n first second = record {
  selection = second.selection ∙ first.selection;
  start = second.start ∙ first.start;
  position = second.position ∙ ap (λ p. end_of p n) first.position ∙ sym (end_of-append a.position m n);
  after = λ before has may.
      let early = first.after before has (MayFollow-front before m n may) in
      let late = second.after (before ++ m) early.0 (MayFollow-back before m n may) in
      let P : List Record → Type 0 = λ l. HasRead c l in
      (subst P (append_assoc before m n) late.0, both before early.1 late.1);
} where
  both : (before : List Record) → AddsPublished clock a b.held before m → AddsPublished clock b c.held (before ++ m) n → AddsPublished clock a c.held before (m ++ n)
  both before adds_m adds_n =
      let P : PublicationSet → ℕ → Type 0 = λ sel s. c.held ≡ b.held ++ published_bytes sel clock (published_transactions sel (before ++ m) s) (published_from sel s (before ++ m) n) in
      let later : P a.selection a.start = rw (← first.selection, ← first.start) adds_n.adds in
      let F : PublicationSet → ℕ → Type 0 = λ sel s. AllByRecursion (FitsPublished (relation sel)) (published_from sel s (before ++ m) n) in
      let later_fit : F a.selection a.start = rw (← first.selection, ← first.start) adds_n.fit in
      let early = published_transactions a.selection before a.start in
      let one = published_from a.selection a.start before m in
      let two = published_from a.selection a.start (before ++ m) n in
      let through : relations_sent_through [] (published_transactions a.selection (before ++ m) a.start) ≡ relations_sent_through (relations_sent_through [] early) one =
      ap (relations_sent_through []) (published_from-append a.selection a.start [] before m) ∙ relations_sent_through-append [] early one in
      let bytes : c.held ≡ a.held ++ published_bytes a.selection clock early (published_from a.selection a.start before (m ++ n)) =
      later ∙ ap (λ (l : List ℕ). l ++ published_bytes a.selection clock (published_transactions a.selection (before ++ m) a.start) two) adds_m.adds
      ∙ ap (λ (relations_sent : List ℕ). (a.held ++ published_bytes a.selection clock early one) ++ bytes_of_items (relation a.selection) relations_sent (blocks clock two)) through
      ∙ append_assoc a.held (published_bytes a.selection clock early one) (bytes_of_items (relation a.selection) (relations_sent_through (relations_sent_through [] early) one) (blocks clock two))
      ∙ ap (λ (l : List ℕ). a.held ++ l) (sym (spelled-blocks (relation a.selection) (relations_sent_through [] early) clock one two) ∙ ap (λ ts. bytes_of_items (relation a.selection) (relations_sent_through [] early) (blocks clock ts)) (sym (published_from-append a.selection a.start before m n))) in
      let A : List Published → Type 0 = λ ts. AllByRecursion (FitsPublished (relation a.selection)) ts in
      record { adds = bytes; fit = subst A (sym (published_from-append a.selection a.start before m n)) (all_of_both (FitsPublished (relation a.selection)) one two adds_m.fit later_fit) }

-- ---- a loop over a batch

pub shared_more : (records : List (Arc Record Global)) (i : ℕ) (x : Arc Record Global) → i < length records → get_or records i x ≡ x → shared_records (take (i + 1) records) ≡ shared_records (take i records) ++ (x.value ∷ [])
shared_more [] i x lt is = absurd (omega arith)
shared_more (y ∷ records) zero x lt is = let same : y ≡ x = is in ap (λ z. z.value ∷ []) same
shared_more (y ∷ records) (suc i) x lt is =
    let next : suc i + 1 ≡ suc (i + 1) = omega arith in
    ap (λ n. shared_records (take n (y ∷ records))) next ∙ ap (λ l. y.value ∷ l) (shared_more records i x (omega arith) is)

shared_take : (records : List (Arc Record Global)) (i : ℕ) → shared_records (take i records) ≡ take i (shared_records records)
shared_take [] i = ap (λ (l : List (Arc Record Global)). shared_records l) (take_all i [] (omega arith)) ∙ sym (take_all i [] (omega arith))
shared_take (y ∷ records) zero = refl
shared_take (y ∷ records) (suc i) = ap (λ l. y.value ∷ l) (shared_take records i)

length_shared : (records : List (Arc Record Global)) → length (shared_records records) ≡ length records
length_shared [] = refl
length_shared (y ∷ records) = ap suc (length_shared records)

-- a batch that stops at a refused record
pub stopped_at : (clock : ℤ) (old mid stopped new : SenderState) (records : List (Arc Record Global)) (i : ℕ) → i < length records → ReadAll clock old mid (shared_records (take i records)) → OutputUnchanged mid stopped
    → new.selection ≡ stopped.selection → new.start ≡ stopped.start → new.position ≡ stopped.position → new.held ≡ stopped.held → new.failed ≡ true → RanOut clock old new (shared_records records)
stopped_at clock old mid stopped new records i lt front same selection start position held failed =
    let taken = shared_take records i in
    record {
      count = i;
      fewer = omega (arith, length_shared records);
      selection = selection ∙ same.selection ∙ front.selection;
      start = start ∙ same.start ∙ front.start;
      position = position ∙ same.position ∙ front.position ∙ ap (end_of old.position) taken;
      after =
          (let P : List Record → Type 0 = λ l. (before : List Record) → HasRead old before → MayFollow before l → AddsPublished clock old new.held before l in
          subst P taken (λ before has may. let front_adds = (front.after before has may).1 in record { adds = held ∙ same.held ∙ front_adds.adds; fit = front_adds.fit }));
      failed = failed;
    }

pub shared_at : (records : List (Arc Record Global)) (i : ℕ) (r : Arc Record Global) → i < length records → r ≡ get_or records i r → slice_get (shared_records records) i ≡ Some r.value
shared_at records i r lt is =
    slice_get-map (λ (a : Arc Record Global). a.value) records i ∙ ap (option_map (λ (a : Arc Record Global). a.value)) (slice_get-get_or records i r lt ∙ ap Some (sym is))

-- a batch is what stands before a record of it, the record, and the rest
parted : (rs : List Record) (i : ℕ) (r : Record) → slice_get rs i ≡ Some r → (rest : List Record) × (rs ≡ take i rs ++ r ∷ rest)
parted [] i r is = let never : None ≡ Some r = is in cc
parted (q ∷ rs) zero r is = let same : q ≡ r = cc in (rs, ap (λ p. p ∷ rs) same)
parted (q ∷ rs) (suc i) r is = let more = parted rs i r is in (more.0, ap (λ l. q ∷ l) more.1)

-- a batch that stops at a record: those before it have been read, and it may come
module _ (clock : ℤ) (old mid : SenderState) (records : List (Arc Record Global)) (i : ℕ) (r : Record) (lt : i < length records) (at : slice_get (shared_records records) i ≡ Some r) (front : ReadAll clock old mid (shared_records (take i records))) where
  abbrev all : List Record
  all = shared_records records

  stops : (before : List Record) → HasRead old before → MayFollow before all → HasRead mid (before ++ take i all) × MayCome (before ++ take i all) r.body × StartsBehind (before ++ take i all) r
  stops before has may =
      let taken = shared_take records i in
      let parts = parted all i r at in
      let P : List Record → Type 0 = λ l. MayFollow before l in
      let whole : MayFollow before (take i all ++ r ∷ parts.0) = subst P parts.1 may in
      let Q : List Record → Type 0 = λ l. HasRead mid (before ++ l) in (
        subst Q taken (front.after before has (subst P (sym taken) (MayFollow-front before (take i all) (r ∷ parts.0) whole))).0,
        (MayFollow-back before (take i all) (r ∷ parts.0) whole).0,
        (MayFollow-back before (take i all) (r ∷ parts.0) whole).1,
      )

  module _ (stopped new : SenderState) (same : OutputUnchanged mid stopped) (position : new.position ≡ stopped.position) (chunks : (count : ℕ) → HasChunks old count → HasChunks mid count) where
    place : new.position ≡ end_of old.position (take i all)
    place = position ∙ same.position ∙ front.position ∙ ap (end_of old.position) (shared_take records i)

    -- for which no chunk is left
    pub lacks_room : ((rs : List Record) (count : ℕ) → HasTaken mid.reorder rs → MayCome rs r.body → HasChunks mid count → LeavesNoRoom count rs r) → LacksRoom old new all
    lacks_room none = record {
      count = i;
      next = r;
      is = at;
      position = place;
      room = λ before count has may held. let s = stops before has may in none (before ++ take i all) count s.0.taken s.1 (chunks count held);
    }

    -- for which one may be left
    pub has_room : ((rs : List Record) (count : ℕ) → mid.reorder.failed ≡ false → HasTaken mid.reorder rs → MayCome rs r.body → StartsBehind rs r → HasChunks mid count → LeavesNoRoom count rs r → ⊥) → HasRoom old new all
    has_room some = record {
      count = i;
      next = r;
      is = at;
      position = place;
      room = λ before count has may held none. let s = stops before has may in some (before ++ take i all) count s.0.running s.0.taken s.1 s.2 (chunks count held) none;
    }

  -- for which the arena was full
  module _ (stopped new : SenderState) (reorder : new.reorder ≡ stopped.reorder) (lent : new.lent ≡ stopped.lent) (chunks : (count : ℕ) → HasChunks old count → HasChunks mid count) where
    pub fills_all : ((rs : List Record) (count : ℕ) → HasTaken mid.reorder rs → MayCome rs r.body → HasChunks mid count → IsFilled stopped) → Fills old new all
    fills_all full before count has may held =
        let s = stops before has may in
        let is = full (before ++ take i all) count s.0.taken s.1 (chunks count held) in
        record { all = subst (λ (m : ReorderState). fills m.strands.pool.arena ≡ length m.strands.pool.arena) (sym reorder) is.all; alone = lent ∙ is.alone }
