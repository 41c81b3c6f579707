-- The words of an item, and what they make of a subscriber that knows the tables whose Relation was sent.
use Rattle.std.proofs.Common.{◌≡◌, ℕ, ℤ, Bool, true, false, cond, eqb, leb, ◌||◌, List, [], ◌∷◌, ◌++◌, length, map, max, Option, Some, None, Result, Ok, Err, refl, sym, ap, subst, ◌∙◌, append_assoc, arith}
use Rattle.std.specs.Prelude.{◌<◌, nat_eq, nat_lt, pos, reverse}
use Rattle.std.specs.List.{AllByRecursion}
use Rattle.std.specs.Option.{ok_or}
use Rattle.std.specs.Map.{lookup}
use Rattle.std.proofs.lemmas.Bool.{eqb-true}
use Rattle.std.proofs.lemmas.Bool.Decides.{nat_tests}
use Rattle.std.proofs.lemmas.List.{append-nil, reverse-append}
use Rattle.indexmap.specs.IndexMap.{insert_entry}
use Rattle.pqformat.specs.Steps.{◌>>=◌}
use Rattle.pgoutput.specs.declared.logical.Logical.{Logical}
use Rattle.pgoutput.specs.declared.logical.Logical.TheVariants as logical
use Rattle.pgoutput.specs.declared.messages.begin.Begin.{Begin}
use Rattle.pgoutput.specs.declared.messages.relation.Relation.{Relation}
use Rattle.pgoutput.specs.declared.parts.tuple.Cell.{Cell}
use Rattle.pgoutput.specs.declared.parts.old_tuple.OldTuple.{OldTuple}
use Rattle.pgoutput.specs.OldTuple.{cells_of}
use Rattle.pgoutput.specs.declared.copy_both_message.CopyBothMessage.{CopyBothMessage}
use Rattle.pgoutput.specs.declared.published.Published.{Published}
use Rattle.pgoutput.specs.declared.published.PublishedChange.{PublishedChange}
use Rattle.pgoutput.specs.Items.{Item, KeepaliveItem, Block, words_by, note_words, xlogdata_word, tables_of, is_relation_sent, relations_due, relations_sent_by, relations_sent_by_all, relation_words, change_words, changes_words, commit_message, item_words, relations_sent_after, FitsRelationOf, IsOldOf, IsOfChange, FitsChange, FitsNote, FitChanges, FitsItem}
use Rattle.client.specs.declared.fault.ClientFault.{ClientFault}
use Rattle.client.specs.declared.fault.ClientFault.TheVariants.{CommitEnd, Order, UnknownRelation}
use Rattle.client.specs.Subscriber.{Subscriber, HalfTransaction, tables_with_relation, columns_of, fits, fits_old, are_told, judgement_of_change, with_change, note_of, after_logical_message, after_word, after_words}
use Rattle.client.specs.Law.{IsForward, AreForward, position_after, gained_transactions}
use Rattle.client.proofs.Reaching.{after_append}

abbrev pub at : ℕ → List Published → List (ℕ × ℕ) → Option HalfTransaction → Subscriber
at position applied tables half = record { position = position; applied = applied; tables = tables; half = half }

abbrev counted : ℕ → Result ℕ ClientFault
counted n = Ok n

abbrev gone : Subscriber → Result Subscriber ClientFault
gone s = Ok s

-- ---- the tables that were told

-- the subscriber knows how many columns these tables have
abbrev pub Told : (ℕ → Relation) → List ℕ → List (ℕ × ℕ) → Type 0
Told relation relations_sent tables = (oid : ℕ) → is_relation_sent relations_sent oid ≡ true → columns_of tables oid ≡ Ok (length (relation oid).columns)

lookup_inserted : (x k n : ℕ) (entries : List (ℕ × ℕ)) → lookup (nat_eq x) (insert_entry nat_eq entries k n) ≡ cond (eqb x k) (Some n) (lookup (nat_eq x) entries)
lookup_inserted x k n [] = by_test (eqb x k)
  where
    by_test : (b : Bool) → cond b (Some n) None ≡ cond b (Some n) None
    by_test b = refl
lookup_inserted x k n (e ∷ es) = by_key (eqb k e.0) refl (lookup_inserted x k n es)
  where
    by_key : (b : Bool) → eqb k e.0 ≡ b → lookup (nat_eq x) (insert_entry nat_eq es k n) ≡ cond (eqb x k) (Some n) (lookup (nat_eq x) es)
        → lookup (nat_eq x) (cond b ((e.0, n) ∷ es) (e ∷ insert_entry nat_eq es k n)) ≡ cond (eqb x k) (Some n) (cond (eqb x e.0) (Some e.1) (lookup (nat_eq x) es))
    by_key true is ih = grind (arith, nat_tests, is)
    by_key false is ih = grind (arith, nat_tests, is, ih)

-- one more
told_more : (relation : ℕ → Relation) (relations_sent : List ℕ) (tables : List (ℕ × ℕ)) (oid : ℕ) → FitsRelationOf relation oid → Told relation relations_sent tables
    → Told relation (oid ∷ relations_sent) (tables_with_relation tables (relation oid))
told_more relation relations_sent tables oid fits told x sent =
    ap (λ (o : Option ℕ). ok_or o UnknownRelation) (lookup_inserted x (relation oid).oid (length (relation oid).columns) tables)
    ∙ by_key (eqb x oid) refl
  where
    by_key : (b : Bool) → eqb x oid ≡ b → ok_or (cond (eqb x (relation oid).oid) (Some (length (relation oid).columns)) (lookup (nat_eq x) tables)) UnknownRelation ≡ Ok (length (relation x).columns)
    by_key true is = rw (fits.tells, is) (ap (λ (k : ℕ). counted (length (relation k).columns)) (sym (eqb-true x oid is)))
    by_key false is = rw (fits.tells, is) (told x (grind (arith, nat_tests, is, sent)))

onto_reversed : (x : ℕ) (xs ys : List ℕ) → reverse (x ∷ xs) ++ ys ≡ reverse xs ++ (x ∷ ys)
onto_reversed x xs ys = ap (λ (l : List ℕ). l ++ ys) (reverse-append (x ∷ []) xs) ∙ append_assoc (reverse xs) (x ∷ []) ys

-- a list that begins otherwise still has what it had
still_sent : (front relations_sent : List ℕ) (oid : ℕ) → is_relation_sent relations_sent oid ≡ true → is_relation_sent (front ++ relations_sent) oid ≡ true
still_sent [] relations_sent oid sent = sent
still_sent (x ∷ front) relations_sent oid sent = by_test (eqb x oid) (still_sent front relations_sent oid sent)
  where
    by_test : (b : Bool) → is_relation_sent (front ++ relations_sent) oid ≡ true → (b || is_relation_sent (front ++ relations_sent) oid) ≡ true
    by_test true ih = refl
    by_test false ih = ih

-- With the Relations that are due, those of all named tables were sent.
all_sent : (relations_sent oids : List ℕ) → AllByRecursion (λ oid. is_relation_sent (reverse (relations_due relations_sent oids) ++ relations_sent) oid ≡ true) oids
all_sent relations_sent [] = tt
all_sent relations_sent (oid ∷ oids) = by_test (is_relation_sent relations_sent oid) refl (all_sent relations_sent oids) (all_sent (oid ∷ relations_sent) oids)
  where
    Sent : List ℕ → ℕ → Type 0
    Sent due x = is_relation_sent (reverse due ++ relations_sent) x ≡ true

    onto : (due xs : List ℕ) → AllByRecursion (λ x. is_relation_sent (reverse due ++ (oid ∷ relations_sent)) x ≡ true) xs → AllByRecursion (Sent (oid ∷ due)) xs
    onto due xs all = subst (λ (l : List ℕ). AllByRecursion (λ x. is_relation_sent l x ≡ true) xs) (sym (onto_reversed oid due relations_sent)) all

    by_test : (b : Bool) → is_relation_sent relations_sent oid ≡ b → AllByRecursion (Sent (relations_due relations_sent oids)) oids
        → AllByRecursion (λ x. is_relation_sent (reverse (relations_due (oid ∷ relations_sent) oids) ++ (oid ∷ relations_sent)) x ≡ true) oids
        → AllByRecursion (Sent (cond b (relations_due relations_sent oids) (oid ∷ relations_due (oid ∷ relations_sent) oids))) (oid ∷ oids)
    by_test true is old new = (still_sent (reverse (relations_due relations_sent oids)) relations_sent oid is, old)
    by_test false is old new =
        let due = relations_due (oid ∷ relations_sent) oids in
        onto due (oid ∷ oids) (still_sent (reverse due) (oid ∷ relations_sent) oid (grind (arith, nat_tests)), new)

all_due : (P : ℕ → Type 0) (relations_sent oids : List ℕ) → AllByRecursion P oids → AllByRecursion P (relations_due relations_sent oids)
all_due P relations_sent [] all = tt
all_due P relations_sent (oid ∷ oids) all = by_test (is_relation_sent relations_sent oid) (all_due P relations_sent oids all.1) (all_due P (oid ∷ relations_sent) oids all.1)
  where
    by_test : (b : Bool) → AllByRecursion P (relations_due relations_sent oids) → AllByRecursion P (relations_due (oid ∷ relations_sent) oids) → AllByRecursion P (cond b (relations_due relations_sent oids) (oid ∷ relations_due (oid ∷ relations_sent) oids))
    by_test true old new = old
    by_test false old new = (all.0, new)

-- ---- a change

-- what words make of a subscriber inside a transaction: only what it was told, and the transaction
pub record Goes (relation : ℕ → Relation) (relations_sent : List ℕ) (s : Subscriber) (ws : List CopyBothMessage) (half : Option HalfTransaction) : Type 0 where
  pub tables : List (ℕ × ℕ)
  pub steps : after_words s ws ≡ Ok (at s.position s.applied tables half)
  pub told : Told relation relations_sent tables

relations_go : (relation : ℕ → Relation) (relations_sent : List ℕ) (p : ℕ) (a : List Published) (tables : List (ℕ × ℕ)) (half : HalfTransaction) (position : ℕ) (clock : ℤ) (oids : List ℕ)
    → AllByRecursion (FitsRelationOf relation) oids → Told relation relations_sent tables
    → Goes relation (reverse oids ++ relations_sent) (at p a tables (Some half)) (relation_words relation position clock oids) (Some half)
relations_go relation relations_sent p a tables half position clock [] fit told = record { tables = tables; steps = refl; told = told }
relations_go relation relations_sent p a tables half position clock (oid ∷ oids) fit told =
    let inner = relations_go relation (oid ∷ relations_sent) p a (tables_with_relation tables (relation oid)) half position clock oids fit.1 (told_more relation relations_sent tables oid fit.0 told) in
    record { tables = inner.tables; steps = inner.steps; told = subst (λ (l : List ℕ). Told relation l inner.tables) (sym (onto_reversed oid oids relations_sent)) inner.told }

abbrev fitting : Result (Unit {0}) ClientFault
fitting = Ok tt

cells_fit : (n : ℕ) (cells : List Cell) → length cells ≡ n → fits n cells ≡ fitting
cells_fit n cells is = by_test (eqb (length cells) n) (grind (arith, nat_tests, is))
  where
    by_test : (b : Bool) → b ≡ true → cond b fitting (Err Order) ≡ fitting
    by_test true is = refl
    by_test false is = absurd cc

abbrev IsKnown : (ℕ → Relation) → List (ℕ × ℕ) → ℕ → Type 0
IsKnown relation tables oid = columns_of tables oid ≡ Ok (length (relation oid).columns)

tables_known : (relation : ℕ → Relation) (tables : List (ℕ × ℕ)) (oids : List ℕ) → AllByRecursion (IsKnown relation tables) oids → are_told tables oids ≡ fitting
tables_known relation tables [] known = refl
tables_known relation tables (oid ∷ oids) known = rw known.0 (tables_known relation tables oids known.1)

old_fits : (relation : ℕ → Relation) (oid : ℕ) (old : Option OldTuple) → IsOldOf relation oid old → fits_old (length (relation oid).columns) old ≡ fitting
old_fits relation oid None is = refl
old_fits relation oid (Some old) is = cells_fit (length (relation oid).columns) (cells_of old) is

change_fits : (relation : ℕ → Relation) (tables : List (ℕ × ℕ)) (m : Logical) → IsOfChange relation m → AllByRecursion (IsKnown relation tables) (tables_of m) → judgement_of_change tables m ≡ fitting
change_fits relation tables (logical.Insert m) of known = rw known.0 (cells_fit (length (relation m.oid).columns) m.new of)
change_fits relation tables (logical.Update m) of known = rw (known.0, old_fits relation m.oid m.old of.0) (cells_fit (length (relation m.oid).columns) m.new of.1)
change_fits relation tables (logical.Delete m) of known = rw known.0 (cells_fit (length (relation m.oid).columns) (cells_of m.old) of)
change_fits relation tables (logical.Truncate m) of known = tables_known relation tables m.oids known
change_fits relation tables (logical.Message m) of known = refl
change_fits relation tables (logical.Begin m) of known = absurd of
change_fits relation tables (logical.Commit m) of known = absurd of
change_fits relation tables (logical.Relation m) of known = absurd of

message_goes : (relation : ℕ → Relation) (p : ℕ) (a : List Published) (tables : List (ℕ × ℕ)) (half : HalfTransaction) (position : ℕ) (clock : ℤ) (m : Logical) → IsOfChange relation m → judgement_of_change tables m ≡ fitting
    → after_word (at p a tables (Some half)) (xlogdata_word position clock m) ≡ Ok (at p a tables (Some (with_change half position m)))
message_goes relation p a tables half position clock (logical.Insert m) of fit = rw fit refl
message_goes relation p a tables half position clock (logical.Update m) of fit = rw fit refl
message_goes relation p a tables half position clock (logical.Delete m) of fit = rw fit refl
message_goes relation p a tables half position clock (logical.Truncate m) of fit = rw fit refl
message_goes relation p a tables half position clock (logical.Message m) of fit = rw of refl
message_goes relation p a tables half position clock (logical.Begin m) of fit = absurd of
message_goes relation p a tables half position clock (logical.Commit m) of fit = absurd of
message_goes relation p a tables half position clock (logical.Relation m) of fit = absurd of

all_known : (relation : ℕ → Relation) (relations_sent : List ℕ) (tables : List (ℕ × ℕ)) (oids : List ℕ) → Told relation relations_sent tables → AllByRecursion (λ oid. is_relation_sent relations_sent oid ≡ true) oids
    → AllByRecursion (IsKnown relation tables) oids
all_known relation relations_sent tables [] told sent = tt
all_known relation relations_sent tables (oid ∷ oids) told sent = (told oid sent.0, all_known relation relations_sent tables oids told sent.1)

change_goes : (relation : ℕ → Relation) (relations_sent : List ℕ) (p : ℕ) (a : List Published) (tables : List (ℕ × ℕ)) (half : HalfTransaction) (clock : ℤ) (c : PublishedChange) → FitsChange relation c → Told relation relations_sent tables
    → Goes relation (relations_sent_by relations_sent c) (at p a tables (Some half)) (change_words relation relations_sent clock c) (Some (with_change half c.position c.message))
change_goes relation relations_sent p a tables half clock c fit told =
    let oids = tables_of c.message in
    let due = relations_due relations_sent oids in
    let r = relations_go relation relations_sent p a tables half c.position clock due (all_due (FitsRelationOf relation) relations_sent oids fit.relations) told in
    let known = all_known relation (relations_sent_by relations_sent c) r.tables oids r.told (all_sent relations_sent oids) in
    let message = message_goes relation p a r.tables half c.position clock c.message fit.of_change (change_fits relation r.tables c.message fit.of_change known) in
    record {
      tables = r.tables;
      steps = after_append (at p a tables (Some half)) (relation_words relation c.position clock due) (xlogdata_word c.position clock c.message ∷ []) (at p a r.tables (Some half)) r.steps
          ∙ ap (λ (x : Result Subscriber ClientFault). x >>= λ t. after_words t []) message;
      told = r.told;
    }

changes_go : (relation : ℕ → Relation) (relations_sent : List ℕ) (p : ℕ) (a : List Published) (tables : List (ℕ × ℕ)) (begin : Begin) (before : List PublishedChange) (clock : ℤ) (cs : List PublishedChange) → AllByRecursion (FitsChange relation) cs
    → Told relation relations_sent tables
    → Goes relation (relations_sent_by_all relations_sent cs) (at p a tables (Some (record { begin = begin; changes = before }))) (changes_words relation relations_sent clock cs) (Some (record { begin = begin; changes = before ++ cs }))
changes_go relation relations_sent p a tables begin before clock [] fit told =
    record { tables = tables; steps = ap (λ (l : List PublishedChange). gone (at p a tables (Some (record { begin = begin; changes = l })))) (sym (append-nil before)); told = told }
changes_go relation relations_sent p a tables begin before clock (c ∷ cs) fit told =
    let first = change_goes relation relations_sent p a tables (record { begin = begin; changes = before }) clock c fit.0 told in
    let then = changes_go relation (relations_sent_by relations_sent c) p a first.tables begin (before ++ c ∷ []) clock cs fit.1 first.told in
    record {
      tables = then.tables;
      steps = after_append (at p a tables (Some (record { begin = begin; changes = before }))) (change_words relation relations_sent clock c) (changes_words relation (relations_sent_by relations_sent c) clock cs)
          (at p a first.tables (Some (record { begin = begin; changes = before ++ c ∷ [] }))) first.steps
          ∙ then.steps ∙ ap (λ (l : List PublishedChange). gone (at p a then.tables (Some (record { begin = begin; changes = l })))) (append_assoc before (c ∷ []) cs);
      told = then.told;
    }

-- ---- an item

-- what an item's words make of a subscriber between transactions
pub record GoesOn (relation : ℕ → Relation) (relations_sent : List ℕ) (p : ℕ) (a : List Published) (tables : List (ℕ × ℕ)) (item : Item) : Type 0 where
  pub after : List (ℕ × ℕ)
  pub steps : after_words (at p a tables None) (item_words relation relations_sent item) ≡ Ok (at (position_after p (item ∷ [])) (a ++ gained_transactions p (item ∷ [])) after None)
  pub told : Told relation (relations_sent_after relations_sent item) after

abbrev published_of : Bool → ℕ → ℕ → ℤ → ℕ → List PublishedChange → Published
published_of is_note start end time xid changes = record { is_note = is_note; start = start; end = end; time = time; xid = xid; changes = changes }

-- what was published, where it isn't applied already
abbrev new_one : ℕ → ℕ → Published → List Published
new_one p start t = cond (leb p start) (t ∷ []) []

commits : (p : ℕ) (a : List Published) (tables : List (ℕ × ℕ)) (clock : ℤ) (t : Published) → t.is_note ≡ false → t.start < t.end
    → after_word (at p a tables (Some (record { begin = record { position = t.start; time = t.time; xid = t.xid }; changes = t.changes }))) (xlogdata_word t.end clock (commit_message t))
    ≡ Ok (at (max p t.end) (a ++ new_one p t.start t) tables None)
commits p a tables clock t kind forward = by_test (eqb t.start t.start) (grind (arith, nat_tests)) ∙ by_end (nat_lt t.start t.end) (grind (arith, nat_tests, forward)) ∙ ap (λ (b : Bool). gone (after (published_of b t.start t.end t.time t.xid t.changes))) (sym kind)
  where
    after : Published → Subscriber
    after u = at (max p t.end) (a ++ new_one p t.start u) tables None

    by_end : (b : Bool) → b ≡ true → cond b (gone (after (published_of false t.start t.end t.time t.xid t.changes))) (Err CommitEnd) ≡ gone (after (published_of false t.start t.end t.time t.xid t.changes))
    by_end true is = refl
    by_end false is = absurd cc

    ended : Result Subscriber ClientFault
    ended = cond (nat_lt t.start t.end) (gone (after (published_of false t.start t.end t.time t.xid t.changes))) (Err CommitEnd)

    by_test : (b : Bool) → b ≡ true → cond b ended (Err Order) ≡ ended
    by_test true is = refl
    by_test false is = absurd cc

-- a note is as it is told
note_is : (t : Published) → t.is_note ≡ true → (fits : FitsNote t) → note_of t.end fits.message ≡ t
note_is t kind fits =
    ap (λ (n : ℕ). published_of true n t.end (pos 0) 0 (record { position = n; message = logical.Message fits.message } ∷ [])) fits.position
    ∙ ap (published_of true t.start t.end (pos 0) 0) (sym fits.is)
    ∙ ap (λ (b : Bool). published_of b t.start t.end (pos 0) 0 t.changes) (sym kind)
    ∙ ap (λ (z : ℤ). published_of t.is_note t.start t.end z 0 t.changes) (sym fits.time)
    ∙ ap (λ (n : ℕ). published_of t.is_note t.start t.end t.time n t.changes) (sym fits.xid)

notes : (p : ℕ) (a : List Published) (tables : List (ℕ × ℕ)) (clock : ℤ) (t : Published) → t.is_note ≡ true → (fits : FitsNote t)
    → after_words (at p a tables None) (note_words clock t) ≡ Ok (at (max p t.end) (a ++ new_one p t.start t) tables None)
notes p a tables clock t kind fits =
    ap (λ (cs : List PublishedChange). after_words s (map (λ c. xlogdata_word t.end clock c.message) cs)) fits.is
    ∙ ap (λ (b : Bool). after_logical_message b s t.end t.end fits.message >>= λ u. after_words u []) fits.outside
    ∙ ap (λ (n : ℕ). gone (at (max p t.end) (a ++ new_one p n (note_of t.end fits.message)) tables None)) fits.position
    ∙ ap (λ (u : Published). gone (at (max p t.end) (a ++ new_one p t.start u) tables None)) (note_is t kind fits)
  where
    s : Subscriber
    s = at p a tables None

-- what a block's words make of a subscriber between transactions
record BlockGoes (relation : ℕ → Relation) (relations_sent : List ℕ) (p : ℕ) (a : List Published) (tables : List (ℕ × ℕ)) (clock : ℤ) (t : Published) (is_note : Bool) : Type 0 where
  after : List (ℕ × ℕ)
  steps : after_words (at p a tables None) (words_by is_note relation relations_sent clock t) ≡ Ok (at (max p t.end) (a ++ new_one p t.start t) after None)
  told : Told relation (relations_sent_by_all relations_sent t.changes) after

block_goes : (relation : ℕ → Relation) (relations_sent : List ℕ) (p : ℕ) (a : List Published) (tables : List (ℕ × ℕ)) (clock : ℤ) (t : Published) (is_note : Bool) → t.is_note ≡ is_note → FitChanges is_note relation t → IsForward t → Told relation relations_sent tables
    → BlockGoes relation relations_sent p a tables clock t is_note
block_goes relation relations_sent p a tables clock t true kind fit forward told = record {
  after = tables;
  steps = notes p a tables clock t kind fit;
  told = subst (λ (cs : List PublishedChange). Told relation (relations_sent_by_all relations_sent cs) tables) (sym fit.is) told;
}
block_goes relation relations_sent p a tables clock t false kind fit forward told =
    let begin : Begin = record { position = t.start; time = t.time; xid = t.xid } in
    let changes = changes_go relation relations_sent p a tables begin [] clock t.changes fit told in
    let begun = at p a tables (Some (record { begin = begin; changes = [] })) in
    record {
      after = changes.tables;
      steps = after_append begun (changes_words relation relations_sent clock t.changes) (xlogdata_word t.end clock (commit_message t) ∷ []) (at p a changes.tables (Some (record { begin = begin; changes = t.changes }))) changes.steps
          ∙ ap (λ (x : Result Subscriber ClientFault). x >>= λ u. after_words u []) (commits p a changes.tables clock t kind (forward kind));
      told = changes.told;
    }

pub item_goes : (relation : ℕ → Relation) (relations_sent : List ℕ) (p : ℕ) (a : List Published) (tables : List (ℕ × ℕ)) (item : Item) → FitsItem relation item → AreForward (item ∷ []) → Told relation relations_sent tables → GoesOn relation relations_sent p a tables item
item_goes relation relations_sent p a tables (KeepaliveItem k) fit forward told = record { after = tables; steps = ap (λ (l : List Published). gone (at (max p k.position) l tables None)) (sym (append-nil a)); told = told }
item_goes relation relations_sent p a tables (Block clock t) fit forward told =
    let goes = block_goes relation relations_sent p a tables clock t t.is_note refl fit.1.changes forward.0 told in
    record {
      after = goes.after;
      steps = goes.steps ∙ ap (λ (l : List Published). gone (at (max p t.end) (a ++ l) goes.after None)) (sym (append-nil (new_one p t.start t)));
      told = goes.told;
    }
