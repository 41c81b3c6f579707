-- Of a beginning of the words of items: which items stand whole in it, and what it makes of a subscriber.
use Rattle.std.proofs.Common.{◌≡◌, ℕ, ℤ, Bool, true, false, leb, cond, List, [], ◌∷◌, ◌++◌, map, max, Option, Some, None, Result, Ok, Err, refl, sym, ap, subst, ◌∙◌, append_assoc, inl, inr}
use Rattle.std.specs.Prelude.{◌⊎◌}
use Rattle.std.specs.List.{AllByRecursion}
use Rattle.std.proofs.lemmas.List.{append-nil}
use Rattle.pqformat.specs.Steps.{◌>>=◌}
use Rattle.pgoutput.specs.declared.logical.Logical.{Logical}
use Rattle.pgoutput.specs.declared.logical.Logical.TheVariants as logical
use Rattle.pgoutput.specs.declared.messages.relation.Relation.{Relation}
use Rattle.pgoutput.specs.declared.copy_both_message.CopyBothMessage.{CopyBothMessage}
use Rattle.pgoutput.specs.declared.copy_both_message.CopyBothMessage.TheVariants as words
use Rattle.pgoutput.specs.declared.published.Published.{Published}
use Rattle.pgoutput.specs.declared.published.PublishedChange.{PublishedChange}
use Rattle.pgoutput.proofs.Lists.{all_of_both}
use Rattle.pgoutput.specs.Items.{Item, KeepaliveItem, Block, words_by, note_words, xlogdata_word, tables_of, relations_due, relations_sent_by, relation_words, change_words, changes_words, begin_message, commit_message, item_words, words_of, relations_sent_after, IsOfChange, FitsChange, FitChanges, FitsItem, FitItems}
use Rattle.client.specs.declared.fault.ClientFault.{ClientFault}
use Rattle.client.specs.Subscriber.{Subscriber, HalfTransaction, judgement_of_change, after_begin, after_relation, after_change, with_change, after_logical_message, after_message, after_word, after_words}
use Rattle.client.specs.Law.{AreForward, position_after, gained_transactions, relations_sent_with}
use Rattle.client.proofs.Reaching.{after_append}
use Rattle.client.proofs.Blocks.{at, Told, item_goes}

-- ---- words that move nothing: all but keepalives, Commits and notes

abbrev IsQuietMessage : Logical → Type 0
IsQuietMessage (logical.Commit m) = ⊥
IsQuietMessage (logical.Message m) = m.is_transactional ≡ true
IsQuietMessage _ = Unit {0}

abbrev IsQuiet : CopyBothMessage → Type 0
IsQuiet (words.Keepalive k) = ⊥
IsQuiet (words.XLogData x) = IsQuietMessage x.message

-- the same position, and the same was applied
record Same (old new : Subscriber) : Type 0 where
  position : new.position ≡ old.position
  applied : new.applied ≡ old.applied

-- if it goes on, it is the same
abbrev KeepsStill : Subscriber → Result Subscriber ClientFault → Type 0
KeepsStill s (Ok t) = Same s t
KeepsStill s (Err e) = Unit {0}

still : (s : Subscriber) → Same s s
still s = record { position = refl; applied = refl }

begun_still : (half : Option HalfTransaction) (s : Subscriber) (m : _) → KeepsStill s (after_begin half s m)
begun_still None s m = record { position = refl; applied = refl }
begun_still (Some half) s m = tt

told_still : (half : Option HalfTransaction) (s : Subscriber) (m : Relation) → KeepsStill s (after_relation half s m)
told_still None s m = tt
told_still (Some half) s m = record { position = refl; applied = refl }

changed_still : (half : Option HalfTransaction) (s : Subscriber) (position : ℕ) (m : Logical) → KeepsStill s (after_change half s position m)
changed_still None s position m = tt
changed_still (Some half) s position m = by_judged (judgement_of_change s.tables m)
  where
    by_judged : (r : Result (Unit {0}) ClientFault) → KeepsStill s (r >>= λ _. Ok (record s { half = Some (with_change half position m) }))
    by_judged (Ok u) = record { position = refl; applied = refl }
    by_judged (Err e) = tt

message_still : (s : Subscriber) (position end : ℕ) (m : Logical) → IsQuietMessage m → KeepsStill s (after_message s position end m)
message_still s position end (logical.Begin m) quiet = begun_still s.half s m
message_still s position end (logical.Relation m) quiet = told_still s.half s m
message_still s position end (logical.Commit m) quiet = absurd quiet
message_still s position end (logical.Insert m) quiet = changed_still s.half s position (logical.Insert m)
message_still s position end (logical.Update m) quiet = changed_still s.half s position (logical.Update m)
message_still s position end (logical.Delete m) quiet = changed_still s.half s position (logical.Delete m)
message_still s position end (logical.Truncate m) quiet = changed_still s.half s position (logical.Truncate m)
message_still s position end (logical.Message m) quiet =
    subst (λ (b : Bool). KeepsStill s (after_logical_message b s position end m)) (sym quiet) (changed_still s.half s position (logical.Message m))

word_still : (s : Subscriber) (w : CopyBothMessage) → IsQuiet w → KeepsStill s (after_word s w)
word_still s (words.Keepalive k) quiet = absurd quiet
word_still s (words.XLogData x) quiet = message_still s x.start x.end x.message quiet

words_still : (s : Subscriber) (ws : List CopyBothMessage) → AllByRecursion IsQuiet ws → KeepsStill s (after_words s ws)
words_still s [] quiet = still s
words_still s (w ∷ ws) quiet = by_word (after_word s w) (word_still s w quiet.0) (λ t. words_still t ws quiet.1)
  where
    onto : (t : Subscriber) (r : Result Subscriber ClientFault) → Same s t → KeepsStill t r → KeepsStill s r
    onto t (Ok u) same more = record { position = more.position ∙ same.position; applied = more.applied ∙ same.applied }
    onto t (Err e) same more = tt

    by_word : (r : Result Subscriber ClientFault) → KeepsStill s r → ((t : Subscriber) → KeepsStill t (after_words t ws)) → KeepsStill s (r >>= λ t. after_words t ws)
    by_word (Ok t) same later = onto t (after_words t ws) same (later t)
    by_word (Err e) same later = tt

-- ---- the words of an item, but the last, are quiet

record Ending (ws : List CopyBothMessage) : Type 0 where
  front : List CopyBothMessage
  last : CopyBothMessage
  is : ws ≡ front ++ last ∷ []
  quiet : AllByRecursion IsQuiet front

relations_quiet : (relation : ℕ → Relation) (position : ℕ) (clock : ℤ) (oids : List ℕ) → AllByRecursion IsQuiet (relation_words relation position clock oids)
relations_quiet relation position clock [] = tt
relations_quiet relation position clock (oid ∷ oids) = (tt, relations_quiet relation position clock oids)

change_quiet : (relation : ℕ → Relation) (m : Logical) → IsOfChange relation m → IsQuietMessage m
change_quiet relation (logical.Insert m) of = tt
change_quiet relation (logical.Update m) of = tt
change_quiet relation (logical.Delete m) of = tt
change_quiet relation (logical.Truncate m) of = tt
change_quiet relation (logical.Message m) of = of
change_quiet relation (logical.Begin m) of = tt
change_quiet relation (logical.Commit m) of = absurd of
change_quiet relation (logical.Relation m) of = tt

changes_quiet : (relation : ℕ → Relation) (relations_sent : List ℕ) (clock : ℤ) (cs : List PublishedChange) → AllByRecursion (FitsChange relation) cs → AllByRecursion IsQuiet (changes_words relation relations_sent clock cs)
changes_quiet relation relations_sent clock [] fit = tt
changes_quiet relation relations_sent clock (c ∷ cs) fit =
    let due = relations_due relations_sent (tables_of c.message) in
    all_of_both IsQuiet (change_words relation relations_sent clock c) (changes_words relation (relations_sent_by relations_sent c) clock cs)
    (all_of_both IsQuiet (relation_words relation c.position clock due) (xlogdata_word c.position clock c.message ∷ []) (relations_quiet relation c.position clock due) (change_quiet relation c.message fit.0.of_change, tt))
    (changes_quiet relation (relations_sent_by relations_sent c) clock cs fit.1)

block_ending : (relation : ℕ → Relation) (relations_sent : List ℕ) (clock : ℤ) (t : Published) (is_note : Bool) → FitChanges is_note relation t → Ending (words_by is_note relation relations_sent clock t)
block_ending relation relations_sent clock t true fit = record {
  front = [];
  last = xlogdata_word t.end clock (logical.Message fit.message);
  is = ap (λ (cs : List PublishedChange). map (λ c. xlogdata_word t.end clock c.message) cs) fit.is;
  quiet = tt;
}
block_ending relation relations_sent clock t false fit = record {
  front = xlogdata_word t.start clock (begin_message t) ∷ changes_words relation relations_sent clock t.changes;
  last = xlogdata_word t.end clock (commit_message t);
  is = refl;
  quiet = (tt, changes_quiet relation relations_sent clock t.changes fit);
}

item_ending : (relation : ℕ → Relation) (relations_sent : List ℕ) (item : Item) → FitsItem relation item → Ending (item_words relation relations_sent item)
item_ending relation relations_sent (KeepaliveItem k) fit = record { front = []; last = words.Keepalive k; is = refl; quiet = tt }
item_ending relation relations_sent (Block clock t) fit = block_ending relation relations_sent clock t t.is_note fit.1.changes

part_quiet : (ws : List CopyBothMessage) (v : CopyBothMessage) (more front : List CopyBothMessage) (last : CopyBothMessage) → ws ++ v ∷ more ≡ front ++ last ∷ [] → AllByRecursion IsQuiet front → AllByRecursion IsQuiet ws
part_quiet [] v more front last e quiet = tt
part_quiet (w ∷ []) v more [] last e quiet = absurd cc
part_quiet (w ∷ x ∷ ws) v more [] last e quiet = absurd cc
part_quiet (w ∷ ws) v more (f ∷ front) last e quiet =
    let head : f ≡ w = cc in
    let tail : ws ++ v ∷ more ≡ front ++ last ∷ [] = cc in
    (subst IsQuiet head quiet.0, part_quiet ws v more front last tail quiet.1)

-- ---- where two lists meet

record Past (ws more xs ys : List CopyBothMessage) : Type 0 where
  rest : List CopyBothMessage
  is : ws ≡ xs ++ rest
  behind : rest ++ more ≡ ys

record Within (ws more xs ys : List CopyBothMessage) : Type 0 where
  next : CopyBothMessage
  others : List CopyBothMessage
  is : xs ≡ ws ++ next ∷ others
  behind : more ≡ next ∷ (others ++ ys)

meet : (ws more xs ys : List CopyBothMessage) → ws ++ more ≡ xs ++ ys → Past ws more xs ys ⊎ Within ws more xs ys
meet [] more [] ys e = inl (record { rest = []; is = refl; behind = e })
meet [] more (x ∷ xs) ys e = inr (record { next = x; others = xs; is = refl; behind = e })
meet (w ∷ ws) more [] ys e = inl (record { rest = w ∷ ws; is = refl; behind = e })
meet (w ∷ ws) more (x ∷ xs) ys e =
    let head : w ≡ x = cc in
    let tail : ws ++ more ≡ xs ++ ys = cc in
    elim (meet ws more xs ys tail) [
      | inl past ↦ inl (record { rest = past.rest; is = ap (λ (u : CopyBothMessage). u ∷ ws) head ∙ ap (λ (l : List CopyBothMessage). x ∷ l) past.is; behind = past.behind })
      | inr within ↦ inr (record { next = within.next; others = within.others; is = ap (λ (l : List CopyBothMessage). x ∷ l) within.is ∙ ap (λ (u : CopyBothMessage). u ∷ (ws ++ within.next ∷ within.others)) (sym head); behind = within.behind })
    ]

-- ---- items that stand whole

-- of what follows, this is a proper beginning
abbrev pub IsBegun : (ℕ → Relation) → List ℕ → List CopyBothMessage → List CopyBothMessage → List Item → Type 0
IsBegun relation relations_sent part more [] = (part ≡ []) × (more ≡ [])
IsBegun relation relations_sent part more (item ∷ items) = (next : CopyBothMessage) × (others behind : List CopyBothMessage) × (item_words relation relations_sent item ≡ part ++ next ∷ others) × (more ≡ next ∷ behind)

pub record Stands (relation : ℕ → Relation) (relations_sent : List ℕ) (p : ℕ) (a : List Published) (s : Subscriber) (ws more : List CopyBothMessage) (items : List Item) : Type 0 where
  pub done : List Item
  pub others : List Item
  pub part : List CopyBothMessage
  pub is : items ≡ done ++ others
  pub words : ws ≡ words_of relation relations_sent done ++ part
  pub begun : IsBegun relation (relations_sent_with relations_sent done) part more others
  pub new : Subscriber
  pub steps : after_words s ws ≡ Ok new
  pub position : new.position ≡ position_after p done
  pub applied : new.applied ≡ a ++ gained_transactions p done

-- what goes through as a whole goes through in part
through : (s : Subscriber) (ws vs : List CopyBothMessage) (end : Subscriber) → after_words s (ws ++ vs) ≡ Ok end → (t : Subscriber) × (after_words s ws ≡ Ok t) × (after_words t vs ≡ Ok end)
through s [] vs end e = (s, refl, e)
through s (w ∷ ws) vs end e = by_word (after_word s w) e (λ t f. through t ws vs end f)
  where
    by_word : (r : Result Subscriber ClientFault) → (r >>= λ t. after_words t (ws ++ vs)) ≡ Ok end → ((t : Subscriber) → after_words t (ws ++ vs) ≡ Ok end → (u : Subscriber) × (after_words t ws ≡ Ok u) × (after_words u vs ≡ Ok end))
        → (u : Subscriber) × ((r >>= λ t. after_words t ws) ≡ Ok u) × (after_words u vs ≡ Ok end)
    by_word (Ok t) e later = later t e
    by_word (Err f) e later = absurd cc

kept : (s t : Subscriber) (r : Result Subscriber ClientFault) → r ≡ Ok t → KeepsStill s r → Same s t
kept s t (Ok u) is same = let e : u ≡ t = cc in subst (λ (x : Subscriber). Same s x) e same
kept s t (Err e) is same = absurd cc

-- the items after one
after_one : (p : ℕ) (item : Item) (items : List Item) → position_after p (item ∷ items) ≡ position_after (position_after p (item ∷ [])) items
after_one p (KeepaliveItem k) items = refl
after_one p (Block clock t) items = refl

gained_one : (p : ℕ) (item : Item) (items : List Item) → gained_transactions p (item ∷ items) ≡ gained_transactions p (item ∷ []) ++ gained_transactions (position_after p (item ∷ [])) items
gained_one p (KeepaliveItem k) items = refl
gained_one p (Block clock t) items = ap (λ (l : List Published). l ++ gained_transactions (max p t.end) items) (sym (append-nil (cond (leb p t.start) (t ∷ []) [])))

-- one of them, and the others
forward_one : (item : Item) (items : List Item) → AreForward (item ∷ items) → AreForward (item ∷ []) × AreForward items
forward_one (KeepaliveItem k) items forward = (tt, forward)
forward_one (Block clock t) items forward = ((forward.0, tt), forward.1)

pub stands : (relation : ℕ → Relation) (relations_sent : List ℕ) (p : ℕ) (a : List Published) (tables : List (ℕ × ℕ)) (ws more : List CopyBothMessage) (items : List Item) → FitItems relation items → AreForward items → Told relation relations_sent tables
    → ws ++ more ≡ words_of relation relations_sent items → Stands relation relations_sent p a (at p a tables None) ws more items
stands relation relations_sent p a tables [] more [] fit forward told e =
    record { done = []; others = []; part = []; is = refl; words = refl; begun = (refl, e); new = at p a tables None; steps = refl; position = refl; applied = sym (append-nil a) }
stands relation relations_sent p a tables (w ∷ ws) more [] fit forward told e = absurd cc
stands relation relations_sent p a tables ws more (item ∷ items) fit forward told e =
    let both = forward_one item items forward in
    let own = item_words relation relations_sent item in
    let behind = words_of relation (relations_sent_after relations_sent item) items in
    let goes = item_goes relation relations_sent p a tables item fit.0 both.0 told in
    elim (meet ws more own behind e) [
      | inl past ↦
          let inner = stands relation (relations_sent_after relations_sent item) (position_after p (item ∷ [])) (a ++ gained_transactions p (item ∷ [])) goes.after past.rest more items fit.1 both.1 goes.told past.behind in
          record {
            done = item ∷ inner.done;
            others = inner.others;
            part = inner.part;
            is = ap (λ (l : List Item). item ∷ l) inner.is;
            words = past.is ∙ ap (λ (l : List CopyBothMessage). own ++ l) inner.words ∙ sym (append_assoc own (words_of relation (relations_sent_after relations_sent item) inner.done) inner.part);
            begun = inner.begun;
            new = inner.new;
            steps = ap (after_words (at p a tables None)) past.is ∙ after_append (at p a tables None) own past.rest (at (position_after p (item ∷ [])) (a ++ gained_transactions p (item ∷ [])) goes.after None) goes.steps ∙ inner.steps;
            position = inner.position ∙ sym (after_one p item inner.done);
            applied = inner.applied ∙ append_assoc a (gained_transactions p (item ∷ [])) (gained_transactions (position_after p (item ∷ [])) inner.done) ∙ ap (λ (l : List Published). a ++ l) (sym (gained_one p item inner.done));
          }
      | inr within ↦
          let end = at (position_after p (item ∷ [])) (a ++ gained_transactions p (item ∷ [])) goes.after None in
          let ending = item_ending relation relations_sent item fit.0 in
          let quiet = part_quiet ws within.next within.others ending.front ending.last (sym within.is ∙ ending.is) ending.quiet in
          let part = through (at p a tables None) ws (within.next ∷ within.others) end (ap (after_words (at p a tables None)) (sym within.is) ∙ goes.steps) in
          let same = kept (at p a tables None) part.0 (after_words (at p a tables None) ws) part.1 (words_still (at p a tables None) ws quiet) in
          record {
            done = [];
            others = item ∷ items;
            part = ws;
            is = refl;
            words = refl;
            begun = (within.next, within.others, within.others ++ behind, within.is, within.behind);
            new = part.0;
            steps = part.1;
            position = same.position;
            applied = same.applied ∙ sym (append-nil a);
          }
    ]

-- all of it goes through
pub all_go : (relation : ℕ → Relation) (relations_sent : List ℕ) (p : ℕ) (a : List Published) (tables : List (ℕ × ℕ)) (items : List Item) → FitItems relation items → AreForward items → Told relation relations_sent tables
    → (end : Subscriber) × (after_words (at p a tables None) (words_of relation relations_sent items) ≡ Ok end)
all_go relation relations_sent p a tables items fit forward told =
    let s = stands relation relations_sent p a tables (words_of relation relations_sent items) [] items fit forward told (append-nil (words_of relation relations_sent items)) in
    (s.new, s.steps)
