-- From one subscriber to another: by no word, by one, and one stretch after the other; and why none goes further.
use Rattle.std.proofs.Common.{◌≡◌, ℕ, Bool, true, false, cond, eqb, List, [], ◌∷◌, ◌++◌, length, take, drop, Option, Some, None, Result, Ok, Err, refl, sym, ap, subst, ◌∙◌, append_assoc, inl, inr}
use Rattle.std.specs.Prelude.{◌⊎◌, nat_eq, nat_lt, IfErr}
use Rattle.std.specs.Result.{IsErrAnd}
use Rattle.std.specs.Option.{ok_or}
use Rattle.std.specs.Map.{lookup}
use Rattle.std.proofs.lemmas.List.{append-nil, take-append-drop}
use Rattle.pqformat.specs.Steps.{◌>>=◌}
use Rattle.pqformat.proofs.Codec.{ok_is}
use Rattle.pgoutput.specs.declared.logical.Logical.{Logical}
use Rattle.pgoutput.specs.declared.logical.Logical.TheVariants as logical
use Rattle.pgoutput.specs.declared.messages.begin.Begin.{Begin}
use Rattle.pgoutput.specs.declared.messages.commit.Commit.{Commit}
use Rattle.pgoutput.specs.declared.messages.message.Message.{Message}
use Rattle.pgoutput.specs.declared.messages.relation.Relation.{Relation}
use Rattle.pgoutput.specs.declared.parts.tuple.Cell.{Cell}
use Rattle.pgoutput.specs.declared.parts.old_tuple.OldTuple.{OldTuple}
use Rattle.pgoutput.specs.OldTuple.{cells_of}
use Rattle.pgoutput.specs.declared.copy_both_message.CopyBothMessage.{CopyBothMessage}
use Rattle.pgoutput.specs.declared.copy_both_message.CopyBothMessage.TheVariants as words
use Rattle.client.specs.declared.fault.ClientFault.{ClientFault}
use Rattle.client.specs.declared.fault.ClientFault.TheVariants as faults
use Rattle.client.specs.Words.{SpellsWord, AreSpelled, IsUnread}
use Rattle.client.specs.Subscriber.{Subscriber, HalfTransaction, columns_of, fits, fits_old, are_told, judgement_of_change, after_begin, after_relation, after_change, after_note, after_logical_message, after_commit, after_end, after_transaction, with_change, after_message, after_word, after_words, Makes}
use Rattle.client.specs.Taking.{Reached, Stops}

-- a step that fails, or the one after it
refused_at : {A B : Type 0} (r : Result A ClientFault) (f : A → Result B ClientFault) (e : ClientFault) → (r >>= f) ≡ Err e → (r ≡ Err e) ⊎ ((x : A) × (r ≡ Ok x) × (f x ≡ Err e))
refused_at (Ok x) f e is = inr (x, refl, is)
refused_at (Err d) f e is = let same : d ≡ e = cc in inl (ap Err same)

abbrev stepped : Bool → Result Bool ClientFault
stepped b = Ok b

-- a fault that is passed on
pub passed : {A : Type 0} (P : ClientFault → Type 0) (r : Result A ClientFault) (e : ClientFault) → IsErrAnd r (λ d. d ≡ e) → P e → IfErr r P
passed P (Ok x) e no_err holds = tt
passed P (Err d) e is holds = subst P (sym is) holds

pub step_done : (b c : Bool) → b ≡ c → stepped b ≡ stepped c
step_done b c is = ap stepped is

abbrev done : Subscriber → Result Subscriber ClientFault
done s = Ok s

same_done : (s t : Subscriber) → done s ≡ done t → s ≡ t
same_done s t e = ok_is ClientFault s t e

spelled_append : (a b : List ℕ) (ws vs : List CopyBothMessage) → AreSpelled a ws → AreSpelled b vs → AreSpelled (a ++ b) (ws ++ vs)
spelled_append a b [] vs is_a is_b = subst (λ (l : List ℕ). AreSpelled (l ++ b) vs) (sym is_a) is_b
spelled_append a b (w ∷ ws) vs is_a is_b = (is_a.0, is_a.1 ++ b, ap (λ (l : List ℕ). l ++ b) is_a.2 ∙ append_assoc is_a.0 is_a.1 b, is_a.3, spelled_append is_a.1 b ws vs is_a.4 is_b)

pub after_append : (s : Subscriber) (ws vs : List CopyBothMessage) (t : Subscriber) → after_words s ws ≡ Ok t → after_words s (ws ++ vs) ≡ after_words t vs
after_append s [] vs t e = ap (λ (u : Subscriber). after_words u vs) (same_done s t e)
after_append s (w ∷ ws) vs t e = by_word (after_word s w) e (λ u f. after_append u ws vs t f)
  where
    by_word : (r : Result Subscriber ClientFault) → (r >>= λ u. after_words u ws) ≡ Ok t → ((u : Subscriber) → after_words u ws ≡ Ok t → after_words u (ws ++ vs) ≡ after_words t vs)
        → (r >>= λ u. after_words u (ws ++ vs)) ≡ after_words t vs
    by_word (Ok u) e later = later u e
    by_word (Err f) e later = absurd cc

pub reached_none : (s : Subscriber) (bytes : List ℕ) → Reached s bytes s bytes
reached_none s bytes = record { words = []; text = []; spells = refl; is = refl; steps = refl }

pub reached_one : (s : Subscriber) (bytes : List ℕ) (w : CopyBothMessage) (n : ℕ) (t : Subscriber) → SpellsWord (take n bytes) w → after_word s w ≡ Ok t → Reached s bytes t (drop n bytes)
reached_one s bytes w n t spelled after = record {
  words = w ∷ [];
  text = take n bytes;
  spells = (take n bytes, [], sym (append-nil (take n bytes)), spelled, refl);
  is = sym (take-append-drop n bytes);
  steps = ap (λ (r : Result Subscriber ClientFault). r >>= λ u. after_words u []) after;
}

pub reached_on : (s : Subscriber) (bytes : List ℕ) (t : Subscriber) (mid more : List ℕ) (u : Subscriber) (rest : List ℕ) → Reached s bytes t mid → Reached t (mid ++ more) u rest → Reached s (bytes ++ more) u rest
reached_on s bytes t mid more u rest first then = record {
  words = first.words ++ then.words;
  text = first.text ++ then.text;
  spells = spelled_append first.text then.text first.words then.words first.spells then.spells;
  is = ap (λ (l : List ℕ). l ++ more) first.is ∙ append_assoc first.text mid more ∙ ap (λ (l : List ℕ). first.text ++ l) then.is ∙ sym (append_assoc first.text then.text rest);
  steps = after_append s first.words then.words t first.steps ∙ then.steps;
}

pub reached_more : (s : Subscriber) (bytes : List ℕ) (t : Subscriber) (mid : List ℕ) (u : Subscriber) (rest : List ℕ) → Reached s bytes t mid → Reached t mid u rest → Reached s bytes u rest
reached_more s bytes t mid u rest first then =
    subst (λ (l : List ℕ). Reached s l u rest) (append-nil bytes) (reached_on s bytes t mid [] u rest first (subst (λ (l : List ℕ). Reached t l u rest) (sym (append-nil mid)) then))

-- ---- a subscriber refuses a word for its order, for a table that wasn't told, or for where it ends, and for nothing else

abbrev IsRefusal : ClientFault → Type 0
IsRefusal faults.Order = Unit {0}
IsRefusal faults.UnknownRelation = Unit {0}
IsRefusal faults.CommitEnd = Unit {0}
IsRefusal e = ⊥

refused_columns : (tables : List (ℕ × ℕ)) (oid : ℕ) (e : ClientFault) → columns_of tables oid ≡ Err e → IsRefusal e
refused_columns tables oid e is = by_found (lookup (nat_eq oid) tables) is
  where
    by_found : (o : Option ℕ) → ok_or o faults.UnknownRelation ≡ Err e → IsRefusal e
    by_found None is = let same : faults.UnknownRelation ≡ e = cc in subst IsRefusal same tt
    by_found (Some n) is = absurd cc

abbrev fitting : Result (Unit {0}) ClientFault
fitting = Ok tt

refused_cells : (columns : ℕ) (cells : List Cell) (e : ClientFault) → fits columns cells ≡ Err e → IsRefusal e
refused_cells columns cells e is = by_test (eqb (length cells) columns) is
  where
    by_test : (b : Bool) → cond b fitting (Err faults.Order) ≡ Err e → IsRefusal e
    by_test true is = absurd cc
    by_test false is = let same : faults.Order ≡ e = cc in subst IsRefusal same tt

refused_old : (columns : ℕ) (old : Option OldTuple) (e : ClientFault) → fits_old columns old ≡ Err e → IsRefusal e
refused_old columns None e is = absurd cc
refused_old columns (Some old) e is = refused_cells columns (cells_of old) e is

refused_tables : (tables : List (ℕ × ℕ)) (oids : List ℕ) (e : ClientFault) → are_told tables oids ≡ Err e → IsRefusal e
refused_tables tables [] e is = absurd cc
refused_tables tables (oid ∷ oids) e is = elim (refused_at (columns_of tables oid) (λ _. are_told tables oids) e is) [
  | inl here ↦ refused_columns tables oid e here
  | inr later ↦ refused_tables tables oids e later.2
]

refused_change : (tables : List (ℕ × ℕ)) (m : Logical) (e : ClientFault) → judgement_of_change tables m ≡ Err e → IsRefusal e
refused_change tables (logical.Insert m) e is = elim (refused_at (columns_of tables m.oid) (λ n. fits n m.new) e is) [
  | inl here ↦ refused_columns tables m.oid e here
  | inr later ↦ refused_cells later.0 m.new e later.2
]
refused_change tables (logical.Update m) e is = elim (refused_at (columns_of tables m.oid) (λ n. fits_old n m.old >>= λ _. fits n m.new) e is) [
  | inl here ↦ refused_columns tables m.oid e here
  | inr later ↦ refused_update later.0 later.2
]
  where
    refused_update : (n : ℕ) → (fits_old n m.old >>= λ _. fits n m.new) ≡ Err e → IsRefusal e
    refused_update n is = elim (refused_at (fits_old n m.old) (λ _. fits n m.new) e is) [
      | inl here ↦ refused_old n m.old e here
      | inr later ↦ refused_cells n m.new e later.2
    ]
refused_change tables (logical.Delete m) e is = elim (refused_at (columns_of tables m.oid) (λ n. fits n (cells_of m.old)) e is) [
  | inl here ↦ refused_columns tables m.oid e here
  | inr later ↦ refused_cells later.0 (cells_of m.old) e later.2
]
refused_change tables (logical.Truncate m) e is = refused_tables tables m.oids e is
refused_change tables (logical.Message m) e is = absurd cc
refused_change tables (logical.Begin m) e is = absurd cc
refused_change tables (logical.Commit m) e is = absurd cc
refused_change tables (logical.Relation m) e is = absurd cc

out_of_order : (e : ClientFault) (r : Result Subscriber ClientFault) → r ≡ Err faults.Order → r ≡ Err e → IsRefusal e
out_of_order e r is is_e = let same : faults.Order ≡ e = cc in subst IsRefusal same tt

refused_begin : (half : Option HalfTransaction) (s : Subscriber) (m : Begin) (e : ClientFault) → after_begin half s m ≡ Err e → IsRefusal e
refused_begin None s m e is = absurd cc
refused_begin (Some half) s m e is = out_of_order e (after_begin (Some half) s m) refl is

refused_relation : (half : Option HalfTransaction) (s : Subscriber) (m : Relation) (e : ClientFault) → after_relation half s m ≡ Err e → IsRefusal e
refused_relation None s m e is = out_of_order e (after_relation None s m) refl is
refused_relation (Some half) s m e is = absurd cc

refused_commit : (half : Option HalfTransaction) (s : Subscriber) (m : Commit) (e : ClientFault) → after_commit half s m ≡ Err e → IsRefusal e
refused_commit None s m e is = out_of_order e (after_commit None s m) refl is
refused_commit (Some half) s m e is = by_test (eqb m.position half.begin.position) is
  where
    by_end : (b : Bool) → cond b (Ok (after_transaction s half m)) (Err faults.CommitEnd) ≡ Err e → IsRefusal e
    by_end true is = absurd cc
    by_end false is = let same : faults.CommitEnd ≡ e = cc in subst IsRefusal same tt

    by_test : (b : Bool) → cond b (after_end s half m) (Err faults.Order) ≡ Err e → IsRefusal e
    by_test true is = by_end (nat_lt half.begin.position m.end) is
    by_test false is = let same : faults.Order ≡ e = cc in subst IsRefusal same tt

refused_changed : (half : Option HalfTransaction) (s : Subscriber) (position : ℕ) (m : Logical) (e : ClientFault) → after_change half s position m ≡ Err e → IsRefusal e
refused_changed None s position m e is = out_of_order e (after_change None s position m) refl is
refused_changed (Some half) s position m e is = elim (refused_at (judgement_of_change s.tables m) (λ _. Ok (record s { half = Some (with_change half position m) })) e is) [
  | inl here ↦ refused_change s.tables m e here
  | inr later ↦ absurd cc
]

refused_note : (half : Option HalfTransaction) (s : Subscriber) (end : ℕ) (m : Message) (e : ClientFault) → after_note half s end m ≡ Err e → IsRefusal e
refused_note None s end m e is = absurd cc
refused_note (Some half) s end m e is = out_of_order e (after_note (Some half) s end m) refl is

refused_heard : (is_transactional : Bool) (s : Subscriber) (start end : ℕ) (m : Message) (e : ClientFault) → after_logical_message is_transactional s start end m ≡ Err e → IsRefusal e
refused_heard true s start end m e is = refused_changed s.half s start (logical.Message m) e is
refused_heard false s start end m e is = refused_note s.half s end m e is

refused_word : (s : Subscriber) (w : CopyBothMessage) (e : ClientFault) → after_word s w ≡ Err e → IsRefusal e
refused_word s (words.Keepalive k) e is = absurd cc
refused_word s (words.XLogData x) e is = by_message x.message is
  where
    by_message : (m : Logical) → after_message s x.start x.end m ≡ Err e → IsRefusal e
    by_message (logical.Begin m) is = refused_begin s.half s m e is
    by_message (logical.Relation m) is = refused_relation s.half s m e is
    by_message (logical.Commit m) is = refused_commit s.half s m e is
    by_message (logical.Insert m) is = refused_changed s.half s x.start (logical.Insert m) e is
    by_message (logical.Update m) is = refused_changed s.half s x.start (logical.Update m) e is
    by_message (logical.Delete m) is = refused_changed s.half s x.start (logical.Delete m) e is
    by_message (logical.Truncate m) is = refused_changed s.half s x.start (logical.Truncate m) e is
    by_message (logical.Message m) is = refused_heard m.is_transactional s x.start x.end m e is

-- the word at the front stops it
pub stopped : (s : Subscriber) (bytes : List ℕ) (w : CopyBothMessage) (n : ℕ) (e : ClientFault) (new : Subscriber) → SpellsWord (take n bytes) w → Makes (Err e) s new (after_word s w) → Stops e s bytes
stopped s bytes w n e new spelled made = by_fault e made
  where
    refused : (e : ClientFault) → after_word s w ≡ Err e → (v : CopyBothMessage) × (text more : List ℕ) × SpellsWord text v × (bytes ≡ text ++ more) × (after_word s v ≡ Err e)
    refused e is = (w, take n bytes, drop n bytes, spelled, sym (take-append-drop n bytes), is)

    by_fault : (e : ClientFault) → Makes (Err e) s new (after_word s w) → Stops e s bytes
    by_fault faults.Order made = refused faults.Order made.1
    by_fault faults.UnknownRelation made = refused faults.UnknownRelation made.1
    by_fault faults.CommitEnd made = refused faults.CommitEnd made.1
    by_fault faults.Memory made = tt
    by_fault faults.Frame made = absurd (refused_word s w faults.Frame made.1)
    by_fault faults.Server made = absurd (refused_word s w faults.Server made.1)

-- and so does what is no word
pub stopped_unread : (s : Subscriber) (bytes : List ℕ) (e : ClientFault) → IsUnread e bytes → Stops e s bytes
stopped_unread s bytes faults.Frame unread = unread
stopped_unread s bytes faults.Server unread = unread
stopped_unread s bytes faults.Memory unread = unread
stopped_unread s bytes faults.Order unread = absurd unread
stopped_unread s bytes faults.UnknownRelation unread = absurd unread
stopped_unread s bytes faults.CommitEnd unread = absurd unread
