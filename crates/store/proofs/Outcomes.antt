-- What a call answered, and what it means for the history.
use Rattle.std.proofs.Common.{◌≡◌, ℕ, cond, List, [], ◌∷◌, ◌++◌, Some, None, sym, ap, subst, ◌∙◌}
use Rattle.std.specs.Prelude.{Option, Result, Ok, Err, OnOk, OnErr, IfOk, IfErr, nat_eq}
use Rattle.store.specs.declared.store_fault.StoreFault.{StoreFault}
use Rattle.store.specs.declared.store_fault.StoreFault.TheVariants as faults
use Rattle.store.specs.declared.places.stored_place.Undo.{Undo}
use Rattle.store.specs.Slots.{Entries, CanUndo, slot_at, undone_at}
use Rattle.store.specs.History.{change_made}
use Rattle.store.specs.Keeping.{StoreState, journal_of, Put, put_all, noted_of, AreShort, Makes, IsSame, IsRefusal, IsRefusalOrMemory, RefusedOrMemory}
use Rattle.store.proofs.Storing.{ShortPuts, same_puts}

-- RESULTS

pub puts_refused : {A E : Type 0} (r : Result A E) (s new : StoreState) (top : ℕ) (ps : List Put) (slots : Entries) (undos : List Undo) → new.tables ≡ s.tables → slots ≡ put_all (Some top) ps s.slots →
    undos ≡ noted_of (Some top) ps s.slots → ShortPuts ps → OnErr r (CanUndo undos (slot_at slots) → (k : List ℕ) → slot_at new.slots k ≡ undone_at undos k (slot_at slots k)) →
    OnErr r (CanUndo undos (slot_at slots) → AreShort slots → AreShort new.slots) → OnErr r ((x : ℕ) → journal_of x new.journals ≡ journal_of x s.journals) → OnErr r (IsSame s new)
puts_refused (Ok x) s new top ps slots undos same made noted short back kept journals = tt
puts_refused (Err e) s new top ps slots undos same made noted short back kept journals =
    same_puts s new top ps slots same made short
    (subst (λ (us : List Undo). CanUndo us (slot_at slots) → (k : List ℕ) → slot_at new.slots k ≡ undone_at us k (slot_at slots k)) noted back)
    (subst (λ (us : List Undo). CanUndo us (slot_at slots) → AreShort slots → AreShort new.slots) noted kept) journals

pub puts_made : {A E : Type 0} (r : Result A E) (s new : StoreState) (top : ℕ) (ps : List Put) (slots : Entries) (undos : List Undo) → new.tables ≡ s.tables → slots ≡ put_all (Some top) ps s.slots →
    undos ≡ noted_of (Some top) ps s.slots → OnOk r (new.slots ≡ slots) →
    OnOk r ((x : ℕ) → journal_of x new.journals ≡ cond (nat_eq top x) (journal_of x s.journals ++ undos ∷ []) (journal_of x s.journals)) → OnOk r (Makes top ps s new)
puts_made (Err e) s new top ps slots undos same made noted kept journals = tt
puts_made (Ok x) s new top ps slots undos same made noted kept journals = record {
  tables = same;
  slots = kept ∙ made;
  journals = λ x. journals x ∙ ap (λ (us : List Undo). cond (nat_eq top x) (journal_of x s.journals ++ us ∷ []) (journal_of x s.journals)) noted;
}

pub on_ok : {A E : Type 0} (r : Result A E) (P Q : Type 0) → (P → Q) → OnOk r P → OnOk r Q
on_ok (Ok x) P Q f p = f p
on_ok (Err e) P Q f p = tt

pub on_err : {A E : Type 0} (r : Result A E) (P Q : Type 0) → (P → Q) → OnErr r P → OnErr r Q
on_err (Ok x) P Q f p = tt
on_err (Err e) P Q f p = f p

pub refused_by : (a b : Option StoreFault) (fault : StoreFault) → a ≡ b → IsRefusal a fault → IsRefusalOrMemory b fault
refused_by a b faults.UnknownTable same h = sym same ∙ h
refused_by a b faults.RowShape same h = sym same ∙ h
refused_by a b faults.DuplicateKey same h = sym same ∙ h
refused_by a b faults.NoSuchRow same h = sym same ∙ h
refused_by a b faults.KeyHeld same h = sym same ∙ h
refused_by a b faults.TooLarge same h = sym same ∙ h
refused_by a b faults.BadPrefix same h = sym same ∙ h
refused_by a b faults.Memory same h = absurd h

pub refused_memory : {A : Type 0} (r : Result A StoreFault) (refusal : Option StoreFault) → refusal ≡ None → IfErr r (λ fault. fault ≡ faults.Memory) → RefusedOrMemory refusal r
refused_memory (Ok x) refusal none memory = none
refused_memory (Err fault) refusal none memory = subst (IsRefusalOrMemory refusal) (sym memory) none

pub if_ok_both : {A E : Type 0} (r : Result A E) (P R : A → Type 0) (Q : Type 0) → ((x : A) → P x → Q → R x) → IfOk r P → OnOk r Q → IfOk r R
if_ok_both (Ok x) P R Q f p q = f x p q
if_ok_both (Err e) P R Q f p q = tt

pub if_ok : {A E : Type 0} (r : Result A E) (P R : A → Type 0) → ((x : A) → P x → R x) → IfOk r P → IfOk r R
if_ok (Ok x) P R f p = f x p
if_ok (Err e) P R f p = tt

pub refused_there : {A : Type 0} (r : Result A StoreFault) (refusal : Option StoreFault) (P : Type 0) → P → refusal ≡ None → IfErr r (λ fault. P → fault ≡ faults.Memory) → RefusedOrMemory refusal r
refused_there (Ok x) refusal P there none memory = none
refused_there (Err fault) refusal P there none memory = subst (IsRefusalOrMemory refusal) (sym (memory there)) none
