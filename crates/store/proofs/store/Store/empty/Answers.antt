use Rattle.std.proofs.Common.{◌≡◌, ℕ, List, [], ◌∷◌, ◌++◌, ap, subst, ◌∙◌, cond}
use Rattle.std.specs.Prelude.{nat_eq}
use Rattle.std.proofs.lemmas.Result.{err_from_is_err_and}
use Rattle.store.specs.Slots.{slot_at}
use Rattle.store.specs.Keeping.{StoreState, journal_of}
use Rattle.store.specs.Emptying.{emptied_at, AreNoted}
use Rattle.store.proofs.Refusing.{emptied_does, emptied_same}
use Rattle.store.proofs.store.Store.empty.Goals as goal

pub returns-in_err-note-clause-err : goal.returns-in_err-note-clause-err
returns-in_err-note-clause-err c =
    let p = err_from_is_err_and c.from_residual-in_err-note.result c.from_residual-in_err-note.ensures.1 in
    rw p.1 (emptied_same c.args.self.now c.note.new.self c.args.oids.now c.empty.new.self c.in_ok-undos.undos (c.note.ensures.tables ∙ ap (λ (s : StoreState). s.tables) c.self.view_is)
    (subst (λ (s : StoreState). AreNoted c.args.oids.now s.slots c.empty.new.self c.in_ok-undos.undos) c.self.view_is c.in_ok-undos.ensures.noted) c.in_err-note.ensures.undone c.in_err-note.ensures.short
    (subst (λ (s : StoreState). (x : ℕ) → journal_of x c.note.new.self.journals ≡ journal_of x s.journals) c.self.view_is c.in_err-note.ensures.same))

pub returns-clause-ok : goal.returns-clause-ok
returns-clause-ok c =
    emptied_does c.args.self.now c.note.new.self c.args.top c.args.oids.now c.empty.new.self c.in_ok-undos.undos (c.note.ensures.tables ∙ ap (λ (s : StoreState). s.tables) c.self.view_is)
    c.in_ok-note.ensures.slots
    (subst (λ (s : StoreState). (k : List ℕ) → slot_at c.empty.new.self k ≡ emptied_at c.args.top c.args.oids.now k (slot_at s.slots k)) c.self.view_is c.in_ok-undos.ensures.ok)
    (subst (λ (s : StoreState). AreNoted c.args.oids.now s.slots c.empty.new.self c.in_ok-undos.undos) c.self.view_is c.in_ok-undos.ensures.noted)
    (subst (λ (s : StoreState). (x : ℕ) → journal_of x c.note.new.self.journals ≡ cond (nat_eq c.args.top x) (journal_of x s.journals ++ c.in_ok-undos.undos ∷ []) (journal_of x s.journals)) c.self.view_is
    c.in_ok-note.ensures.journals)
