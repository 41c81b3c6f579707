use Rattle.std.proofs.Common.{◌≡◌, subst, ◌∙◌, ap, List, [], ◌∷◌, ℕ, Some}
use Rattle.std.specs.Prelude.{OnErr}
use Rattle.store.specs.Slots.{Entries}
use Rattle.store.specs.Keeping.{StoreState, Put, journal_of, put_all, noted_of}
use Rattle.store.proofs.Outcomes.{puts_refused}
use Rattle.store.proofs.store.Store.put_one.Goals as goal

pub returns-clause-err : goal.returns-clause-err
returns-clause-err c =
    let ps : List Put = (c.args.place.now, c.args.row) ∷ [] in
    let shown = ap (λ (s : StoreState). s.slots) c.self.view_is in
    puts_refused c.note.result c.args.self.now c.note.new.self c.args.top ps c.put_one.new.self c.in_ok-undos.undos
    (c.note.ensures.tables ∙ ap (λ (s : StoreState). s.tables) c.self.view_is)
    (c.in_ok-undos.ensures.ok ∙ ap (λ (k : List ℕ). put_all (Some c.args.top) ((k, c.args.row) ∷ []) c.self.inside.slots) c.as_bytes.ensures ∙ ap (λ (es : Entries). put_all (Some c.args.top) ps es) shown)
    (c.in_ok-undos.ensures.noted ∙ ap (λ (k : List ℕ). noted_of (Some c.args.top) ((k, c.args.row) ∷ []) c.self.inside.slots) c.as_bytes.ensures ∙ ap (λ (es : Entries). noted_of (Some c.args.top) ps es) shown)
    (c.requires, tt)
    c.note.ensures.undone c.note.ensures.short
    (subst (λ (s : StoreState). OnErr c.note.result ((x : ℕ) → journal_of x c.note.new.self.journals ≡ journal_of x s.journals)) c.self.view_is c.note.ensures.same)
