-- The steps that threads take keep the rule of the log.
use Rattle.std.proofs.Common.{◌≡◌, ◌≢◌, ◌≤◌, ℕ, List, [], ◌∷◌, ◌++◌, arith, refl, ap, subst, ⊎_elim}
use Rattle.std.specs.Prelude.{slice_set}
use mathlib.Core.Option.{some}
use mathlib.Core.List.{IsPrefix}
use lib.ListN.{get_elem?}
use Rattle.atomic_table.proofs.Lists.{at_set, at_snoc}
use Rattle.logbook.specs.Pages.{Book}
use Rattle.wal.specs.declared.record.Record.{Record}
use Rattle.wal.specs.Log.{IsWellFormedLog}
use Rattle.shared_log.specs.declared.histories.edge.Edge.{Edge}
use Rattle.shared_log.specs.declared.histories.rule.View.{View}
use Rattle.shared_log.specs.Kept.{LiesFrom}
use Rattle.shared_log.specs.Sharing.{Keeps, Saw, newcomer}
use Rattle.shared_log.proofs.Prefixes.{begins_itself, begins_longer}

-- the log goes on from what it was, and its edge, and whoever made it so has seen it whole
pub goes_on : (name : Book) (seat : ℕ) (v : View) (old new : List Record) (old_edge edge : Edge) (old_kept kept : List (Record × ℕ)) (old_book book : Book) (views : List View) → Keeps name old old_edge old_kept old_book views
    → get_elem? views seat ≡ some v → IsPrefix old new → old_edge.place ≤ edge.place → IsWellFormedLog new → book ≡ name → LiesFrom new edge kept
    → (w : View) × Keeps name new edge kept book (slice_set views seat w) × Saw name v new edge kept book w
goes_on name seat v old new old_edge edge old_kept kept old_book book views keeps at longer further good named lies =
    let now : View = record { seen = new; edge = edge.place } in (
      now,
      record {
        good = good;
        lies = lies;
        named = named;
        seen = λ j u there. ⊎_elim (λ (t : (j ≡ seat) × (now ≡ u)). subst (λ (w : View). IsPrefix w.seen new) t.1 (begins_itself new))
            (λ (t : (j ≢ seat) × (get_elem? views j ≡ some u)). begins_longer u.seen old new (keeps.seen j u t.1) longer) (at_set views seat j now u there);
        moved = λ j u there. ⊎_elim (λ (t : (j ≡ seat) × (now ≡ u)). omega (arith, ap (λ (w : View). w.edge) t.1))
            (λ (t : (j ≢ seat) × (get_elem? views j ≡ some u)). omega (arith, keeps.moved j u t.1, further)) (at_set views seat j now u there);
      },
      record { longer = begins_longer v.seen old new (keeps.seen seat v at) longer; whole = refl; further = omega (arith, keeps.moved seat v at, further); from = refl; good = good; lies = lies; named = named },
    )

-- a reader comes in
pub enters : (name : Book) (seat : ℕ) (v : View) (log : List Record) (edge : Edge) (kept : List (Record × ℕ)) (book : Book) (views : List View) → Keeps name log edge kept book views → get_elem? views seat ≡ some v
    → (w : View) × Keeps name log edge kept book (slice_set views seat w) × Saw name v log edge kept book w
enters name seat v log edge kept book views keeps at = goes_on name seat v log log edge edge kept kept book book views keeps at (begins_itself log) (omega arith) keeps.good keeps.named keeps.lies

-- a new reader has seen nothing
pub admits : (name : Book) (log : List Record) (edge : Edge) (kept : List (Record × ℕ)) (book : Book) (views : List View) → Keeps name log edge kept book views → Keeps name log edge kept book (views ++ newcomer ∷ [])
admits name log edge kept book views keeps = record {
  good = keeps.good;
  lies = keeps.lies;
  named = keeps.named;
  seen = λ j u there. ⊎_elim (λ (t : get_elem? views j ≡ some u). keeps.seen j u t) (λ (t : newcomer ≡ u). subst (λ (w : View). IsPrefix w.seen log) t (log, refl)) (at_snoc views newcomer u j there);
  moved = λ j u there. ⊎_elim (λ (t : get_elem? views j ≡ some u). keeps.moved j u t) (λ (t : newcomer ≡ u). subst (λ (w : View). w.edge ≤ edge.place) t (omega arith)) (at_snoc views newcomer u j there);
}
