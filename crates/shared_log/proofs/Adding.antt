-- A step that adds an entry keeps the rule of the book.
use Rattle.std.proofs.Common.{◌≡◌, ℕ, ◌+◌, ◌<◌, ◌==◌, Bool, true, false, List, [], ◌∷◌, ◌++◌, length, refl, ap, sym, subst, arith, inl, length-append, None}
use Rattle.std.proofs.lemmas.List.{append-nil}
use Rattle.std.proofs.lemmas.Bool.Decides.{nat_tests}
use mathlib.Core.List.{IsPrefix}
use prog.Atomic.{either}
use Rattle.logbook.specs.Pages.{Cell, cell, keeps, no_nib, step, Moves, Goes}
use Rattle.shared_log.specs.declared.histories.entry.Entry.{Entry}
use Rattle.shared_log.specs.Book.{IsKept, Adds}
use Rattle.shared_log.proofs.Prefixes.{begins_whole}

-- clients see nothing of the history, and nothing of theirs moves
abbrev pub unseen : List Entry → List Entry
unseen history = []

abbrev pub unmoved : List Entry → List Entry → ℕ → Type 0
unmoved before after answer = Unit {0}

abbrev at : List Entry → List Cell
at history = (length history, true) ∷ (0, true) ∷ []

-- by whether the word was found as it was known
goes : (history known : List Entry) (e : Entry) (count : ℕ) → length known ≡ count → IsPrefix known history → (b : Bool) → (length history == count) ≡ b
    → Goes IsKept unseen unmoved 0 (known, (no_nib, None)) (λ n. either (n == count) (count + 1) n) (Adds (step 0 count (count + 1) e) (known, (no_nib, None))) (at history) history
goes history known e count long begins true is =
    let found : length history ≡ count = grind (arith, nat_tests) in
    let whole : known ≡ history = begins_whole known history begins (omega (arith, long, found)) in
    let word : either (length history == count) (count + 1) (length history) ≡ length (history ++ e ∷ []) = rw is (omega (arith, length-append history (e ∷ []), found)) in (
      keeps,
      e ∷ [],
      None,
      tt,
      record { words = ap (λ (n : ℕ). (n, true) ∷ (0, true) ∷ []) word },
      inl (refl, refl),
      rw is (ap (λ l. l ++ e ∷ []) (sym whole)),
    )
goes history known e count long begins false is =
    let same : history ++ [] ≡ history = append-nil history in
    let word : either (length history == count) (count + 1) (length history) ≡ length (history ++ []) = rw is (ap length (sym same)) in (
      keeps,
      [],
      None,
      tt,
      record { words = ap (λ (n : ℕ). (n, true) ∷ (0, true) ∷ []) word },
      inl (refl, refl),
      rw is (ap length same),
    )

pub adds_moves : (known : List Entry) (e : Entry) (count : ℕ) → length known ≡ count
    → Moves IsKept unseen unmoved 0 (known, (no_nib, None)) (λ n. either (n == count) (count + 1) n) (Adds (step 0 count (count + 1) e) (known, (no_nib, None)))
adds_moves known e count long cells history kept begins away =
    let P : List Cell → Type 0 = λ cs. (0 < length cs) × ((cell cs 0).1 ≡ true)
    × Goes IsKept unseen unmoved 0 (known, (no_nib, None)) (λ n. either (n == count) (count + 1) n) (Adds (step 0 count (count + 1) e) (known, (no_nib, None))) cs history in
    subst P (sym kept.words) (omega arith, refl, goes history known e count long begins (length history == count) refl)
