-- What a write at the end of a file, and a cut, make of its content.
use Rattle.std.proofs.Common.{◌≡◌, ℕ, ◌+◌, ◌-◌, ◌<◌, ◌≤◌, false, List, [], ◌∷◌, ◌++◌, length, get_or, drop, take, Result, Ok, Err, OnOk, refl, sym, ap, ◌∙◌, append_assoc, arith, inl, inr}
use Rattle.std.specs.Result.{is_err}
use Rattle.std.specs.List.{AllByRecursion}
use Rattle.std.proofs.lemmas.Bool.{cases_lt}
use Rattle.std.proofs.lemmas.Grind.{flat_map-append}
use Rattle.std.proofs.lemmas.List.{append-nil, ext_get_or, get_or_append_left, get_or-append_right, get_or-take, length-append, length-take, take-append-drop}
use Rattle.sqlite_disk.specs.Disk.{Cut, Holds, Torn}
use Rattle.segments.specs.Crashes.{Begins}
use Rattle.segments.specs.Entries.{Fits, Written, entries, entry, header}

pub succeeded : {A E : Type 0} (r : Result A E) (P : Type 0) → is_err r ≡ false → OnOk r P → P
succeeded (Ok a) P is p = p
succeeded (Err e) P is p = absurd cc

-- bytes that were written at the end stand after what was there
pub appended : (old new bytes : List ℕ) (at : ℕ) → at ≡ length old → Torn at (length bytes) old new → Holds new at bytes → new ≡ old ++ bytes
appended old new bytes at is torn holds = ext_get_or 0 new (old ++ bytes) size each
  where
    size : length new ≡ length (old ++ bytes)
    size = omega (arith, is, torn.no_longer, holds.within, length-append old bytes)

    each : (i : ℕ) → i < length new → get_or new i 0 ≡ get_or (old ++ bytes) i 0
    each i within = elim (cases_lt i (length old)) [
      | inl low ↦ torn.below i low (omega (arith, low, is)) ∙ sym (get_or_append_left old bytes 0 i low)
      | inr high ↦
          let there : at + (i - length old) ≡ i = omega (arith, is, high) in
          ap (λ (n : ℕ). get_or new n 0) (sym there) ∙ holds.each (i - length old) (omega (arith, high, within, size, length-append old bytes)) ∙ sym (get_or-append_right old bytes (length old) i 0 refl high)
    ]

-- a file that was cut has its front
pub cut_off : (old new : List ℕ) (n : ℕ) → n ≤ length old → Cut n old new → length new ≡ n → new ≡ take n old
cut_off old new n low cut is = ext_get_or 0 new (take n old) (omega (arith, is, low, length-take n old)) (λ i within.
    cut.below i (omega (arith, within, is, low)) (omega (arith, within, is)) ∙ sym (get_or-take n old i 0 (omega (arith, within, is))))

-- ONE ENTRY MORE

pub entries-more : (key : ℕ) (es : List Written) (e : Written) → entries key (es ++ e ∷ []) ≡ entries key es ++ entry key e
entries-more key es e = flat_map-append (entry key) es (e ∷ []) ∙ ap (λ (l : List ℕ). entries key es ++ l) (append-nil (entry key e))

pub fit-more : (key : ℕ) (es : List Written) (e : Written) → AllByRecursion (Fits key) es → Fits key e → AllByRecursion (Fits key) (es ++ e ∷ [])
fit-more key [] e all fits = (fits, tt)
fit-more key (d ∷ es) e all fits = (all.0, fit-more key es e all.1 fits)

pub file-more : (key : ℕ) (es : List Written) (e : Written) (old new : List ℕ) → old ≡ header key ++ entries key es → new ≡ old ++ entry key e → new ≡ header key ++ entries key (es ++ e ∷ [])
file-more key es e old new is more =
    more ∙ ap (λ (l : List ℕ). l ++ entry key e) is ∙ append_assoc (header key) (entries key es) (entry key e) ∙ ap (λ (l : List ℕ). header key ++ l) (sym (entries-more key es e))

-- WHAT A CONTENT BEGINS WITH

pub begins_as : (front content : List ℕ) → Begins front content → content ≡ front ++ drop (length front) content
begins_as front content b =
    let same : take (length front) content ≡ front = ext_get_or 0 (take (length front) content) front (omega (arith, length-take (length front) content, b.whole)) (λ i within.
    let low : i < length front = omega (arith, within, length-take (length front) content) in
    get_or-take (length front) content i 0 low ∙ b.each i low) in
    sym (take-append-drop (length front) content) ∙ ap (λ (l : List ℕ). l ++ drop (length front) content) same

pub begins_itself : (front content : List ℕ) → front ≡ content → Begins front content
begins_itself front content is = record { whole = omega (arith, ap length is); each = λ i low. ap (λ (l : List ℕ). get_or l i 0) (sym is) }
