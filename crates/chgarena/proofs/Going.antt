-- A strand is read from its first chunk on.
use Rattle.std.proofs.Common.{◌≡◌, ℕ, zero, suc, ◌+◌, ◌-◌, ◌<◌, ◌≤◌, List, [], ◌∷◌, ◌++◌, length, get_or, drop, refl, sym, ap, ◌∙◌, subst, arith}
use Rattle.std.proofs.lemmas.List.{drop_all, drop_at, drop_more, get_or_append_left, length-append}
use Rattle.chgarena.specs.Books.{Books, IsRun, at, run}
use Rattle.chgarena.specs.Entries.{AreBelow, IsReading, from_on}
use Rattle.chgarena.specs.Joined.{joined_entries}
use Rattle.chgarena.specs.Links.{books}
use Rattle.chgarena.specs.declared.links.Links.{Links}

pub below_run : (b : Books) (h l r m c : ℕ) → IsRun b h l r m c → AreBelow b.chunks b.next (suc m) c
below_run b h l r zero c is = (is.0.0, tt)
below_run b h l r (suc m) c is = (is.0.0, below_run b h l (r + 1) m (at b.next c) is.1)

pub from_on_run : (next : List ℕ) (ps : List (List (List ℕ))) (m c : ℕ) → from_on next ps (suc m) c ≡ joined_entries ps (run next m c)
from_on_run next ps zero c = refl
from_on_run next ps (suc m) c = ap (λ es. get_or ps c [] ++ es) (from_on_run next ps m (at next c))

from_on_more : (next : List ℕ) (ps : List (List (List ℕ))) (left c : ℕ) → 0 < left → from_on next ps left c ≡ get_or ps c [] ++ from_on next ps (left - 1) (at next c)
from_on_more next ps zero c more = absurd (omega arith)
from_on_more next ps (suc left) c more = let e : left ≡ suc left - 1 = omega arith in ap (λ k. get_or ps c [] ++ from_on next ps k (at next c)) e

below_more : (n : ℕ) (next : List ℕ) (left c : ℕ) → 0 < left → AreBelow n next left c → (c < n) × AreBelow n next (left - 1) (at next c)
below_more n next zero c more is = absurd (omega arith)
below_more n next (suc left) c more is = let P : ℕ → Type 0 = λ k. AreBelow n next k (at next c) in let e : left ≡ suc left - 1 = omega arith in (is.0, subst P e is.1)

module _ (l : Links) (ps : List (List (List ℕ))) (chunk left given : ℕ) (is : IsReading l ps chunk left given) where
  abbrev next : List ℕ
  next = (books l).next

  pub none_left : left ≤ 0 → drop given (from_on next ps left chunk) ≡ []
  none_left end =
      let e : left ≡ 0 = omega arith in
      ap (λ k. drop given (from_on next ps k chunk)) e ∙ drop_all given [] (omega arith)

  module _ (more : 0 < left) where
    pub chunk_read : chunk < l.chunks
    chunk_read = (below_more l.chunks next left chunk more is.chunks).0

    -- the chunk has one more
    module _ (low : given < length (get_or ps chunk [])) where
      abbrev entry : List ℕ
      entry = get_or (get_or ps chunk []) given []

      pub one_given : drop given (from_on next ps left chunk) ≡ entry ∷ drop (given + 1) (from_on next ps left chunk)
      one_given =
          let all = from_on_more next ps left chunk more in
          let rest = from_on next ps (left - 1) (at next chunk) in
          let n = length-append (get_or ps chunk []) rest in
          ap (drop given) all ∙ (drop_more (get_or ps chunk [] ++ rest) given [] (omega arith) ∙
          (ap (λ e. e ∷ drop (given + 1) (get_or ps chunk [] ++ rest)) (get_or_append_left (get_or ps chunk []) rest [] given low) ∙
          ap (λ es. entry ∷ drop (given + 1) es) (sym all)))

      pub given_reading : IsReading l ps chunk left (given + 1)
      given_reading = record {
        links = is.links;
        pages = is.pages;
        chunks = is.chunks;
        within = omega arith;
      }

    -- it has none
    module _ (high : length (get_or ps chunk []) ≤ given) where
      pub next_same : drop 0 (from_on next ps (left - 1) (at next chunk)) ≡ drop given (from_on next ps left chunk)
      next_same =
          let e : length (get_or ps chunk []) ≡ given = omega (arith, is.within) in
          sym (ap (drop given) (from_on_more next ps left chunk more) ∙ drop_at (get_or ps chunk []) (from_on next ps (left - 1) (at next chunk)) given e)

      pub next_reading : IsReading l ps (at next chunk) (left - 1) 0
      next_reading = record {
        links = is.links;
        pages = is.pages;
        chunks = (below_more l.chunks next left chunk more is.chunks).1;
        within = omega arith;
      }
