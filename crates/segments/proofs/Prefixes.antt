-- One list begins another, or at some place they differ.
use Rattle.std.proofs.Common.{◌≡◌, ℕ, Bool, true, false, List, [], ◌∷◌, ◌++◌, refl, sym, ap, ◌∙◌, inl, inr, ⊎_elim}
use Rattle.std.specs.Prelude.{◌⊎◌}
use Rattle.std.specs.Str.{bytes_eq}
use Rattle.std.proofs.lemmas.Bool.{cases_eq}
use Rattle.std.proofs.lemmas.Slice.Eq.{bytes_eq-Decides}
use mathlib.Core.List.{IsPrefix}
use Rattle.segments.specs.Entries.{Written}
use Rattle.segments.specs.Crashes.{IsForged}

same : (e f : Written) → (f ≡ e) ⊎ (f ≡ e → ⊥)
same e f = ⊎_elim
    (λ (marks : f.synced ≡ e.synced). by_bodies marks (bytes_eq f.body e.body) refl)
    (λ (other : f.synced ≡ e.synced → ⊥). inr (λ is. other (ap (λ (w : Written). w.synced) is)))
    (cases_eq f.synced e.synced)
  where
    by_bodies : f.synced ≡ e.synced → (b : Bool) → bytes_eq f.body e.body ≡ b → (f ≡ e) ⊎ (f ≡ e → ⊥)
    by_bodies marks true is = inl (ap (λ (n : ℕ). record { synced = n; body = f.body }) marks ∙ ap (λ (l : List ℕ). record { synced = e.synced; body = l }) ((bytes_eq-Decides f.body e.body).0 is))
    by_bodies marks false is = inr (λ equal. let told : bytes_eq f.body e.body ≡ true = (bytes_eq-Decides f.body e.body).1 (ap (λ (w : Written). w.body) equal) in let never : false ≡ true = sym is ∙ told in cc)

pub head_same : (f e : Written) (xs ys : List Written) → f ∷ xs ≡ e ∷ ys → f ≡ e
head_same f e xs ys is = cc

pub tail_same : (f e : Written) (xs ys : List Written) → f ∷ xs ≡ e ∷ ys → xs ≡ ys
tail_same f e xs ys is = cc

pub begins_or_forged : (es found : List Written) → IsPrefix found es ⊎ IsForged es found
begins_or_forged es [] = inl (es, refl)
begins_or_forged [] (f ∷ fs) = inr (record { front = []; other = f; rest = fs; parts = refl; begins = ([], refl); differs = λ p. let is = p.1 in absurd cc })
begins_or_forged (e ∷ es) (f ∷ fs) = ⊎_elim
    (λ (is : f ≡ e). ⊎_elim
    (λ (p : IsPrefix fs es). inl (p.0, ap (λ (d : Written). d ∷ (fs ++ p.0)) is ∙ ap (λ (l : List Written). e ∷ l) p.1))
    (λ (forged : IsForged es fs). inr (record {
      front = f ∷ forged.front;
      other = forged.other;
      rest = forged.rest;
      parts = ap (λ (l : List Written). f ∷ l) forged.parts;
      begins = (forged.begins.0, ap (λ (d : Written). d ∷ (forged.front ++ forged.begins.0)) is ∙ ap (λ (l : List Written). e ∷ l) forged.begins.1);
      differs = λ p. forged.differs (p.0, tail_same f e _ es p.1);
    }))
    (begins_or_forged es fs))
    (λ (other : f ≡ e → ⊥). inr (record { front = []; other = f; rest = fs; parts = refl; begins = (e ∷ es, refl); differs = λ p. other (head_same f e p.0 es p.1) }))
    (same e f)
