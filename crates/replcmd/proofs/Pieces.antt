-- The pieces of which tokens are made: blanks and words, each as it is read and as it is spelled.
use Rattle.std.proofs.Common.{◌≡◌, ℕ, Bool, true, false, cond, List, [], ◌∷◌, ◌++◌, refl, ap, ◌∙◌}
use Rattle.pqformat.specs.Quoting.{begins}
use Rattle.pqformat.proofs.Quoting.{if_true, if_false}
use Rattle.replcmd.specs.Tokens.{is_blank, is_plain, Each}
use Rattle.replcmd.specs.Lexing.{after_blanks, word_of, after_word}

-- ---- blanks

abbrev pub BlanksTaken : List ℕ → List ℕ → Type 0
BlanksTaken text rest = (blanks : List ℕ) × Each is_blank blanks × (text ≡ blanks ++ rest)

pub blanks_take : (text : List ℕ) → BlanksTaken text (after_blanks text)
blanks_take [] = ([], tt, refl)
blanks_take (b ∷ bytes) = by_test (is_blank b) refl (blanks_take bytes)
  where
    by_test : (t : Bool) → is_blank b ≡ t → BlanksTaken bytes (after_blanks bytes) → BlanksTaken (b ∷ bytes) (cond t (after_blanks bytes) (b ∷ bytes))
    by_test true is inner = (b ∷ inner.0, (is, inner.1), ap (λ (l : List ℕ). b ∷ l) inner.2)
    by_test false is inner = ([], tt, refl)

pub blanks_end : (text : List ℕ) → begins is_blank (after_blanks text) ≡ false
blanks_end [] = refl
blanks_end (b ∷ bytes) = by_test (is_blank b) refl (blanks_end bytes)
  where
    by_test : (t : Bool) → is_blank b ≡ t → begins is_blank (after_blanks bytes) ≡ false → begins is_blank (cond t (after_blanks bytes) (b ∷ bytes)) ≡ false
    by_test true is inner = inner
    by_test false is inner = is

pub blanks_again : (blanks rest : List ℕ) → Each is_blank blanks → begins is_blank rest ≡ false → after_blanks (blanks ++ rest) ≡ rest
blanks_again [] [] each end = refl
blanks_again [] (b ∷ rest) each end = if_false (is_blank b) (after_blanks rest) (b ∷ rest) end
blanks_again (b ∷ blanks) rest each end = if_true (is_blank b) (after_blanks (blanks ++ rest)) (b ∷ (blanks ++ rest)) each.0 ∙ blanks_again blanks rest each.1 end

-- ---- words

pub record WordTaken (bytes word rest : List ℕ) : Type 0 where
  pub parts : bytes ≡ word ++ rest
  pub each : Each is_plain word
  pub end : begins is_plain rest ≡ false

pub word_takes : (bytes : List ℕ) → WordTaken bytes (word_of bytes) (after_word bytes)
word_takes [] = record { parts = refl; each = tt; end = refl }
word_takes (b ∷ bytes) = by_test (is_plain b) refl (word_takes bytes)
  where
    by_test : (t : Bool) → is_plain b ≡ t → WordTaken bytes (word_of bytes) (after_word bytes) → WordTaken (b ∷ bytes) (cond t (b ∷ word_of bytes) []) (cond t (after_word bytes) (b ∷ bytes))
    by_test true is inner = record { parts = ap (λ (l : List ℕ). b ∷ l) inner.parts; each = (is, inner.each); end = inner.end }
    by_test false is inner = record { parts = refl; each = tt; end = is }

pub word_again : (w rest : List ℕ) → Each is_plain w → begins is_plain rest ≡ false → (word_of (w ++ rest) ≡ w) × (after_word (w ++ rest) ≡ rest)
word_again [] [] each end = (refl, refl)
word_again [] (b ∷ rest) each end = (if_false (is_plain b) (b ∷ word_of rest) [] end, if_false (is_plain b) (after_word rest) (b ∷ rest) end)
word_again (b ∷ w) rest each end =
    let inner = word_again w rest each.1 end in (
      if_true (is_plain b) (b ∷ word_of (w ++ rest)) [] each.0 ∙ ap (λ (l : List ℕ). b ∷ l) inner.0,
      if_true (is_plain b) (after_word (w ++ rest)) (b ∷ (w ++ rest)) each.0 ∙ inner.1,
    )
