-- The frame of a change, as it is made: its head, and the message after it.
use Rattle.std.proofs.Common.{◌≡◌, ℕ, Bool, true, false, List, [], ◌∷◌, ◌++◌, refl, ap, ◌∙◌, append_assoc}
use Rattle.std.specs.Prelude.{◌||◌}

pub head_whole : (kind letter : ℕ) (sized position clock one two three four five out : List ℕ) → one ≡ kind ∷ [] → two ≡ one ++ sized → three ≡ two ++ (letter ∷ []) → four ≡ three ++ position → five ≡ four ++ position → out ≡ five ++ clock
    → out ≡ kind ∷ (sized ++ (letter ∷ (position ++ (position ++ clock))))
head_whole kind letter sized position clock one two three four five out a b d e f g =
    let begun = kind ∷ sized in
    let lettered = begun ++ (letter ∷ []) in
    g ∙ ap (λ (l : List ℕ). l ++ clock) (f ∙ ap (λ (l : List ℕ). l ++ position) (e ∙ ap (λ (l : List ℕ). l ++ position) (d ∙ ap (λ (l : List ℕ). l ++ (letter ∷ [])) (b ∙ ap (λ (l : List ℕ). l ++ sized) a))))
    ∙ append_assoc (lettered ++ position) position clock ∙ append_assoc lettered position (position ++ clock) ∙ append_assoc begun (letter ∷ []) (position ++ (position ++ clock))

pub either : (b c : Bool) → c ≡ true → (b || c) ≡ true
either true c is = refl
either false c is = is
