-- A text in quotes is read as it is spelled, and leaves a text.
use Rattle.std.proofs.Common.{◌≡◌, ℕ, ◌<◌, Bool, true, false, cond, eqb, List, [], ◌∷◌, ◌++◌, Option, None, refl, subst, ◌∙◌}
use Rattle.std.specs.Str.{IsUtf8}
use Rattle.std.proofs.lemmas.Bool.{eqb-true, eq-eqb}
use Rattle.pqformat.specs.Quoting.{with_doubled_quotes, begins, quoted_at, in_quotes}
use Rattle.pqformat.proofs.Quoting.{found, if_true, whole_takes, whole_again}
use Rattle.replcmd.proofs.Texts.{behind_ascii, quoted_is_text}
use Rattle.server.specs.Reading.{quoted_front}

inside : (t : Bool) (o : Option (List ℕ × List ℕ)) (n rest : List ℕ) → cond t o None ≡ found n rest → (t ≡ true) × (o ≡ found n rest)
inside true o n rest e = (refl, e)
inside false o n rest e = absurd cc

pub quoted_reads : (quote : ℕ) (n rest : List ℕ) → begins (λ b. eqb b quote) rest ≡ false → quoted_front quote (in_quotes quote n ++ rest) ≡ found n rest
quoted_reads quote n rest end =
    if_true (eqb quote quote) (quoted_at false quote ((with_doubled_quotes quote n ++ quote ∷ []) ++ rest)) None (eq-eqb quote quote refl)
    ∙ whole_again quote n rest end

pub quoted_spells : (quote : ℕ) (text n rest : List ℕ) → quoted_front quote text ≡ found n rest → text ≡ in_quotes quote n ++ rest
quoted_spells quote [] n rest e = absurd cc
quoted_spells quote (b ∷ bytes) n rest e =
    let both = inside (eqb b quote) (quoted_at false quote bytes) n rest e in
    (whole_takes b quote bytes n rest both.0 both.1).parts

pub quoted_leaves_text : (quote : ℕ) (text n rest : List ℕ) → quote < 128 → IsUtf8 text → quoted_front quote text ≡ found n rest → IsUtf8 rest
quoted_leaves_text quote [] n rest ascii valid e = absurd cc
quoted_leaves_text quote (b ∷ bytes) n rest ascii valid e =
    let both = inside (eqb b quote) (quoted_at false quote bytes) n rest e in
    let same = eqb-true b quote both.0 in
    (quoted_is_text quote bytes n rest ascii (behind_ascii quote bytes ascii (subst (λ (c : ℕ). IsUtf8 (c ∷ bytes)) same valid)) both.1).1
