-- Texts of a schema, a dot and a name.
use Rattle.std.proofs.Common.{◌≡◌, ℕ, Bool, true, false, List, [], ◌∷◌, ◌++◌, length, take, drop, refl, sym, ◌∙◌, eq-eqb}
use Rattle.std.proofs.lemmas.List.{take-append-drop}
use Rattle.std.proofs.Math.Seq.{take-append_seam}
use Rattle.std.specs.Str.{bytes_eq}
use Rattle.std.proofs.lemmas.Slice.Eq.{bytes_eq-Decides}

-- after the same beginning, what is left decides
pub bytes_eq-after : (front a b : List ℕ) → bytes_eq (front ++ a) (front ++ b) ≡ bytes_eq a b
bytes_eq-after [] a b = refl
bytes_eq-after (x ∷ front) a b = rw (eq-eqb x x refl) (bytes_eq-after front a b)

pub split_at_schema : (schema rest name text : List ℕ) (r : Bool) →
    bytes_eq (take (length schema) text) schema ≡ true → rest ≡ drop (length schema) text →
    r ≡ bytes_eq name rest → r ≡ bytes_eq (schema ++ name) text
split_at_schema schema rest name text r same is tested =
    let front : take (length schema) text ≡ schema = (bytes_eq-Decides (take (length schema) text) schema).0 same in
    let whole : text ≡ schema ++ rest = sym (take-append-drop (length schema) text) ∙ cc in
    rw (whole, bytes_eq-after schema name rest) tested

pub other_schema : (schema name text : List ℕ) → bytes_eq (take (length schema) text) schema ≡ false → bytes_eq (schema ++ name) text ≡ false
other_schema schema name text other = by_test (bytes_eq (schema ++ name) text) (λ same.
    let whole : schema ++ name ≡ text = (bytes_eq-Decides (schema ++ name) text).0 same in
    let front : take (length schema) text ≡ schema = rw (← whole) (take-append_seam schema name) in
    let found : bytes_eq (take (length schema) text) schema ≡ true = (bytes_eq-Decides (take (length schema) text) schema).1 front in
    cc)
  where
    by_test : (b : Bool) → (b ≡ true → ⊥) → b ≡ false
    by_test true f = absurd (f refl)
    by_test false f = refl
