-- Values of parameters are within what a startup has room for.
use Rattle.std.proofs.Common.{◌≡◌, ℕ, ◌+◌, ◌≤◌, Bool, true, false, cond, List, [], ◌∷◌, length, Option, Some, None, ap, arith}
use Rattle.std.specs.Prelude.{codes}
use Rattle.std.specs.Str.{bytes_eq}
use Rattle.std.specs.List.{flat_map}
use Rattle.std.proofs.lemmas.List.{length-append}
use Rattle.std.proofs.lemmas.List.Concat.{flat_map-cons}
use Rattle.frames.specs.declared.frontend.parameter.Parameter.{Parameter}
use Rattle.pqformat.specs.Fields.{string}
use Rattle.pqformat.specs.Steps.{closed_list}
use Rattle.frames.specs.Parameter.{parameter}
use Rattle.server.specs.Opening.{latest, value_of, first_of}

abbrev IsWithin : ℕ → Option (List ℕ) → Type 0
IsWithin most (Some v) = length v ≤ most
IsWithin most None = Unit {0}

long_parameter : (p : Parameter) (ps : List Parameter) → length (flat_map parameter (p ∷ ps)) ≡ length p.name + length p.value + 2 + length (flat_map parameter ps)
long_parameter p ps =
    omega (arith, ap length (flat_map-cons parameter p ps), length-append (parameter p) (flat_map parameter ps), length-append (string p.name) (string p.value), length-append p.name (0 ∷ []), length-append p.value (0 ∷ []))

latest_within : (most : ℕ) (name : List ℕ) (found : Option (List ℕ)) (ps : List Parameter) → IsWithin most found → length (flat_map parameter ps) ≤ most → IsWithin most (latest name found ps)
latest_within most name found [] within short = within
latest_within most name found (p ∷ ps) within short =
    by_test (bytes_eq p.name name) (λ kept is_within. latest_within most name kept ps is_within (omega (arith, short, long_parameter p ps)))
  where
    by_test : (b : Bool) → ((kept : Option (List ℕ)) → IsWithin most kept → IsWithin most (latest name kept ps)) → IsWithin most (latest name (cond b (Some p.value) found) ps)
    by_test true inner = inner (Some p.value) (omega (arith, short, long_parameter p ps))
    by_test false inner = inner found within

pub name_within : (most : ℕ) (ps : List Parameter) → length (closed_list parameter ps) ≤ most → length (first_of (value_of (codes "database") ps) (value_of (codes "user") ps)) ≤ most
name_within most ps short = by_value (value_of (codes "database") ps) (value_of (codes "user") ps) (all (codes "database")) (all (codes "user"))
  where
    all : (name : List ℕ) → IsWithin most (value_of name ps)
    all name = latest_within most name None ps tt (omega (arith, short, length-append (flat_map parameter ps) (0 ∷ [])))

    by_value : (a b : Option (List ℕ)) → IsWithin most a → IsWithin most b → length (first_of a b) ≤ most
    by_value (Some v) b within other = within
    by_value None (Some v) within other = other
    by_value None None within other = omega arith
