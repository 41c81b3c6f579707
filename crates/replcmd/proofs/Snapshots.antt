-- What a keyword or a value says of a snapshot is what is read of it.
use Rattle.std.proofs.Common.{◌≡◌, ℕ, Bool, true, false, cond, List, Option, Some, None, refl, ap, subst, ◌∙◌}
use Rattle.std.specs.Prelude.{codes}
use Rattle.std.specs.Str.{bytes_eq}
use Rattle.replcmd.specs.declared.clauses.snapshot_clause.SnapshotClause.{SnapshotClause}
use Rattle.replcmd.specs.declared.clauses.snapshot_clause.SnapshotClause.TheVariants.{Export, Nothing, Use}
use Rattle.replcmd.specs.declared.clauses.strictness.Strictness.{Strictness}
use Rattle.replcmd.specs.declared.clauses.strictness.Strictness.TheVariants.{Strict, Lenient}
use Rattle.replcmd.specs.Words.{lower, is_keyword}
use Rattle.replcmd.specs.Snapshots.{may_say, said_snapshot, snapshot_keyword, snapshot_named, snapshot_value}
use Rattle.replcmd.proofs.Readers.{bytes_same}

pub said_is : (strictness : Strictness) (w : List ℕ) (snapshot : SnapshotClause) → said_snapshot strictness w ≡ Some snapshot → (is_keyword (snapshot_keyword snapshot) w ≡ true) × (may_say strictness snapshot ≡ true)
unfolding said_snapshot
said_is Strict w snapshot e = by_test (is_keyword (codes "NOEXPORT_SNAPSHOT") w) refl e
  where
    by_test : (t : Bool) → is_keyword (codes "NOEXPORT_SNAPSHOT") w ≡ t → cond t (Some Nothing) None ≡ Some snapshot → (is_keyword (snapshot_keyword snapshot) w ≡ true) × (may_say Strict snapshot ≡ true)
    by_test true is e =
        let same : Nothing ≡ snapshot = cc in
        subst (λ (x : SnapshotClause). (is_keyword (snapshot_keyword x) w ≡ true) × (may_say Strict x ≡ true)) same (is, refl)
    by_test false is e = absurd cc
said_is Lenient w snapshot e = by_tests (is_keyword (codes "NOEXPORT_SNAPSHOT") w) refl (is_keyword (codes "EXPORT_SNAPSHOT") w) refl (is_keyword (codes "USE_SNAPSHOT") w) refl e
  where
    so : (x : SnapshotClause) → is_keyword (snapshot_keyword x) w ≡ true → Some x ≡ Some snapshot → (is_keyword (snapshot_keyword snapshot) w ≡ true) × (may_say Lenient snapshot ≡ true)
    so x is e = let same : x ≡ snapshot = cc in (subst (λ (y : SnapshotClause). is_keyword (snapshot_keyword y) w ≡ true) same is, refl)

    by_tests : (a : Bool) → is_keyword (codes "NOEXPORT_SNAPSHOT") w ≡ a → (b : Bool) → is_keyword (codes "EXPORT_SNAPSHOT") w ≡ b → (c : Bool) → is_keyword (codes "USE_SNAPSHOT") w ≡ c
        → cond a (Some Nothing) (cond b (Some Export) (cond c (Some Use) None)) ≡ Some snapshot → (is_keyword (snapshot_keyword snapshot) w ≡ true) × (may_say Lenient snapshot ≡ true)
    by_tests true a_is b b_is c c_is e = so Nothing a_is e
    by_tests false a_is true b_is c c_is e = so Export b_is e
    by_tests false a_is false b_is true c_is e = so Use c_is e
    by_tests false a_is false b_is false c_is e = absurd cc

abbrev said_from : List ℕ → Option SnapshotClause
said_from folded =
    cond (bytes_eq folded (lower (codes "NOEXPORT_SNAPSHOT"))) (Some Nothing) (
    cond (bytes_eq folded (lower (codes "EXPORT_SNAPSHOT"))) (Some Export) (
    cond (bytes_eq folded (lower (codes "USE_SNAPSHOT"))) (Some Use) None))

pub is_said : (strictness : Strictness) (w : List ℕ) (snapshot : SnapshotClause) → may_say strictness snapshot ≡ true → is_keyword (snapshot_keyword snapshot) w ≡ true → said_snapshot strictness w ≡ Some snapshot
unfolding said_snapshot
is_said Strict w Nothing may is = rw is refl
is_said Strict w Export may is = absurd cc
is_said Strict w Use may is = absurd cc
is_said Lenient w Nothing may is = ap said_from (bytes_same (lower w) (lower (codes "NOEXPORT_SNAPSHOT")) is)
is_said Lenient w Export may is = ap said_from (bytes_same (lower w) (lower (codes "EXPORT_SNAPSHOT")) is)
is_said Lenient w Use may is = ap said_from (bytes_same (lower w) (lower (codes "USE_SNAPSHOT")) is)

pub named_is : (strictness : Strictness) (v : List ℕ) (snapshot : SnapshotClause) → snapshot_named strictness v ≡ Some snapshot → (v ≡ snapshot_value snapshot) × (may_say strictness snapshot ≡ true)
unfolding snapshot_named
named_is Strict v snapshot e = by_test (bytes_eq v (codes "nothing")) refl e
  where
    by_test : (t : Bool) → bytes_eq v (codes "nothing") ≡ t → cond t (Some Nothing) None ≡ Some snapshot → (v ≡ snapshot_value snapshot) × (may_say Strict snapshot ≡ true)
    by_test true is e =
        let same : Nothing ≡ snapshot = cc in
        subst (λ (x : SnapshotClause). (v ≡ snapshot_value x) × (may_say Strict x ≡ true)) same (bytes_same v (codes "nothing") is, refl)
    by_test false is e = absurd cc
named_is Lenient v snapshot e = by_tests (bytes_eq v (codes "nothing")) refl (bytes_eq v (codes "export")) refl (bytes_eq v (codes "use")) refl e
  where
    so : (x : SnapshotClause) → bytes_eq v (snapshot_value x) ≡ true → Some x ≡ Some snapshot → (v ≡ snapshot_value snapshot) × (may_say Lenient snapshot ≡ true)
    so x is e = let same : x ≡ snapshot = cc in (bytes_same v (snapshot_value x) is ∙ ap snapshot_value same, refl)

    by_tests : (a : Bool) → bytes_eq v (codes "nothing") ≡ a → (b : Bool) → bytes_eq v (codes "export") ≡ b → (c : Bool) → bytes_eq v (codes "use") ≡ c
        → cond a (Some Nothing) (cond b (Some Export) (cond c (Some Use) None)) ≡ Some snapshot → (v ≡ snapshot_value snapshot) × (may_say Lenient snapshot ≡ true)
    by_tests true a_is b b_is c c_is e = so Nothing a_is e
    by_tests false a_is true b_is c c_is e = so Export b_is e
    by_tests false a_is false b_is true c_is e = so Use c_is e
    by_tests false a_is false b_is false c_is e = absurd cc

pub is_named : (strictness : Strictness) (v : List ℕ) (snapshot : SnapshotClause) → may_say strictness snapshot ≡ true → v ≡ snapshot_value snapshot → snapshot_named strictness v ≡ Some snapshot
unfolding snapshot_named
is_named Strict v Nothing may is = rw is refl
is_named Strict v Export may is = absurd cc
is_named Strict v Use may is = absurd cc
is_named Lenient v Nothing may is = rw is refl
is_named Lenient v Export may is = rw is refl
is_named Lenient v Use may is = rw is refl
