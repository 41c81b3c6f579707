-- What was read up to a place of the log is what was read by the position there, and the rest is unread.
use Rattle.std.proofs.Common.{◌≡◌, ◌≤◌, ℕ, true, false, leb, List, [], ◌∷◌, ◌++◌, take, drop, refl, sym, ap, subst, ◌∙◌, arith}
use Rattle.std.specs.List.{AllByRecursion}
use Rattle.std.proofs.lemmas.Bool.{le-leb, lt-leb}
use Rattle.std.proofs.lemmas.List.{append-nil, take-append-drop}
use Rattle.wal.specs.declared.record.TheConstants.{FIRST_POSITION}
use Rattle.wal.specs.declared.record.Record.{Record}
use Rattle.wal.specs.Log.{IsWellFormedLog, IsSized, follows, end_of}
use Rattle.walsender.proofs.Sections.{all_front, all_back, followed, follows_parts, starts_below}
use Rattle.world.specs.Acting.{read_by}
use Rattle.world.specs.Acting.{unread_records}

all_read_by : (at : ℕ) (m n : List Record) → follows at m ≡ true → AllByRecursion IsSized m → (p : ℕ) → end_of at m ≤ p → read_by p (m ++ n) ≡ m ++ read_by p n
all_read_by at [] n goes sized p le = refl
all_read_by at (r ∷ m) n goes sized p le =
    let next = followed at r m goes in
    let rest = starts_below r.end m next.1 sized.1 in
    let passes : leb r.end p ≡ true = le-leb _ _ (omega (arith, rest.0)) in
    rw passes (ap (λ l. r ∷ l) (all_read_by r.end m n next.1 sized.1 p le))

none_read_by : (p : ℕ) (n : List Record) → follows p n ≡ true → AllByRecursion IsSized n → read_by p n ≡ []
none_read_by p [] goes sized = refl
none_read_by p (r ∷ n) goes sized =
    let next = followed p r n goes in
    let stops : leb r.end p ≡ false = lt-leb r.end p (omega (arith, next.0, sized.0)) in
    rw stops refl

-- the records before a place and those from it on, each as they follow
record IsParted (log m n : List Record) : Type 0 where
  whole : m ++ n ≡ log
  goes : follows FIRST_POSITION m ≡ true
  sized : AllByRecursion IsSized m
  goes_on : follows (end_of FIRST_POSITION m) n ≡ true
  sized_on : AllByRecursion IsSized n

parted : (log : List Record) (place : ℕ) → IsWellFormedLog log → IsParted log (take place log) (drop place log)
parted log place good =
    let m = take place log in
    let n = drop place log in
    let whole : m ++ n ≡ log = take-append-drop place log in
    let goes = subst (λ (l : List Record). follows FIRST_POSITION l ≡ true) (sym whole) good.follows in
    let sized = subst (λ (l : List Record). AllByRecursion IsSized l) (sym whole) good.sizes in
    let parts = follows_parts FIRST_POSITION m n goes in
    record { whole = whole; goes = parts.0; sized = all_front IsSized m n sized; goes_on = parts.1; sized_on = all_back IsSized m n sized }

pub read_by_place : (log : List Record) (place : ℕ) → IsWellFormedLog log → read_by (end_of FIRST_POSITION (take place log)) log ≡ take place log
read_by_place log place good =
    let m = take place log in
    let n = drop place log in
    let parts = parted log place good in
    ap (read_by (end_of FIRST_POSITION m)) (sym parts.whole) ∙ all_read_by FIRST_POSITION m n parts.goes parts.sized (end_of FIRST_POSITION m) (omega arith)
    ∙ ap (λ l. m ++ l) (none_read_by (end_of FIRST_POSITION m) n parts.goes_on parts.sized_on) ∙ append-nil m

none_read : (at : ℕ) (m n : List Record) → follows at m ≡ true → AllByRecursion IsSized m → (p : ℕ) → end_of at m ≤ p → unread_records p (m ++ n) ≡ unread_records p n
none_read at [] n goes sized p le = refl
none_read at (r ∷ m) n goes sized p le =
    let next = followed at r m goes in
    let rest = starts_below r.end m next.1 sized.1 in
    let passes : leb r.end p ≡ true = le-leb _ _ (omega (arith, rest.0)) in
    rw passes (none_read r.end m n next.1 sized.1 p le)

all_unread : (p : ℕ) (n : List Record) → follows p n ≡ true → AllByRecursion IsSized n → unread_records p n ≡ n
all_unread p [] goes sized = refl
all_unread p (r ∷ n) goes sized =
    let next = followed p r n goes in
    let stops : leb r.end p ≡ false = lt-leb r.end p (omega (arith, next.0, sized.0)) in
    rw stops refl

pub unread_place : (log : List Record) (place : ℕ) → IsWellFormedLog log → unread_records (end_of FIRST_POSITION (take place log)) log ≡ drop place log
unread_place log place good =
    let m = take place log in
    let n = drop place log in
    let parts = parted log place good in
    ap (unread_records (end_of FIRST_POSITION m)) (sym parts.whole) ∙ none_read FIRST_POSITION m n parts.goes parts.sized (end_of FIRST_POSITION m) (omega arith)
    ∙ all_unread (end_of FIRST_POSITION m) n parts.goes_on parts.sized_on
