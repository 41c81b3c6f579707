-- What a reader finds of the end of a log that lies in memory.
use Rattle.std.proofs.Common.{◌≡◌, ◌≢◌, ◌+◌, ◌-◌, ◌≤◌, ◌<◌, ◌⊎◌, ℕ, zero, suc, Bool, true, false, cond, ◌&&◌, List, [], ◌∷◌, ◌++◌, Option, Some, None, length, take, drop, get_or, min, refl, sym, ap, subst, ◌∙◌, arith, length-append, ⊎_elim}
use Rattle.std.specs.Prelude.{nat_le}
use Rattle.std.specs.List.{AllByRecursion}
use Rattle.std.proofs.lemmas.Bool.{lt-leb}
use Rattle.std.proofs.lemmas.List.{drop_min, length-drop, length-map, length-take, length-take-le, take-append-drop, take-take, take_min}
use Rattle.wal.specs.declared.record.TheConstants.{FIRST_POSITION}
use Rattle.wal.specs.declared.record.Record.{Record}
use Rattle.wal.specs.Log.{IsSized, IsWellFormedLog, end_of, follows}
use Rattle.wal.specs.Restart.{first_place, is_in_progress, oldest, place_from, restart, restart_place}
use Rattle.wal.proofs.Laws.{end_of-append, follows-append}
use Rattle.wal.proofs.Restarts.{within as within_log}
use Rattle.shared_log.specs.declared.histories.copy.Logged.{Logged}
use Rattle.shared_log.specs.declared.histories.edge.Edge.{Edge}
use mathlib.Core.List.{IsPrefix}
use Rattle.shared_log.specs.declared.fault.ReadFault.{ReadFault}
use Rattle.shared_log.specs.declared.fault.ReadFault.TheVariants as reads
use Rattle.shared_log.specs.declared.following.reader.LogReader.{LogReader}
use Rattle.shared_log.specs.Readers.{HasSeen, seen_of}
use Rattle.shared_log.specs.Removed.{IsUnread}
use Rattle.shared_log.specs.declared.histories.entry.Entry.{Entry}
use Rattle.shared_log.specs.declared.histories.entry.Entry.TheVariants.{Offered, Confirmed}
use Rattle.shared_log.specs.SeenPrefixes.{one_of, open_from, settled_from, settled_records, shown_records}
use Rattle.shared_log.specs.Kept.{LiesFrom, kept_in, records_in, with_restarts_from}
use Rattle.shared_log.proofs.Kept.{all_front, end_at, follows-front, records_of, records_part, restart_at, starts_at}

-- ---- Parts of a list.

take_none : (n : ℕ) → take {A = Record} n [] ≡ []
take_none zero = refl
take_none (suc n) = refl

drop_none : (n : ℕ) → drop {A = Record} n [] ≡ []
drop_none zero = refl
drop_none (suc n) = refl

pub take_add : (n m : ℕ) (log : List Record) → take (n + m) log ≡ take n log ++ take m (drop n log)
take_add zero m log = ap (λ (k : ℕ). take k log) (omega arith)
take_add (suc n) m [] = take_none (suc n + m) ∙ sym (take_none m)
take_add (suc n) m (r ∷ log) = let on : suc n + m ≡ suc (n + m) = omega arith in ap (λ (k : ℕ). take k (r ∷ log)) on ∙ ap (λ (l : List Record). r ∷ l) (take_add n m log)

pub drop_add : (n m : ℕ) (log : List Record) → drop m (drop n log) ≡ drop (n + m) log
drop_add zero m log = ap (λ (k : ℕ). drop k log) (omega arith)
drop_add (suc n) m [] = drop_none m ∙ sym (drop_none (suc n + m))
drop_add (suc n) m (r ∷ log) = let on : suc n + m ≡ suc (n + m) = omega arith in drop_add n m log ∙ ap (λ (k : ℕ). drop k (r ∷ log)) (sym on)

-- ---- The records there.

pub records_lie : (log : List Record) (edge : Edge) (items : List Logged) → LiesFrom log edge (kept_in items) → records_in items ≡ drop edge.place log
records_lie log edge items lies = records_of items (take edge.place log) (drop edge.place log) lies.records

pub length_items : (log : List Record) (edge : Edge) (items : List Logged) → LiesFrom log edge (kept_in items) → edge.place + length items ≡ length log
length_items log edge items lies =
    omega (arith, length-map items (λ (l : Logged). l.entry.value), ap length (records_lie log edge items lies), length-drop edge.place log, lies.within)

-- what is fetched at a place that is not before the edge
pub fetched_there : (log : List Record) (edge : Edge) (items : List Logged) (place max : ℕ) → LiesFrom log edge (kept_in items) → edge.place ≤ place → take max (drop (place - edge.place) (records_in items)) ≡ take max (drop place log)
fetched_there log edge items place max lies le =
    ap (take max) (ap (drop (place - edge.place)) (records_lie log edge items lies) ∙ drop_add edge.place (place - edge.place) log ∙ ap (λ (n : ℕ). drop n log) (omega (arith, le)))

-- it is one part of what lies there
pub part_shared : (items : List Logged) (skipped max from count : ℕ) → from ≡ min skipped (length items) → count ≡ min max (length items - from) → records_in (take ((from + count) - from) (drop from items)) ≡ take max (drop skipped (records_in items))
part_shared items skipped max from count from_is count_is =
    let long : length (drop from items) ≡ length items - from = length-drop from items in
    let part : (from + count) - from ≡ min max (length (drop from items)) = omega (arith, count_is, long) in
    ap (λ (n : ℕ). records_in (take n (drop from items))) part ∙ ap records_in (take_min max (drop from items))
    ∙ ap (λ (n : ℕ). records_in (take max (drop n items))) from_is ∙ ap (λ (l : List Logged). records_in (take max l)) (drop_min skipped items) ∙ records_part items skipped max

-- the log is no longer than its history
shown_short : (log : List Record) (o : Option Record) (es : List Entry) → length (settled_from log o es) + length (one_of (open_from o es)) ≤ (length log + length (one_of o)) + length es
shown_short log o [] = omega arith
shown_short log o (Offered r ∷ es) = omega (arith, shown_short log (Some r) es)
shown_short log o (Confirmed ∷ es) = omega (arith, shown_short (log ++ one_of o) None es, length-append log (one_of o))

-- so a place after some of its records is a number of 64 bits, as a place before them is
pub fits_there : (es : List Entry) (place max most : ℕ) (part : List Record) → part ≡ take max (drop place (shown_records es)) → place < most → length es < most → place + length part < most
fits_there es place max most part is before short =
    let shown : length (shown_records es) ≤ length es = omega (arith, shown_short [] None es, length-append (settled_records es) (one_of (open_from None es))) in
    omega (arith, ap length is, length-take max (drop place (shown_records es)), length-drop place (shown_records es), shown, before, short)

-- the restart place after so many of them
pub oldest_there : (log : List Record) (edge : Edge) (items : List Logged) (count : ℕ) (d : Logged) → LiesFrom log edge (kept_in items) → count ≢ 0 → count ≤ length items → (get_or items (count - 1) d).restart ≡ oldest (take (edge.place + count) log)
oldest_there log edge items count d lies some within =
    let records = records_lie log edge items lies in
    let at : suc (count - 1) ≡ count = omega (arith, some) in
    restart_at items (take edge.place log) (count - 1) d (lies.records ∙ ap (λ (l : List Record). with_restarts_from (take edge.place log) l) (sym records)) (omega (arith, some, within))
    ∙ ap (λ (n : ℕ). oldest (take edge.place log ++ take n (records_in items))) at ∙ ap (λ (l : List Record). oldest (take edge.place log ++ take count l)) records ∙ ap oldest (sym (take_add edge.place count log))

-- the position after so many of them
pub position_there : (log : List Record) (edge : Edge) (items : List Logged) (count : ℕ) (d : Logged) → LiesFrom log edge (kept_in items) → count ≢ 0 → count ≤ length items
    → (get_or items (count - 1) d).entry.value.end ≡ end_of FIRST_POSITION (take (edge.place + count) log)
position_there log edge items count d lies some within =
    let records = records_lie log edge items lies in
    let at : suc (count - 1) ≡ count = omega (arith, some) in
    end_at items edge.position (count - 1) d (omega (arith, some, within)) ∙ ap (λ (n : ℕ). end_of edge.position (take n (records_in items))) at
    ∙ ap (λ (l : List Record). end_of edge.position (take count l)) records ∙ ap (λ (n : ℕ). end_of n (take count (drop edge.place log))) lies.position
    ∙ sym (end_of-append FIRST_POSITION (take edge.place log) (take count (drop edge.place log))) ∙ ap (end_of FIRST_POSITION) (sym (take_add edge.place count log))

-- they follow each other from the edge's position on
pub record Follows (at : ℕ) (records : List Record) : Type 0 where
  pub goes : follows at records ≡ true
  pub sized : AllByRecursion IsSized records

right : (b c : Bool) → (b && c) ≡ true → c ≡ true
right true c e = e
right false c e = absurd cc

all_back : (xs ys : List Record) → AllByRecursion IsSized (xs ++ ys) → AllByRecursion IsSized ys
all_back [] ys all = all
all_back (x ∷ xs) ys all = all_back xs ys all.1

pub follow_there : (log : List Record) (edge : Edge) (items : List Logged) → LiesFrom log edge (kept_in items) → IsWellFormedLog log → Follows edge.position (records_in items)
follow_there log edge items lies good =
    let parts : log ≡ take edge.place log ++ drop edge.place log = sym (take-append-drop edge.place log) in
    let records = records_lie log edge items lies in
    let goes : follows FIRST_POSITION (take edge.place log ++ drop edge.place log) ≡ true = subst (λ (l : List Record). follows FIRST_POSITION l ≡ true) parts good.follows in
    let behind : follows (end_of FIRST_POSITION (take edge.place log)) (drop edge.place log) ≡ true =
    right (follows FIRST_POSITION (take edge.place log)) (follows (end_of FIRST_POSITION (take edge.place log)) (drop edge.place log)) (sym (follows-append FIRST_POSITION (take edge.place log) (drop edge.place log)) ∙ goes) in
    record {
      goes = subst (λ (l : List Record). follows edge.position l ≡ true) (sym records) (subst (λ (n : ℕ). follows n (drop edge.place log) ≡ true) (sym lies.position) behind);
      sized = subst (λ (l : List Record). AllByRecursion IsSized l) (sym records) (all_back (take edge.place log) (drop edge.place log) (subst (λ (l : List Record). AllByRecursion IsSized l) parts good.sizes));
    }

-- ---- The place of a position.

first-take : (test : Record → Bool) (n : ℕ) (log : List Record) → first_place test (take n log) ≡ min n (first_place test log)
first-take test zero log = omega arith
first-take test (suc n) [] = omega arith
first-take test (suc n) (r ∷ log) = by_test (test r) (first-take test n log)
  where
    by_test : (b : Bool) → first_place test (take n log) ≡ min n (first_place test log) → cond b 0 (suc (first_place test (take n log))) ≡ min (suc n) (cond b 0 (suc (first_place test log)))
    by_test true rest = omega arith
    by_test false rest = omega (arith, rest)

first-behind : (test : Record → Bool) (before log : List Record) → AllByRecursion (λ r. test r ≡ false) before → first_place test (before ++ log) ≡ length before + first_place test log
first-behind test [] log none = omega arith
first-behind test (r ∷ before) log none = rw none.0 (omega (arith, first-behind test before log none.1))

ends_later : (at : ℕ) (log : List Record) → follows at log ≡ true → AllByRecursion IsSized log → at ≤ end_of at log
ends_later at [] goes sized = omega arith
ends_later at (r ∷ log) goes sized =
    let next = starts_at r at log goes in
    omega (arith, next.0, sized.0, ends_later r.end log next.1 sized.1)

all_earlier : (at s : ℕ) (log : List Record) → follows at log ≡ true → AllByRecursion IsSized log → end_of at log ≤ s → AllByRecursion (λ r. nat_le s r.start ≡ false) log
all_earlier at s [] goes sized le = tt
all_earlier at s (r ∷ log) goes sized le =
    let next = starts_at r at log goes in
    let later = ends_later r.end log next.1 sized.1 in
    (lt-leb s r.start (omega (arith, sized.0, later, le)), all_earlier r.end s log next.1 sized.1 le)

-- the place of a position that is not before the edge, in the first records of the log
pub place_there : (log : List Record) (edge : Edge) (items : List Logged) (s limit found : ℕ) → LiesFrom log edge (kept_in items) → IsWellFormedLog log → edge.place ≤ limit → (edge.place ≡ 0) ⊎ (edge.position ≤ s) → found ≡ place_from s (records_in items)
    → place_from s (take limit log) ≡ edge.place + min found (limit - edge.place)
place_there log edge items s limit found lies good le start found_is =
    let parts : take limit log ≡ take edge.place log ++ take (limit - edge.place) (drop edge.place log) = ap (λ (n : ℕ). take n log) (omega (arith, le)) ∙ take_add edge.place (limit - edge.place) log in
    let F : List Record → Type 0 = λ l. follows FIRST_POSITION l ≡ true in
    let S : List Record → Type 0 = λ l. AllByRecursion IsSized l in
    let whole : log ≡ take edge.place log ++ drop edge.place log = sym (take-append-drop edge.place log) in
    let goes = follows-front FIRST_POSITION (take edge.place log) (drop edge.place log) (subst F whole good.follows) in
    let sized = all_front IsSized (take edge.place log) (drop edge.place log) (subst S whole good.sizes) in
    let none : AllByRecursion (λ r. nat_le s r.start ≡ false) (take edge.place log) =
    ⊎_elim (λ (zero_is : edge.place ≡ 0). subst (λ (n : ℕ). AllByRecursion (λ r. nat_le s r.start ≡ false) (take n log)) (sym zero_is) tt)
    (λ (later : edge.position ≤ s). all_earlier FIRST_POSITION s (take edge.place log) goes sized (omega (arith, lies.position, later))) start in
    let rest : place_from s (take (limit - edge.place) (drop edge.place log)) ≡ min (limit - edge.place) (place_from s (drop edge.place log)) = first-take (λ r. nat_le s r.start) (limit - edge.place) (drop edge.place log) in
    let there : found ≡ place_from s (drop edge.place log) = found_is ∙ ap (place_from s) (records_lie log edge items lies) in
    ap (place_from s) parts ∙ first-behind (λ r. nat_le s r.start) (take edge.place log) (take (limit - edge.place) (drop edge.place log)) none
    ∙ omega (arith, rest, there, length-take-le edge.place log lies.within)

-- where a stream begins that starts there
pub record Begins (log : List Record) (edge : Edge) (s limit count found : ℕ) : Type 0 where
  pub place : found ≡ restart_place s (take limit log)
  pub position : end_of FIRST_POSITION (take found log) ≡ restart s (take limit log)
  pub within : found ≤ edge.place + count

pub begins_there : (log : List Record) (edge : Edge) (items : List Logged) (s limit point count found : ℕ) → LiesFrom log edge (kept_in items) → IsWellFormedLog log → edge.place ≤ limit → (edge.place ≡ 0) ⊎ (edge.position ≤ s) → point ≡ place_from s (records_in items)
    → count ≡ min point (limit - edge.place) → found ≡ oldest (take (edge.place + count) log) → Begins log edge s limit count found
begins_there log edge items s limit point count found lies good le start point_is count_is found_is =
    let from : place_from s (take limit log) ≡ edge.place + count = place_there log edge items s limit point lies good le start point_is ∙ omega (arith, count_is) in
    let part : take (edge.place + count) (take limit log) ≡ take (edge.place + count) log = take-take (edge.place + count) limit log (omega (arith, le, count_is)) in
    let place : restart_place s (take limit log) ≡ found = ap (λ (n : ℕ). oldest (take n (take limit log))) from ∙ ap oldest part ∙ sym found_is in
    let within : found ≤ edge.place + count =
    omega (arith, found_is, within_log (is_in_progress (take (edge.place + count) log)) (take (edge.place + count) log), length-take (edge.place + count) log) in
    record {
      place = sym place;
      position = ap (end_of FIRST_POSITION) (sym (take-take found limit log (omega (arith, within, le, count_is)))) ∙ ap (λ (n : ℕ). end_of FIRST_POSITION (take n (take limit log))) (sym place);
      within = within;
    }

-- why a fetch gave nothing that saw all that was told
pub why_unread : {L : Type 0} (place edge : ℕ) (fault : ReadFault) (old new : LogReader L) → IsUnread place edge fault → IsPrefix (settled_records new.told) (seen_of new) → IsWellFormedLog (seen_of new) → HasSeen fault old new
why_unread place edge reads.NoEntry old new unread held good = absurd unread
why_unread place edge reads.Stale old new unread held good = absurd unread
why_unread place edge reads.Memory old new unread held good = (held, good)
why_unread place edge reads.Removed old new unread held good = (held, good)
