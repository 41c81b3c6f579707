-- What a start reads is the next part of the publisher's log.
use Rattle.std.proofs.Common.{◌≡◌, ◌-◌, ℕ, ℤ, zero, suc, List, [], ◌∷◌, ◌++◌, drop, length, take, refl, sym, subst, ap, ◌∙◌}
use Rattle.std.specs.Prelude.{min, Result, Ok, Err, IfOk, OnErr, OnOk}
use Rattle.std.proofs.Math.Nat.{min_comm, min-le_right}
use Rattle.std.proofs.lemmas.List.{take_min, take-append-le, take_at, length-drop}
use mathlib.Core.List.{IsPrefix}
use Rattle.wal.specs.declared.record.Record.{Record}
use Rattle.wal.specs.declared.record.TheConstants.{FIRST_POSITION}
use Rattle.wal.specs.Log.{IsWellFormedLog, end_of}
use Rattle.wal.specs.Restart.{restart, restart_place}
use Rattle.shared_log.specs.declared.fault.ReadFault.{ReadFault}
use Rattle.shared_log.specs.Readers.{seen_of}
use Rattle.shared_log.proofs.Prefixes.{begins_itself, begins_longer}
use Rattle.walsender.specs.declared.fault.SendFault.{SendFault}
use Rattle.walsender.specs.Sending.{SenderState}
use Rattle.walsender.specs.declared.walsender.Walsender.{Walsender}
use Rattle.walsender.specs.Serving.{BeginsAt, Reads, ReadsOn, Serves, next_records}

begins_later : {A : Type 0} (place : ℕ) (log more : List A) → IsPrefix (drop place log) (drop place (log ++ more))
begins_later zero log more = (more, refl)
begins_later (suc place) [] more = (drop (suc place) more, refl)
begins_later (suc place) (r ∷ log) more = begins_later place log more

-- of a longer log no more is read than was counted
pub read_to : {A : Type 0} (log seen : List A) (place max : ℕ) → IsPrefix log seen → take (min max (length log - place)) (drop place seen) ≡ take max (drop place log)
read_to log seen place max begins =
    let left = drop place log in
    let later = begins_later place log begins.0 in
    ap (λ l. take (min max (length log - place)) (drop place l)) (sym begins.1)
    ∙ ap (take (min max (length log - place))) (sym later.1)
    ∙ ap (λ (n : ℕ). take (min max n) (left ++ later.0)) (sym (length-drop place log))
    ∙ take-append-le (min max (length left)) left later.0 (min-le_right max (length left))
    ∙ take_min max left

next_of_log : (log front seen : List Record) (place max least : ℕ) → least ≡ min (length log - place) max → IsPrefix log front → IsPrefix front seen → next_records least place seen ≡ next_records max place log
next_of_log log front seen place max least is told holds =
    ap (λ (n : ℕ). take n (drop place seen)) (is ∙ min_comm (length log - place) max) ∙ read_to log seen place max (begins_longer log front seen told holds)

-- what a reader answers
abbrev Answer : Type 0
Answer = Result (Result (Unit {0}) SendFault) ReadFault

pub next_reads : (log front seen : List Record) (place max least : ℕ) (clock : ℤ) (s new : SenderState) (r : Answer) → least ≡ min (length log - place) max → IsPrefix log front → OnOk r (IsPrefix front seen × IsWellFormedLog seen)
    → IfOk r (Reads clock s new (next_records least place seen)) → IfOk r (Reads clock s new (next_records max place log))
next_reads log front seen place max least clock s new (Ok fed) is told sees reads =
    let P : List Record → Type 0 = λ rs. Reads clock s new rs fed in
    subst P (next_of_log log front seen place max least is told sees.0) reads
next_reads log front seen place max least clock s new (Err fault) is told sees reads = tt

pub next_serves : {L : Type 0} (log front : List Record) (max least : ℕ) (written : List ℕ) (old new : Walsender L) (r : Answer) → IsWellFormedLog log → least ≡ min (length log - old.reader.place) max → IsPrefix log front
    → OnOk r (IsPrefix front (seen_of new.reader) × IsWellFormedLog (seen_of new.reader)) → OnOk r (ReadsOn (next_records least old.reader.place (seen_of new.reader)) old new)
    → OnErr r ((new.sender ≡ old.sender) × (new.reader.place ≡ old.reader.place)) → Serves log written old → Serves log written new
next_serves log front max least written old new (Ok fed) good is told sees serves unread serving =
    serves log written max good (next_of_log log front (seen_of new.reader) old.reader.place max least is told sees.0) serving
next_serves log front max least written old new (Err fault) good is told sees serves unread serving = rw (unread.0, unread.1) serving

-- ---- Where a start begins.

-- what a reader answers that is told of the log and resumed in it
pub record Resumes (front seen : List Record) (start count place : ℕ) (r : Result ℕ ReadFault) : Type 0 where
  pub place_is : OnOk r (place ≡ restart_place start (take count seen))
  pub position : IfOk r (λ first. first ≡ restart start (take count seen))
  pub holds : OnOk r (IsPrefix front seen × IsWellFormedLog seen)

whole : {A : Type 0} (log seen : List A) (count : ℕ) → count ≡ length log → IsPrefix log seen → take count seen ≡ log
whole log seen count is begins = ap (take count) (sym begins.1) ∙ ap (λ (n : ℕ). take n (log ++ begins.0)) is ∙ take_at log begins.0 (length log) refl

pub resumed_at : (log front seen : List Record) (start count place : ℕ) (r : Result ℕ ReadFault) → count ≡ length log → IsPrefix log front → Resumes front seen start count place r → IfOk r (λ first. first ≡ restart start log)
resumed_at log front seen start count place (Ok first) is told r = r.position ∙ ap (restart start) (whole log seen count is (begins_longer log front seen told r.holds.0))
resumed_at log front seen start count place (Err fault) is told r = tt

pub begun : (log front seen : List Record) (start count place : ℕ) (r : Result ℕ ReadFault) → IsWellFormedLog log → count ≡ length log → IsPrefix log front → Resumes front seen start count place r
    → IfOk r (λ first. BeginsAt log start first place)
begun log front seen start count place (Ok first) good is told r =
    let same = whole log seen count is (begins_longer log front seen told r.holds.0) in
    let here : place ≡ restart_place start log = r.place_is ∙ ap (restart_place start) same in
    record {
      reads_from = record { known = log; begins = begins_itself log; place = here };
      good = good;
      position = r.position ∙ ap (restart start) same ∙ ap (λ (n : ℕ). end_of FIRST_POSITION (take n log)) (sym here);
    }
begun log front seen start count place (Err fault) good is told r = tt
