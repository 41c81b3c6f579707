-- What was skipped at the start of a stream: what a sender makes of the records that it read is what the whole log says.
use Rattle.std.proofs.Common.{◌≡◌, ◌≤◌, ℕ, ℤ, List, [], ◌++◌, length, map, filter, take, drop, sym, ap, subst, ◌∙◌, append_assoc, arith}
use Rattle.std.specs.List.{AllByRecursion}
use Rattle.std.proofs.lemmas.List.{drop-append-le, take-append-drop, take_at, length-append, length-take}
use Rattle.wal.specs.declared.record.TheConstants.{FIRST_POSITION}
use Rattle.wal.specs.declared.record.Record.{Record}
use Rattle.wal.specs.Log.{Transaction, IsWellFormedLog, WellFormedAfter, end_of}
use Rattle.wal.specs.Places.{SkipsNone}
use Rattle.wal.specs.Restart.{is_in_progress, place_from, restart, restart_place}
use Rattle.wal.proofs.Restarts.{restart-skips_none, section-alike, section-whole, within}
use Rattle.wal.proofs.Sections.{skipped_none}
use Rattle.publication.specs.Publications.{PublicationSet}
use Rattle.publication.specs.Selection.{relation}
use Rattle.pgoutput.specs.declared.published.Published.{Published}
use Rattle.pgoutput.specs.Items.{FitsPublished}
use Rattle.walsender.specs.Published.{published_transactions, published_as, published_from, has_message}
use Rattle.walsender.specs.Sending.{SenderState, AddsPublished, MayFollow, published_bytes}
use Rattle.walsender.proofs.Sections.{section_may_follow}
use Rattle.walsender.specs.Serving.{BeginsAt, ReadsFrom}
use Rattle.walsender.proofs.ServedSections.{IsSection}

-- ---- The place of a start.

restart_within : (known : List Record) (start : ℕ) → restart_place start known ≤ length known
restart_within known start =
    let n = place_from start known in
    omega (arith, within (is_in_progress (take n known)) (take n known), length-take n known)

take_of : {A : Type 0} (known more : List A) (n : ℕ) → n ≤ length known → take n (known ++ more) ≡ take n known
take_of known more n le =
    let parted : known ++ more ≡ take n known ++ (drop n known ++ more) = ap (λ l. l ++ more) (sym (take-append-drop n known)) ∙ append_assoc (take n known) (drop n known) more in
    ap (take n) parted ∙ take_at (take n known) (drop n known ++ more) n (omega (arith, length-take n known, le))

pub from_within : (log : List Record) (start from : ℕ) → ReadsFrom log start from → from ≤ length log
from_within log start from reads = omega (arith, reads.place, restart_within reads.known start, ap length reads.begins.1, length-append reads.known reads.begins.0)

-- nothing before it counts
pub from_skips : (log : List Record) (start from : ℕ) → ReadsFrom log start from → IsWellFormedLog log → SkipsNone log start (take from log)
from_skips log start from reads good =
    let known = reads.known in
    let more = reads.begins.0 in
    let whole : known ++ more ≡ log = reads.begins.1 in
    let none = restart-skips_none known more start (subst IsWellFormedLog (sym whole) good) in
    let part : take (restart_place start known) known ≡ take from log = sym (take_of known more (restart_place start known) (restart_within known start)) ∙ ap (take (restart_place start known)) whole ∙ ap (λ n. take n log) (sym reads.place) in
    subst (SkipsNone log start) part (subst (λ l. SkipsNone l start (take (restart_place start known) known)) whole none)

pub from_grown : (log more : List Record) (start from : ℕ) → ReadsFrom log start from → ReadsFrom (log ++ more) start from
from_grown log more start from reads = record {
  known = reads.known;
  begins = (reads.begins.0 ++ more, sym (append_assoc reads.known reads.begins.0 more) ∙ ap (λ l. l ++ more) reads.begins.1);
  place = reads.place;
}

-- where a reader stands that was resumed in a beginning of the log that it sees
pub resumed : (seen : List Record) (limit start first place : ℕ) → place ≡ restart_place start (take limit seen) → first ≡ restart start (take limit seen) → IsWellFormedLog seen → BeginsAt seen start first place
resumed seen limit start first place place_is first_is good =
    let known = take limit seen in
    let parts : known ++ drop limit seen ≡ seen = take-append-drop limit seen in
    let same : take place known ≡ take place seen =
    sym (take_of known (drop limit seen) place (omega (arith, place_is, restart_within known start))) ∙ ap (take place) parts in
    record {
      reads_from = record { known = known; begins = (drop limit seen, parts); place = place_is };
      good = good;
      position = first_is ∙ ap (λ (n : ℕ). end_of FIRST_POSITION (take n known)) (sym place_is) ∙ ap (end_of FIRST_POSITION) same;
    }

-- what is published of it
abbrev publishing : PublicationSet → List Transaction → List Published
publishing selection txs = filter has_message (map (published_as selection) txs)

pub nothing_skipped : (selection : PublicationSet) (log : List Record) (start from : ℕ) → ReadsFrom log start from → IsWellFormedLog log → published_transactions selection (take from log) start ≡ []
nothing_skipped selection log start from reads good =
    let parts : log ≡ take from log ++ drop from log = sym (take-append-drop from log) in
    ap (publishing selection) (skipped_none log start [] (take from log) (drop from log) parts (subst (WellFormedAfter []) parts good.order) (from_skips log start from reads good))

-- ---- A section after it.

-- The records that were read say of the next ones what all of the log before them says.
pub record ReadsBehind (selection : PublicationSet) (start from place : ℕ) (log section : List Record) : Type 0 where
  pub may : MayFollow (drop from (take place log)) section
  pub whole : published_transactions selection (drop from (take place log)) start ≡ published_transactions selection (take place log) start
  pub next : published_from selection start (drop from (take place log)) section ≡ published_from selection start (take place log) section

pub reads_after : (selection : PublicationSet) (start from place : ℕ) (log section : List Record) → IsSection log place section → ReadsFrom log start from → from ≤ place → ReadsBehind selection start from place log section
reads_after selection start from place log section s reads since =
    let pre = take place log in
    let skipped = take from pre in
    let read = drop from pre in
    let parted : pre ≡ skipped ++ read = sym (take-append-drop from pre) in
    let front : skipped ≡ take from log = sym (take_front log from place since s.len) in
    let none : SkipsNone log start skipped = subst (SkipsNone log start) (sym front) (from_skips log start from reads s.good) in
    let whole : log ≡ (skipped ++ (read ++ section)) ++ s.rest = s.whole ∙ ap (λ l. (l ++ section) ++ s.rest) parted ∙ ap (λ l. l ++ s.rest) (append_assoc skipped read section) in
    let order : WellFormedAfter [] ((skipped ++ (read ++ section)) ++ s.rest) = subst (WellFormedAfter []) whole s.good.order in
    let shorter : log ≡ (skipped ++ read) ++ (section ++ s.rest) = s.whole ∙ ap (λ l. (l ++ section) ++ s.rest) parted ∙ append_assoc (skipped ++ read) section s.rest in
    record {
      may = section_may_follow log skipped read section s.rest s.good (whole ∙ append_assoc skipped (read ++ section) s.rest);
      whole = sym (ap (λ l. published_transactions selection l start) parted
          ∙ ap (publishing selection) (section-whole skipped read (section ++ s.rest) start (subst (WellFormedAfter []) shorter s.good.order) (subst (λ l. SkipsNone l start skipped) shorter none)));
      next = sym (ap (λ l. published_from selection start l section) parted
          ∙ ap (publishing selection) (section-alike skipped read section s.rest start order (subst (λ l. SkipsNone l start skipped) whole none)));
    }
  where
    take_front : (log : List Record) (from place : ℕ) → from ≤ place → length (take place log) ≡ place → take from log ≡ take from (take place log)
    take_front log from place le len = ap (take from) (sym (take-append-drop place log)) ∙ take_of (take place log) (drop place log) from (omega (arith, le, len))

-- so what a sender adds by what it read is what the log publishes
pub adds_whole : (clock : ℤ) (s : SenderState) (held : List ℕ) (from place : ℕ) (log section : List Record) → ReadsBehind s.selection s.start from place log section
    → AddsPublished clock s held (drop from (take place log)) section → AddsPublished clock s held (take place log) section
adds_whole clock s held from place log section behind added =
    record {
      adds = added.adds
          ∙ ap (λ ts. s.held ++ published_bytes s.selection clock ts (published_from s.selection s.start (drop from (take place log)) section)) behind.whole
          ∙ ap (λ ts. s.held ++ published_bytes s.selection clock (published_transactions s.selection (take place log) s.start) ts) behind.next;
      fit = subst (AllByRecursion (FitsPublished (relation s.selection))) behind.next added.fit;
    }

pub drop_section : (log section : List Record) (from place : ℕ) → from ≤ length (take place log) → drop from (take place log ++ section) ≡ drop from (take place log) ++ section
drop_section log section from place le = drop-append-le from (take place log) section le
