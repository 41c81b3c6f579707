-- A part of a log that is read next.
use Rattle.std.proofs.Common.{◌≡◌, ◌≤◌, ◌+◌, ℕ, true, List, [], ◌++◌, length, take, drop, sym, ap, subst, ◌∙◌, append_assoc, arith}
use Rattle.std.specs.List.{AllByRecursion}
use Rattle.std.proofs.lemmas.List.{take-append-drop, take_at, length-append, length-take}
use Rattle.wal.specs.declared.record.TheConstants.{FIRST_POSITION}
use Rattle.wal.specs.declared.record.Record.{Record}
use Rattle.wal.specs.Log.{IsWellFormedLog, IsSized, follows, end_of}
use Rattle.walsender.specs.Sending.{MayFollow}
use Rattle.walsender.proofs.Sections.{all_front, follows_parts, section_may_follow}

pub record IsSection (log : List Record) (place : ℕ) (section : List Record) : Type 0 where
  pub rest : List Record
  pub whole : log ≡ (take place log ++ section) ++ rest
  pub len : length (take place log) ≡ place
  pub good : IsWellFormedLog log

pub section_of : (log : List Record) (place max : ℕ) → place ≤ length log → IsWellFormedLog log → IsSection log place (take max (drop place log))
section_of log place max le good = record {
  rest = drop max (drop place log);
  whole = sym (append_assoc (take place log) (take max (drop place log)) (drop max (drop place log)) ∙ ap (λ l. take place log ++ l) (take-append-drop max (drop place log)) ∙ take-append-drop place log);
  len = omega (arith, length-take place log);
  good = good;
}

-- fewer of the same records
pub section_front : (log : List Record) (place count : ℕ) (section : List Record) → IsSection log place section → IsSection log place (take count section)
section_front log place count section s = record {
  rest = drop count section ++ s.rest;
  whole = s.whole ∙ ap (λ l. (take place log ++ l) ++ s.rest) (sym (take-append-drop count section)) ∙ ap (λ l. l ++ s.rest) (sym (append_assoc (take place log) (take count section) (drop count section)))
      ∙ append_assoc (take place log ++ take count section) (drop count section) s.rest;
  len = s.len;
  good = s.good;
}

pub take_section : (log : List Record) (place : ℕ) (section : List Record) → IsSection log place section → take (place + length section) log ≡ take place log ++ section
take_section log place section s =
    ap (take (place + length section)) s.whole ∙ take_at (take place log ++ section) s.rest (place + length section) (omega (arith, length-append (take place log) section, s.len))

pub within_section : (log : List Record) (place : ℕ) (section : List Record) → IsSection log place section → place + length section ≤ length log
within_section log place section s = omega (arith, ap length s.whole, length-append (take place log ++ section) s.rest, length-append (take place log) section, s.len)

pub record IsNextPart (log : List Record) (place : ℕ) (section : List Record) : Type 0 where
  pub goes : follows FIRST_POSITION (take place log ++ section) ≡ true
  pub sized : AllByRecursion IsSized (take place log ++ section)
  pub follows_on : follows (end_of FIRST_POSITION (take place log)) section ≡ true
  pub may : MayFollow (take place log) section

pub next_part : (log : List Record) (place : ℕ) (section : List Record) → IsSection log place section → IsNextPart log place section
next_part log place section s =
    let pre = take place log in
    let F : List Record → Type 0 = λ l. follows FIRST_POSITION l ≡ true in
    let S : List Record → Type 0 = λ l. AllByRecursion IsSized l in
    let goes = (follows_parts FIRST_POSITION (pre ++ section) s.rest (subst F s.whole s.good.follows)).0 in
    let sized = all_front IsSized (pre ++ section) s.rest (subst S s.whole s.good.sizes) in
    record {
      goes = goes;
      sized = sized;
      follows_on = (follows_parts FIRST_POSITION pre section goes).1;
      may = section_may_follow log [] pre section s.rest s.good s.whole;
    }
