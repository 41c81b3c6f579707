use Rattle.std.proofs.Common.{◌++◌, ◌∷◌, refl}
use Rattle.std.specs.Fmt.{signed_decimal}
use Rattle.replcmd.specs.Position.{position_text}
use Rattle.message_lines.specs.Texts.{commit_text}
use Rattle.follower.proofs.TextLines.{first_is, numbers_are, spells, text_is}
use Rattle.follower.proofs.printing.text_form.end_of_commit.Goals as goal

pub returns-in_err-whole-clause-only : goal.returns-in_err-whole-clause-only
returns-in_err-whole-clause-only c = λ start end time lt-start lt-end fits utf8 is. absurd (c.in_err-whole.ensures.none refl (commit_text start end time) utf8 is)

pub returns-in_err-numbers-clause-only : goal.returns-in_err-numbers-clause-only
returns-in_err-numbers-clause-only c = λ start end time lt-start lt-end fits utf8 is.
    absurd (c.in_err-numbers.ensures.none refl (position_text start ++ (32 ∷ (position_text end ++ (32 ∷ signed_decimal time)))) (text_is c.args.line.now c.in_ok-whole.field-0.now (commit_text start end time) c.in_ok-whole.ensures.found is))

pub returns-in_err-end-clause-only : goal.returns-in_err-end-clause-only
returns-in_err-end-clause-only c = λ start end time lt-start lt-end fits utf8 is.
    let numbers = numbers_are c.args.line.now c.in_ok-whole.field-0.now c.in_ok-numbers.numbers.now start end time c.in_ok-whole.ensures.found c.in_ok-numbers.ensures.found is in
    let first = first_is c.in_ok-numbers.numbers.now c.in_ok-start.start.now c.in_ok-start.end_and_time.now (position_text end ++ (32 ∷ signed_decimal time)) start lt-start c.in_ok-start.ensures.found c.in_ok-start.ensures.first numbers in
    absurd (c.in_err-end.ensures.none refl (position_text end) (signed_decimal time) first.1)

pub returns-in_err-_start-clause-only : goal.returns-in_err-_start-clause-only
returns-in_err-_start-clause-only c = λ start end time lt-start lt-end fits utf8 is.
    let numbers = numbers_are c.args.line.now c.in_ok-whole.field-0.now c.in_ok-numbers.numbers.now start end time c.in_ok-whole.ensures.found c.in_ok-numbers.ensures.found is in
    let first = first_is c.in_ok-numbers.numbers.now c.in_ok-start.start.now c.in_ok-start.end_and_time.now (position_text end ++ (32 ∷ signed_decimal time)) start lt-start c.in_ok-start.ensures.found c.in_ok-start.ensures.first numbers in
    let no = c.in_err-_start.ensures.only start (spells c.in_ok-start.start.now start lt-start first.0) in
    absurd cc

pub returns-then-not-is_time-clause-only : goal.returns-then-not-is_time-clause-only
returns-then-not-is_time-clause-only c = λ start end time lt-start lt-end fits utf8 is.
    let numbers = numbers_are c.args.line.now c.in_ok-whole.field-0.now c.in_ok-numbers.numbers.now start end time c.in_ok-whole.ensures.found c.in_ok-numbers.ensures.found is in
    let first = first_is c.in_ok-numbers.numbers.now c.in_ok-start.start.now c.in_ok-start.end_and_time.now (position_text end ++ (32 ∷ signed_decimal time)) start lt-start c.in_ok-start.ensures.found c.in_ok-start.ensures.first numbers in
    let second = first_is c.in_ok-start.end_and_time.now c.in_ok-end.end.now c.in_ok-end.time.now (signed_decimal time) end lt-end c.in_ok-end.ensures.found c.in_ok-end.ensures.first first.1 in
    let yes = c.is_time.ensures time fits second.1 in
    let no = c.if-not-is_time.true in
    absurd cc

pub returns-clause-only : goal.returns-clause-only
returns-clause-only c = λ start end time lt-start lt-end fits utf8 is.
    let numbers = numbers_are c.args.line.now c.in_ok-whole.field-0.now c.in_ok-numbers.numbers.now start end time c.in_ok-whole.ensures.found c.in_ok-numbers.ensures.found is in
    let first = first_is c.in_ok-numbers.numbers.now c.in_ok-start.start.now c.in_ok-start.end_and_time.now (position_text end ++ (32 ∷ signed_decimal time)) start lt-start c.in_ok-start.ensures.found c.in_ok-start.ensures.first numbers in
    let second = first_is c.in_ok-start.end_and_time.now c.in_ok-end.end.now c.in_ok-end.time.now (signed_decimal time) end lt-end c.in_ok-end.ensures.found c.in_ok-end.ensures.first first.1 in
    c.position_in-2.ensures.only end (spells c.in_ok-end.end.now end lt-end second.0)
