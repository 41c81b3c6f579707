use Rattle.std.proofs.Common.{[], ◌≡◌, ◌<◌, ◌≤◌, length, refl, subst, rules, arith}
use Rattle.std.specs.Prelude.{codes, None}
use Rattle.std.specs.Str.{IsUtf8}
use Rattle.pqformat.proofs.Quoting.{found}
use Rattle.server.specs.Copies.{name_front}
use Rattle.server.specs.declared.asked.copy_command.TheConstants.{MOST_COLUMNS}
use Rattle.server.proofs.CopyColumns.{begun, done, goes_on, no_column, too_many}
use Rattle.server.proofs.CopyNames.{name_read}
use Rattle.server.proofs.Lists.{after_text}
use Rattle.server.proofs.asked.copy_command.columns_of.Goals as goal

pub loop-place-init : goal.loop-place-init
loop-place-init c =
    let empty : c.new-columns.result.items ≡ [] = search rules in
    record { going = rw empty (begun c.args.text.now); valid = c.requires }

pub returns-in_default : goal.returns-in_default
returns-in_default c =
    let none : name_front c.loop-place.place.now ≡ None = search rules in
    no_column c.args.text.now c.loop-place.columns.items c.loop-place.place.now c.loop-place.invariant.going none

pub returns-in_default-behind : goal.returns-in_default-behind
returns-in_default-behind c =
    let read : name_front c.loop-place.place.now ≡ found c.in-Some.name c.in-Some.rest.now = search rules in
    let few : length c.loop-place.columns.items < MOST_COLUMNS = omega arith in
    rw (c.new.ensures, c.in_ok-push.ensures.items) (done c.args.text.now c.loop-place.columns.items c.loop-place.place.now c.in-Some.name c.in-Some.rest.now c.loop-place.invariant.going few c.loop-place.invariant.valid read c.in_default-behind.ensures)

pub loop-place-preserved : goal.loop-place-preserved
loop-place-preserved c =
    let read : name_front c.loop-place.place.now ≡ found c.in-Some.name c.in-Some.rest.now = search rules in
    let next = goes_on c.args.text.now c.loop-place.columns.items c.loop-place.place.now c.in-Some.name c.in-Some.rest.now c.in-Some-behind.more.now c.loop-place.invariant.going read c.in-Some-behind.ensures in
    let left = (name_read c.loop-place.place.now c.in-Some.name c.in-Some.rest.now read).text c.loop-place.invariant.valid in
    record {
      going = rw c.in_ok-push.ensures.items next;
      valid = after_text (codes ", ") c.in-Some-behind.more.now refl (subst IsUtf8 c.in-Some-behind.ensures left);
    }

pub returns : goal.returns
returns c =
    let many : MOST_COLUMNS ≤ length c.loop-place.columns.items = omega arith in
    too_many c.args.text.now c.loop-place.columns.items c.loop-place.place.now c.loop-place.invariant.going many
