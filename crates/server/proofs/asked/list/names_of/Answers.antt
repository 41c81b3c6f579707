use Rattle.std.proofs.Common.{◌≡◌, refl, subst, rules, arith}
use Rattle.std.specs.Prelude.{◌≢◌, codes, None}
use Rattle.std.specs.Str.{IsUtf8}
use Rattle.pqformat.proofs.Quoting.{found}
use Rattle.server.specs.Reading.{literal_front}
use Rattle.server.proofs.Literals.{literal_leaves_text}
use Rattle.server.proofs.Lists.{after_text, done, goes_on, no_comma, no_name, shrinks}
use Rattle.server.proofs.asked.list.names_of.Goals as goal

pub returns-in_default : goal.returns-in_default
returns-in_default c =
    let read : literal_front c.loop-names.place.now ≡ None = search rules in
    no_name c.args.end.now c.args.text.now c.loop-names.names.items c.loop-names.place.now c.requires.apart c.loop-names.invariant.going read

pub returns-then-eq : goal.returns-then-eq
returns-then-eq c =
    let read : literal_front c.loop-names.place.now ≡ found c.in-Some.name c.in-Some.rest.now = search rules in
    let end : c.in-Some.rest.now ≡ c.args.end.now = search rules in
    rw (c.new.ensures, c.in_ok-push.ensures.items) (done c.args.end.now c.args.text.now c.loop-names.names.items c.loop-names.place.now c.in-Some.name c.in-Some.rest.now c.loop-names.invariant.going read end)

pub returns-in_default-behind : goal.returns-in_default-behind
returns-in_default-behind c =
    let read : literal_front c.loop-names.place.now ≡ found c.in-Some.name c.in-Some.rest.now = search rules in
    let other : c.in-Some.rest.now ≢ c.args.end.now = search rules in
    no_comma c.args.end.now c.args.text.now c.loop-names.names.items c.loop-names.place.now c.in-Some.name c.in-Some.rest.now c.requires.apart c.loop-names.invariant.going read other c.in_default-behind.ensures

pub loop-names-smaller : goal.loop-names-smaller
loop-names-smaller c =
    let read : literal_front c.loop-names.place.now ≡ found c.in-Some.name c.in-Some.rest.now = search rules in
    omega (arith, shrinks c.loop-names.place.now c.in-Some.name c.in-Some.rest.now c.in-Some-behind.more.now read c.in-Some-behind.ensures)

pub loop-names-preserved : goal.loop-names-preserved
loop-names-preserved c =
    let read : literal_front c.loop-names.place.now ≡ found c.in-Some.name c.in-Some.rest.now = search rules in
    let next = goes_on c.args.end.now c.args.text.now c.loop-names.names.items c.loop-names.place.now c.in-Some.name c.in-Some.rest.now c.in-Some-behind.more.now c.requires.apart c.loop-names.invariant.going read c.in-Some-behind.ensures in
    let left = literal_leaves_text c.loop-names.place.now c.in-Some.name c.in-Some.rest.now c.loop-names.invariant.valid read in
    record {
      going = rw c.in_ok-push.ensures.items next;
      valid = after_text (codes ", ") c.in-Some-behind.more.now refl (subst IsUtf8 c.in-Some-behind.ensures left);
    }
