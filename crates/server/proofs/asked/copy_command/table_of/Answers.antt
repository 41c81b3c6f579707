use Rattle.std.proofs.Common.{◌≡◌, refl, subst, rules}
use Rattle.std.specs.Prelude.{codes, None}
use Rattle.std.specs.Str.{IsUtf8}
use Rattle.pqformat.proofs.Quoting.{found}
use Rattle.server.specs.Copies.{name_front}
use Rattle.server.proofs.CopyNames.{name_read}
use Rattle.server.proofs.CopyTables.{no_point, no_schema, no_table, table_read}
use Rattle.server.proofs.Lists.{after_text}
use Rattle.server.proofs.asked.copy_command.table_of.Goals as goal

pub returns-in_default : goal.returns-in_default
returns-in_default c =
    let none : name_front c.args.text.now ≡ None = search rules in
    no_schema c.args.text.now none

pub returns-in_default-behind : goal.returns-in_default-behind
returns-in_default-behind c =
    let read : name_front c.args.text.now ≡ found c.in-Some.schema c.in-Some.rest.now = search rules in
    no_point c.args.text.now c.in-Some.schema c.in-Some.rest.now read c.in_default-behind.ensures

pub name_of-requires-2 : goal.name_of-requires-2
name_of-requires-2 c =
    let read : name_front c.args.text.now ≡ found c.in-Some.schema c.in-Some.rest.now = search rules in
    after_text (codes ".") c.in-Some-behind.rest.now refl (subst IsUtf8 c.in-Some-behind.ensures ((name_read c.args.text.now c.in-Some.schema c.in-Some.rest.now read).text c.requires))

pub returns-in-Some-2 : goal.returns-in-Some-2
returns-in-Some-2 c =
    let read : name_front c.args.text.now ≡ found c.in-Some.schema c.in-Some.rest.now = search rules in
    let then : name_front c.in-Some-behind.rest.now ≡ found c.in-Some-2.name c.in-Some-2.rest.now = search rules in
    table_read c.args.text.now c.in-Some.schema c.in-Some.rest.now c.in-Some-behind.rest.now c.in-Some-2.name c.in-Some-2.rest.now read c.in-Some-behind.ensures then c.requires

pub returns-in-None : goal.returns-in-None
returns-in-None c =
    let read : name_front c.args.text.now ≡ found c.in-Some.schema c.in-Some.rest.now = search rules in
    let none : name_front c.in-Some-behind.rest.now ≡ None = search rules in
    no_table c.args.text.now c.in-Some.schema c.in-Some.rest.now c.in-Some-behind.rest.now read c.in-Some-behind.ensures none
