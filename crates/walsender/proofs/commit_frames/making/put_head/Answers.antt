use Rattle.std.proofs.Common.{ℕ, ◌+◌, ◌≤◌, ◌++◌, ◌∙◌, List, length, take, sym, ap, arith}
use Rattle.std.proofs.lemmas.List.{take_all}
use Rattle.pqformat.specs.Fields.{int32, int64}
use Rattle.std.specs.Int.{w64, cast_unsigned}
use Rattle.std.proofs.lemmas.Int.{to_z-of_z}
use Rattle.frames.specs.declared.copy_data.TheConstants.{COPY_DATA}
use Rattle.copyboth.specs.declared.xlogdata.TheConstants.{XLOGDATA}
use Rattle.walsender.proofs.Heads.{head_whole}
use Rattle.pqformat.proofs.Numbers.{length-int32, length-int64}
use Rattle.walsender.proofs.commit_frames.making.put_head.Goals as goal

pub write_int64-end-requires : goal.write_int64-end-requires
write_int64-end-requires c =
    let a = c.write_byte-kind.ensures in
    let b = c.write_int32-counted.ensures in
    let d = c.write_byte-message.ensures in
    let e = c.write_int64-start.ensures in
    omega (arith, a.ends, a.same, b.ends, b.same, d.ends, d.same, e.ends, e.same, c.requires.room, length-int32 (29 + c.args.size), length-int64 c.args.position)

pub write_int64-requires : goal.write_int64-requires
write_int64-requires c =
    let a = c.write_byte-kind.ensures in
    let b = c.write_int32-counted.ensures in
    let d = c.write_byte-message.ensures in
    let e = c.write_int64-start.ensures in
    let f = c.write_int64-end.ensures in
    omega (arith, a.ends, a.same, b.ends, b.same, d.ends, d.same, e.ends, e.same, f.ends, f.same, c.requires.room, length-int32 (29 + c.args.size), length-int64 c.args.position)

pub returns : goal.returns
returns c =
    let a = c.write_byte-kind.ensures in
    let b = c.write_int32-counted.ensures in
    let d = c.write_byte-message.ensures in
    let e = c.write_int64-start.ensures in
    let f = c.write_int64-end.ensures in
    let g = c.write_int64.ensures in
    let all : length c.write_int64.new.out ≤ c.write_int64.result =
    omega (arith, a.ends, a.same, b.ends, b.same, d.ends, d.same, e.ends, e.same, f.ends, f.same, g.ends, g.same, c.requires.room, length-int32 (29 + c.args.size), length-int64 c.args.position, length-int64 c.cast_unsigned.result) in
    let whole = sym (take_all c.write_int64.result c.write_int64.new.out all) ∙ g.front in
    let clock = ap int64 (c.cast_unsigned.ensures ∙ ap (cast_unsigned w64) (to_z-of_z w64 c.args.clock c.ranges.clock)) in
    head_whole COPY_DATA XLOGDATA (int32 (29 + c.args.size)) (int64 c.args.position) (int64 (cast_unsigned w64 c.args.clock)) _ _ _ _ _ _ a.front b.front d.front e.front f.front (whole ∙ ap (λ (l : List ℕ). take c.write_int64-end.result c.write_int64-end.new.out ++ l) clock)
