use Rattle.std.proofs.Common.{ℕ, ◌+◌, ◌*◌, ◌∷◌, [], ◌++◌, length}
use Rattle.std.specs.Prelude.{replicate}
use Rattle.std.specs.List.{flat_map}
use Rattle.std.proofs.lemmas.List.{length-replicate}
use Rattle.pqformat.specs.Fields.{int16, int32}
use Rattle.server.specs.Copies.{copy_begun}
use Rattle.server.specs.declared.said.say_copy.TheConstants.{COPY_OUT_RESPONSE}
use Rattle.server.proofs.RowTexts.{formats_length}
use Rattle.server.proofs.Tails.{after}
use Rattle.server.proofs.said.say_copy.say_copy_begun.Goals as goal

pub returns : goal.returns
unfolding copy_begun
returns c =
    let count = length c.args.columns.now in
    let formats = flat_map int16 (replicate count 0) in
    let numbered = after c.put_formats.result c.put_byte-2.new.out.items c.put_int16.new.out.items c.put_formats.new.out.items (int16 count) formats c.in_ok-put_int16.ensures.ok c.put_formats.ensures in
    let told = after c.put_formats.result c.put_int32.new.out.items c.put_byte-2.new.out.items c.put_formats.new.out.items (0 ∷ []) (int16 count ++ formats) c.in_ok-put_byte-2.ensures.ok numbered in
    let measured = after c.put_formats.result c.put_byte.new.out.items c.put_int32.new.out.items c.put_formats.new.out.items (int32 (7 + 2 * count)) (0 ∷ (int16 count ++ formats)) c.in_ok-put_int32.ensures.ok told in
    let whole = after c.put_formats.result c.args.out.now.items c.put_byte.new.out.items c.put_formats.new.out.items (COPY_OUT_RESPONSE ∷ []) (int32 (7 + 2 * count) ++ (0 ∷ (int16 count ++ formats))) c.in_ok-put_byte.ensures.ok measured in
    rw (formats_length count, length-replicate {A = ℕ} count 0) whole
