use Rattle.std.proofs.Common.{◌≡◌, ◌++◌, length, drop, ap, ◌∙◌, append_assoc}
use Rattle.std.proofs.lemmas.List.{drop_at}
use Rattle.segments.specs.Entries.{entries, header}
use Rattle.segments.proofs.Files.{begins_as}
use Rattle.segments.proofs.Reading.{found_again, header_length}
use Rattle.segments.proofs.laws.synced_entries_are_found.Goals as goal

pub returns : goal.returns
returns c = λ key es found content fit begins finds.
    let front = header key ++ entries key es in
    let tail = drop (length front) content in
    let is : drop 28 content ≡ entries key es ++ tail =
    ap (drop 28) (begins_as front content begins ∙ append_assoc (header key) (entries key es) tail) ∙ drop_at (header key) (entries key es ++ tail) 28 (header_length key) in
    found_again key es found (drop 28 content) tail finds.rest fit is finds.reads
