use Rattle.std.proofs.Common.{◌≡◌, map}
use Rattle.std.specs.List.{AllByRecursion}
use Rattle.server.specs.RowText.{IsShortValue}
use Rattle.server_state.specs.Copies.{text_of}
use Rattle.server_state.proofs.publications.copied_row.texts_of.Given as goal

abbrev pub invariant-loop-cell : goal.invariant-loop-cell
invariant-loop-cell l = record {
  texts : l.texts.items ≡ map text_of l.yielded;
  short : AllByRecursion IsShortValue l.texts.items;
}
