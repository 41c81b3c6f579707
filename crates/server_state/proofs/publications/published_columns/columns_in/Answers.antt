use Rattle.std.proofs.Common.{◌≡◌, ◌++◌, ◌∷◌, [], sym, subst, rules, arith}
use Rattle.std.proofs.lemmas.Grind.{common_steps}
use Rattle.std.specs.Prelude.{List}
use Rattle.std.specs.List.{AllByRecursion}
use Rattle.std.proofs.lemmas.List.Elements.{filter_map-append}
use Rattle.server.specs.Answers.{AreShortColumns}
use Rattle.server.specs.declared.asked.table_name.TableColumns.{TableColumns}
use Rattle.server_state.proofs.Telling.{all_more}
use Rattle.server_state.proofs.publications.published_columns.columns_in.Goals.{in-Some+in_ok-push, in_default}
use Rattle.server_state.proofs.publications.published_columns.columns_in.Goals as goal

pub loop-oid-preserved : goal.loop-oid-preserved
loop-oid-preserved c = elim c.match-branch-2.branch [
  | in-Some+in_ok-push w ↦
      let items : c.match-branch-2.tables.items ≡ c.loop-oid.tables.items ++ w.in-Some.table ∷ [] = search rules in
      let one : AreShortColumns w.in-Some.table = search rules in
      record {
        told = grind (arith, common_steps, filter_map-append);
        short = subst (λ (l : List TableColumns). AllByRecursion AreShortColumns l) (sym items) (all_more AreShortColumns c.loop-oid.tables.items w.in-Some.table c.loop-oid.invariant.short one);
      }
  | in_default w ↦ record {
    told = grind (arith, common_steps, filter_map-append);
    short = rw w.tables-is c.loop-oid.invariant.short;
  }
]
