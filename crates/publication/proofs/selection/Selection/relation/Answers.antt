use Rattle.std.proofs.Common.{◌≡◌, sym, subst}
use Rattle.std.specs.Prelude.{option_map}
use Rattle.pgoutput.specs.declared.logical.Logical.TheVariants as logical
use Rattle.publication_config.specs.Published.{PublicationSet}
use Rattle.row_messages.specs.Relations.{relation_of}
use Rattle.publication.specs.Selection.{FitTables, selected_table}
use Rattle.publication.proofs.Fitting.{relation_of_fits}
use Rattle.publication.proofs.Projecting.{read_put}
use Rattle.publication.proofs.selection.Selection.relation.Goals as goal

pub returns-in_ok-message_in-in-Some-clause-value : goal.returns-in_ok-message_in-in-Some-clause-value
returns-in_ok-message_in-in-Some-clause-value c =
    let tables = subst (λ (s : PublicationSet). FitTables s) c.self.view_is c.self.invariant.0 in
    sym (read_put c.in-Some.len c.put_relation.new.out (option_map (λ t. logical.Relation (relation_of t)) (selected_table c.args.self.now c.args.oid)) c.in_ok-message_in-in-Some.field-0
    c.in-Some.ensures.message (λ m is. (relation_of_fits c.args.self.now c.args.oid m tables is).0) c.in_ok-message_in-in-Some.ensures)

pub returns-in_ok-message_in-in-Some-clause-fits : goal.returns-in_ok-message_in-in-Some-clause-fits
returns-in_ok-message_in-in-Some-clause-fits c =
    let tables = subst (λ (s : PublicationSet). FitTables s) c.self.view_is c.self.invariant.0 in
    let told = option_map (λ t. logical.Relation (relation_of t)) (selected_table c.args.self.now c.args.oid) in
    let is = read_put c.in-Some.len c.put_relation.new.out told c.in_ok-message_in-in-Some.field-0 c.in-Some.ensures.message (λ m is. (relation_of_fits c.args.self.now c.args.oid m tables is).0) c.in_ok-message_in-in-Some.ensures in
    relation_of_fits c.args.self.now c.args.oid c.in_ok-message_in-in-Some.field-0 tables is
