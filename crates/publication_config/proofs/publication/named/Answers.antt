use Rattle.std.proofs.Common.{sym, ap, ◌∷◌, ◌++◌, [], ◌∙◌}
use Rattle.std.specs.Prelude.{Bool}
use Rattle.std.specs.List.{list_any}
use Rattle.std.specs.Str.{bytes_eq}
use Rattle.publication_config.specs.declared.publication.Publication.{Publication}
use Rattle.publication_config.proofs.Filtering.{kept_next, left_next}
use Rattle.publication_config.proofs.publication.named.Goals.{then-is_among+in_ok-copy+in_ok-push, else-is_among}
use Rattle.publication_config.proofs.publication.named.Goals as goal

pub loop-publication-preserved : goal.loop-publication-preserved
loop-publication-preserved c =
    let i = c.loop-publication.publication-index in
    let p : Publication → Bool = λ q. list_any (λ n. bytes_eq q.name n) c.args.names.now in
    elim c.if-is_among.branch [
      | then-is_among+in_ok-copy+in_ok-push w ↦ kept_next p c.loop-publication.named.items c.if-is_among.named.items c.args.publications.now i c.publication-item.result
          c.loop-publication-test.true c.publication-item.is (sym c.is_among.ensures ∙ w.if-is_among.true)
          (ap (λ v. v.items) w.named-is ∙ w.in_ok-push.ensures.items ∙ ap (λ (q : Publication). c.loop-publication.named.items ++ q ∷ []) w.in_ok-copy.ensures) c.loop-publication.invariant
      | else-is_among w ↦ left_next p c.loop-publication.named.items c.if-is_among.named.items c.args.publications.now i c.publication-item.result
          c.loop-publication-test.true c.publication-item.is (sym c.is_among.ensures ∙ w.if-is_among.false) (ap (λ v. v.items) w.named-is) c.loop-publication.invariant
    ]
