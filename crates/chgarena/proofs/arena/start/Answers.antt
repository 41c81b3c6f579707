use Rattle.std.proofs.Common.{[], ◌∷◌, ◌++◌, get_or, set, ap, ◌∙◌}
use Rattle.std.proofs.lemmas.List.{get_or-set_same, set-set}
use Rattle.chgarena.proofs.arena.start.Goals as goal

pub returns : goal.returns
returns c =
    let ps = c.args.pages.now in
    let k = c.args.chunk in
    let e = c.args.entry.now in
    c.append.ensures ∙ (ap (λ qs. set qs k (get_or qs k [] ++ e ∷ [])) c.clear.ensures ∙
    (ap (λ es. set (set ps k []) k (es ++ e ∷ [])) (get_or-set_same ps k [] [] c.requires.chunk) ∙ set-set ps k [] (e ∷ [])))
