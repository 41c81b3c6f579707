use Rattle.std.proofs.Common.{[], set, refl, ap, ◌∙◌, arith}
use Rattle.chgarena.proofs.Appending.{low_seen, changed}
use Rattle.chgarena.proofs.pages.Pages.clear.Goals as goal

pub index_mut-requires : goal.index_mut-requires
index_mut-requires c =
    let i = c.self.inside in
    omega (arith, low_seen i.region i.used.items i.counts.items c.self.invariant c.args.self.now c.self.view_is c.args.chunk c.requires, i.used.ok)

pub index_mut-requires-2 : goal.index_mut-requires-2
index_mut-requires-2 c =
    let i = c.self.inside in
    omega (arith, low_seen i.region i.used.items i.counts.items c.self.invariant c.args.self.now c.self.view_is c.args.chunk c.requires, c.self.invariant.counted, i.counts.ok)

pub returns : goal.returns
returns c =
    let i = c.self.inside in
    let low = low_seen i.region i.used.items i.counts.items c.self.invariant c.args.self.now c.self.view_is c.args.chunk c.requires in
    changed i.region i.region i.used.items i.counts.items c.self.invariant c.args.chunk 0 0 low (λ _ _ _. refl) ∙ ap (λ ps. set ps c.args.chunk []) c.self.view_is
