use Rattle.std.proofs.Common.{sym, ◌∙◌, arith}
use Rattle.std.proofs.lemmas.List.{get_or_default}
use Rattle.chgarena.proofs.Appending.{low_seen, count_seen}
use Rattle.chgarena.proofs.pages.Pages.count.Goals as goal

pub index-requires : goal.index-requires
index-requires c =
    let i = c.self.inside in
    omega (arith, low_seen i.region i.used.items i.counts.items c.self.invariant c.args.self.now c.self.view_is c.args.chunk c.requires, c.self.invariant.counted, i.counts.ok)

pub returns : goal.returns
returns c =
    let i = c.self.inside in
    let low = low_seen i.region i.used.items i.counts.items c.self.invariant c.args.self.now c.self.view_is c.args.chunk c.requires in
    c.index.ensures ∙ (get_or_default i.counts.items c.args.chunk c.index.result.now 0 (omega (arith, c.self.invariant.counted)) ∙
    sym (count_seen i.region i.used.items i.counts.items c.self.invariant c.args.self.now c.self.view_is c.args.chunk c.requires))
