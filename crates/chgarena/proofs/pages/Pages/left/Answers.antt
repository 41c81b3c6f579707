use Rattle.std.proofs.Common.{◌≡◌, get_or, ◌∙◌, arith}
use Rattle.std.proofs.lemmas.List.{get_or_default}
use Rattle.chgarena.proofs.Appending.{low_seen, used_seen, fits_seen}
use Rattle.chgarena.proofs.pages.Pages.left.Goals as goal

pub index-requires : goal.index-requires
index-requires c =
    let i = c.self.inside in
    omega (arith, low_seen i.region i.used.items i.counts.items c.self.invariant c.args.self.now c.self.view_is c.args.chunk c.requires, c.self.invariant.counted, i.used.ok)

pub overflow_sub-result : goal.overflow_sub-result
overflow_sub-result c =
    let i = c.self.inside in
    let low = low_seen i.region i.used.items i.counts.items c.self.invariant c.args.self.now c.self.view_is c.args.chunk c.requires in
    let fits = fits_seen i.region i.used.items i.counts.items c.self.invariant c.args.self.now c.self.view_is c.args.chunk c.requires in
    let used : c.index.result.now ≡ get_or i.used.items c.args.chunk 0 = c.index.ensures ∙ get_or_default i.used.items c.args.chunk c.index.result.now 0 low in
    omega arith

pub returns : goal.returns
returns c =
    let i = c.self.inside in
    let low = low_seen i.region i.used.items i.counts.items c.self.invariant c.args.self.now c.self.view_is c.args.chunk c.requires in
    let fits = fits_seen i.region i.used.items i.counts.items c.self.invariant c.args.self.now c.self.view_is c.args.chunk c.requires in
    let seen = used_seen i.region i.used.items i.counts.items c.self.invariant c.args.self.now c.self.view_is c.args.chunk c.requires in
    let used : c.index.result.now ≡ get_or i.used.items c.args.chunk 0 = c.index.ensures ∙ get_or_default i.used.items c.args.chunk c.index.result.now 0 low in
    omega arith
