use Rattle.std.proofs.Common.{◌≡◌, ℕ, ◌+◌, ◌*◌, [], Some, drop, get_or, length, map, take, sym, ap, ◌∙◌, subst, arith}
use Rattle.chgarena.specs.Pages.{begins, known, line_of}
use Rattle.chgarena.proofs.Appending.{low_seen, room_seen}
use Rattle.chgarena.proofs.Coding.{known_some}
use Rattle.chgarena.proofs.Reading.{body_read, line_read, line_says, read_fits}
use Rattle.chgarena.proofs.pages.Pages.entry.Goals as goal

pub line_at-requires-clause-chunk : goal.line_at-requires-clause-chunk
line_at-requires-clause-chunk c =
    let i = c.self.inside in
    let low = low_seen i.region i.used.items i.counts.items c.self.invariant c.args.self.now c.self.view_is c.args.chunk c.requires.chunk in
    let few = c.self.invariant.few in
    omega arith

pub line_at-requires-clause-line : goal.line_at-requires-clause-line
line_at-requires-clause-line c =
    let i = c.self.inside in
    let fits = read_fits i.region i.used.items i.counts.items c.self.invariant c.args.self.now c.self.view_is c.args.chunk c.requires.chunk c.args.k c.requires.entry in
    omega (arith, c.requires.entry)

pub read_line-from-requires-clause-within : goal.read_line-from-requires-clause-within
read_line-from-requires-clause-within c =
    let i = c.self.inside in
    let fits = read_fits i.region i.used.items i.counts.items c.self.invariant c.args.self.now c.self.view_is c.args.chunk c.requires.chunk c.args.k c.requires.entry in
    let room = room_seen i.region i.used.items i.counts.items c.self.invariant c.args.self.now c.self.view_is c.args.chunk c.requires.chunk in
    omega (arith, c.requires.entry, c.line_at.ensures)

pub read_line-from-requires-clause-written : goal.read_line-from-requires-clause-written
read_line-from-requires-clause-written c =
    let i = c.self.inside in
    let es = get_or c.args.self.now c.args.chunk [] in
    let fits = read_fits i.region i.used.items i.counts.items c.self.invariant c.args.self.now c.self.view_is c.args.chunk c.requires.chunk c.args.k c.requires.entry in
    let P : ℕ → Type 0 = λ at. take 4 (drop at i.region) ≡ map (λ x. Some x) (line_of (begins es c.args.k) (length (get_or es c.args.k []))) in
    (begins es c.args.k, length (get_or es c.args.k []), omega arith, omega arith, subst P (sym c.line_at.ensures) (line_read i.region i.used.items i.counts.items c.self.invariant c.args.self.now c.self.view_is c.args.chunk c.requires.chunk c.args.k c.requires.entry))

pub overflow_add-chunk : goal.overflow_add-chunk
overflow_add-chunk c =
    let i = c.self.inside in
    let low = low_seen i.region i.used.items i.counts.items c.self.invariant c.args.self.now c.self.view_is c.args.chunk c.requires.chunk in
    let few = c.self.invariant.few in
    let fits = read_fits i.region i.used.items i.counts.items c.self.invariant c.args.self.now c.self.view_is c.args.chunk c.requires.chunk c.args.k c.requires.entry in
    let says = line_says i.region i.used.items i.counts.items c.self.invariant c.args.self.now c.self.view_is c.args.chunk c.requires.chunk c.args.k c.requires.entry c.line_at.result c.read_line-from.result c.line_at.ensures c.read_line-from.ensures in
    let from = ap (λ p. p.0) says in
    let size = ap (λ p. p.1) says in
    record { fits = omega arith }

pub lend-requires-clause-within : goal.lend-requires-clause-within
lend-requires-clause-within c =
    let i = c.self.inside in
    let fits = read_fits i.region i.used.items i.counts.items c.self.invariant c.args.self.now c.self.view_is c.args.chunk c.requires.chunk c.args.k c.requires.entry in
    let room = room_seen i.region i.used.items i.counts.items c.self.invariant c.args.self.now c.self.view_is c.args.chunk c.requires.chunk in
    let says = line_says i.region i.used.items i.counts.items c.self.invariant c.args.self.now c.self.view_is c.args.chunk c.requires.chunk c.args.k c.requires.entry c.line_at.result c.read_line-from.result c.line_at.ensures c.read_line-from.ensures in
    let from = ap (λ p. p.0) says in
    let size = ap (λ p. p.1) says in
    omega arith

pub lend-requires-clause-written : goal.lend-requires-clause-written
lend-requires-clause-written c =
    let i = c.self.inside in
    let says = line_says i.region i.used.items i.counts.items c.self.invariant c.args.self.now c.self.view_is c.args.chunk c.requires.chunk c.args.k c.requires.entry c.line_at.result c.read_line-from.result c.line_at.ensures c.read_line-from.ensures in
    let there = ap (λ p. take p.1 (drop (c.args.chunk * 16384 + p.0) i.region)) says ∙ body_read i.region i.used.items i.counts.items c.self.invariant c.args.self.now c.self.view_is c.args.chunk c.requires.chunk c.args.k c.requires.entry in
    (get_or (get_or c.args.self.now c.args.chunk []) c.args.k [], there)

pub returns : goal.returns
returns c =
    let i = c.self.inside in
    let says = line_says i.region i.used.items i.counts.items c.self.invariant c.args.self.now c.self.view_is c.args.chunk c.requires.chunk c.args.k c.requires.entry c.line_at.result c.read_line-from.result c.line_at.ensures c.read_line-from.ensures in
    let there = ap (λ p. take p.1 (drop (c.args.chunk * 16384 + p.0) i.region)) says ∙ body_read i.region i.used.items i.counts.items c.self.invariant c.args.self.now c.self.view_is c.args.chunk c.requires.chunk c.args.k c.requires.entry in
    sym (known_some c.lend.result.now) ∙ (ap known (sym c.lend.ensures ∙ there) ∙ known_some (get_or (get_or c.args.self.now c.args.chunk []) c.args.k []))
