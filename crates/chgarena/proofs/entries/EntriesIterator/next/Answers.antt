use Rattle.std.proofs.Common.{◌≡◌, ℕ, ◌+◌, ◌-◌, ◌<◌, ◌≤◌, [], ◌∷◌, length, get_or, drop, sym, ap, ◌∙◌, subst, arith}
use Rattle.chgarena.specs.Entries.{IsReading, from_on}
use Rattle.chgarena.specs.Links.{books}
use Rattle.chgarena.proofs.Going.{given_reading, next_reading, next_same, one_given}
use Rattle.chgarena.proofs.entries.EntriesIterator.next.Goals as goal

pub invariant_of-self-then-self-count : goal.invariant_of-self-then-self-count
invariant_of-self-then-self-count c =
    let i = c.loop-self.self-inside in
    let low : i.given < length (get_or i.pages.now i.chunk []) = omega (arith, c.count.ensures, c.if-self-count.true) in
    given_reading i.links.now i.pages.now i.chunk i.left i.given c.loop-self.invariant.reading c.loop-self-test.true low

pub returns-then-self-count-clause-steps : goal.returns-then-self-count-clause-steps
returns-then-self-count-clause-steps c =
    let i = c.loop-self.self-inside in
    let low : i.given < length (get_or i.pages.now i.chunk []) = omega (arith, c.count.ensures, c.if-self-count.true) in
    sym c.loop-self.invariant.same ∙ (one_given i.links.now i.pages.now i.chunk i.left i.given c.loop-self.invariant.reading c.loop-self-test.true low ∙
    ap (λ e. e ∷ drop (i.given + 1) (from_on (books i.links.now).next i.pages.now i.left i.chunk)) (sym c.entry-entry.ensures))

pub returns-then-self-count-clause-goes : goal.returns-then-self-count-clause-goes
returns-then-self-count-clause-goes c =
    let i = c.loop-self.self-inside in
    let low : i.given < length (get_or i.pages.now i.chunk []) = omega (arith, c.count.ensures, c.if-self-count.true) in
    let rest = drop (i.given + 1) (from_on (books i.links.now).next i.pages.now i.left i.chunk) in
    let step : c.args.self.now ≡ get_or (get_or i.pages.now i.chunk []) i.given [] ∷ rest =
    sym c.loop-self.invariant.same ∙ one_given i.links.now i.pages.now i.chunk i.left i.given c.loop-self.invariant.reading c.loop-self-test.true low in
    let shorter : length rest < length c.args.self.now = let n = ap length step in omega arith in
    record { on = λ _. (tt, tt, shorter); keeps = tt; rests = λ _. tt }

pub loop-self-preserved : goal.loop-self-preserved
loop-self-preserved c =
    let i = c.loop-self.self-inside in
    let high : length (get_or i.pages.now i.chunk []) ≤ i.given = omega (arith, c.count.ensures, c.if-self-count.false) in
    let next = c.next-self-inside.ensures in
    let P : ℕ → Type 0 = λ k. IsReading i.links.now i.pages.now k (i.left - 1) 0 in
    record {
      reading = subst P (sym next) (next_reading i.links.now i.pages.now i.chunk i.left i.given c.loop-self.invariant.reading c.loop-self-test.true high);
      same = ap (λ k. drop 0 (from_on (books i.links.now).next i.pages.now (i.left - 1) k)) next ∙
          (next_same i.links.now i.pages.now i.chunk i.left i.given c.loop-self.invariant.reading c.loop-self-test.true high ∙ c.loop-self.invariant.same);
    }
