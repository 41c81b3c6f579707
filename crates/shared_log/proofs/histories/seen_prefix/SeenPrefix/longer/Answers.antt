use Rattle.std.proofs.Common.{◌≤◌, List, ap, arith, length, subst}
use mathlib.Core.List.{IsPrefix}
use Rattle.shared_log.specs.declared.histories.entry.Entry.{Entry}
use Rattle.shared_log.proofs.Prefixes.{begins_other}
use Rattle.shared_log.proofs.histories.seen_prefix.SeenPrefix.longer.Goals as goal

pub returns-then-self-other-clause-this : goal.returns-then-self-other-clause-this
returns-then-self-other-clause-this g c =
    let mine = c.self.inside.seen.log in
    let others = c.other.inside.seen.log in
    let both = c.learn.new.self.log in
    let begins : IsPrefix mine both = subst (λ (l : List Entry). IsPrefix l both) (ap (λ s. s.log) c.again-both.ensures) c.learn.ensures.2 in
    let less : length mine ≤ length others = omega (arith, c.self.invariant.0, c.other.invariant.0) in
    rw (c.again.ensures, ← c.self.view_is, ← c.other.view_is) (begins_other mine others both begins c.learn.ensures.3 less)

pub returns-clause-that : goal.returns-clause-that
returns-clause-that g c =
    let mine = c.self.inside.seen.log in
    let others = c.other.inside.seen.log in
    let both = c.learn.new.self.log in
    let begins : IsPrefix mine both = subst (λ (l : List Entry). IsPrefix l both) (ap (λ s. s.log) c.again-both.ensures) c.learn.ensures.2 in
    let less : length others ≤ length mine = omega (arith, c.self.invariant.0, c.other.invariant.0) in
    rw (c.again-else-self-other.ensures, ← c.self.view_is, ← c.other.view_is) (begins_other others mine both c.learn.ensures.3 begins less)
