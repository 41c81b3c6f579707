use Rattle.std.proofs.Common.{◌≡◌, ◌+◌, ◌<◌, ◌≤◌, List, true, suc, ap, arith, length, subst}
use Rattle.std.proofs.lemmas.Bool.{leb-false, leb-true}
use mathlib.Core.List.{IsPrefix}
use Rattle.shared_log.specs.declared.histories.entry.Entry.{Entry}
use Rattle.shared_log.specs.SeenPrefixes.{ends_confirmed}
use Rattle.shared_log.proofs.SeenPrefixes.{in_shown}
use Rattle.shared_log.proofs.Prefixes.{begins_other}
use Rattle.shared_log.proofs.histories.seen_prefix.SeenPrefix.is_in.Goals as goal

pub returns-in-None-clause-held : goal.returns-in-None-clause-held
returns-in-None-clause-held g c same =
    let mine = c.self.inside.seen.log in
    let found = c.args.mark.now.seen.log in
    let both = c.learn.new.self.log in
    let begins : IsPrefix mine both = subst (λ (l : List Entry). IsPrefix l both) (ap (λ s. s.log) c.again-both.ensures) c.learn.ensures.2 in
    let ends : ends_confirmed mine ≡ true = rw c.self.view_is c.requires.ends in
    let few : length mine ≤ suc (length found) = omega (arith, c.self.invariant.0, c.in-None.ensures) in
    rw (← c.self.view_is) (in_shown mine found both begins c.learn.ensures.3 ends few)

pub returns-clause-held : goal.returns-clause-held
returns-clause-held g c least =
    let mine = c.self.inside.seen.log in
    let found = c.args.mark.now.seen.log in
    let both = c.learn.new.self.log in
    let begins : IsPrefix mine both = subst (λ (l : List Entry). IsPrefix l both) (ap (λ s. s.log) c.again-both.ensures) c.learn.ensures.2 in
    let ends : ends_confirmed mine ≡ true = rw c.self.view_is c.requires.ends in
    let few : length mine ≤ suc (length found) = omega (arith, c.self.invariant.0, c.args.mark.now.counted, c.in-Some.ensures, leb-true _ _ least) in
    rw (← c.self.view_is) (in_shown mine found both begins c.learn.ensures.3 ends few)

pub returns-clause-behind : goal.returns-clause-behind
returns-clause-behind g c more =
    let mine = c.self.inside.seen.log in
    let found = c.args.mark.now.seen.log in
    let both = c.learn.new.self.log in
    let begins : IsPrefix mine both = subst (λ (l : List Entry). IsPrefix l both) (ap (λ s. s.log) c.again-both.ensures) c.learn.ensures.2 in
    let many : length found + 1 < length mine = omega (arith, c.self.invariant.0, c.args.mark.now.counted, c.in-Some.ensures, leb-false _ _ more) in
    rw (← c.self.view_is) (begins_other found mine both c.learn.ensures.3 begins (omega (arith, many)), many)
