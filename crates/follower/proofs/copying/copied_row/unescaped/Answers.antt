use Rattle.std.proofs.Common.{◌≡◌, ◌+◌, ◌++◌, [], ℕ, List, false, append-nil, drop, ap, sym, subst, ◌∙◌, arith}
use Rattle.std.proofs.lemmas.List.{drop_all}
use Rattle.follower.proofs.CopiedValues.{backslash_passed, escaped_added, nothing_told, plain_added, told, value_told}
use Rattle.follower.proofs.copying.copied_row.unescaped.Goals.{then-is_escaped+in_ok-push, else-is_escaped+then-byte-eq92, else-is_escaped+else-byte-eq92+in_ok-push-2}
use Rattle.follower.proofs.copying.copied_row.unescaped.Goals as goal

pub loop-byte-preserved : goal.loop-byte-preserved
loop-byte-preserved c =
    let at = c.loop-byte in
    let field = c.args.field.now in
    let rest = drop (at.byte-index + 1) field in
    elim c.if-is_escaped.branch [
      | then-is_escaped+in_ok-push w ↦
          let done = escaped_added at.bytes.items field at.byte-index c.loop-byte-test.true at.is_escaped at.invariant w.meant_by.result w.push.new.self.items w.if-is_escaped.true w.meant_by.ensures w.in_ok-push.ensures.items in
          let kept : c.if-is_escaped.bytes.items ++ told c.if-is_escaped.is_escaped rest ≡ told false field = rw (w.bytes-is, w.is_escaped-is) done in
          kept
      | else-is_escaped+then-byte-eq92 w ↦
          let done = backslash_passed at.bytes.items field at.byte-index c.loop-byte-test.true at.is_escaped at.invariant w.if-is_escaped.false w.if-byte-eq92.true in
          let kept : c.if-is_escaped.bytes.items ++ told c.if-is_escaped.is_escaped rest ≡ told false field = rw (w.bytes-is, w.is_escaped-is) done in
          kept
      | else-is_escaped+else-byte-eq92+in_ok-push-2 w ↦
          let done = plain_added at.bytes.items field at.byte-index c.loop-byte-test.true at.is_escaped at.invariant w.push-else-byte-eq92.new.self.items w.if-is_escaped.false w.if-byte-eq92.false w.in_ok-push-2.ensures.items in
          let kept : c.if-is_escaped.bytes.items ++ told c.if-is_escaped.is_escaped rest ≡ told false field = rw (w.bytes-is, w.is_escaped-is, w.if-is_escaped.false) done in
          kept
    ]

pub returns : goal.returns
returns c = λ value is.
    let field = c.args.field.now in
    let i = c.loop-byte.byte-index in
    let none : drop i field ≡ [] = drop_all i field (omega arith) in
    let all : c.loop-byte.bytes.items ++ told c.loop-byte.is_escaped [] ≡ told false field = subst (λ (l : List ℕ). c.loop-byte.bytes.items ++ told c.loop-byte.is_escaped l ≡ told false field) none c.loop-byte.invariant in
    sym (append-nil c.loop-byte.bytes.items) ∙ ap (λ (l : List ℕ). c.loop-byte.bytes.items ++ l) (sym (nothing_told c.loop-byte.is_escaped)) ∙ all ∙ ap (told false) is ∙ value_told value
