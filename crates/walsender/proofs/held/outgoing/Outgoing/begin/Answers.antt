use Rattle.std.proofs.Common.{◌≡◌, ℕ, ℤ, List, ◌++◌, length, take, ap, refl, sym, ◌∙◌, arith}
use Rattle.std.specs.Int.{w64}
use Rattle.std.proofs.lemmas.Int.{to_z-of_z}
use Rattle.std.proofs.lemmas.List.{length-append, take_all}
use Rattle.walsender.specs.declared.held.outgoing.Outgoing.{Outgoing}
use Rattle.walsender.specs.Waiting.{begin_bytes}
use Rattle.walsender.proofs.Frames.{queue_kept}
use Rattle.walsender.proofs.Noting.{on_err}
use Rattle.walsender.proofs.Refusing.{no_value}
use Rattle.walsender.proofs.held.outgoing.Outgoing.begin.Goals as goal

pub returns-in_err-reserve-clause-ok : goal.returns-in_err-reserve-clause-ok
returns-in_err-reserve-clause-ok c =
    no_value c.from_residual.result _ c.from_residual.ensures.0

pub returns-in_err-reserve-clause-fits : goal.returns-in_err-reserve-clause-fits
returns-in_err-reserve-clause-fits c =
    no_value c.from_residual.result _ c.from_residual.ensures.0

pub returns-in_err-reserve-clause-err : goal.returns-in_err-reserve-clause-err
returns-in_err-reserve-clause-err c =
    on_err c.from_residual.result _ (ap (λ (p : Outgoing). p.made.items) c.reserve.ensures.rest)

pub returns-in_err-reserve-clause-frames : goal.returns-in_err-reserve-clause-frames
returns-in_err-reserve-clause-frames c =
    c.reserve.ensures.frames

pub returns-in_err-reserve-clause-waiting : goal.returns-in_err-reserve-clause-waiting
returns-in_err-reserve-clause-waiting c =
    ap (λ (p : Outgoing). p.waiting) c.reserve.ensures.rest

pub returns-in_err-reserve-clause-rest : goal.returns-in_err-reserve-clause-rest
returns-in_err-reserve-clause-rest c = queue_kept c.args.self.now c.reserve.new.self c.reserve.new.self c.reserve.ensures.rest refl refl (omega arith)

pub returns-in_err-reserve-2-clause-ok : goal.returns-in_err-reserve-2-clause-ok
returns-in_err-reserve-2-clause-ok c =
    no_value c.from_residual-in_err-reserve-2.result _ c.from_residual-in_err-reserve-2.ensures.0

pub returns-in_err-reserve-2-clause-fits : goal.returns-in_err-reserve-2-clause-fits
returns-in_err-reserve-2-clause-fits c =
    no_value c.from_residual-in_err-reserve-2.result _ c.from_residual-in_err-reserve-2.ensures.0

pub returns-in_err-reserve-2-clause-err : goal.returns-in_err-reserve-2-clause-err
returns-in_err-reserve-2-clause-err c =
    on_err c.from_residual-in_err-reserve-2.result _ (ap (λ (p : Outgoing). p.made.items) c.reserve.ensures.rest)

pub returns-in_err-reserve-2-clause-frames : goal.returns-in_err-reserve-2-clause-frames
returns-in_err-reserve-2-clause-frames c =
    c.reserve.ensures.frames

pub returns-in_err-reserve-2-clause-waiting : goal.returns-in_err-reserve-2-clause-waiting
returns-in_err-reserve-2-clause-waiting c =
    ap (λ (p : Outgoing). p.waiting) c.reserve.ensures.rest

pub returns-in_err-reserve-2-clause-rest : goal.returns-in_err-reserve-2-clause-rest
returns-in_err-reserve-2-clause-rest c = queue_kept c.args.self.now c.reserve.new.self (record c.reserve.new.self { relations_sent = c.reserve-2.new.self }) c.reserve.ensures.rest refl c.reserve-2.ensures.items (omega (arith, c.reserve-2.ensures.capacity))

pub returns-in_err-put_slice-clause-ok : goal.returns-in_err-put_slice-clause-ok
returns-in_err-put_slice-clause-ok c =
    no_value c.from_residual-in_err-put_slice.result _ c.from_residual-in_err-put_slice.ensures.0

pub returns-in_err-put_slice-clause-fits : goal.returns-in_err-put_slice-clause-fits
returns-in_err-put_slice-clause-fits c =
    no_value c.from_residual-in_err-put_slice.result _ c.from_residual-in_err-put_slice.ensures.0

pub returns-in_err-put_slice-clause-err : goal.returns-in_err-put_slice-clause-err
returns-in_err-put_slice-clause-err c =
    on_err c.from_residual-in_err-put_slice.result _ (c.in_err-put_slice.ensures.err ∙ ap (λ (p : Outgoing). p.made.items) c.reserve.ensures.rest)

pub returns-in_err-put_slice-clause-frames : goal.returns-in_err-put_slice-clause-frames
returns-in_err-put_slice-clause-frames c =
    c.reserve.ensures.frames

pub returns-in_err-put_slice-clause-waiting : goal.returns-in_err-put_slice-clause-waiting
returns-in_err-put_slice-clause-waiting c =
    ap (λ (p : Outgoing). p.waiting) c.reserve.ensures.rest

pub returns-in_err-put_slice-clause-rest : goal.returns-in_err-put_slice-clause-rest
returns-in_err-put_slice-clause-rest c = queue_kept c.args.self.now c.reserve.new.self (record c.reserve.new.self { made = c.put_slice.new.self; relations_sent = c.reserve-2.new.self }) c.reserve.ensures.rest refl c.reserve-2.ensures.items (omega (arith, c.reserve-2.ensures.capacity))

pub returns-clause-frames : goal.returns-clause-frames
returns-clause-frames c =
    c.reserve.ensures.frames

pub returns-clause-waiting : goal.returns-clause-waiting
returns-clause-waiting c =
    ap (λ (p : Outgoing). p.waiting) c.reserve.ensures.rest

pub returns-clause-rest : goal.returns-clause-rest
returns-clause-rest c = queue_kept c.args.self.now c.reserve.new.self (record c.reserve.new.self { made = c.put_slice.new.self; relations_sent = c.reserve-2.new.self }) c.reserve.ensures.rest refl c.reserve-2.ensures.items (omega (arith, c.reserve-2.ensures.capacity))

pub overflow_sub-result : goal.overflow_sub-result
overflow_sub-result c =
    let old = c.args.self.now in
    let out = c.put_begin.new.out in
    let placed : c.reserve.new.self.placed ≡ old.placed = ap (λ (p : Outgoing). p.placed) c.reserve.ensures.rest in
    let before : c.reserve.new.self.made.items ≡ old.made.items = ap (λ (p : Outgoing). p.made.items) c.reserve.ensures.rest in
    let items : c.put_slice.new.self.items ≡ old.made.items ++ out = c.in_ok-put_slice.ensures.ok ∙ ap (λ (l : List ℕ). l ++ out) before in
    let size : length c.put_slice.new.self.items ≡ length (old.made.items ++ out) = ap (length {A = ℕ}) items in
    let parts = length-append old.made.items out in
    omega (arith, placed, size, parts, c.requires, c.len.ensures.value)

pub returns-clause-fits : goal.returns-clause-fits
returns-clause-fits c =
    let old = c.args.self.now in
    let out = c.put_begin.new.out in
    let placed : c.reserve.new.self.placed ≡ old.placed = ap (λ (p : Outgoing). p.placed) c.reserve.ensures.rest in
    let before : c.reserve.new.self.made.items ≡ old.made.items = ap (λ (p : Outgoing). p.made.items) c.reserve.ensures.rest in
    let items : c.put_slice.new.self.items ≡ old.made.items ++ out = c.in_ok-put_slice.ensures.ok ∙ ap (λ (l : List ℕ). l ++ out) before in
    let size : length c.put_slice.new.self.items ≡ length (old.made.items ++ out) = ap (length {A = ℕ}) items in
    let parts = length-append old.made.items out in
    omega (arith, placed, size, parts, c.requires, c.len.ensures.value, c.len.ensures.bound)

pub returns-clause-ok : goal.returns-clause-ok
returns-clause-ok c =
    let old = c.args.self.now in
    let out = c.put_begin.new.out in
    let placed : c.reserve.new.self.placed ≡ old.placed = ap (λ (p : Outgoing). p.placed) c.reserve.ensures.rest in
    let before : c.reserve.new.self.made.items ≡ old.made.items = ap (λ (p : Outgoing). p.made.items) c.reserve.ensures.rest in
    let items : c.put_slice.new.self.items ≡ old.made.items ++ out = c.in_ok-put_slice.ensures.ok ∙ ap (λ (l : List ℕ). l ++ out) before in
    let size : length c.put_slice.new.self.items ≡ length (old.made.items ++ out) = ap (length {A = ℕ}) items in
    let parts = length-append old.made.items out in
    let whole : out ≡ begin_bytes c.args.clock c.args.header.now =
    sym (take_all c.put_begin.result out (omega (arith, c.put_begin.ensures.length, c.put_begin.ensures.same))) ∙ c.put_begin.ensures.made ∙ ap (λ (clock : ℤ). begin_bytes clock c.args.header.now) (to_z-of_z w64 c.args.clock c.ranges.clock) in
    let made : c.put_slice.new.self.items ≡ old.made.items ++ begin_bytes c.args.clock c.args.header.now = items ∙ ap (λ (l : List ℕ). old.made.items ++ l) whole in
    let long : length c.put_slice.new.self.items ≡ length (old.made.items ++ begin_bytes c.args.clock c.args.header.now) = ap (length {A = ℕ}) made in
    let oids = ap (length {A = ℕ}) c.oids.ensures.value in
    (omega (arith, placed, size, parts, long, c.requires, c.len.ensures.value), made, c.in_ok-reserve.ensures.room, omega (arith, c.in_ok-reserve-2.ensures.ok, oids))
