use Rattle.std.proofs.lemmas.Int.{to_z-of_z}
use Rattle.std.proofs.Common.{w64, of_z, to_z, ℕ, ◌-◌, ◌≡◌, ◌++◌, ◌∙◌, ap, refl, inr, subst}
use Rattle.std.specs.Prelude.{min}
use Rattle.walsender.specs.Sending.{SenderState}
use Rattle.walsender.specs.declared.walsender.Walsender.{Walsender}
use Rattle.walsender.specs.declared.stream_turn.limits.TheConstants.{TURN_RECORDS}
use Rattle.hub.specs.Streams.{asking, keepalives}
use Rattle.hub.specs.Turns.{ReadsWhole, WritesUnder, most_read}
use Rattle.hub.proofs.Streams.{Gave, both_so, kept_on, one_more, promised_first, same_on}
use Rattle.hub.proofs.Turns.{held_on, read_whole, writes_under}
use Rattle.hub.proofs.stream.streaming.Stream.go_on.Goals as goal

pub returns-then-eq-clause-serves : goal.returns-then-eq-clause-serves
returns-then-eq-clause-serves g c = same_on c.args.self.now.walsender c.confirm_any.new.self.walsender (g.W.Write.contents c.args.to.now) c.confirm_any.ensures.same.0

pub returns-in_err-answer_statuses-clause-serves : goal.returns-in_err-answer_statuses-clause-serves
returns-in_err-answer_statuses-clause-serves g c =
    let old = c.args.self.now.walsender in
    let confirmed = c.confirm_any.new.self.walsender in
    let answered = c.answer_statuses.new.self.walsender in
    let before = g.W.Write.contents c.args.to.now in
    let between = g.W.Write.contents c.answer_statuses.new.to in
    one_more old confirmed answered before before between (same_on old confirmed before c.confirm_any.ensures.same.0) c.answer_statuses.ensures.serves

pub returns-in_err-ask_if-clause-serves : goal.returns-in_err-ask_if-clause-serves
returns-in_err-ask_if-clause-serves g c =
    let old = c.args.self.now.walsender in
    let confirmed = c.confirm_any.new.self.walsender in
    let answered = c.answer_statuses.new.self.walsender in
    let asked = c.ask_if.new.self.walsender in
    let before = g.W.Write.contents c.args.to.now in
    let between = g.W.Write.contents c.answer_statuses.new.to in
    let quiet = one_more old confirmed answered before before between (same_on old confirmed before c.confirm_any.ensures.same.0) c.answer_statuses.ensures.serves in
    one_more old answered asked before between between quiet (kept_on answered asked between c.ask_if.ensures.reader c.ask_if.ensures.serves)

pub returns-in_err-turn-clause-serves : goal.returns-in_err-turn-clause-serves
returns-in_err-turn-clause-serves g c =
    let old = c.args.self.now.walsender in
    let confirmed = c.confirm_any.new.self.walsender in
    let answered = c.answer_statuses.new.self.walsender in
    let asked = c.ask_if.new.self.walsender in
    let before = g.W.Write.contents c.args.to.now in
    let between = g.W.Write.contents c.answer_statuses.new.to in
    let quiet = one_more old confirmed answered before before between (same_on old confirmed before c.confirm_any.ensures.same.0) c.answer_statuses.ensures.serves in
    let held = one_more old answered asked before between between quiet (kept_on answered asked between c.ask_if.ensures.reader c.ask_if.ensures.serves) in
    one_more old asked c.turn.new.self before between (g.W.Write.contents c.turn.new.to) held c.turn.ensures.serves

pub returns-clause-serves : goal.returns-clause-serves
returns-clause-serves g c =
    let old = c.args.self.now.walsender in
    let confirmed = c.confirm_any.new.self.walsender in
    let answered = c.answer_statuses.new.self.walsender in
    let asked = c.ask_if.new.self.walsender in
    let before = g.W.Write.contents c.args.to.now in
    let between = g.W.Write.contents c.answer_statuses.new.to in
    let turned = g.W.Write.contents c.turn.new.to in
    let quiet = one_more old confirmed answered before before between (same_on old confirmed before c.confirm_any.ensures.same.0) c.answer_statuses.ensures.serves in
    let held = one_more old answered asked before between between quiet (kept_on answered asked between c.ask_if.ensures.reader c.ask_if.ensures.serves) in
    let gone = one_more old asked c.turn.new.self before between turned held c.turn.ensures.serves in
    one_more old c.turn.new.self c.tell_position.new.self.walsender before turned (g.W.Write.contents c.tell_position.new.to) gone c.tell_position.ensures.serves

pub returns-clause-answers : goal.returns-clause-answers
returns-clause-answers g c =
    let old = c.args.self.now.walsender in
    let confirmed = c.confirm_any.new.self.walsender in
    let answered = c.answer_statuses.new.self.walsender in
    let asked = c.ask_if.new.self.walsender in
    let count = c.args.work.now.asked in
    let before = g.W.Write.contents c.args.to.now in
    let between = g.W.Write.contents c.answer_statuses.new.to in
    let turned = g.W.Write.contents c.turn.new.to in
    let after = g.W.Write.contents c.tell_position.new.to in
    let same = c.confirm_any.ensures.same.0 in
    let quiet = one_more old confirmed answered before before between (same_on old confirmed before same) c.answer_statuses.ensures.serves in
    let held = one_more old answered asked before between between quiet (kept_on answered asked between c.ask_if.ensures.reader c.ask_if.ensures.serves) in
    let clock = c.args.work.now.clock in
    let clocked : to_z w64 (of_z w64 clock) ≡ clock = search (to_z-of_z) in
    let kept = rw clocked at c.in_ok-answer_statuses.ensures.kept in
    let asks = rw clocked at c.in_ok-ask_if.ensures.held in
    let turn = rw clocked at c.in_ok-turn.ensures in
    let says = rw clocked at c.tell_position.ensures.says in
    let (given, goes, appended) = c.tell_position.ensures.serves in
    let P : Walsender _ → Type 0 = λ w. Gave (w.sender.held ++ keepalives w.sender.position clock count) answered.sender.held before between in
    let Rest : Walsender _ → Type 0 = λ w. answered.sender ≡ record w.sender { held = answered.sender.held; lent = answered.sender.lent } in
    let rest = subst Rest same c.answer_statuses.ensures.rest in
    let promised = old.sender.held ++ keepalives old.sender.position clock count in
    let gave = subst P same kept in
    let more = asking c.args.work.now.is_silent old.sender.position clock in
    let then = ap (λ (s : SenderState). s.held) asks ∙ ap (λ (s : SenderState). answered.sender.held ++ asking c.args.work.now.is_silent s.position clock) rest in
    let reader = c.ask_if.ensures.reader ∙ c.answer_statuses.ensures.reader ∙ ap (λ (w : Walsender _). w.reader) same in
    let first = promised_first old answered asked before between turned after promised more gave held then turn.first (given, appended) in
    let (out, read, _) = turn.reads in
    let most = c.most_read-most.result in
    let is_most : most ≡ most_read c.args.work.now old = c.most_read-most.ensures ∙ ap (λ (place : ℕ). min TURN_RECORDS (c.args.work.now.readable - place)) (c.place.ensures ∙ ap (λ (w : Walsender _). w.reader.place) same) in
    let whole = read_whole most old asked c.turn.new.self c.tell_position.new.self.walsender (c.ask_if.ensures.position ∙ ap (λ (s : SenderState). s.position) rest) reader (turn.sees refl) (ap (λ (s : SenderState). s.position) read.rest ∙ read.read.position) c.tell_position.ensures.position c.tell_position.ensures.reader in
    let under = writes_under most clock old answered asked c.turn.new.self c.tell_position.new.self.walsender before between turned after promised more gave then (held_on old.sender answered.sender asked.sender (answered.sender.held ++ asking c.args.work.now.is_silent answered.sender.position clock) rest asks) turn.reads reader c.tell_position.ensures.reader in
    let Under : ℕ → Type 0 = λ n. WritesUnder n clock (promised ++ more) old c.tell_position.new.self.walsender before after in
    let Whole : ℕ → Type 0 = λ n. ReadsWhole n old c.tell_position.new.self.walsender in
    both_so c.tell_position.result (c.tell_position.ensures.whole turn.sent) (says turn.sent) (λ empty last. inr (first, subst Under is_most (under last), subst Whole is_most (whole empty)))
