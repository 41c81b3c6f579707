use Rattle.std.proofs.Common.{[], refl, inl, inr}
use Rattle.std.specs.Prelude.{string_bytes}
use Rattle.server.specs.Conversation.{Runs, Replies, why_of}
use Rattle.server.specs.Said.{refused_with}
use Rattle.server.proofs.Names.{short_slot}
use Rattle.server.proofs.Steps.{not_read, answered_as}
use Rattle.server.proofs.asked.query.reply.Goals as goal

pub run-answered-requires : goal.run-answered-requires
run-answered-requires g c = short_slot c.args.strictness c.args.query.now c.in-Ok.command c.in-Ok.ensures.found

pub returns-in-Ok : goal.returns-in-Ok
returns-in-Ok g c =
    answered_as g.D.Backend.told c.run-answered.result (λ begun. Runs c.args.database.now c.in-Ok.command begun) (λ begun. Replies c.args.strictness (why_of c.args.is_question) c.args.database.now c.args.query.now begun) c.args.backend.now c.args.out.now.items c.run-answered.new.backend c.run-answered.new.out.items
    (λ begun asked text fact. inl (c.in-Ok.command, c.in-Ok.ensures.found, fact)) c.run-answered.ensures

pub returns-in_ok-say_refused_with-in-Err : goal.returns-in_ok-say_refused_with-in-Err
returns-in_ok-say_refused_with-in-Err g c = record {
  asked = [];
  text = refused_with (why_of c.args.is_question c.in-Err.fault) (string_bytes c.in_ok-text-in-Err.text);
  fact = inr (
    record {
      fault = c.in-Err.fault;
      nothing = refl;
      told = string_bytes c.in_ok-text-in-Err.text;
      tells = rw c.why-refusal.ensures at c.in_ok-text-in-Err.ensures.text;
      answer = refl;
      read = c.in-Err.ensures.exact;
      no_command = λ other command spells. not_read c.in-Err.fault command other (c.in-Err.ensures.only command spells);
    },
    refl,
  );
  asks = refl;
  says = rw (c.why-refusal.ensures, c.as_str.ensures.value) at c.in_ok-say_refused_with-in-Err.ensures;
}
