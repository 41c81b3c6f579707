use Rattle.std.proofs.Common.{ap, ◌∙◌}
use Rattle.std.specs.Result.{is_ok}
use Rattle.std.specs.Int.{w64}
use Rattle.std.proofs.lemmas.Fmt.{parse-signed_decimal}
use Rattle.follower.proofs.printing.text_form.is_time.Goals as goal

pub returns : goal.returns
returns c = λ time fits is. c.is_ok.ensures.value ∙ ap is_ok (parse-signed_decimal w64 time c.args.text.now c.parse.result fits fits.sfits is c.parse.ensures.value.0)
