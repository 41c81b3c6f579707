use Rattle.std.proofs.lemmas.Result.{err_from_is_err_and}
use Rattle.replcmd.proofs.Lexemes.{lexed}
use Rattle.replcmd.proofs.command.command_of.Goals as goal

pub returns-in_err-tokens : goal.returns-in_err-tokens
returns-in_err-tokens c =
    let p = err_from_is_err_and c.from_residual.result c.from_residual.ensures.1 in
    let tokens = lexed c.args.text.now in
    rw (p.1, p.2) (tokens.0, tokens.1, tt)
