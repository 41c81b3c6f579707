use Rattle.std.proofs.Common.{◌≡◌, rules, None, List, [], ◌∷◌, ◌++◌, sym, ap, subst, ◌∙◌, append_assoc}
use Rattle.std.proofs.lemmas.List.{append-nil}
use Rattle.replcmd.specs.declared.text.token.Token.{Token}
use Rattle.replcmd.specs.Lexing.{Lexes, token_at}
use Rattle.replcmd.proofs.Lexemes.{token_found, token_smaller}
use Rattle.replcmd.proofs.Texts.{rest_is_text}
use Rattle.replcmd.proofs.text.lexer.tokens_of.Goals as goal

pub loop-tokens-smaller : goal.loop-tokens-smaller
loop-tokens-smaller c =
    let read : token_at c.loop-tokens.place.now ≡ token_found c.in-Some.token c.in-Some.rest.now = search rules in
    token_smaller c.loop-tokens.place.now c.in-Some.token c.in-Some.rest.now read

pub loop-tokens-preserved : goal.loop-tokens-preserved
loop-tokens-preserved c =
    let read : token_at c.loop-tokens.place.now ≡ token_found c.in-Some.token c.in-Some.rest.now = search rules in
    let pushed : c.push.new.self.items ≡ c.loop-tokens.tokens.items ++ (c.in-Some.token ∷ []) = search rules in
    record {
      completed = λ more lexes. subst (Lexes c.args.text.now) (sym (ap (λ (l : List Token). l ++ more) pushed ∙ append_assoc c.loop-tokens.tokens.items (c.in-Some.token ∷ []) more))
          (c.loop-tokens.invariant.completed (c.in-Some.token ∷ more) (c.in-Some.rest.now, read, lexes));
      valid = rest_is_text c.loop-tokens.place.now c.in-Some.token c.in-Some.rest.now c.loop-tokens.invariant.valid read;
    }

pub returns : goal.returns
returns c =
    let none : token_at c.loop-tokens.place.now ≡ None = search rules in
    subst (Lexes c.args.text.now) (append-nil c.loop-tokens.tokens.items) (c.loop-tokens.invariant.completed [] none)
