use Rattle.std.proofs.Common.{◌≡◌, rules, None, List, [], ◌∷◌, ◌++◌, sym, ap, subst, ◌∙◌, append_assoc}
use Rattle.std.proofs.lemmas.List.{append-nil}
use Rattle.conditions.specs.declared.words.token.Token.{Token}
use Rattle.conditions.specs.Lexing.{Lexes, token_at}
use Rattle.conditions.proofs.Lexemes.{token_found}
use Rattle.conditions.proofs.words.lexer.tokens_of.Goals as goal

pub loop-tokens-preserved : goal.loop-tokens-preserved
loop-tokens-preserved c =
    let read : token_at c.loop-tokens.place.now ≡ token_found c.in-Some.token c.in-Some.rest.now = search rules in
    let pushed : c.push.new.self.items ≡ c.loop-tokens.tokens.items ++ (c.in-Some.token ∷ []) = search rules in
    λ more lexes. subst (Lexes c.args.text.now) (sym (ap (λ (l : List Token). l ++ more) pushed ∙ append_assoc c.loop-tokens.tokens.items (c.in-Some.token ∷ []) more))
    (c.loop-tokens.invariant (c.in-Some.token ∷ more) (c.in-Some.rest.now, read, lexes))

pub returns : goal.returns
returns c =
    let none : token_at c.loop-tokens.place.now ≡ None = search rules in
    subst (Lexes c.args.text.now) (append-nil c.loop-tokens.tokens.items) (c.loop-tokens.invariant [] none)
