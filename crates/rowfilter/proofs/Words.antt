-- One word of a text after the other: the one that can't be read on, and none left.
use Rattle.std.proofs.Common.{◌≡◌, ℕ, ◌+◌, ◌<◌, ◌≤◌, List, ◌∷◌, length, map, drop, get_or, Option, Result, Err, sym, subst, ap, ◌∙◌}
use Rattle.std.proofs.lemmas.List.{at_drop_more, at_drop_all}
use Rattle.std.specs.Prelude.{option_and_then}
use Rattle.tables.specs.declared.column.Column.{Column as TableColumn}
use Rattle.conditions.specs.declared.fault.FilterFault.{FilterFault}
use Rattle.conditions.specs.declared.fault.FilterFault.TheVariants.{Syntax, UnknownColumn, TypeMismatch, NumberRange, TooDeep, Memory}
use Rattle.conditions.specs.declared.trees.part.Part.{Part}
use Rattle.conditions.specs.declared.trees.pending.Pending.{Pending as Item}
use Rattle.conditions.specs.declared.words.token.Token.{Token}
use Rattle.conditions.specs.Parts.{Grown, parts, word_at}
use Rattle.conditions.specs.Stacks.{State, outcome, run, step}
use Rattle.conditions.specs.Views.{GivesPart, Moves}

pub word_refused : (columns : List TableColumn) (tokens : List Token) (i : ℕ) (token : Token) (state : State Grown) (items : List Item) (fault : FilterFault) (total : Option Grown) → i < length tokens → token ≡ get_or tokens i token
    → Moves (Err fault) items (step parts state (word_at columns token)) → run parts state (map (word_at columns) (drop i tokens)) ≡ total → GivesPart (Err fault) total
word_refused columns tokens i token state items Syntax total inside is moved so_far =
    let rest = map (word_at columns) (drop (i + 1) tokens) in
    sym so_far
    ∙ at_drop_more (λ ts. run parts state (map (word_at columns) ts)) tokens i token inside
    ∙ ap (λ t. run parts state (map (word_at columns) (t ∷ drop (i + 1) tokens))) (sym is)
    ∙ ap (option_and_then (λ to. run parts to rest)) moved
word_refused columns tokens i token state items Memory total inside is moved so_far = tt
word_refused columns tokens i token state items UnknownColumn total inside is moved so_far = absurd moved
word_refused columns tokens i token state items TypeMismatch total inside is moved so_far = absurd moved
word_refused columns tokens i token state items NumberRange total inside is moved so_far = absurd moved
word_refused columns tokens i token state items TooDeep total inside is moved so_far = absurd moved

pub all_read : (columns : List TableColumn) (tokens : List Token) (i : ℕ) (state : State Grown) (result : Result Part FilterFault) (total : Option Grown) → length tokens ≤ i
    → run parts state (map (word_at columns) (drop i tokens)) ≡ total → GivesPart result (outcome parts state) → GivesPart result total
all_read columns tokens i state result total all so_far gives =
    subst (GivesPart result) (sym (at_drop_all (λ ts. run parts state (map (word_at columns) ts)) tokens i all) ∙ so_far) gives
