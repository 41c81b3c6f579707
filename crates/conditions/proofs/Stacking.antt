-- The stack of what waits, whose top stands last in its list.
use Rattle.std.proofs.Common.{◌≡◌, ℕ, ◌+◌, ◌<◌, nat_lt, arith, length, map, drop, get_or, Some, None, List, [], ◌∷◌, ◌++◌, refl, sym, subst, ap, ◌∙◌}
use Rattle.std.proofs.lemmas.Bool.{lt-ltb}
use Rattle.std.proofs.lemmas.List.{at_drop_more}
use Rattle.std.specs.Prelude.{option_and_then}
use Rattle.tables.specs.declared.column.Column.{Column as TableColumn}
use Rattle.conditions.specs.declared.trees.pending.Pending.{Pending as Item}
use Rattle.conditions.specs.declared.words.token.Token.{Token}
use Rattle.conditions.specs.Stacks.{Pending, State, wants, wanted_by, folded, completed, ends_over, run, step}
use Rattle.conditions.specs.Parts.{Grown, parts, word_at}
use Rattle.conditions.specs.Views.{seen_pending, stack_on, stack_of}
use Rattle.pqformat.proofs.Quoting.{if_true}

on_top : (below : List (Pending Grown)) (items : List Item) (item : Item) → stack_on below (items ++ item ∷ []) ≡ seen_pending item ∷ stack_on below items
on_top below [] item = refl
on_top below (first ∷ items) item = on_top (seen_pending first ∷ below) items item

pub stack_pushed : (items : List Item) (item : Item) → stack_of (items ++ item ∷ []) ≡ seen_pending item ∷ stack_of items
stack_pushed items item = on_top [] items item

folds_top : (m : ℕ) (item : Pending Grown) (stack : List (Pending Grown)) (a : Grown) → m < wants item → folded parts m (item ∷ stack) a ≡ folded parts m stack (completed parts item a)
folds_top m item stack a less = if_true (nat_lt m (wants item)) (folded parts m stack (completed parts item a)) (item ∷ stack, a) (lt-ltb m (wants item) less)

-- one turn of the loop
pub folds_popped : (m : ℕ) (before after : List Item) (item : Item) (a b : Grown) → before ≡ after ++ item ∷ [] → m < wanted_by (stack_of before) → b ≡ completed parts (seen_pending item) a
    → folded parts m (stack_of after) b ≡ folded parts m (stack_of before) a
folds_popped m before after item a b parted less made =
    let stack = stack_of after in
    let pushed : stack_of before ≡ seen_pending item ∷ stack = ap (λ (l : List Item). stack_of l) parted ∙ stack_pushed after item in
    let under : m < wants (seen_pending item) = subst (λ (s : List (Pending Grown)). m < wanted_by s) pushed less in
    ap (folded parts m stack) made ∙ sym (folds_top m (seen_pending item) stack a under) ∙ ap (λ (s : List (Pending Grown)). folded parts m s a) (sym pushed)

-- ---- at the end

still_there : (below : List (Pending Grown)) (items : List Item) (item : Pending Grown) (a : Grown) → ends_over (stack_on (item ∷ below) items) a ≡ None
still_there below [] item a = refl
still_there below (first ∷ items) item a = still_there (item ∷ below) items (seen_pending first) a

pub ends_none : (items : List Item) (a : Grown) → 0 < length items → ends_over (stack_of items) a ≡ None
ends_none [] a some = absurd (omega (arith, some))
ends_none (item ∷ items) a some = still_there [] items (seen_pending item) a

-- ---- one word more

pub word_read : (columns : List TableColumn) (tokens : List Token) (i : ℕ) (token : Token) (state next : State Grown) → i < length tokens → token ≡ get_or tokens i token
    → step parts state (word_at columns token) ≡ Some next → run parts next (map (word_at columns) (drop (i + 1) tokens)) ≡ run parts state (map (word_at columns) (drop i tokens))
word_read columns tokens i token state next inside is moved =
    let rest = map (word_at columns) (drop (i + 1) tokens) in
    sym
    (at_drop_more (λ ts. run parts state (map (word_at columns) ts)) tokens i token inside
    ∙ ap (λ t. run parts state (map (word_at columns) (t ∷ drop (i + 1) tokens))) (sym is)
    ∙ ap (option_and_then (λ to. run parts to rest)) moved)
