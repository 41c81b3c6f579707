-- The first word of a command, and the plugin of CREATE_REPLICATION_SLOT.
use Rattle.std.proofs.Common.{◌≡◌, ℕ, Bool, true, false, cond, List, [], ◌∷◌, Option, Some, None, Ok, Err, refl, sym, ap, subst, ◌∙◌}
use Rattle.std.specs.Prelude.{codes}
use Rattle.std.specs.Option.{ok_or}
use Rattle.std.specs.Str.{bytes_eq}
use Rattle.replcmd.specs.declared.fault.CmdFault.TheVariants.{Syntax, Unsupported}
use Rattle.replcmd.specs.declared.text.token.Token.{Token}
use Rattle.replcmd.specs.declared.text.token.Token.TheVariants.{Word, Quoted, Value, Mark, Unclosed}
use Rattle.replcmd.specs.declared.text.verb.Verb.{Verb}
use Rattle.replcmd.specs.declared.text.verb.Verb.TheVariants as verb
use Rattle.replcmd.specs.Words.{lower, is_keyword}
use Rattle.replcmd.specs.Grammar.{Part, Keyword, Named, Follows}
use Rattle.replcmd.specs.Commands.{plugin_at}
use Rattle.replcmd.specs.Reading.{◌>>=◌, name_at, verb_of, verb_at}
use Rattle.replcmd.proofs.Lists.{found, same_found, bind_ok}
use Rattle.replcmd.proofs.Readers.{bytes_same, name_follows, name_reads}

-- ---- the first word

abbrev pub keyword_of : Verb → List ℕ
keyword_of verb.Identify = codes "IDENTIFY_SYSTEM"
keyword_of verb.Create = codes "CREATE_REPLICATION_SLOT"
keyword_of verb.Drop = codes "DROP_REPLICATION_SLOT"
keyword_of verb.Start = codes "START_REPLICATION"

abbrev verb_from : List ℕ → Option Verb
verb_from folded =
    cond (bytes_eq folded (lower (codes "IDENTIFY_SYSTEM"))) (Some verb.Identify) (
    cond (bytes_eq folded (lower (codes "CREATE_REPLICATION_SLOT"))) (Some verb.Create) (
    cond (bytes_eq folded (lower (codes "DROP_REPLICATION_SLOT"))) (Some verb.Drop) (
    cond (bytes_eq folded (lower (codes "START_REPLICATION"))) (Some verb.Start) None)))

verb_told : (w : List ℕ) (v : Verb) → verb_of w ≡ Some v → is_keyword (keyword_of v) w ≡ true
unfolding verb_of
verb_told w v e = by_tests (is_keyword (codes "IDENTIFY_SYSTEM") w) refl (is_keyword (codes "CREATE_REPLICATION_SLOT") w) refl (is_keyword (codes "DROP_REPLICATION_SLOT") w) refl (is_keyword (codes "START_REPLICATION") w) refl e
  where
    so : (u : Verb) → is_keyword (keyword_of u) w ≡ true → Some u ≡ Some v → is_keyword (keyword_of v) w ≡ true
    so u is e = let same : u ≡ v = cc in subst (λ (x : Verb). is_keyword (keyword_of x) w ≡ true) same is

    by_tests : (a : Bool) → is_keyword (codes "IDENTIFY_SYSTEM") w ≡ a → (b : Bool) → is_keyword (codes "CREATE_REPLICATION_SLOT") w ≡ b
        → (c : Bool) → is_keyword (codes "DROP_REPLICATION_SLOT") w ≡ c → (d : Bool) → is_keyword (codes "START_REPLICATION") w ≡ d
        → cond a (Some verb.Identify) (cond b (Some verb.Create) (cond c (Some verb.Drop) (cond d (Some verb.Start) None))) ≡ Some v → is_keyword (keyword_of v) w ≡ true
    by_tests true a_is b b_is c c_is d d_is e = so verb.Identify a_is e
    by_tests false a_is true b_is c c_is d d_is e = so verb.Create b_is e
    by_tests false a_is false b_is true c_is d d_is e = so verb.Drop c_is e
    by_tests false a_is false b_is false c_is true d_is e = so verb.Start d_is e
    by_tests false a_is false b_is false c_is false d_is e = absurd cc

told_verb : (w : List ℕ) (v : Verb) → is_keyword (keyword_of v) w ≡ true → verb_of w ≡ Some v
unfolding verb_of
told_verb w verb.Identify is = ap verb_from (bytes_same (lower w) (lower (codes "IDENTIFY_SYSTEM")) is)
told_verb w verb.Create is = ap verb_from (bytes_same (lower w) (lower (codes "CREATE_REPLICATION_SLOT")) is)
told_verb w verb.Drop is = ap verb_from (bytes_same (lower w) (lower (codes "DROP_REPLICATION_SLOT")) is)
told_verb w verb.Start is = ap verb_from (bytes_same (lower w) (lower (codes "START_REPLICATION")) is)

pub verb_follows : (ts : List Token) (v : Verb) (rest : List Token) (parts : List Part) → verb_at ts ≡ found v rest → Follows rest parts → Follows ts (Keyword (keyword_of v) ∷ parts)
verb_follows [] v rest parts e f = absurd cc
verb_follows (Word w ∷ tokens) v rest parts e f = by_verb (verb_of w) refl e
  where
    by_verb : (o : Option Verb) → verb_of w ≡ o → (ok_or o Syntax >>= λ u. found u tokens) ≡ found v rest → (is_keyword (keyword_of v) w ≡ true) × Follows tokens parts
    by_verb None is e = absurd cc
    by_verb (Some u) is e =
        let same = same_found u tokens v rest e in
        (verb_told w v (is ∙ ap Some same.0), subst (λ (l : List Token). Follows l parts) (sym same.1) f)
verb_follows (Quoted n ∷ tokens) v rest parts e f = absurd cc
verb_follows (Value u ∷ tokens) v rest parts e f = absurd cc
verb_follows (Mark b ∷ tokens) v rest parts e f = absurd cc
verb_follows (Unclosed ∷ tokens) v rest parts e f = absurd cc

pub verb_reads : (ts : List Token) (v : Verb) (parts : List Part) → Follows ts (Keyword (keyword_of v) ∷ parts) → (rest : List Token) × (verb_at ts ≡ found v rest) × Follows rest parts
verb_reads [] v parts f = absurd f
verb_reads (Word w ∷ tokens) v parts f = (tokens, rw (told_verb w v f.0) refl, f.1)
verb_reads (Quoted n ∷ tokens) v parts f = absurd f.0
verb_reads (Value u ∷ tokens) v parts f = absurd f.0
verb_reads (Mark b ∷ tokens) v parts f = absurd f.0
verb_reads (Unclosed ∷ tokens) v parts f = absurd f.0

-- ---- the plugin

pub plugin_follows : (ts rest : List Token) (parts : List Part) → plugin_at ts ≡ Ok rest → Follows rest parts → Follows ts (Named (codes "pgoutput") ∷ parts)
unfolding plugin_at
plugin_follows ts rest parts e f =
    let a = bind_ok (name_at ts) (λ name. cond (bytes_eq name.0 (codes "pgoutput")) (Ok name.1) (Err Unsupported)) rest e in
    by_test a.0.0 a.0.1 a.1 (bytes_eq a.0.0 (codes "pgoutput")) refl a.2
  where
    by_test : (n : List ℕ) (mid : List Token) → name_at ts ≡ found n mid → (t : Bool) → bytes_eq n (codes "pgoutput") ≡ t → cond t (Ok mid) (Err Unsupported) ≡ Ok rest
        → Follows ts (Named (codes "pgoutput") ∷ parts)
    by_test n mid read true is e =
        let same : mid ≡ rest = cc in
        name_follows ts (codes "pgoutput") rest parts (read ∙ ap (λ (x : List ℕ). found x mid) (bytes_same n (codes "pgoutput") is) ∙ ap (found (codes "pgoutput")) same) f
    by_test n mid read false is e = absurd cc

pub plugin_reads : (ts : List Token) (parts : List Part) → Follows ts (Named (codes "pgoutput") ∷ parts) → (rest : List Token) × (plugin_at ts ≡ Ok rest) × Follows rest parts
unfolding plugin_at
plugin_reads ts parts f = let a = name_reads ts (codes "pgoutput") parts f in (a.0, rw a.1 refl, a.2)
