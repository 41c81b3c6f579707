-- The options that are read of the tokens of START_REPLICATION are those that stand there.
use Rattle.std.proofs.Common.{◌≡◌, ◌≢◌, ℕ, suc, ◌<◌, Bool, true, false, cond, eqb, List, [], ◌∷◌, length, Option, Some, None, Result, Err, refl, sym, ap, subst, ◌∙◌, arith}
use Rattle.std.specs.Option.{ok_or}
use Rattle.std.proofs.lemmas.Bool.{eqb-true}
use Rattle.replcmd.specs.declared.fault.CmdFault.{CmdFault}
use Rattle.replcmd.specs.declared.fault.CmdFault.TheVariants.{Syntax}
use Rattle.replcmd.specs.declared.text.token.Token.{Token}
use Rattle.replcmd.specs.declared.text.token.Token.TheVariants.{Word, Quoted, Value, Mark, Unclosed}
use Rattle.replcmd.specs.declared.text.token.TheConstants.{OPEN, CLOSE, COMMA}
use Rattle.replcmd.specs.declared.clauses.setting.Setting.{Setting}
use Rattle.replcmd.specs.declared.clauses.strictness.Strictness.{Strictness}
use Rattle.replcmd.specs.Grammar.{Part, Named, Chosen, Sign, IsEnd, Follows, setting_parts}
use Rattle.replcmd.specs.Commands.{if_open, in_brackets, more_settings, options_at, settings_at}
use Rattle.replcmd.specs.Reading.{◌>>=◌, name_of, name_at, past_mark, separated_items}
use Rattle.replcmd.specs.Settings.{option_name, setting_at}
use Rattle.replcmd.proofs.Lists.{found, same_found, Shortens, Lists, lists_take, lists_again}
use Rattle.replcmd.proofs.Settings.{setting_reads, setting_told}
use Rattle.replcmd.proofs.Readers.{name_follows, name_reads, passed, mark_is, mark_stays}

-- ---- the list

pub comma_is : (ts next : List Token) → more_settings ts ≡ found true next → ts ≡ Mark COMMA ∷ next
comma_is [] next e = absurd cc
comma_is (Word w ∷ tokens) next e = absurd cc
comma_is (Quoted n ∷ tokens) next e = absurd cc
comma_is (Value v ∷ tokens) next e = absurd cc
comma_is (Unclosed ∷ tokens) next e = absurd cc
comma_is (Mark m ∷ tokens) next e = by_test (eqb m COMMA) (λ is. eqb-true m COMMA is) (eqb m CLOSE) e
  where
    by_test : (t : Bool) → (t ≡ true → m ≡ COMMA) → (u : Bool) → cond t (found true tokens) (cond u (found false tokens) (Err Syntax)) ≡ found true next → Mark m ∷ tokens ≡ Mark COMMA ∷ next
    by_test true same u e = ap (λ (x : ℕ). Mark x ∷ tokens) (same refl) ∙ ap (λ (l : List Token). Mark COMMA ∷ l) (same_found true tokens true next e).1
    by_test false same true e = absurd (let no = (same_found false tokens true next e).0 in cc)
    by_test false same false e = absurd cc

pub close_is : (ts rest : List Token) → more_settings ts ≡ found false rest → ts ≡ Mark CLOSE ∷ rest
close_is [] rest e = absurd cc
close_is (Word w ∷ tokens) rest e = absurd cc
close_is (Quoted n ∷ tokens) rest e = absurd cc
close_is (Value v ∷ tokens) rest e = absurd cc
close_is (Unclosed ∷ tokens) rest e = absurd cc
close_is (Mark m ∷ tokens) rest e = by_test (eqb m COMMA) (eqb m CLOSE) (λ is. eqb-true m CLOSE is) e
  where
    by_test : (t : Bool) (u : Bool) → (u ≡ true → m ≡ CLOSE) → cond t (found true tokens) (cond u (found false tokens) (Err Syntax)) ≡ found false rest → Mark m ∷ tokens ≡ Mark CLOSE ∷ rest
    by_test true u same e = absurd (let no = (same_found true tokens false rest e).0 in cc)
    by_test false true same e = ap (λ (x : ℕ). Mark x ∷ tokens) (same refl) ∙ ap (λ (l : List Token). Mark CLOSE ∷ l) (same_found false tokens false rest e).1
    by_test false false same e = absurd cc

name_shortens : (ts : List Token) (n : List ℕ) (rest : List Token) → name_at ts ≡ found n rest → length rest < length ts
name_shortens [] n rest e = absurd cc
name_shortens (token ∷ tokens) n rest e = by_name (name_of token) e
  where
    by_name : (o : Option (List ℕ)) → (ok_or o Syntax >>= λ name. found name tokens) ≡ found n rest → length rest < suc (length tokens)
    by_name None e = absurd cc
    by_name (Some m) e = let same = (same_found m tokens n rest e).1 in omega (arith, ap (length {A = Token}) same)

pub settings_shorten : (strictness : Strictness) → Shortens (setting_at strictness) more_settings
settings_shorten strictness = record {
  by_item = λ ts s rest e.
      let told = setting_told strictness ts s rest e in
      let less = name_shortens ts (option_name s) (Value told.value ∷ rest) told.name in
      omega arith;
  by_more = λ ts next e. let is = comma_is ts next e in omega (arith, ap (length {A = Token}) is);
}

one_follows : (strictness : Strictness) (ts : List Token) (s : Setting) (rest : List Token) (parts : List Part) → setting_at strictness ts ≡ found s rest → Follows rest parts → Follows ts (Named (option_name s) ∷ Chosen strictness s ∷ parts)
one_follows strictness ts s rest parts e f =
    let told = setting_told strictness ts s rest e in
    name_follows ts (option_name s) (Value told.value ∷ rest) (Chosen strictness s ∷ parts) told.name (told.says, f)

settings_follow : (strictness : Strictness) (ts : List Token) (settings : List Setting) (rest : List Token) → Lists (setting_at strictness) more_settings ts settings rest → IsEnd rest → Follows ts (setting_parts strictness settings)
settings_follow strictness ts [] rest lists end = absurd lists
settings_follow strictness ts (s ∷ []) rest lists end =
    let close = close_is lists.0 rest lists.2 in
    one_follows strictness ts s lists.0 (Sign CLOSE ∷ []) lists.1 (subst (λ (l : List Token). Follows l (Sign CLOSE ∷ [])) (sym close) (refl, end))
settings_follow strictness ts (s ∷ t ∷ settings) rest lists end =
    let comma = comma_is lists.0 lists.1 lists.3 in
    let others = settings_follow strictness lists.1 (t ∷ settings) rest lists.4 end in
    one_follows strictness ts s lists.0 (Sign COMMA ∷ setting_parts strictness (t ∷ settings)) lists.2 (subst (λ (l : List Token). Follows l (Sign COMMA ∷ setting_parts strictness (t ∷ settings))) (sym comma) (refl, others))

one_reads : (strictness : Strictness) (ts : List Token) (s : Setting) (parts : List Part) → Follows ts (Named (option_name s) ∷ Chosen strictness s ∷ parts) → (rest : List Token) × (setting_at strictness ts ≡ found s rest) × Follows rest parts
one_reads strictness ts s parts f =
    let a = name_reads ts (option_name s) (Chosen strictness s ∷ parts) f in
    by_value a.0 a.1 a.2
  where
    by_value : (mid : List Token) → name_at ts ≡ found (option_name s) mid → Follows mid (Chosen strictness s ∷ parts) → (rest : List Token) × (setting_at strictness ts ≡ found s rest) × Follows rest parts
    by_value [] read f = absurd f
    by_value (Word w ∷ rest) read f = absurd f.0
    by_value (Quoted n ∷ rest) read f = absurd f.0
    by_value (Value v ∷ rest) read f = (rest, setting_reads strictness ts s v rest read f.0, f.1)
    by_value (Mark m ∷ rest) read f = absurd f.0
    by_value (Unclosed ∷ rest) read f = absurd f.0

-- a mark at the front
pub sign_front : (m : ℕ) (ts : List Token) (parts : List Part) → Follows ts (Sign m ∷ parts) → (rest : List Token) × (ts ≡ Mark m ∷ rest) × Follows rest parts
sign_front m [] parts f = absurd f
sign_front m (Word w ∷ rest) parts f = absurd f.0
sign_front m (Quoted n ∷ rest) parts f = absurd f.0
sign_front m (Value v ∷ rest) parts f = absurd f.0
sign_front m (Mark b ∷ rest) parts f = (rest, ap (λ (x : ℕ). Mark x ∷ rest) f.0, f.1)
sign_front m (Unclosed ∷ rest) parts f = absurd f.0

settings_read : (strictness : Strictness) (ts : List Token) (s : Setting) (settings : List Setting) → Follows ts (setting_parts strictness (s ∷ settings)) → (rest : List Token) × Lists (setting_at strictness) more_settings ts (s ∷ settings) rest × IsEnd rest
settings_read strictness ts s [] f =
    let a = one_reads strictness ts s (Sign CLOSE ∷ []) f in
    let close = sign_front CLOSE a.0 [] a.2 in
    (close.0, (a.0, a.1, ap more_settings close.1), close.2)
settings_read strictness ts s (t ∷ settings) f =
    let a = one_reads strictness ts s (Sign COMMA ∷ setting_parts strictness (t ∷ settings)) f in
    let comma = sign_front COMMA a.0 (setting_parts strictness (t ∷ settings)) a.2 in
    let others = settings_read strictness comma.0 t settings comma.2 in
    (others.0, (a.0, comma.0, a.1, ap more_settings comma.1, others.1), others.2)

-- ---- with the brackets

abbrev listed : List Setting → List Token → Result (List Setting × List Token) CmdFault
listed settings rest = found settings rest

pub options_follow : (strictness : Strictness) (ts : List Token) (settings : List Setting) (rest : List Token) → options_at strictness ts ≡ listed settings rest → settings ≢ [] → IsEnd rest → Follows ts (Sign OPEN ∷ setting_parts strictness settings)
unfolding options_at settings_at
options_follow strictness ts settings rest e some end = by_open (past_mark OPEN ts) refl e
  where
    by_close : (inner : List Token) → ts ≡ Mark OPEN ∷ inner → (x : Bool × List Token) → past_mark CLOSE inner ≡ x → in_brackets strictness x ≡ listed settings rest → Follows ts (Sign OPEN ∷ setting_parts strictness settings)
    by_close inner open_is (true, after) close e = absurd (some (sym (same_found [] after settings rest e).0))
    by_close inner open_is (false, after) close e =
        let same = mark_stays CLOSE inner after close in
        let lists = lists_take (setting_at strictness) more_settings (suc (length after)) after settings rest e in
        let follows = settings_follow strictness after settings rest lists end in
        subst (λ (l : List Token). Follows l (Sign OPEN ∷ setting_parts strictness settings)) (sym open_is) (refl, subst (λ (l : List Token). Follows l (setting_parts strictness settings)) (sym same) follows)

    by_open : (x : Bool × List Token) → past_mark OPEN ts ≡ x → if_open strictness x ≡ listed settings rest → Follows ts (Sign OPEN ∷ setting_parts strictness settings)
    by_open (true, inner) opened e = by_close inner (mark_is OPEN ts inner opened) (past_mark CLOSE inner) refl e
    by_open (false, after) opened e = absurd (some (sym (same_found [] after settings rest e).0))

-- where an option's name stands, no bracket closes
no_close : (ts : List Token) (n : List ℕ) (parts : List Part) → Follows ts (Named n ∷ parts) → past_mark CLOSE ts ≡ passed false ts
no_close [] n parts f = absurd f
no_close (Word w ∷ rest) n parts f = refl
no_close (Quoted q ∷ rest) n parts f = refl
no_close (Value v ∷ rest) n parts f = absurd f.0
no_close (Mark b ∷ rest) n parts f = absurd f.0
no_close (Unclosed ∷ rest) n parts f = absurd f.0

first_named : (strictness : Strictness) (ts : List Token) (s : Setting) (settings : List Setting) → Follows ts (setting_parts strictness (s ∷ settings)) → past_mark CLOSE ts ≡ passed false ts
first_named strictness ts s [] f = no_close ts (option_name s) (Chosen strictness s ∷ Sign CLOSE ∷ []) f
first_named strictness ts s (t ∷ settings) f = no_close ts (option_name s) (Chosen strictness s ∷ Sign COMMA ∷ setting_parts strictness (t ∷ settings)) f

opened_reads : (strictness : Strictness) (inner : List Token) (settings : List Setting) (rest : List Token) → past_mark CLOSE inner ≡ passed false inner
    → separated_items (setting_at strictness) more_settings (suc (length inner)) inner ≡ listed settings rest → options_at strictness (Mark OPEN ∷ inner) ≡ listed settings rest
unfolding options_at settings_at
opened_reads strictness inner settings rest close read = rw (close, read) refl

pub options_read : (strictness : Strictness) (ts : List Token) (s : Setting) (settings : List Setting) → Follows ts (Sign OPEN ∷ setting_parts strictness (s ∷ settings)) → (rest : List Token) × (options_at strictness ts ≡ listed (s ∷ settings) rest) × IsEnd rest
options_read strictness ts s settings f =
    let open_is = sign_front OPEN ts (setting_parts strictness (s ∷ settings)) f in
    let inner = settings_read strictness open_is.0 s settings open_is.2 in
    let all = lists_again (setting_at strictness) more_settings (settings_shorten strictness) (suc (length open_is.0)) open_is.0 (s ∷ settings) inner.0 (omega arith) inner.1 in
    (inner.0, ap (options_at strictness) open_is.1 ∙ opened_reads strictness open_is.0 (s ∷ settings) inner.0 (first_named strictness open_is.0 s settings open_is.2) all, inner.2)
