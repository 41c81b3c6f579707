-- The names that are read of the value of publication_names are those that it spells.
use Rattle.std.proofs.Common.{◌≡◌, ◌≢◌, ℕ, suc, ◌≤◌, Bool, true, false, cond, eqb, List, [], ◌∷◌, ◌++◌, length, Option, Some, None, Ok, Err, refl, sym, ap, subst, ◌∙◌, arith}
use Rattle.std.specs.Option.{ok_or}
use Rattle.std.specs.Str.{IsUtf8}
use Rattle.std.proofs.lemmas.Bool.{eqb-true, eq-eqb, ne_eqb}
use Rattle.std.proofs.lemmas.List.{append-nil, length-append}
use Rattle.replcmd.specs.declared.fault.CmdFault.TheVariants.{BadOption}
use Rattle.replcmd.specs.declared.fault.OptionFault.TheVariants.{PublicationNames}
use Rattle.replcmd.specs.declared.text.token.Token.{Token}
use Rattle.replcmd.specs.declared.text.token.Token.TheVariants.{Unclosed}
use Rattle.replcmd.specs.declared.text.token.TheConstants.{COMMA}
use Rattle.replcmd.specs.Tokens.{is_blank, Each, StartsWith}
use Rattle.replcmd.specs.Lexing.{after_blanks, token_at}
use Rattle.replcmd.specs.Words.{IsName}
use Rattle.replcmd.specs.Publications.{SpellsNames}
use Rattle.replcmd.specs.Reading.{◌>>=◌, name_of, comma_at, front_name, more_names, names_of, separated_items}
use Rattle.replcmd.proofs.Pieces.{blanks_take, blanks_again}
use Rattle.pqformat.proofs.Quoting.{if_true, if_false}
use Rattle.replcmd.proofs.Lexemes.{token_found, token_takes, token_again, token_smaller}
use Rattle.replcmd.proofs.Lists.{found, same_found, bind_ok, Shortens, Lists, lists_take, lists_again}
use Rattle.replcmd.proofs.Readers.{name_is, is_name}
use Rattle.replcmd.proofs.Texts.{rest_is_text}

-- ---- a name at the front

pub record NameFront (text n rest : List ℕ) : Type 0 where
  pub token : Token
  pub names : name_of token ≡ Some n
  pub read : token_at text ≡ token_found token rest

pub front_is : (text n rest : List ℕ) → front_name text ≡ found n rest → NameFront text n rest
unfolding front_name
front_is text n rest e = by_token (token_at text) refl e
  where
    by_name : (token : Token) (behind : List ℕ) → token_at text ≡ token_found token behind → (o : Option (List ℕ)) → name_of token ≡ o
        → (ok_or o (BadOption PublicationNames) >>= λ name. found name behind) ≡ found n rest → NameFront text n rest
    by_name token behind read None is e = absurd cc
    by_name token behind read (Some m) is e =
        let same = same_found m behind n rest e in
        record { token = token; names = is ∙ ap Some same.0; read = read ∙ ap (token_found token) same.1 }

    by_token : (o : Option (Token × List ℕ)) → token_at text ≡ o → (ok_or o (BadOption PublicationNames) >>= λ t. ok_or (name_of t.0) (BadOption PublicationNames) >>= λ name. found name t.1) ≡ found n rest → NameFront text n rest
    by_token None is e = absurd cc
    by_token (Some t) is e = by_name t.0 t.1 is (name_of t.0) refl e

-- ---- what stands after a name

comma_found : (text next : List ℕ) → comma_at text ≡ found true next → text ≡ COMMA ∷ next
comma_found [] next e = absurd (let no = (same_found false [] true next e).0 in cc)
comma_found (b ∷ bytes) next e = by_test (eqb b COMMA) (λ is. eqb-true b COMMA is) e
  where
    by_test : (t : Bool) → (t ≡ true → b ≡ COMMA) → cond t (found true bytes) (Err (BadOption PublicationNames)) ≡ found true next → b ∷ bytes ≡ COMMA ∷ next
    by_test true same e = ap (λ (c : ℕ). c ∷ bytes) (same refl) ∙ ap (λ (l : List ℕ). COMMA ∷ l) (same_found true bytes true next e).1
    by_test false same e = absurd cc

pub comma_on : (b : ℕ) (rest : List ℕ) → b ≡ COMMA → comma_at (b ∷ rest) ≡ found true rest
comma_on b rest is = if_true (eqb b COMMA) (found true rest) (Err (BadOption PublicationNames)) (eq-eqb b COMMA is)

pub comma_refused : (b : ℕ) (rest : List ℕ) → (b ≡ COMMA → ⊥) → comma_at (b ∷ rest) ≡ Err (BadOption PublicationNames)
comma_refused b rest other = if_false (eqb b COMMA) (found true rest) (Err (BadOption PublicationNames)) (ne_eqb b COMMA other)

pub comma_done : (text : List ℕ) → length text ≡ 0 → comma_at text ≡ found false []
comma_done [] none = refl
comma_done (b ∷ text) none = absurd (omega arith)

comma_end : (text rest : List ℕ) → comma_at text ≡ found false rest → text ≡ []
comma_end [] rest e = refl
comma_end (b ∷ bytes) rest e = by_test (eqb b COMMA) e
  where
    by_test : (t : Bool) → cond t (found true bytes) (Err (BadOption PublicationNames)) ≡ found false rest → b ∷ bytes ≡ []
    by_test true e = absurd (let no = (same_found true bytes false rest e).0 in cc)
    by_test false e = absurd cc

pub blanks_shorten : (text : List ℕ) → length (after_blanks text) ≤ length text
blanks_shorten text = let t = blanks_take text in omega (arith, ap length t.2 ∙ length-append t.0 (after_blanks text))

all_blank : (text : List ℕ) → after_blanks text ≡ [] → Each is_blank text
all_blank text none =
    let t = blanks_take text in
    subst (Each is_blank) (sym (t.2 ∙ ap (λ (l : List ℕ). t.0 ++ l) none ∙ append-nil t.0)) t.1

no_more : (text : List ℕ) → Each is_blank text → after_blanks text ≡ []
no_more text are = ap after_blanks (sym (append-nil text)) ∙ blanks_again text [] are refl

pub names_shorten : Shortens front_name more_names
names_shorten = record {
  by_item = λ s x mid e. let front = front_is s x mid e in let less = token_smaller s front.token mid front.read in omega arith;
  by_more = λ s next e. let is = comma_found (after_blanks s) next e in omega (arith, ap (length {A = ℕ}) is, blanks_shorten s);
}

pub name_rest_is_text : (text n rest : List ℕ) → IsUtf8 text → front_name text ≡ found n rest → IsUtf8 rest
name_rest_is_text text n rest valid e =
    let front = front_is text n rest e in
    rest_is_text text front.token rest valid front.read

-- ---- what is read is spelled so

not_open : (token : Token) (n : List ℕ) → name_of token ≡ Some n → token ≢ Unclosed
not_open token n named = λ is. absurd (let no = sym (ap name_of is) ∙ named in cc)

spelled_front : (text n rest : List ℕ) → front_name text ≡ found n rest → (token : Token) × IsName n token × StartsWith text token rest
spelled_front text n rest e =
    let front = front_is text n rest e in
    (front.token, name_is front.token n front.names, token_takes text front.token rest front.read (not_open front.token n front.names))

names_listed : (text : List ℕ) (names : List (List ℕ)) (rest : List ℕ) → Lists front_name more_names text names rest → SpellsNames text names
names_listed text [] rest lists = absurd lists
names_listed text (n ∷ []) rest lists =
    let front = spelled_front text n lists.0 lists.1 in
    (front.0, lists.0, front.1, front.2, all_blank lists.0 (comma_end (after_blanks lists.0) rest lists.2))
names_listed text (n ∷ m ∷ names) rest lists =
    let front = spelled_front text n lists.0 lists.2 in
    let t = blanks_take lists.0 in
    let comma : lists.0 ≡ t.0 ++ (COMMA ∷ lists.1) = t.2 ∙ ap (λ (l : List ℕ). t.0 ++ l) (comma_found (after_blanks lists.0) lists.1 lists.3) in
    (front.0, t.0, lists.1, front.1, subst (λ (l : List ℕ). StartsWith text front.0 l) comma front.2, t.1, names_listed lists.1 (m ∷ names) rest lists.4)

pub names_take : (text : List ℕ) (names : List (List ℕ)) → names_of text ≡ Ok names → SpellsNames text names
unfolding names_of
names_take text names e =
    let a = bind_ok (separated_items front_name more_names (suc (length text)) text) (λ x. Ok x.0) names e in
    let same : a.0.0 ≡ names = let ok = a.2 in cc in
    let lists = lists_take front_name more_names (suc (length text)) text a.0.0 a.0.1 a.1 in
    subst (λ (l : List (List ℕ)). SpellsNames text l) same (names_listed text a.0.0 a.0.1 lists)

-- ---- what is spelled is read so

front_reads : (text : List ℕ) (token : Token) (n rest : List ℕ) → IsName n token → StartsWith text token rest → front_name text ≡ found n rest
unfolding front_name
front_reads text token n rest is starts = rw (token_again text token rest starts, is_name token n is) refl

names_again_lists : (text : List ℕ) (names : List (List ℕ)) → SpellsNames text names → Lists front_name more_names text names []
names_again_lists text [] spells = absurd spells
names_again_lists text (n ∷ []) spells =
    (spells.1, front_reads text spells.0 n spells.1 spells.2 spells.3, ap comma_at (no_more spells.1 spells.4))
names_again_lists text (n ∷ m ∷ names) spells =
    let mid = spells.1 ++ (COMMA ∷ spells.2) in
    (mid, spells.2, front_reads text spells.0 n mid spells.3 spells.4, ap comma_at (blanks_again spells.1 (COMMA ∷ spells.2) spells.5 refl), names_again_lists spells.2 (m ∷ names) spells.6)

pub names_again : (text : List ℕ) (names : List (List ℕ)) → SpellsNames text names → names_of text ≡ Ok names
unfolding names_of
names_again text names spells = rw (lists_again front_name more_names names_shorten (suc (length text)) text names [] (omega arith) (names_again_lists text names spells)) refl
