-- What is read of the tokens at the front are the parts that stand there.
use Rattle.std.proofs.Common.{◌≡◌, ℕ, Bool, true, false, cond, eqb, List, [], ◌∷◌, Option, Some, None, Ok, Err, refl, sym, ap, subst, ◌∙◌}
use Rattle.std.specs.Option.{ok_or}
use Rattle.std.specs.Str.{bytes_eq}
use Rattle.std.specs.Cmp.Lexicographic.{bytes_decides}
use Rattle.std.proofs.lemmas.Bool.{eqb-true, eq-eqb}
use Rattle.replcmd.specs.declared.fault.CmdFault.TheVariants.{Syntax, BadName, BadPosition}
use Rattle.replcmd.specs.declared.text.token.Token.{Token}
use Rattle.replcmd.specs.declared.text.token.Token.TheVariants.{Word, Quoted, Value, Mark, Unclosed}
use Rattle.replcmd.specs.declared.text.token.TheConstants.{SEMICOLON}
use Rattle.replcmd.specs.declared.text.verb.Verb.{Verb}
use Rattle.replcmd.specs.Position.{SpellsPosition}
use Rattle.replcmd.specs.Words.{lower, is_keyword, is_bare, IsName, is_slot_name}
use Rattle.replcmd.specs.Grammar.{Part, Keyword, Named, At, IsEnd, Follows}
use Rattle.replcmd.specs.Reading.{◌>>=◌, name_of, name_at, slot_at, value_at, past_mark, unexpected, keyword_at, nothing_at, end_at, position_of, position_at}
use Rattle.pqformat.proofs.Quoting.{if_true}
use Rattle.replcmd.proofs.Places.{position_takes, position_again}
use Rattle.replcmd.proofs.Lists.{found, same_found, bind_ok}

pub bytes_same : (a b : List ℕ) → bytes_eq a b ≡ true → a ≡ b
bytes_same a b is = (bytes_decides a b).0 is

pub same_bytes : (a b : List ℕ) → a ≡ b → bytes_eq a b ≡ true
same_bytes a b is = (bytes_decides a b).1 is

-- ---- names

pub name_is : (token : Token) (n : List ℕ) → name_of token ≡ Some n → IsName n token
name_is (Word w) n e = by_test (is_bare w) refl e
  where
    by_test : (t : Bool) → is_bare w ≡ t → cond t (Some (lower w)) None ≡ Some n → (is_bare w ≡ true) × (n ≡ lower w)
    by_test true is e = let same : lower w ≡ n = cc in (is, sym same)
    by_test false is e = absurd cc
name_is (Quoted q) n e = let same : q ≡ n = cc in sym same
name_is (Value v) n e = absurd cc
name_is (Mark b) n e = absurd cc
name_is Unclosed n e = absurd cc

pub is_name : (token : Token) (n : List ℕ) → IsName n token → name_of token ≡ Some n
is_name (Word w) n is = if_true (is_bare w) (Some (lower w)) None is.0 ∙ ap Some (sym is.1)
is_name (Quoted q) n is = ap Some (sym is)
is_name (Value v) n is = absurd is
is_name (Mark b) n is = absurd is
is_name Unclosed n is = absurd is

pub name_follows : (ts : List Token) (n : List ℕ) (rest : List Token) (parts : List Part) → name_at ts ≡ found n rest → Follows rest parts → Follows ts (Named n ∷ parts)
name_follows [] n rest parts e f = absurd cc
name_follows (token ∷ tokens) n rest parts e f = by_name (name_of token) refl e
  where
    by_name : (o : Option (List ℕ)) → name_of token ≡ o → (ok_or o Syntax >>= λ name. found name tokens) ≡ found n rest → IsName n token × Follows tokens parts
    by_name None is e = absurd cc
    by_name (Some m) is e =
        let same = same_found m tokens n rest e in
        (name_is token n (is ∙ ap Some same.0), subst (λ (l : List Token). Follows l parts) (sym same.1) f)

pub name_reads : (ts : List Token) (n : List ℕ) (parts : List Part) → Follows ts (Named n ∷ parts) → (rest : List Token) × (name_at ts ≡ found n rest) × Follows rest parts
name_reads [] n parts f = absurd f
name_reads (token ∷ tokens) n parts f = (tokens, rw (is_name token n f.0) refl, f.1)

pub slot_follows : (ts : List Token) (n : List ℕ) (rest : List Token) → slot_at ts ≡ found n rest → (is_slot_name n ≡ true) × (name_at ts ≡ found n rest)
unfolding slot_at
slot_follows ts n rest e =
    let a = bind_ok (name_at ts) (λ name. cond (is_slot_name name.0) (Ok name) (Err BadName)) (n, rest) e in
    by_test a.0.0 a.0.1 a.1 (is_slot_name a.0.0) refl a.2
  where
    by_test : (m : List ℕ) (mid : List Token) → name_at ts ≡ found m mid → (t : Bool) → is_slot_name m ≡ t → cond t (found m mid) (Err BadName) ≡ found n rest
        → (is_slot_name n ≡ true) × (name_at ts ≡ found n rest)
    by_test m mid read true is e =
        let same = same_found m mid n rest e in
        (subst (λ (x : List ℕ). is_slot_name x ≡ true) same.0 is, read ∙ e)
    by_test m mid read false is e = absurd cc

pub slot_reads : (ts : List Token) (n : List ℕ) (rest : List Token) → is_slot_name n ≡ true → name_at ts ≡ found n rest → slot_at ts ≡ found n rest
unfolding slot_at
slot_reads ts n rest is read = rw (read, is) refl

-- ---- values

pub value_follows : (ts : List Token) (v : List ℕ) (rest : List Token) → value_at ts ≡ found v rest → ts ≡ Value v ∷ rest
value_follows [] v rest e = absurd cc
value_follows (Word w ∷ tokens) v rest e = absurd cc
value_follows (Quoted n ∷ tokens) v rest e = absurd cc
value_follows (Value u ∷ tokens) v rest e =
    let same = same_found u tokens v rest e in
    ap (λ (x : List ℕ). Value x ∷ tokens) same.0 ∙ ap (λ (l : List Token). Value v ∷ l) same.1
value_follows (Mark b ∷ tokens) v rest e = absurd cc
value_follows (Unclosed ∷ tokens) v rest e = absurd cc

-- ---- marks

abbrev pub passed : Bool → List Token → Bool × List Token
passed t ts = (t, ts)

pub mark_is : (m : ℕ) (ts rest : List Token) → past_mark m ts ≡ passed true rest → ts ≡ Mark m ∷ rest
mark_is m [] rest e = absurd (let no = ap (λ (x : Bool × List Token). x.0) e in cc)
mark_is m (Word w ∷ tokens) rest e = absurd (let no = ap (λ (x : Bool × List Token). x.0) e in cc)
mark_is m (Quoted n ∷ tokens) rest e = absurd (let no = ap (λ (x : Bool × List Token). x.0) e in cc)
mark_is m (Value v ∷ tokens) rest e = absurd (let no = ap (λ (x : Bool × List Token). x.0) e in cc)
mark_is m (Mark b ∷ tokens) rest e = by_test (eqb b m) (λ is. eqb-true b m is) e
  where
    by_test : (t : Bool) → (t ≡ true → b ≡ m) → cond t (passed true tokens) (passed false (Mark b ∷ tokens)) ≡ passed true rest → Mark b ∷ tokens ≡ Mark m ∷ rest
    by_test true same e = ap (λ (x : ℕ). Mark x ∷ tokens) (same refl) ∙ ap (λ (x : Bool × List Token). Mark m ∷ x.1) e
    by_test false same e = absurd (let no = ap (λ (x : Bool × List Token). x.0) e in cc)
mark_is m (Unclosed ∷ tokens) rest e = absurd (let no = ap (λ (x : Bool × List Token). x.0) e in cc)

-- where the mark isn't at the front, nothing is passed
pub mark_stays : (m : ℕ) (ts rest : List Token) → past_mark m ts ≡ passed false rest → ts ≡ rest
mark_stays m [] rest e = ap (λ (x : Bool × List Token). x.1) e
mark_stays m (Word w ∷ tokens) rest e = ap (λ (x : Bool × List Token). x.1) e
mark_stays m (Quoted n ∷ tokens) rest e = ap (λ (x : Bool × List Token). x.1) e
mark_stays m (Value v ∷ tokens) rest e = ap (λ (x : Bool × List Token). x.1) e
mark_stays m (Mark b ∷ tokens) rest e = by_test (eqb b m) e
  where
    by_test : (t : Bool) → cond t (passed true tokens) (passed false (Mark b ∷ tokens)) ≡ passed false rest → Mark b ∷ tokens ≡ rest
    by_test true e = absurd (let no = ap (λ (x : Bool × List Token). x.0) e in cc)
    by_test false e = ap (λ (x : Bool × List Token). x.1) e
mark_stays m (Unclosed ∷ tokens) rest e = ap (λ (x : Bool × List Token). x.1) e

pub mark_passed : (m b : ℕ) (rest : List Token) → b ≡ m → past_mark m (Mark b ∷ rest) ≡ passed true rest
mark_passed m b rest is = if_true (eqb b m) (passed true rest) (passed false (Mark b ∷ rest)) (eq-eqb b m is)

-- ---- keywords

pub keyword_follows : (v : Verb) (k : List ℕ) (ts rest : List Token) (parts : List Part) → keyword_at v k ts ≡ Ok rest → Follows rest parts → Follows ts (Keyword k ∷ parts)
unfolding keyword_at
keyword_follows v k [] rest parts e f = absurd cc
keyword_follows v k (Word w ∷ tokens) rest parts e f = by_test (is_keyword k w) refl e
  where
    by_test : (t : Bool) → is_keyword k w ≡ t → cond t (Ok tokens) (Err (unexpected v (Word w ∷ tokens))) ≡ Ok rest → (is_keyword k w ≡ true) × Follows tokens parts
    by_test true is e = let same : tokens ≡ rest = cc in (is, subst (λ (l : List Token). Follows l parts) (sym same) f)
    by_test false is e = absurd cc
keyword_follows v k (Quoted n ∷ tokens) rest parts e f = absurd cc
keyword_follows v k (Value u ∷ tokens) rest parts e f = absurd cc
keyword_follows v k (Mark b ∷ tokens) rest parts e f = absurd cc
keyword_follows v k (Unclosed ∷ tokens) rest parts e f = absurd cc

pub keyword_reads : (v : Verb) (k : List ℕ) (ts : List Token) (parts : List Part) → Follows ts (Keyword k ∷ parts) → (rest : List Token) × (keyword_at v k ts ≡ Ok rest) × Follows rest parts
unfolding keyword_at
keyword_reads v k [] parts f = absurd f
keyword_reads v k (Word w ∷ tokens) parts f = (tokens, if_true (is_keyword k w) (Ok tokens) (Err (unexpected v (Word w ∷ tokens))) f.0, f.1)
keyword_reads v k (Quoted n ∷ tokens) parts f = absurd f.0
keyword_reads v k (Value u ∷ tokens) parts f = absurd f.0
keyword_reads v k (Mark b ∷ tokens) parts f = absurd f.0
keyword_reads v k (Unclosed ∷ tokens) parts f = absurd f.0

-- ---- positions

pub position_follows : (ts : List Token) (n : ℕ) (rest : List Token) (parts : List Part) → position_at ts ≡ found n rest → Follows rest parts → Follows ts (At n ∷ parts)
unfolding position_at
position_follows [] n rest parts e f = absurd cc
position_follows (Word w ∷ tokens) n rest parts e f = by_position (position_of w) refl e
  where
    by_position : (o : Option ℕ) → position_of w ≡ o → (ok_or o BadPosition >>= λ m. found m tokens) ≡ found n rest → SpellsPosition w n × Follows tokens parts
    by_position None is e = absurd cc
    by_position (Some m) is e =
        let same = same_found m tokens n rest e in
        (position_takes w n (is ∙ ap Some same.0), subst (λ (l : List Token). Follows l parts) (sym same.1) f)
position_follows (Quoted q ∷ tokens) n rest parts e f = absurd cc
position_follows (Value u ∷ tokens) n rest parts e f = absurd cc
position_follows (Mark b ∷ tokens) n rest parts e f = absurd cc
position_follows (Unclosed ∷ tokens) n rest parts e f = absurd cc

pub position_reads : (ts : List Token) (n : ℕ) (parts : List Part) → Follows ts (At n ∷ parts) → (rest : List Token) × (position_at ts ≡ found n rest) × Follows rest parts
unfolding position_at
position_reads [] n parts f = absurd f
position_reads (Word w ∷ tokens) n parts f = (tokens, rw (position_again w n f.0) refl, f.1)
position_reads (Quoted q ∷ tokens) n parts f = absurd f.0
position_reads (Value u ∷ tokens) n parts f = absurd f.0
position_reads (Mark b ∷ tokens) n parts f = absurd f.0
position_reads (Unclosed ∷ tokens) n parts f = absurd f.0

-- ---- the end

pub end_is : (v : Verb) (ts : List Token) → end_at v ts ≡ Ok tt → IsEnd ts
unfolding end_at
end_is v [] e = tt
end_is v (Word w ∷ tokens) e = absurd cc
end_is v (Quoted n ∷ tokens) e = absurd cc
end_is v (Value u ∷ tokens) e = absurd cc
end_is v (Mark b ∷ tokens) e = by_test (eqb b SEMICOLON) (λ is. eqb-true b SEMICOLON is) tokens e
  where
    by_test : (t : Bool) → (t ≡ true → b ≡ SEMICOLON) → (tokens : List Token) → cond t (nothing_at tokens) (Err Syntax) ≡ Ok tt → IsEnd (Mark b ∷ tokens)
    by_test true same [] e = same refl
    by_test true same (token ∷ tokens) e = absurd cc
    by_test false same tokens e = absurd cc
end_is v (Unclosed ∷ tokens) e = absurd cc

pub is_end : (v : Verb) (ts : List Token) → IsEnd ts → end_at v ts ≡ Ok tt
unfolding end_at
is_end v [] end = refl
is_end v (token ∷ other ∷ tokens) end = absurd end
is_end v (Word w ∷ []) end = absurd end
is_end v (Quoted n ∷ []) end = absurd end
is_end v (Value u ∷ []) end = absurd end
is_end v (Mark b ∷ []) end = if_true (eqb b SEMICOLON) (Ok tt) (Err Syntax) (eq-eqb b SEMICOLON end)
is_end v (Unclosed ∷ []) end = absurd end
