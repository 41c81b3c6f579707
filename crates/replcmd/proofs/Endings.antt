-- How a CREATE_REPLICATION_SLOT ends is what is read of it: a keyword or options of a slot, or nothing.
use Rattle.std.proofs.Common.{◌≡◌, ℕ, Bool, true, false, cond, eqb, List, [], ◌∷◌, ◌++◌, Option, Some, None, Result, Ok, Err, refl, sym, ap, subst, ◌∙◌}
use Rattle.std.specs.Prelude.{codes}
use Rattle.std.specs.Option.{ok_or}
use Rattle.std.specs.Str.{bytes_eq}
use Rattle.std.proofs.lemmas.Bool.{eqb-true}
use Rattle.replcmd.specs.declared.fault.CmdFault.{CmdFault}
use Rattle.replcmd.specs.declared.fault.CmdFault.TheVariants.{Syntax, Unsupported}
use Rattle.replcmd.specs.declared.text.token.Token.{Token}
use Rattle.replcmd.specs.declared.text.token.Token.TheVariants.{Word, Quoted, Value, Mark, Unclosed}
use Rattle.replcmd.specs.declared.text.token.TheConstants.{OPEN, CLOSE, COMMA}
use Rattle.replcmd.specs.declared.clauses.snapshot_clause.SnapshotClause.{SnapshotClause}
use Rattle.replcmd.specs.declared.clauses.snapshot_clause.SnapshotClause.TheVariants.{Export}
use Rattle.replcmd.specs.declared.clauses.strictness.Strictness.{Strictness}
use Rattle.replcmd.specs.declared.clauses.strictness.Strictness.TheVariants.{Strict, Lenient}
use Rattle.replcmd.specs.Words.{is_keyword, is_truth, lower}
use Rattle.replcmd.specs.Snapshots.{may_say, said_snapshot, snapshot_keyword, snapshot_named, snapshot_value}
use Rattle.replcmd.specs.Grammar.{Part, Keyword, Quote, Truth, Sign, IsEnd, Follows, IsFlag, Plain, Flagged, IsEnding, Unsaid, ByKeyword, ByOption, BeforeTwoPhase, BehindTwoPhase, TwoPhaseAlone, snapshot_parts, two_phase_parts}
use Rattle.replcmd.specs.Commands.{closed_at, ending_at, ending_from, first_snapshot_at, first_two_phase_at, flag_at, if_last, if_snapshot, if_two_phase, last_snapshot_at, more_settings, other_option, slot_bracket_at, slot_options_at, snapshot_value_at, two_phase_at}
use Rattle.replcmd.specs.Reading.{◌>>=◌, value_at, past_mark, past_said, past_snapshot, past_word, truth_of}
use Rattle.pqformat.proofs.Quoting.{if_true}
use Rattle.replcmd.proofs.Lists.{found, same_found, bind_ok}
use Rattle.replcmd.proofs.Options.{close_is, comma_is, sign_front}
use Rattle.replcmd.proofs.Readers.{bytes_same, value_follows, passed, mark_is, mark_stays}
use Rattle.replcmd.proofs.Snapshots.{said_is, is_said, named_is, is_named}
use Rattle.replcmd.proofs.Truths.{truth_take, truth_again}

-- ---- words and marks

word_is : (k : List ℕ) (ts rest : List Token) (parts : List Part) → past_word k ts ≡ passed true rest → Follows rest parts → Follows ts (Keyword k ∷ parts)
word_is k [] rest parts e f = absurd (let never = ap (λ (x : Bool × List Token). x.0) e in cc)
word_is k (Word w ∷ tokens) rest parts e f = by_test (is_keyword k w) refl e
  where
    by_test : (t : Bool) → is_keyword k w ≡ t → cond t (passed true tokens) (passed false (Word w ∷ tokens)) ≡ passed true rest → (is_keyword k w ≡ true) × Follows tokens parts
    by_test true is e = (is, subst (λ (l : List Token). Follows l parts) (sym (ap (λ (x : Bool × List Token). x.1) e)) f)
    by_test false is e = absurd (let never = ap (λ (x : Bool × List Token). x.0) e in cc)
word_is k (Quoted n ∷ tokens) rest parts e f = absurd (let never = ap (λ (x : Bool × List Token). x.0) e in cc)
word_is k (Value v ∷ tokens) rest parts e f = absurd (let never = ap (λ (x : Bool × List Token). x.0) e in cc)
word_is k (Mark b ∷ tokens) rest parts e f = absurd (let never = ap (λ (x : Bool × List Token). x.0) e in cc)
word_is k (Unclosed ∷ tokens) rest parts e f = absurd (let never = ap (λ (x : Bool × List Token). x.0) e in cc)

word_stays : (k : List ℕ) (ts rest : List Token) → past_word k ts ≡ passed false rest → ts ≡ rest
word_stays k [] rest e = ap (λ (x : Bool × List Token). x.1) e
word_stays k (Word w ∷ tokens) rest e = by_test (is_keyword k w) e
  where
    by_test : (t : Bool) → cond t (passed true tokens) (passed false (Word w ∷ tokens)) ≡ passed false rest → Word w ∷ tokens ≡ rest
    by_test true e = absurd (let never = ap (λ (x : Bool × List Token). x.0) e in cc)
    by_test false e = ap (λ (x : Bool × List Token). x.1) e
word_stays k (Quoted n ∷ tokens) rest e = ap (λ (x : Bool × List Token). x.1) e
word_stays k (Value v ∷ tokens) rest e = ap (λ (x : Bool × List Token). x.1) e
word_stays k (Mark b ∷ tokens) rest e = ap (λ (x : Bool × List Token). x.1) e
word_stays k (Unclosed ∷ tokens) rest e = ap (λ (x : Bool × List Token). x.1) e

word_front : (k : List ℕ) (ts : List Token) (parts : List Part) → Follows ts (Keyword k ∷ parts) → (rest : List Token) × (past_word k ts ≡ passed true rest) × (past_mark OPEN ts ≡ passed false ts) × Follows rest parts
word_front k [] parts f = absurd f
word_front k (Word w ∷ tokens) parts f = (tokens, if_true (is_keyword k w) (passed true tokens) (passed false (Word w ∷ tokens)) f.0, refl, f.1)
word_front k (Quoted n ∷ tokens) parts f = absurd f.0
word_front k (Value u ∷ tokens) parts f = absurd f.0
word_front k (Mark b ∷ tokens) parts f = absurd f.0
word_front k (Unclosed ∷ tokens) parts f = absurd f.0

bracket_is : (ts rest : List Token) → slot_bracket_at ts ≡ Ok rest → ts ≡ Mark CLOSE ∷ rest
bracket_is [] rest e = absurd cc
bracket_is (Word w ∷ tokens) rest e = absurd cc
bracket_is (Quoted n ∷ tokens) rest e = absurd cc
bracket_is (Value v ∷ tokens) rest e = absurd cc
bracket_is (Unclosed ∷ tokens) rest e = absurd cc
bracket_is (Mark m ∷ tokens) rest e = by_test (eqb m COMMA) (eqb m CLOSE) (λ is. eqb-true m CLOSE is) e
  where
    by_test : (t u : Bool) → (u ≡ true → m ≡ CLOSE) → cond t (Err (other_option tokens)) (cond u (Ok tokens) (Err Syntax)) ≡ Ok rest → Mark m ∷ tokens ≡ Mark CLOSE ∷ rest
    by_test true u same e = absurd cc
    by_test false true same e = let rest_is : tokens ≡ rest = cc in ap (λ (x : ℕ). Mark x ∷ tokens) (same refl) ∙ ap (λ (l : List Token). Mark CLOSE ∷ l) rest_is
    by_test false false same e = absurd cc

abbrev close : List Part
close = Sign CLOSE ∷ []

close_follows : (ts rest : List Token) → slot_bracket_at ts ≡ Ok rest → IsEnd rest → Follows ts close
close_follows ts rest e end = subst (λ (l : List Token). Follows l close) (sym (bracket_is ts rest e)) (refl, end)

close_reads : (ts : List Token) → Follows ts close → (rest : List Token) × (slot_bracket_at ts ≡ Ok rest) × IsEnd rest
close_reads ts f = let a = sign_front CLOSE ts [] f in (a.0, ap slot_bracket_at a.1, a.2)

-- ---- SNAPSHOT and its value

snapshot_value_follows : (strictness : Strictness) (ts : List Token) (snapshot : SnapshotClause) (rest : List Token) (parts : List Part) → snapshot_value_at strictness ts ≡ found snapshot rest → Follows rest parts
    → (may_say strictness snapshot ≡ true) × Follows ts (Quote (snapshot_value snapshot) ∷ parts)
snapshot_value_follows strictness ts snapshot rest parts e f =
    let a = bind_ok (value_at ts) (λ value. ok_or (snapshot_named strictness value.0) Unsupported >>= λ said. found said value.1) (snapshot, rest) e in
    by_name a.0.0 a.0.1 (value_follows ts a.0.0 a.0.1 a.1) (snapshot_named strictness a.0.0) refl a.2
  where
    by_name : (v : List ℕ) (mid : List Token) → ts ≡ Value v ∷ mid → (o : Option SnapshotClause) → snapshot_named strictness v ≡ o
        → (ok_or o Unsupported >>= λ said. found said mid) ≡ found snapshot rest → (may_say strictness snapshot ≡ true) × Follows ts (Quote (snapshot_value snapshot) ∷ parts)
    by_name v mid front None is e = absurd cc
    by_name v mid front (Some said) is e =
        let same = same_found said mid snapshot rest e in
        let named = named_is strictness v snapshot (is ∙ ap Some same.0) in
        let both : Follows (Value v ∷ mid) (Quote (snapshot_value snapshot) ∷ parts) = (named.0, subst (λ (l : List Token). Follows l parts) (sym same.1) f) in
        (named.1, subst (λ (l : List Token). Follows l (Quote (snapshot_value snapshot) ∷ parts)) (sym front) both)

-- what is read of a value may be said, whatever follows
value_may : (strictness : Strictness) (ts : List Token) (snapshot : SnapshotClause) (rest : List Token) → snapshot_value_at strictness ts ≡ found snapshot rest → may_say strictness snapshot ≡ true
value_may strictness ts snapshot rest e =
    let a = bind_ok (value_at ts) (λ value. ok_or (snapshot_named strictness value.0) Unsupported >>= λ said. found said value.1) (snapshot, rest) e in
    by_name a.0.0 a.0.1 (snapshot_named strictness a.0.0) refl a.2
  where
    by_name : (v : List ℕ) (mid : List Token) → (o : Option SnapshotClause) → snapshot_named strictness v ≡ o → (ok_or o Unsupported >>= λ said. found said mid) ≡ found snapshot rest → may_say strictness snapshot ≡ true
    by_name v mid None is e = absurd cc
    by_name v mid (Some said) is e = (named_is strictness v snapshot (is ∙ ap Some (same_found said mid snapshot rest e).0)).1

snapshot_value_reads : (strictness : Strictness) (snapshot : SnapshotClause) → may_say strictness snapshot ≡ true → (ts : List Token) (parts : List Part) → Follows ts (Quote (snapshot_value snapshot) ∷ parts)
    → (rest : List Token) × (snapshot_value_at strictness ts ≡ found snapshot rest) × Follows rest parts
snapshot_value_reads strictness snapshot may [] parts f = absurd f
snapshot_value_reads strictness snapshot may (Word w ∷ tokens) parts f = absurd f.0
snapshot_value_reads strictness snapshot may (Quoted n ∷ tokens) parts f = absurd f.0
snapshot_value_reads strictness snapshot may (Value v ∷ tokens) parts f = (tokens, rw (is_named strictness v snapshot may f.0) refl, f.1)
snapshot_value_reads strictness snapshot may (Mark b ∷ tokens) parts f = absurd f.0
snapshot_value_reads strictness snapshot may (Unclosed ∷ tokens) parts f = absurd f.0

-- ---- TWO_PHASE

abbrev moved : List Token → Result (List Token) CmdFault
moved rest = Ok rest

flag_follows : (ts rest : List Token) (parts : List Part) → flag_at ts ≡ Ok rest → Follows rest parts → (flag : List Part) × IsFlag flag × Follows ts (flag ++ parts)
flag_follows ts rest parts e f = by_front ts refl e
  where
    none : (l : List Token) → ts ≡ l → moved l ≡ moved rest → (flag : List Part) × IsFlag flag × Follows ts (flag ++ parts)
    none l is e = let same : l ≡ rest = cc in ([], Plain, subst (λ (x : List Token). Follows x parts) (sym (is ∙ same)) f)

    told : (text : List ℕ) (l tokens : List Token) → ts ≡ l → ((on : Bool) → is_truth on text ≡ true → Follows tokens parts → Follows l (Truth on ∷ parts))
        → (o : Option Bool) → truth_of text ≡ o → (ok_or o Syntax >>= λ on. moved tokens) ≡ moved rest → (flag : List Part) × IsFlag flag × Follows ts (flag ++ parts)
    told text l tokens is says None truth e = absurd cc
    told text l tokens is says (Some on) truth e =
        let same : tokens ≡ rest = cc in
        let follows = says on (truth_take text on truth) (subst (λ (x : List Token). Follows x parts) (sym same) f) in
        (Truth on ∷ [], Flagged on, subst (λ (x : List Token). Follows x (Truth on ∷ parts)) (sym is) follows)

    by_front : (l : List Token) → ts ≡ l → flag_at l ≡ Ok rest → (flag : List Part) × IsFlag flag × Follows ts (flag ++ parts)
    by_front [] is e = none [] is e
    by_front (Word w ∷ tokens) is e = told w (Word w ∷ tokens) tokens is (λ on truth behind. (truth, behind)) (truth_of w) refl e
    by_front (Value v ∷ tokens) is e = told v (Value v ∷ tokens) tokens is (λ on truth behind. (truth, behind)) (truth_of v) refl e
    by_front (Quoted n ∷ tokens) is e = none (Quoted n ∷ tokens) is e
    by_front (Mark b ∷ tokens) is e = none (Mark b ∷ tokens) is e
    by_front (Unclosed ∷ tokens) is e = none (Unclosed ∷ tokens) is e

flag_reads : (flag : List Part) → IsFlag flag → (ts : List Token) (m : ℕ) (parts : List Part) → Follows ts (flag ++ (Sign m ∷ parts)) → (rest : List Token) × (flag_at ts ≡ Ok rest) × Follows rest (Sign m ∷ parts)
flag_reads _ is [] m parts f = absurd (none is f)
  where
    none : {flag : List Part} → IsFlag flag → Follows [] (flag ++ (Sign m ∷ parts)) → ⊥
    none Plain f = f
    none (Flagged on) f = f
flag_reads _ Plain (Word w ∷ tokens) m parts f = absurd f.0
flag_reads _ Plain (Quoted n ∷ tokens) m parts f = absurd f.0
flag_reads _ Plain (Value v ∷ tokens) m parts f = absurd f.0
flag_reads _ Plain (Mark b ∷ tokens) m parts f = (Mark b ∷ tokens, refl, f)
flag_reads _ Plain (Unclosed ∷ tokens) m parts f = absurd f.0
flag_reads _ (Flagged on) (Word w ∷ tokens) m parts f = (tokens, rw (truth_again w on f.0) refl, f.1)
flag_reads _ (Flagged on) (Quoted n ∷ tokens) m parts f = absurd f.0
flag_reads _ (Flagged on) (Value v ∷ tokens) m parts f = (tokens, rw (truth_again v on f.0) refl, f.1)
flag_reads _ (Flagged on) (Mark b ∷ tokens) m parts f = absurd f.0
flag_reads _ (Flagged on) (Unclosed ∷ tokens) m parts f = absurd f.0

two_phase_follows : (ts rest : List Token) (parts : List Part) → two_phase_at ts ≡ Ok rest → Follows rest parts → (flag : List Part) × IsFlag flag × Follows ts (two_phase_parts flag parts)
unfolding two_phase_at
two_phase_follows ts rest parts e f = by_word (past_word (codes "TWO_PHASE") ts) refl e
  where
    by_word : (x : Bool × List Token) → past_word (codes "TWO_PHASE") ts ≡ x → if_two_phase x ≡ Ok rest → (flag : List Part) × IsFlag flag × Follows ts (two_phase_parts flag parts)
    by_word (true, behind) is e =
        let flag = flag_follows behind rest parts e f in
        (flag.0, flag.1, word_is (codes "TWO_PHASE") ts behind (flag.0 ++ parts) is flag.2)
    by_word (false, behind) is e = absurd cc

two_phase_reads : (flag : List Part) → IsFlag flag → (ts : List Token) (m : ℕ) (parts : List Part) → Follows ts (two_phase_parts flag (Sign m ∷ parts))
    → (rest : List Token) × (two_phase_at ts ≡ Ok rest) × Follows rest (Sign m ∷ parts)
unfolding two_phase_at
two_phase_reads flag is ts m parts f =
    let word = word_front (codes "TWO_PHASE") ts (flag ++ (Sign m ∷ parts)) f in
    let told = flag_reads flag is word.0 m parts word.3 in
    (told.0, ap if_two_phase word.1 ∙ told.1, told.2)

-- ---- the options

abbrev Ends : Strictness → SnapshotClause → List Token → Type 0
Ends strictness snapshot ts = (ending : List Part) × IsEnding strictness snapshot ending × Follows ts ending

-- what follows where nothing is said, or a keyword says it
word_follows : (strictness : Strictness) (ts : List Token) (snapshot : SnapshotClause) (rest : List Token) → found (past_snapshot strictness ts).0 (past_snapshot strictness ts).1 ≡ found snapshot rest → IsEnd rest
    → (ending : List Part) × IsEnding strictness snapshot ending × Follows ts ending
word_follows strictness ts snapshot rest e end = by_front ts refl e
  where
    bare : (front : List Token) → ts ≡ front → found Export front ≡ found snapshot rest → (ending : List Part) × IsEnding strictness snapshot ending × Follows ts ending
    bare front is e =
        let same = same_found Export front snapshot rest e in
        ([], subst (λ (x : SnapshotClause). IsEnding strictness x []) same.0 Unsaid, subst IsEnd (sym (is ∙ same.1)) end)

    by_word : (w : List ℕ) (tokens : List Token) → ts ≡ Word w ∷ tokens → (o : Option SnapshotClause) → said_snapshot strictness w ≡ o
        → found (past_said o w tokens).0 (past_said o w tokens).1 ≡ found snapshot rest → (ending : List Part) × IsEnding strictness snapshot ending × Follows ts ending
    by_word w tokens is None said e = bare (Word w ∷ tokens) is e
    by_word w tokens is (Some s) said e =
        let same = same_found s tokens snapshot rest e in
        let word = said_is strictness w snapshot (said ∙ ap Some same.0) in
        let follows : Follows (Word w ∷ tokens) (Keyword (snapshot_keyword snapshot) ∷ []) = (word.0, subst IsEnd (sym same.1) end) in
        (Keyword (snapshot_keyword snapshot) ∷ [], ByKeyword snapshot word.1, subst (λ (l : List Token). Follows l (Keyword (snapshot_keyword snapshot) ∷ [])) (sym is) follows)

    by_front : (l : List Token) → ts ≡ l → found (past_snapshot strictness l).0 (past_snapshot strictness l).1 ≡ found snapshot rest → (ending : List Part) × IsEnding strictness snapshot ending × Follows ts ending
    by_front [] is e = bare [] is e
    by_front (Word w ∷ tokens) is e = by_word w tokens is (said_snapshot strictness w) refl e
    by_front (Quoted n ∷ tokens) is e = bare (Quoted n ∷ tokens) is e
    by_front (Value v ∷ tokens) is e = bare (Value v ∷ tokens) is e
    by_front (Mark b ∷ tokens) is e = bare (Mark b ∷ tokens) is e
    by_front (Unclosed ∷ tokens) is e = bare (Unclosed ∷ tokens) is e

-- nothing, or a semicolon
bare_reads : (strictness : Strictness) (ts : List Token) → IsEnd ts → ending_at strictness ts ≡ found Export ts
unfolding ending_at
bare_reads strictness [] end = refl
bare_reads strictness (token ∷ other ∷ tokens) end = absurd end
bare_reads strictness (Word w ∷ []) end = absurd end
bare_reads strictness (Quoted n ∷ []) end = absurd end
bare_reads strictness (Value v ∷ []) end = absurd end
bare_reads strictness (Mark b ∷ []) end = subst (λ (x : ℕ). ending_from strictness (past_mark OPEN (Mark x ∷ [])) ≡ found Export (Mark x ∷ [])) (sym end) refl
bare_reads strictness (Unclosed ∷ []) end = absurd end

word_reads : (strictness : Strictness) (snapshot : SnapshotClause) → may_say strictness snapshot ≡ true → (ts : List Token) → Follows ts (Keyword (snapshot_keyword snapshot) ∷ [])
    → (rest : List Token) × (ending_at strictness ts ≡ found snapshot rest) × IsEnd rest
unfolding ending_at
word_reads strictness snapshot may [] f = absurd f
word_reads strictness snapshot may (Word w ∷ tokens) f = (tokens, rw (is_said strictness w snapshot may f.0) refl, f.1)
word_reads strictness snapshot may (Quoted n ∷ tokens) f = absurd f.0
word_reads strictness snapshot may (Value v ∷ tokens) f = absurd f.0
word_reads strictness snapshot may (Mark b ∷ tokens) f = absurd f.0
word_reads strictness snapshot may (Unclosed ∷ tokens) f = absurd f.0

-- behind the bracket and the word SNAPSHOT
closed_follows : (strictness : Strictness) (ts rest : List Token) (snapshot : SnapshotClause) → may_say strictness snapshot ≡ true → closed_at strictness ts ≡ Ok rest → IsEnd rest
    → (parts : List Part) × IsEnding strictness snapshot (Sign OPEN ∷ snapshot_parts snapshot parts) × Follows ts parts
unfolding closed_at
closed_follows Strict ts rest snapshot may e end = (close, ByOption snapshot may, close_follows ts rest e end)
closed_follows Lenient ts rest snapshot may e end =
    let goes = bind_ok (more_settings ts) (λ goes. cond goes.0 (two_phase_at goes.1 >>= λ behind. slot_bracket_at behind) (Ok goes.1)) rest e in
    by_more goes.0.0 goes.0.1 goes.1 goes.2
  where
    by_more : (t : Bool) (next : List Token) → more_settings ts ≡ found t next → cond t (two_phase_at next >>= λ behind. slot_bracket_at behind) (Ok next) ≡ Ok rest
        → (parts : List Part) × IsEnding Lenient snapshot (Sign OPEN ∷ snapshot_parts snapshot parts) × Follows ts parts
    by_more true next comma e =
        let phase = bind_ok (two_phase_at next) (λ behind. slot_bracket_at behind) rest e in
        let flag = two_phase_follows next phase.0 close phase.1 (close_follows phase.0 rest phase.2 end) in
        let all : Follows (Mark COMMA ∷ next) (Sign COMMA ∷ two_phase_parts flag.0 close) = (refl, flag.2) in
        (Sign COMMA ∷ two_phase_parts flag.0 close, BeforeTwoPhase snapshot flag.0 flag.1, subst (λ (l : List Token). Follows l (Sign COMMA ∷ two_phase_parts flag.0 close)) (sym (comma_is ts next comma)) all)
    by_more false next none e =
        let same : next ≡ rest = cc in
        let all : Follows (Mark CLOSE ∷ next) close = (refl, subst IsEnd (sym same) end) in
        (close, ByOption snapshot may, subst (λ (l : List Token). Follows l close) (sym (close_is ts next none)) all)

first_snapshot_follows : (strictness : Strictness) (inner behind : List Token) (snapshot : SnapshotClause) (rest : List Token) → past_word (codes "SNAPSHOT") inner ≡ passed true behind
    → first_snapshot_at strictness behind ≡ found snapshot rest → IsEnd rest → Ends strictness snapshot (Mark OPEN ∷ inner)
unfolding first_snapshot_at
first_snapshot_follows strictness inner behind snapshot rest word e end =
    let value = bind_ok (snapshot_value_at strictness behind) (λ said. closed_at strictness said.1 >>= λ more. found said.0 more) (snapshot, rest) e in
    let closed = bind_ok (closed_at strictness value.0.1) (λ more. found value.0.0 more) (snapshot, rest) value.2 in
    let same = same_found value.0.0 closed.0 snapshot rest closed.2 in
    let is_end = subst IsEnd (sym same.1) end in
    by_parts value.0.0 value.0.1 closed.0 same.0 value.1 closed.1 is_end
  where
    by_parts : (said : SnapshotClause) (mid more : List Token) → said ≡ snapshot → snapshot_value_at strictness behind ≡ found said mid → closed_at strictness mid ≡ Ok more → IsEnd more
        → Ends strictness snapshot (Mark OPEN ∷ inner)
    by_parts said mid more same read closed end =
        let parts = closed_follows strictness mid more said (value_may strictness behind said mid read) closed end in
        let value = snapshot_value_follows strictness behind said mid parts.0 read parts.2 in
        let all : Follows (Mark OPEN ∷ inner) (Sign OPEN ∷ snapshot_parts said parts.0) = (refl, word_is (codes "SNAPSHOT") inner behind (Quote (snapshot_value said) ∷ parts.0) word value.1) in
        (Sign OPEN ∷ snapshot_parts said parts.0, subst (λ (x : SnapshotClause). IsEnding strictness x (Sign OPEN ∷ snapshot_parts said parts.0)) same parts.1, all)

last_follows : (ts : List Token) (snapshot : SnapshotClause) (rest : List Token) → last_snapshot_at ts ≡ found snapshot rest → IsEnd rest → Follows ts (snapshot_parts snapshot close)
unfolding last_snapshot_at
last_follows ts snapshot rest e end = by_word (past_word (codes "SNAPSHOT") ts) refl e
  where
    by_word : (x : Bool × List Token) → past_word (codes "SNAPSHOT") ts ≡ x → if_last x ≡ found snapshot rest → Follows ts (snapshot_parts snapshot close)
    by_word (true, behind) is e =
        let value = bind_ok (snapshot_value_at Lenient behind) (λ said. slot_bracket_at said.1 >>= λ more. found said.0 more) (snapshot, rest) e in
        let closed = bind_ok (slot_bracket_at value.0.1) (λ more. found value.0.0 more) (snapshot, rest) value.2 in
        let same = same_found value.0.0 closed.0 snapshot rest closed.2 in
        let follows = snapshot_value_follows Lenient behind value.0.0 value.0.1 close value.1 (close_follows value.0.1 closed.0 closed.1 (subst IsEnd (sym same.1) end)) in
        subst (λ (x : SnapshotClause). Follows ts (snapshot_parts x close)) same.0 (word_is (codes "SNAPSHOT") ts behind (Quote (snapshot_value value.0.0) ∷ close) is follows.1)
    by_word (false, behind) is e = absurd cc

first_two_phase_follows : (ts : List Token) (snapshot : SnapshotClause) (rest : List Token) → first_two_phase_at ts ≡ found snapshot rest → IsEnd rest → Ends Lenient snapshot (Mark OPEN ∷ ts)
unfolding first_two_phase_at
first_two_phase_follows ts snapshot rest e end =
    let phase = bind_ok (two_phase_at ts) (λ behind. more_settings behind >>= λ goes. cond goes.0 (last_snapshot_at goes.1) (found Export goes.1)) (snapshot, rest) e in
    let goes = bind_ok (more_settings phase.0) (λ goes. cond goes.0 (last_snapshot_at goes.1) (found Export goes.1)) (snapshot, rest) phase.2 in
    by_more phase.0 goes.0.0 goes.0.1 phase.1 goes.1 goes.2
  where
    by_more : (mid : List Token) (t : Bool) (next : List Token) → two_phase_at ts ≡ Ok mid → more_settings mid ≡ found t next → cond t (last_snapshot_at next) (found Export next) ≡ found snapshot rest
        → Ends Lenient snapshot (Mark OPEN ∷ ts)
    by_more mid true next phase comma e =
        let last = last_follows next snapshot rest e end in
        let behind : Follows (Mark COMMA ∷ next) (Sign COMMA ∷ snapshot_parts snapshot close) = (refl, last) in
        let there = subst (λ (l : List Token). Follows l (Sign COMMA ∷ snapshot_parts snapshot close)) (sym (comma_is mid next comma)) behind in
        let flag = two_phase_follows ts mid (Sign COMMA ∷ snapshot_parts snapshot close) phase there in
        (Sign OPEN ∷ two_phase_parts flag.0 (Sign COMMA ∷ snapshot_parts snapshot close), BehindTwoPhase snapshot flag.0 flag.1, (refl, flag.2))
    by_more mid false next phase none e =
        let same = same_found Export next snapshot rest e in
        let behind : Follows (Mark CLOSE ∷ next) close = (refl, subst IsEnd (sym same.1) end) in
        let there = subst (λ (l : List Token). Follows l close) (sym (close_is mid next none)) behind in
        let flag = two_phase_follows ts mid close phase there in
        (Sign OPEN ∷ two_phase_parts flag.0 close, subst (λ (x : SnapshotClause). IsEnding Lenient x (Sign OPEN ∷ two_phase_parts flag.0 close)) same.0 (TwoPhaseAlone flag.0 flag.1), (refl, flag.2))

options_follow : (strictness : Strictness) (inner : List Token) (snapshot : SnapshotClause) (rest : List Token) → slot_options_at strictness inner ≡ found snapshot rest → IsEnd rest → Ends strictness snapshot (Mark OPEN ∷ inner)
unfolding slot_options_at
options_follow strictness inner snapshot rest e end = by_word strictness (past_word (codes "SNAPSHOT") inner) refl e
  where
    by_word : (strictness : Strictness) (x : Bool × List Token) → past_word (codes "SNAPSHOT") inner ≡ x → if_snapshot strictness x ≡ found snapshot rest → Ends strictness snapshot (Mark OPEN ∷ inner)
    by_word strictness (true, behind) is e = first_snapshot_follows strictness inner behind snapshot rest is e end
    by_word Strict (false, behind) is e = absurd cc
    by_word Lenient (false, behind) is e =
        let ends = first_two_phase_follows behind snapshot rest e end in
        subst (λ (l : List Token). Ends Lenient snapshot (Mark OPEN ∷ l)) (sym (word_stays (codes "SNAPSHOT") inner behind is)) ends

pub ending_follows : (strictness : Strictness) (ts : List Token) (snapshot : SnapshotClause) (rest : List Token) → ending_at strictness ts ≡ found snapshot rest → IsEnd rest
    → (ending : List Part) × IsEnding strictness snapshot ending × Follows ts ending
unfolding ending_at
ending_follows strictness ts snapshot rest e end = by_bracket (past_mark OPEN ts) refl e
  where
    by_bracket : (x : Bool × List Token) → past_mark OPEN ts ≡ x → ending_from strictness x ≡ found snapshot rest → Ends strictness snapshot ts
    by_bracket (true, inner) is e = subst (Ends strictness snapshot) (sym (mark_is OPEN ts inner is)) (options_follow strictness inner snapshot rest e end)
    by_bracket (false, after) is e = subst (Ends strictness snapshot) (sym (mark_stays OPEN ts after is)) (word_follows strictness after snapshot rest e end)

-- ---- what is spelled is read

abbrev Reads : Strictness → SnapshotClause → List Token → Type 0
Reads strictness snapshot ts = (rest : List Token) × (ending_at strictness ts ≡ found snapshot rest) × IsEnd rest

-- options, once their bracket is passed
bracket_reads : (strictness : Strictness) (snapshot : SnapshotClause) (ts : List Token) (parts : List Part) → Follows ts (Sign OPEN ∷ parts)
    → ((inner : List Token) → Follows inner parts → (rest : List Token) × (slot_options_at strictness inner ≡ found snapshot rest) × IsEnd rest) → Reads strictness snapshot ts
unfolding ending_at
bracket_reads strictness snapshot ts parts f reads =
    let front = sign_front OPEN ts parts f in
    let inner = reads front.0 front.2 in
    (inner.0, ap (ending_at strictness) front.1 ∙ inner.1, inner.2)

-- the word SNAPSHOT, its value, and what closes the options
snapshot_reads : (strictness : Strictness) (snapshot : SnapshotClause) → may_say strictness snapshot ≡ true → (parts : List Part)
    → ((ts : List Token) → Follows ts parts → (rest : List Token) × (closed_at strictness ts ≡ Ok rest) × IsEnd rest)
    → (inner : List Token) → Follows inner (snapshot_parts snapshot parts) → (rest : List Token) × (slot_options_at strictness inner ≡ found snapshot rest) × IsEnd rest
unfolding slot_options_at first_snapshot_at
snapshot_reads strictness snapshot may parts closes inner f =
    let word = word_front (codes "SNAPSHOT") inner (Quote (snapshot_value snapshot) ∷ parts) f in
    let value = snapshot_value_reads strictness snapshot may word.0 parts word.3 in
    let closed = closes value.0 value.2 in
    let first : first_snapshot_at strictness word.0 ≡ found snapshot closed.0 =
    ap (λ (r : Result (SnapshotClause × List Token) CmdFault). r >>= λ said. closed_at strictness said.1 >>= λ more. found said.0 more) value.1
    ∙ ap (λ (r : Result (List Token) CmdFault). r >>= λ more. found snapshot more) closed.1 in
    (closed.0, ap (if_snapshot strictness) word.1 ∙ first, closed.2)

closes_alone : (strictness : Strictness) (ts : List Token) → Follows ts close → (rest : List Token) × (closed_at strictness ts ≡ Ok rest) × IsEnd rest
unfolding closed_at
closes_alone Strict ts f = close_reads ts f
closes_alone Lenient ts f =
    let front = sign_front CLOSE ts [] f in
    (front.0, ap (λ (l : List Token). more_settings l >>= λ goes. cond goes.0 (two_phase_at goes.1 >>= λ behind. slot_bracket_at behind) (Ok goes.1)) front.1, front.2)

closes_late : (flag : List Part) → IsFlag flag → (ts : List Token) → Follows ts (Sign COMMA ∷ two_phase_parts flag close) → (rest : List Token) × (closed_at Lenient ts ≡ Ok rest) × IsEnd rest
unfolding closed_at
closes_late flag is ts f =
    let front = sign_front COMMA ts (two_phase_parts flag close) f in
    let phase = two_phase_reads flag is front.0 CLOSE [] front.2 in
    let last = close_reads phase.0 phase.2 in (
      last.0,
      ap (λ (l : List Token). more_settings l >>= λ goes. cond goes.0 (two_phase_at goes.1 >>= λ behind. slot_bracket_at behind) (Ok goes.1)) front.1
          ∙ ap (λ (r : Result (List Token) CmdFault). r >>= λ behind. slot_bracket_at behind) phase.1 ∙ last.1,
      last.2,
    )

last_reads : (snapshot : SnapshotClause) (ts : List Token) → Follows ts (snapshot_parts snapshot close) → (rest : List Token) × (last_snapshot_at ts ≡ found snapshot rest) × IsEnd rest
unfolding last_snapshot_at
last_reads snapshot ts f =
    let word = word_front (codes "SNAPSHOT") ts (Quote (snapshot_value snapshot) ∷ close) f in
    let value = snapshot_value_reads Lenient snapshot refl word.0 close word.3 in
    let last = close_reads value.0 value.2 in (
      last.0,
      ap if_last word.1 ∙ ap (λ (r : Result (SnapshotClause × List Token) CmdFault). r >>= λ said. slot_bracket_at said.1 >>= λ more. found said.0 more) value.1
          ∙ ap (λ (r : Result (List Token) CmdFault). r >>= λ more. found snapshot more) last.1,
      last.2,
    )

-- TWO_PHASE at the front is no SNAPSHOT
phase_front : (ts : List Token) (parts : List Part) → Follows ts (Keyword (codes "TWO_PHASE") ∷ parts) → past_word (codes "SNAPSHOT") ts ≡ passed false ts
phase_front [] parts f = absurd f
phase_front (Word w ∷ tokens) parts f = ap (λ (folded : List ℕ). cond (bytes_eq folded (lower (codes "SNAPSHOT"))) (passed true tokens) (passed false (Word w ∷ tokens))) (bytes_same (lower w) (lower (codes "TWO_PHASE")) f.0)
phase_front (Quoted n ∷ tokens) parts f = absurd f.0
phase_front (Value v ∷ tokens) parts f = absurd f.0
phase_front (Mark b ∷ tokens) parts f = absurd f.0
phase_front (Unclosed ∷ tokens) parts f = absurd f.0

-- what follows TWO_PHASE where it stands first
abbrev after_phase : List Token → Result (SnapshotClause × List Token) CmdFault
after_phase ts = more_settings ts >>= λ goes. cond goes.0 (last_snapshot_at goes.1) (found Export goes.1)

phase_reads : (snapshot : SnapshotClause) (flag : List Part) → IsFlag flag → (m : ℕ) (parts : List Part)
    → ((ts : List Token) → Follows ts (Sign m ∷ parts) → (rest : List Token) × (after_phase ts ≡ found snapshot rest) × IsEnd rest)
    → (inner : List Token) → Follows inner (two_phase_parts flag (Sign m ∷ parts)) → (rest : List Token) × (slot_options_at Lenient inner ≡ found snapshot rest) × IsEnd rest
unfolding slot_options_at first_two_phase_at
phase_reads snapshot flag is m parts reads inner f =
    let phase = two_phase_reads flag is inner m parts f in
    let behind = reads phase.0 phase.2 in
    let first : first_two_phase_at inner ≡ found snapshot behind.0 = ap (λ (r : Result (List Token) CmdFault). r >>= after_phase) phase.1 ∙ behind.1 in
    (behind.0, ap (if_snapshot Lenient) (phase_front inner (flag ++ (Sign m ∷ parts)) f) ∙ first, behind.2)

nothing_after : (ts : List Token) → Follows ts close → (rest : List Token) × (after_phase ts ≡ found Export rest) × IsEnd rest
nothing_after ts f = let front = sign_front CLOSE ts [] f in (front.0, ap after_phase front.1, front.2)

snapshot_after : (snapshot : SnapshotClause) (ts : List Token) → Follows ts (Sign COMMA ∷ snapshot_parts snapshot close) → (rest : List Token) × (after_phase ts ≡ found snapshot rest) × IsEnd rest
snapshot_after snapshot ts f =
    let front = sign_front COMMA ts (snapshot_parts snapshot close) f in
    let last = last_reads snapshot front.0 front.2 in
    (last.0, ap after_phase front.1 ∙ last.1, last.2)

pub ending_reads : (strictness : Strictness) (snapshot : SnapshotClause) (ending : List Part) → IsEnding strictness snapshot ending → (ts : List Token) → Follows ts ending
    → (rest : List Token) × (ending_at strictness ts ≡ found snapshot rest) × IsEnd rest
ending_reads strictness _ _ Unsaid ts f = (ts, bare_reads strictness ts f, f)
ending_reads strictness _ _ (ByKeyword snapshot may) ts f = word_reads strictness snapshot may ts f
ending_reads strictness _ _ (ByOption snapshot may) ts f =
    bracket_reads strictness snapshot ts (snapshot_parts snapshot close) f (λ inner g. snapshot_reads strictness snapshot may close (closes_alone strictness) inner g)
ending_reads _ _ _ (BeforeTwoPhase snapshot flag is) ts f =
    bracket_reads Lenient snapshot ts (snapshot_parts snapshot (Sign COMMA ∷ two_phase_parts flag close)) f
    (λ inner g. snapshot_reads Lenient snapshot refl (Sign COMMA ∷ two_phase_parts flag close) (closes_late flag is) inner g)
ending_reads _ _ _ (BehindTwoPhase snapshot flag is) ts f =
    bracket_reads Lenient snapshot ts (two_phase_parts flag (Sign COMMA ∷ snapshot_parts snapshot close)) f
    (λ inner g. phase_reads snapshot flag is COMMA (snapshot_parts snapshot close) (snapshot_after snapshot) inner g)
ending_reads _ _ _ (TwoPhaseAlone flag is) ts f = bracket_reads Lenient Export ts (two_phase_parts flag close) f (λ inner g. phase_reads Export flag is CLOSE [] nothing_after inner g)
