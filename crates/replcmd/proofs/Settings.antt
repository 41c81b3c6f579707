-- That an option is read as it is spelled, and that what is gathered of the options is what they come to.
use Rattle.std.proofs.Common.{◌≡◌, ◌≢◌, ℕ, ◌+◌, Bool, true, false, cond, List, [], ◌∷◌, ◌++◌, Option, Some, None, Ok, Err, refl, sym, ap, subst, ◌∙◌, arith}
use Rattle.std.specs.Prelude.{codes, count_by, nat_lt, ◌≤◌, ◌||◌}
use Rattle.std.proofs.lemmas.Bool.{ltb-false, le-ltb}
use Rattle.std.specs.Option.{ok_or, option_to_list}
use Rattle.std.specs.List.{filter_map}
use Rattle.std.specs.Str.{bytes_eq}
use Rattle.std.proofs.lemmas.List.Sums.{sum_by-cons}
use Rattle.replcmd.specs.declared.fault.CmdFault.TheVariants.{BadOption}
use Rattle.replcmd.specs.declared.fault.OptionFault.TheVariants as wrong
use Rattle.replcmd.specs.declared.text.token.Token.{Token}
use Rattle.replcmd.specs.declared.text.token.Token.TheVariants.{Value}
use Rattle.replcmd.specs.declared.clauses.setting.Setting.{Setting}
use Rattle.replcmd.specs.declared.clauses.setting.Setting.TheVariants.{Version, Publications, Messages, Declined}
use Rattle.replcmd.specs.declared.fault.Unserved.{Unserved}
use Rattle.replcmd.specs.declared.fault.Unserved.TheVariants.{Binary, Streaming, TwoPhase}
use Rattle.replcmd.specs.declared.clauses.setting.StreamOptions.{StreamOptions}
use Rattle.replcmd.specs.declared.clauses.strictness.Strictness.{Strictness}
use Rattle.replcmd.specs.Reading.{◌>>=◌, name_at, value_at, names_of, truth_of}
use Rattle.replcmd.specs.Settings.{AreSettings, ComesTo, IsValue, declined_at, declines, declines_twice, discontent, is_content, is_served_version, is_version, messages_at, messages_of, option_name, options_of_settings, other_version, publications_at, publications_of, setting_at, stream_options, told_options, unserved_at, unserved_name, unserved_of, version_at}
use Rattle.replcmd.proofs.Lists.{found, same_found, bind_ok}
use Rattle.replcmd.proofs.PublicationNames.{names_take, names_again}
use Rattle.replcmd.proofs.Truths.{truth_take, truth_again}
use Rattle.replcmd.proofs.Readers.{bytes_same, value_follows}

-- ---- one option

-- its name, its value, and what is left
pub record Told (strictness : Strictness) (ts : List Token) (s : Setting) (rest : List Token) : Type 0 where
  pub value : List ℕ
  pub name : name_at ts ≡ found (option_name s) (Value value ∷ rest)
  pub says : IsValue strictness s value

version_told : (strictness : Strictness) (ts : List Token) (s : Setting) (rest : List Token) → version_at strictness ts ≡ found s rest
    → (v : List ℕ) × (ts ≡ Value v ∷ rest) × (s ≡ Version) × (is_served_version strictness v ≡ true)
version_told strictness ts s rest e =
    let a = bind_ok (value_at ts) (λ value. cond (is_served_version strictness value.0) (Ok (Version, value.1)) (Err (BadOption (other_version strictness value.0)))) (s, rest) e in
    by_test a.0.0 a.0.1 (value_follows ts a.0.0 a.0.1 a.1) (is_served_version strictness a.0.0) refl a.2
  where
    by_test : (v : List ℕ) (mid : List Token) → ts ≡ Value v ∷ mid → (t : Bool) → is_served_version strictness v ≡ t
        → cond t (found Version mid) (Err (BadOption (other_version strictness v))) ≡ found s rest
        → (v : List ℕ) × (ts ≡ Value v ∷ rest) × (s ≡ Version) × (is_served_version strictness v ≡ true)
    by_test v mid front true is e =
        let same = same_found Version mid s rest e in
        (v, front ∙ ap (λ (l : List Token). Value v ∷ l) same.1, sym same.0, is)
    by_test v mid front false is e = absurd cc

publications_told : (ts : List Token) (s : Setting) (rest : List Token) → publications_at ts ≡ found s rest
    → (v : List ℕ) × (names : List (List ℕ)) × (ts ≡ Value v ∷ rest) × (s ≡ Publications names) × (names_of v ≡ Ok names)
publications_told ts s rest e =
    let a = bind_ok (value_at ts) (λ value. names_of value.0 >>= λ names. Ok (Publications names, value.1)) (s, rest) e in
    let b = bind_ok (names_of a.0.0) (λ names. Ok (Publications names, a.0.1)) (s, rest) a.2 in
    let same = same_found (Publications b.0) a.0.1 s rest b.2 in
    (a.0.0, b.0, value_follows ts a.0.0 a.0.1 a.1 ∙ ap (λ (l : List Token). Value a.0.0 ∷ l) same.1, sym same.0, b.1)

messages_told : (ts : List Token) (s : Setting) (rest : List Token) → messages_at ts ≡ found s rest → (v : List ℕ) × (on : Bool) × (ts ≡ Value v ∷ rest) × (s ≡ Messages on) × (truth_of v ≡ Some on)
messages_told ts s rest e =
    let a = bind_ok (value_at ts) (λ value. ok_or (truth_of value.0) (BadOption wrong.Messages) >>= λ on. Ok (Messages on, value.1)) (s, rest) e in
    by_truth a.0.0 a.0.1 (value_follows ts a.0.0 a.0.1 a.1) (truth_of a.0.0) refl a.2
  where
    by_truth : (v : List ℕ) (mid : List Token) → ts ≡ Value v ∷ mid → (o : Option Bool) → truth_of v ≡ o → (ok_or o (BadOption wrong.Messages) >>= λ on. found (Messages on) mid) ≡ found s rest
        → (v : List ℕ) × (on : Bool) × (ts ≡ Value v ∷ rest) × (s ≡ Messages on) × (truth_of v ≡ Some on)
    by_truth v mid front None is e = absurd cc
    by_truth v mid front (Some on) is e =
        let same = same_found (Messages on) mid s rest e in
        (v, on, front ∙ ap (λ (l : List Token). Value v ∷ l) same.1, sym same.0, is)

declined_told : (strictness : Strictness) (option : Unserved) (ts : List Token) (s : Setting) (rest : List Token) → declined_at strictness option ts ≡ found s rest
    → (v : List ℕ) × (ts ≡ Value v ∷ rest) × (s ≡ Declined option) × (is_content strictness v ≡ true)
declined_told strictness option ts s rest e =
    let a = bind_ok (value_at ts) (λ value. cond (is_content strictness value.0) (Ok (Declined option, value.1)) (Err (BadOption (discontent strictness option)))) (s, rest) e in
    by_test a.0.0 a.0.1 (value_follows ts a.0.0 a.0.1 a.1) (is_content strictness a.0.0) refl a.2
  where
    by_test : (v : List ℕ) (mid : List Token) → ts ≡ Value v ∷ mid → (t : Bool) → is_content strictness v ≡ t
        → cond t (found (Declined option) mid) (Err (BadOption (discontent strictness option))) ≡ found s rest
        → (v : List ℕ) × (ts ≡ Value v ∷ rest) × (s ≡ Declined option) × (is_content strictness v ≡ true)
    by_test v mid front true is e =
        let same = same_found (Declined option) mid s rest e in
        (v, front ∙ ap (λ (l : List Token). Value v ∷ l) same.1, sym same.0, is)
    by_test v mid front false is e = absurd cc

unserved_told : (strictness : Strictness) (n : List ℕ) (ts : List Token) (s : Setting) (rest : List Token) → unserved_at strictness (unserved_of n) ts ≡ found s rest
    → (option : Unserved) × (v : List ℕ) × (n ≡ unserved_name option) × (ts ≡ Value v ∷ rest) × (s ≡ Declined option) × (is_content strictness v ≡ true)
unserved_told strictness n ts s rest e = by_name (bytes_eq n (codes "binary")) refl (bytes_eq n (codes "streaming")) refl (bytes_eq n (codes "two_phase")) refl e
  where
    so : (option : Unserved) → n ≡ unserved_name option → declined_at strictness option ts ≡ found s rest
        → (option : Unserved) × (v : List ℕ) × (n ≡ unserved_name option) × (ts ≡ Value v ∷ rest) × (s ≡ Declined option) × (is_content strictness v ≡ true)
    so option is e = let told = declined_told strictness option ts s rest e in (option, told.0, is, told.1, told.2, told.3)

    by_name : (t : Bool) → bytes_eq n (codes "binary") ≡ t → (u : Bool) → bytes_eq n (codes "streaming") ≡ u → (w : Bool) → bytes_eq n (codes "two_phase") ≡ w
        → unserved_at strictness (cond t (Some Binary) (cond u (Some Streaming) (cond w (Some TwoPhase) None))) ts ≡ found s rest
        → (option : Unserved) × (v : List ℕ) × (n ≡ unserved_name option) × (ts ≡ Value v ∷ rest) × (s ≡ Declined option) × (is_content strictness v ≡ true)
    by_name true is u other w last e = so Binary (bytes_same n (codes "binary") is) e
    by_name false is true other w last e = so Streaming (bytes_same n (codes "streaming") other) e
    by_name false is false other true last e = so TwoPhase (bytes_same n (codes "two_phase") last) e
    by_name false is false other false last e = absurd cc

pub setting_told : (strictness : Strictness) (ts : List Token) (s : Setting) (rest : List Token) → setting_at strictness ts ≡ found s rest → Told strictness ts s rest
unfolding setting_at
setting_told strictness ts s rest e =
    let a = bind_ok (name_at ts) (λ name. cond (bytes_eq name.0 (codes "proto_version")) (version_at strictness name.1) (cond (bytes_eq name.0 (codes "publication_names")) (publications_at name.1)
    (cond (bytes_eq name.0 (codes "messages")) (messages_at name.1) (unserved_at strictness (unserved_of name.0) name.1)))) (s, rest) e in
    by_name a.0.0 a.0.1 a.1 (bytes_eq a.0.0 (codes "proto_version")) refl (bytes_eq a.0.0 (codes "publication_names")) refl (bytes_eq a.0.0 (codes "messages")) refl a.2
  where
    -- an option of this name, whose value stands after it and says so
    so : (n : List ℕ) (mid : List Token) → name_at ts ≡ found n mid → (t : Setting) → n ≡ option_name t → s ≡ t → (v : List ℕ) → mid ≡ Value v ∷ rest → IsValue strictness t v → Told strictness ts s rest
    so n mid read t is same v front says =
        let name : option_name s ≡ n = ap option_name same ∙ sym is in
        record {
          value = v;
          name = read ∙ ap (λ (m : List ℕ). found m mid) (sym name) ∙ ap (found (option_name s)) front;
          says = subst (λ (x : Setting). IsValue strictness x v) (sym same) says;
        }

    by_name : (n : List ℕ) (mid : List Token) → name_at ts ≡ found n mid → (t : Bool) → bytes_eq n (codes "proto_version") ≡ t → (u : Bool) → bytes_eq n (codes "publication_names") ≡ u
        → (w : Bool) → bytes_eq n (codes "messages") ≡ w
        → cond t (version_at strictness mid) (cond u (publications_at mid) (cond w (messages_at mid) (unserved_at strictness (unserved_of n) mid))) ≡ found s rest → Told strictness ts s rest
    by_name n mid read true is u other w last e = let v = version_told strictness mid s rest e in so n mid read Version (bytes_same n (codes "proto_version") is) v.2 v.0 v.1 v.3
    by_name n mid read false is true other w last e =
        let v = publications_told mid s rest e in
        so n mid read (Publications v.1) (bytes_same n (codes "publication_names") other) v.3 v.0 v.2 (names_take v.0 v.1 v.4)
    by_name n mid read false is false other true last e =
        let v = messages_told mid s rest e in
        so n mid read (Messages v.1) (bytes_same n (codes "messages") last) v.3 v.0 v.2 (truth_take v.0 v.1 v.4)
    by_name n mid read false is false other false last e =
        let v = unserved_told strictness n mid s rest e in
        so n mid read (Declined v.0) v.2 v.4 v.1 v.3 v.5

pub setting_reads : (strictness : Strictness) (ts : List Token) (s : Setting) (v : List ℕ) (rest : List Token) → name_at ts ≡ found (option_name s) (Value v ∷ rest) → IsValue strictness s v
    → setting_at strictness ts ≡ found s rest
unfolding setting_at
setting_reads strictness ts Version v rest name says = rw (name, says) refl
setting_reads strictness ts (Publications names) v rest name says = rw (name, names_again v names says) refl
setting_reads strictness ts (Messages on) v rest name says = rw (name, truth_again v on says) refl
setting_reads strictness ts (Declined Binary) v rest name says = rw (name, says) refl
setting_reads strictness ts (Declined Streaming) v rest name says = rw (name, says) refl
setting_reads strictness ts (Declined TwoPhase) v rest name says = rw (name, says) refl

-- ---- all of them

abbrev told : Bool → ℕ
told b = cond b 1 0

counted : (s : Setting) (settings : List Setting) → count_by is_version (s ∷ settings) ≡ told (is_version s) + count_by is_version settings
counted s settings = sum_by-cons (λ s. cond (is_version s) 1 0) s settings

-- what these come to, after what was told before them
record Come (told_version : Bool) (told_names : Option (List (List ℕ))) (told_messages : Option Bool) (settings : List Setting) (options : StreamOptions) : Type 0 where
  version : count_by is_version settings + told told_version ≡ 1
  names : option_to_list told_names ++ filter_map publications_of settings ≡ options.publications ∷ []
  messages : ComesTo (option_to_list told_messages ++ filter_map messages_of settings) options.messages

asked_come : (version : Bool) (names : Option (List (List ℕ))) (messages : Option Bool) (options : StreamOptions) → stream_options version names messages ≡ Ok options → Come version names messages [] options
asked_come false names messages options e = absurd cc
asked_come true None messages options e = absurd cc
asked_come true (Some chosen) None options e =
    let same : record { publications = chosen; messages = false } ≡ options = cc in
    subst (Come true (Some chosen) None []) same (record { version = refl; names = refl; messages = refl })
asked_come true (Some chosen) (Some on) options e =
    let same : record { publications = chosen; messages = on } ≡ options = cc in
    subst (Come true (Some chosen) (Some on) []) same (record { version = refl; names = refl; messages = refl })

come_asked : (version : Bool) (names : Option (List (List ℕ))) (messages : Option Bool) (options : StreamOptions) → Come version names messages [] options → stream_options version names messages ≡ Ok options
come_asked false names messages options come = absurd (let none = come.version in omega arith)
come_asked true None messages options come = absurd (let none = come.names in cc)
come_asked true (Some chosen) None options come =
    let names : chosen ≡ options.publications = let is = come.names in cc in
    ap (λ (c : List (List ℕ)). stream_options true (Some c) None) names ∙ ap (λ (on : Bool). Ok (record { publications = options.publications; messages = on })) (sym come.messages)
come_asked true (Some chosen) (Some on) options come =
    let names : chosen ≡ options.publications = let is = come.names in cc in
    ap (λ (c : List (List ℕ)). stream_options true (Some c) (Some on)) names ∙ ap (λ (on : Bool). Ok (record { publications = options.publications; messages = on })) (sym come.messages)

come_to : (version : Bool) (names : Option (List (List ℕ))) (messages : Option Bool) (settings : List Setting) (options : StreamOptions) → options_of_settings version names messages settings ≡ Ok options
    → Come version names messages settings options
come_to version names messages [] options e = asked_come version names messages options e
come_to true names messages (Version ∷ settings) options e = absurd cc
come_to false names messages (Version ∷ settings) options e =
    let come = come_to true names messages settings options e in
    record { version = let count = come.version in omega (arith, counted Version settings); names = come.names; messages = come.messages }
come_to version (Some n) messages (Publications chosen ∷ settings) options e = absurd cc
come_to version None messages (Publications chosen ∷ settings) options e =
    let come = come_to version (Some chosen) messages settings options e in
    record { version = let count = come.version in omega (arith, counted (Publications chosen) settings); names = come.names; messages = come.messages }
come_to version names (Some m) (Messages on ∷ settings) options e = absurd cc
come_to version names None (Messages on ∷ settings) options e =
    let come = come_to version names (Some on) settings options e in
    record { version = let count = come.version in omega (arith, counted (Messages on) settings); names = come.names; messages = come.messages }
come_to version names messages (Declined option ∷ settings) options e =
    let come = come_to version names messages settings options e in
    record { version = let count = come.version in omega (arith, counted (Declined option) settings); names = come.names; messages = come.messages }

to_come : (version : Bool) (names : Option (List (List ℕ))) (messages : Option Bool) (settings : List Setting) (options : StreamOptions) → Come version names messages settings options
    → options_of_settings version names messages settings ≡ Ok options
to_come version names messages [] options come = come_asked version names messages options come
to_come true names messages (Version ∷ settings) options come = absurd (let count = come.version in omega (arith, counted Version settings))
to_come false names messages (Version ∷ settings) options come =
    to_come true names messages settings options (record { version = let count = come.version in omega (arith, counted Version settings); names = come.names; messages = come.messages })
to_come version (Some n) messages (Publications chosen ∷ settings) options come = absurd (let one = come.names in cc)
to_come version None messages (Publications chosen ∷ settings) options come =
    to_come version (Some chosen) messages settings options
    (record { version = let count = come.version in omega (arith, counted (Publications chosen) settings); names = come.names; messages = come.messages })
to_come version names (Some m) (Messages on ∷ settings) options come = absurd come.messages
to_come version names None (Messages on ∷ settings) options come =
    to_come version names (Some on) settings options
    (record { version = let count = come.version in omega (arith, counted (Messages on) settings); names = come.names; messages = come.messages })
to_come version names messages (Declined option ∷ settings) options come =
    to_come version names messages settings options
    (record { version = let count = come.version in omega (arith, counted (Declined option) settings); names = come.names; messages = come.messages })

-- ---- what isn't served, once at most

neither : (a b : Bool) → (a || b) ≡ false → (a ≡ false) × (b ≡ false)
neither false b e = (refl, e)
neither true b e = absurd cc

not_either : (a b : Bool) → a ≡ false → b ≡ false → (a || b) ≡ false
not_either false b none other = other
not_either true b none other = absurd cc

abbrev twice : Unserved → List Setting → Bool
twice option settings = nat_lt 1 (count_by (declines option) settings)

declined_once : (settings : List Setting) → declines_twice settings ≡ false → (option : Unserved) → count_by (declines option) settings ≤ 1
declined_once settings e option =
    let first = neither (twice Binary settings) (twice Streaming settings || twice TwoPhase settings) e in
    let second = neither (twice Streaming settings) (twice TwoPhase settings) first.1 in
    by_option option first.0 second.0 second.1
  where
    by_option : (option : Unserved) → twice Binary settings ≡ false → twice Streaming settings ≡ false → twice TwoPhase settings ≡ false → count_by (declines option) settings ≤ 1
    by_option Binary a b c = ltb-false 1 (count_by (declines Binary) settings) a
    by_option Streaming a b c = ltb-false 1 (count_by (declines Streaming) settings) b
    by_option TwoPhase a b c = ltb-false 1 (count_by (declines TwoPhase) settings) c

once_declined : (settings : List Setting) → ((option : Unserved) → count_by (declines option) settings ≤ 1) → declines_twice settings ≡ false
once_declined settings once =
    not_either (twice Binary settings) (twice Streaming settings || twice TwoPhase settings) (le-ltb 1 (count_by (declines Binary) settings) (once Binary))
    (not_either (twice Streaming settings) (twice TwoPhase settings) (le-ltb 1 (count_by (declines Streaming) settings) (once Streaming)) (le-ltb 1 (count_by (declines TwoPhase) settings) (once TwoPhase)))

pub settings_gathered : (settings : List Setting) (options : StreamOptions) → told_options settings ≡ Ok options → AreSettings settings options
settings_gathered settings options e = by_twice (declines_twice settings) refl e
  where
    by_twice : (t : Bool) → declines_twice settings ≡ t → cond t (Err (BadOption wrong.Redundant)) (options_of_settings false None None settings) ≡ Ok options → AreSettings settings options
    by_twice true is e = absurd cc
    by_twice false is e =
        let come = come_to false None None settings options e in
        record { version = let count = come.version in omega arith; names = come.names; messages = come.messages; declined = declined_once settings is }

pub gathered_settings : (settings : List Setting) (options : StreamOptions) → AreSettings settings options → told_options settings ≡ Ok options
gathered_settings settings options are =
    let come : Come false None None settings options = record { version = let count = are.version in omega arith; names = are.names; messages = are.messages } in
    rw (once_declined settings are.declined) (to_come false None None settings options come)

pub some_settings : (settings : List Setting) (options : StreamOptions) → AreSettings settings options → settings ≢ []
some_settings settings options are = λ is. absurd (let none : count_by is_version settings ≡ 0 = ap (count_by is_version) is in let one = are.version in omega arith)
