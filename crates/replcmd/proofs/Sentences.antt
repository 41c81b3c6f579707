-- The command that is read of a text is the one that it spells.
use Rattle.std.proofs.Common.{◌≡◌, ◌≢◌, ℕ, List, [], ◌∷◌, Result, Ok, Err, refl, sym, ap, subst, ◌∙◌}
use Rattle.std.specs.Prelude.{IfOk, codes, true}
use Rattle.replcmd.specs.declared.fault.CmdFault.{CmdFault}
use Rattle.replcmd.specs.declared.text.token.Token.{Token}
use Rattle.replcmd.specs.declared.text.token.Token.TheVariants.{Word, Quoted, Value, Mark, Unclosed}
use Rattle.replcmd.specs.declared.text.token.TheConstants.{OPEN}
use Rattle.replcmd.specs.declared.text.verb.Verb.{Verb}
use Rattle.replcmd.specs.declared.text.verb.Verb.TheVariants as verb
use Rattle.replcmd.specs.declared.clauses.setting.Setting.{Setting}
use Rattle.replcmd.specs.declared.clauses.setting.StreamOptions.{StreamOptions}
use Rattle.replcmd.specs.declared.clauses.snapshot_clause.SnapshotClause.{SnapshotClause}
use Rattle.replcmd.specs.declared.clauses.strictness.Strictness.{Strictness}
use Rattle.replcmd.specs.declared.command.Command.{Command}
use Rattle.replcmd.specs.declared.command.Command.TheVariants.{Identify, Create, Start, Drop}
use Rattle.replcmd.specs.Lexing.{Lexes}
use Rattle.replcmd.specs.Words.{is_slot_name}
use Rattle.replcmd.specs.Grammar.{Part, Keyword, Named, At, Quote, Truth, Chosen, Sign, IsPart, IsEnd, Follows, setting_parts, create_parts, IsEnding, start_parts, Says, SpellsCommand}
use Rattle.replcmd.specs.Commands.{Tells, body_at, command_at, create_at, drop_at, ending_at, identify_at, options_at, plugin_at, start_at}
use Rattle.replcmd.specs.Reading.{◌>>=◌, slot_at, verb_at, keyword_at, end_at, position_at, Answers}
use Rattle.replcmd.specs.Settings.{AreSettings, told_options}
use Rattle.replcmd.proofs.Lexemes.{AllClosed, lexes_spells, spells_lexes, lexes_once}
use Rattle.replcmd.proofs.Lists.{found, bind_ok}
use Rattle.replcmd.proofs.Options.{options_follow, options_read}
use Rattle.replcmd.proofs.Settings.{settings_gathered, gathered_settings, some_settings}
use Rattle.replcmd.proofs.Phrases.{verb_follows, verb_reads, plugin_follows, plugin_reads}
use Rattle.replcmd.proofs.Endings.{ending_follows, ending_reads}
use Rattle.replcmd.proofs.Readers.{name_follows, name_reads, slot_follows, slot_reads, keyword_follows, keyword_reads, position_follows, position_reads, end_is, is_end}

-- ---- commands

identify_follows : (ts : List Token) (c : Command) → identify_at ts ≡ Ok c → (c ≡ Identify) × IsEnd ts
identify_follows ts c e =
    let a = bind_ok (end_at verb.Identify ts) (λ end. Ok Identify) c e in
    let same : Identify ≡ c = let ok = a.2 in cc in
    (sym same, end_is verb.Identify ts a.1)

create_follows : (strictness : Strictness) (ts : List Token) (c : Command) → create_at strictness ts ≡ Ok c
    → (slot : List ℕ) × (snapshot : SnapshotClause) × (c ≡ Create slot snapshot) × (is_slot_name slot ≡ true) × (ending : List Part) × IsEnding strictness snapshot ending
    × Follows ts (Named slot ∷ Keyword (codes "LOGICAL") ∷ Named (codes "pgoutput") ∷ ending)
unfolding create_at
create_follows strictness ts c e =
    let slot = bind_ok (slot_at ts) (λ slot. keyword_at verb.Create (codes "LOGICAL") slot.1 >>= λ logical. plugin_at logical >>= λ plugin. ending_at strictness plugin >>= λ ending. end_at verb.Create ending.1
    >>= λ end. Ok (Create slot.0 ending.0)) c e in
    let logical = bind_ok (keyword_at verb.Create (codes "LOGICAL") slot.0.1) (λ logical. plugin_at logical >>= λ plugin. ending_at strictness plugin >>= λ ending. end_at verb.Create ending.1
    >>= λ end. Ok (Create slot.0.0 ending.0)) c slot.2 in
    let plugin = bind_ok (plugin_at logical.0) (λ plugin. ending_at strictness plugin >>= λ ending. end_at verb.Create ending.1 >>= λ end. Ok (Create slot.0.0 ending.0)) c logical.2 in
    let ending = bind_ok (ending_at strictness plugin.0) (λ ending. end_at verb.Create ending.1 >>= λ end. Ok (Create slot.0.0 ending.0)) c plugin.2 in
    let end = bind_ok (end_at verb.Create ending.0.1) (λ end. Ok (Create slot.0.0 ending.0.0)) c ending.2 in
    let same : Create slot.0.0 ending.0.0 ≡ c = let ok = end.2 in cc in
    let named = slot_follows ts slot.0.0 slot.0.1 slot.1 in
    let last = ending_follows strictness plugin.0 ending.0.0 ending.0.1 ending.1 (end_is verb.Create ending.0.1 end.1) in
    let behind = plugin_follows logical.0 plugin.0 last.0 plugin.1 last.2 in
    let word = keyword_follows verb.Create (codes "LOGICAL") slot.0.1 logical.0 (Named (codes "pgoutput") ∷ last.0) logical.1 behind in (
      slot.0.0,
      ending.0.0,
      sym same,
      named.0,
      last.0,
      last.1,
      name_follows ts slot.0.0 slot.0.1 (Keyword (codes "LOGICAL") ∷ Named (codes "pgoutput") ∷ last.0) named.1 word,
    )

create_reads : (strictness : Strictness) (ts : List Token) (slot : List ℕ) (snapshot : SnapshotClause) (ending : List Part) → is_slot_name slot ≡ true → IsEnding strictness snapshot ending
    → Follows ts (Named slot ∷ Keyword (codes "LOGICAL") ∷ Named (codes "pgoutput") ∷ ending) → create_at strictness ts ≡ Ok (Create slot snapshot)
unfolding create_at
create_reads strictness ts slot snapshot ending is is_ending f =
    let name = name_reads ts slot (Keyword (codes "LOGICAL") ∷ Named (codes "pgoutput") ∷ ending) f in
    let logical = keyword_reads verb.Create (codes "LOGICAL") name.0 (Named (codes "pgoutput") ∷ ending) name.2 in
    let plugin = plugin_reads logical.0 ending logical.2 in
    let last = ending_reads strictness snapshot ending is_ending plugin.0 plugin.2 in
    rw (slot_reads ts slot name.0 is name.1, logical.1, plugin.1, last.1, is_end verb.Create last.0 last.2) refl

drop_follows : (ts : List Token) (c : Command) → drop_at ts ≡ Ok c → (slot : List ℕ) × (c ≡ Drop slot) × (is_slot_name slot ≡ true) × Follows ts (Named slot ∷ [])
unfolding drop_at
drop_follows ts c e =
    let slot = bind_ok (slot_at ts) (λ slot. end_at verb.Drop slot.1 >>= λ end. Ok (Drop slot.0)) c e in
    let end = bind_ok (end_at verb.Drop slot.0.1) (λ end. Ok (Drop slot.0.0)) c slot.2 in
    let same : Drop slot.0.0 ≡ c = let ok = end.2 in cc in
    let named = slot_follows ts slot.0.0 slot.0.1 slot.1 in
    (slot.0.0, sym same, named.0, name_follows ts slot.0.0 slot.0.1 [] named.1 (end_is verb.Drop slot.0.1 end.1))

drop_reads : (ts : List Token) (slot : List ℕ) → is_slot_name slot ≡ true → Follows ts (Named slot ∷ []) → drop_at ts ≡ Ok (Drop slot)
unfolding drop_at
drop_reads ts slot is f =
    let name = name_reads ts slot [] f in
    rw (slot_reads ts slot name.0 is name.1, is_end verb.Drop name.0 name.2) refl

abbrev start_rest : Strictness → List ℕ → ℕ → List Setting → List Part
start_rest strictness slot position settings = Keyword (codes "SLOT") ∷ Named slot ∷ Keyword (codes "LOGICAL") ∷ At position ∷ Sign OPEN ∷ setting_parts strictness settings

start_follows : (strictness : Strictness) (ts : List Token) (c : Command) → start_at strictness ts ≡ Ok c
    → (slot : List ℕ) × (position : ℕ) × (options : StreamOptions) × (c ≡ Start slot position options) × (is_slot_name slot ≡ true) × (settings : List Setting) × AreSettings settings options
    × Follows ts (start_rest strictness slot position settings)
unfolding start_at
start_follows strictness ts c e =
    let word = bind_ok (keyword_at verb.Start (codes "SLOT") ts) (λ word. slot_at word >>= λ slot. keyword_at verb.Start (codes "LOGICAL") slot.1 >>= λ logical. position_at logical >>= λ position. options_at strictness position.1
    >>= λ settings. end_at verb.Start settings.1 >>= λ end. told_options settings.0 >>= λ options. Ok (Start slot.0 position.0 options)) c e in
    let slot = bind_ok (slot_at word.0) (λ slot. keyword_at verb.Start (codes "LOGICAL") slot.1 >>= λ logical. position_at logical >>= λ position. options_at strictness position.1
    >>= λ settings. end_at verb.Start settings.1 >>= λ end. told_options settings.0 >>= λ options. Ok (Start slot.0 position.0 options)) c word.2 in
    let logical = bind_ok (keyword_at verb.Start (codes "LOGICAL") slot.0.1) (λ logical. position_at logical >>= λ position. options_at strictness position.1
    >>= λ settings. end_at verb.Start settings.1 >>= λ end. told_options settings.0 >>= λ options. Ok (Start slot.0.0 position.0 options)) c slot.2 in
    let position = bind_ok (position_at logical.0) (λ position. options_at strictness position.1
    >>= λ settings. end_at verb.Start settings.1 >>= λ end. told_options settings.0 >>= λ options. Ok (Start slot.0.0 position.0 options)) c logical.2 in
    let settings = bind_ok (options_at strictness position.0.1) (λ settings. end_at verb.Start settings.1 >>= λ end. told_options settings.0 >>= λ options. Ok (Start slot.0.0 position.0.0 options)) c position.2 in
    let end = bind_ok (end_at verb.Start settings.0.1) (λ end. told_options settings.0.0 >>= λ options. Ok (Start slot.0.0 position.0.0 options)) c settings.2 in
    let options = bind_ok (told_options settings.0.0) (λ options. Ok (Start slot.0.0 position.0.0 options)) c end.2 in
    let same : Start slot.0.0 position.0.0 options.0 ≡ c = let ok = options.2 in cc in
    let are = settings_gathered settings.0.0 options.0 options.1 in
    let named = slot_follows word.0 slot.0.0 slot.0.1 slot.1 in
    let parts = options_follow strictness position.0.1 settings.0.0 settings.0.1 settings.1 (some_settings settings.0.0 options.0 are) (end_is verb.Start settings.0.1 end.1) in
    let at_position = position_follows logical.0 position.0.0 position.0.1 (Sign OPEN ∷ setting_parts strictness settings.0.0) position.1 parts in
    let at_logical = keyword_follows verb.Start (codes "LOGICAL") slot.0.1 logical.0 (At position.0.0 ∷ Sign OPEN ∷ setting_parts strictness settings.0.0) logical.1 at_position in
    let at_slot = name_follows word.0 slot.0.0 slot.0.1 (Keyword (codes "LOGICAL") ∷ At position.0.0 ∷ Sign OPEN ∷ setting_parts strictness settings.0.0) named.1 at_logical in (
      slot.0.0,
      position.0.0,
      options.0,
      sym same,
      named.0,
      settings.0.0,
      are,
      keyword_follows verb.Start (codes "SLOT") ts word.0 (Named slot.0.0 ∷ Keyword (codes "LOGICAL") ∷ At position.0.0 ∷ Sign OPEN ∷ setting_parts strictness settings.0.0) word.1 at_slot,
    )

start_reads : (strictness : Strictness) (ts : List Token) (slot : List ℕ) (position : ℕ) (options : StreamOptions) (settings : List Setting) → is_slot_name slot ≡ true → AreSettings settings options
    → Follows ts (start_rest strictness slot position settings) → start_at strictness ts ≡ Ok (Start slot position options)
unfolding start_at
start_reads strictness ts slot position options [] is are f = absurd (some_settings [] options are refl)
start_reads strictness ts slot position options (s ∷ settings) is are f =
    let word = keyword_reads verb.Start (codes "SLOT") ts (Named slot ∷ Keyword (codes "LOGICAL") ∷ At position ∷ Sign OPEN ∷ setting_parts strictness (s ∷ settings)) f in
    let name = name_reads word.0 slot (Keyword (codes "LOGICAL") ∷ At position ∷ Sign OPEN ∷ setting_parts strictness (s ∷ settings)) word.2 in
    let logical = keyword_reads verb.Start (codes "LOGICAL") name.0 (At position ∷ Sign OPEN ∷ setting_parts strictness (s ∷ settings)) name.2 in
    let at_position = position_reads logical.0 position (Sign OPEN ∷ setting_parts strictness (s ∷ settings)) logical.2 in
    let listed = options_read strictness at_position.0 s settings at_position.2 in
    rw (
      word.1,
      slot_reads word.0 slot name.0 is name.1,
      logical.1,
      at_position.1,
      listed.1,
      is_end verb.Start listed.0 listed.2,
      gathered_settings (s ∷ settings) options are,
    ) refl

command_says : (strictness : Strictness) (ts : List Token) (c : Command) → command_at strictness ts ≡ Ok c → Says strictness ts c
unfolding command_at
command_says strictness ts c e =
    let v = bind_ok (verb_at ts) (λ v. body_at strictness v.0 v.1) c e in
    by_verb v.0.0 v.0.1 v.1 v.2
  where
    by_verb : (v : Verb) (rest : List Token) → verb_at ts ≡ found v rest → body_at strictness v rest ≡ Ok c → Says strictness ts c
    by_verb verb.Identify rest first e =
        let a = identify_follows rest c e in
        subst (Says strictness ts) (sym a.0) (verb_follows ts verb.Identify rest [] first a.1)
    by_verb verb.Create rest first e =
        let a = create_follows strictness rest c e in
        subst (Says strictness ts) (sym a.2) (a.3, a.4, a.5, verb_follows ts verb.Create rest (Named a.0 ∷ Keyword (codes "LOGICAL") ∷ Named (codes "pgoutput") ∷ a.4) first a.6)
    by_verb verb.Drop rest first e =
        let a = drop_follows rest c e in
        subst (Says strictness ts) (sym a.1) (a.2, verb_follows ts verb.Drop rest (Named a.0 ∷ []) first a.3)
    by_verb verb.Start rest first e =
        let a = start_follows strictness rest c e in
        subst (Says strictness ts) (sym a.3) (a.4, a.5, a.6, verb_follows ts verb.Start rest (start_rest strictness a.0 a.1 a.5) first a.7)

says_command : (strictness : Strictness) (ts : List Token) (c : Command) → Says strictness ts c → command_at strictness ts ≡ Ok c
unfolding command_at
says_command strictness ts Identify s =
    let v = verb_reads ts verb.Identify [] s in
    rw (v.1, is_end verb.Identify v.0 v.2) refl
says_command strictness ts (Create slot snapshot) s =
    let v = verb_reads ts verb.Create (Named slot ∷ Keyword (codes "LOGICAL") ∷ Named (codes "pgoutput") ∷ s.1) s.3 in
    rw v.1 (create_reads strictness v.0 slot snapshot s.1 s.0 s.2 v.2)
says_command strictness ts (Drop slot) s =
    let v = verb_reads ts verb.Drop (Named slot ∷ []) s.1 in
    rw v.1 (drop_reads v.0 slot s.0 v.2)
says_command strictness ts (Start slot position options) s =
    let v = verb_reads ts verb.Start (start_rest strictness slot position s.1) s.3 in
    rw v.1 (start_reads strictness v.0 slot position options s.1 s.0 s.2 v.2)

-- ---- texts

-- parts that follow have no open quote
all_closed : (ts : List Token) (parts : List Part) → Follows ts parts → AllClosed ts
all_closed [] [] f = tt
all_closed (token ∷ other ∷ ts) [] f = absurd f
all_closed (Word w ∷ []) [] f = absurd f
all_closed (Quoted n ∷ []) [] f = absurd f
all_closed (Value v ∷ []) [] f = absurd f
all_closed (Mark b ∷ []) [] f = (λ is. absurd cc, tt)
all_closed (Unclosed ∷ []) [] f = absurd f
all_closed [] (part ∷ parts) f = absurd f
all_closed (token ∷ ts) (part ∷ parts) f = (closed_part part token f.0, all_closed ts parts f.1)
  where
    closed_part : (part : Part) (token : Token) → IsPart part token → token ≢ Unclosed
    closed_part part (Word w) is = λ same. absurd cc
    closed_part part (Quoted n) is = λ same. absurd cc
    closed_part part (Value v) is = λ same. absurd cc
    closed_part part (Mark b) is = λ same. absurd cc
    closed_part (Keyword k) Unclosed is = absurd is
    closed_part (Named n) Unclosed is = absurd is
    closed_part (At n) Unclosed is = absurd is
    closed_part (Quote v) Unclosed is = absurd is
    closed_part (Truth on) Unclosed is = absurd is
    closed_part (Chosen strictness s) Unclosed is = absurd is
    closed_part (Sign b) Unclosed is = absurd is

said_closed : (strictness : Strictness) (ts : List Token) (c : Command) → Says strictness ts c → AllClosed ts
said_closed strictness ts Identify s = all_closed ts (Keyword (codes "IDENTIFY_SYSTEM") ∷ []) s
said_closed strictness ts (Create slot snapshot) s = all_closed ts (create_parts slot s.1) s.3
said_closed strictness ts (Drop slot) s = all_closed ts (Keyword (codes "DROP_REPLICATION_SLOT") ∷ Named slot ∷ []) s.1
said_closed strictness ts (Start slot position options) s = all_closed ts (start_parts strictness slot position s.1) s.3

pub is_found : (strictness : Strictness) (text : List ℕ) (result : Result Command CmdFault) → Tells strictness text result → IfOk result (λ c. SpellsCommand strictness text c)
is_found strictness text (Ok c) tells =
    let says = command_says strictness tells.0 c tells.2 in
    (tells.0, lexes_spells text tells.0 (said_closed strictness tells.0 c says) tells.1, says)
is_found strictness text (Err e) tells = tt

-- what is spelled is read, whichever tokens were read of the text
spelled_read : (strictness : Strictness) (text : List ℕ) (c : Command) → SpellsCommand strictness text c → (tokens : List Token) → Lexes text tokens → command_at strictness tokens ≡ Ok c
spelled_read strictness text c spells tokens lexes =
    let same : tokens ≡ spells.0 = lexes_once text tokens spells.0 lexes (spells_lexes text spells.0 spells.1) in
    ap (command_at strictness) same ∙ says_command strictness spells.0 c spells.2

pub one_command : (strictness : Strictness) (text : List ℕ) (c d : Command) → SpellsCommand strictness text c → SpellsCommand strictness text d → c ≡ d
one_command strictness text c d first second =
    let lexes = spells_lexes text first.0 first.1 in
    let one : command_at strictness first.0 ≡ Ok c = spelled_read strictness text c first first.0 lexes in
    let other : command_at strictness first.0 ≡ Ok d = spelled_read strictness text d second first.0 lexes in
    cc

pub is_only : (strictness : Strictness) (text : List ℕ) (result : Result Command CmdFault) → Tells strictness text result → (c : Command) → SpellsCommand strictness text c → Answers result (Ok c)
is_only strictness text result tells c spells = subst (λ (r : Result Command CmdFault). Answers result r) (spelled_read strictness text c spells tells.0 tells.1) tells.2
