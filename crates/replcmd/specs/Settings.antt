-- The options of START_REPLICATION (PostgreSQL 15, 55.4 and 55.5): the name of each, the values that say it, how it is read, and what all
-- of them come to. A further option is a line in most of these.
use Rattle.std.specs.Prelude.{◌≡◌, ◌≤◌, ◌||◌, nat_lt, ℕ, List, [], ◌∷◌, Option, Some, None, Result, Ok, Err, Bool, true, false, count_by, if◌then◌else◌, codes}
use Rattle.std.specs.Char.{is_ascii_digit}
use Rattle.std.specs.List.{filter_map, list_all}
use Rattle.std.specs.Option.{ok_or, unwrap_or, is_some}
use Rattle.std.specs.Str.{bytes_eq}
use Rattle.replcmd.specs.declared.fault.CmdFault.{CmdFault}
use Rattle.replcmd.specs.declared.fault.CmdFault.TheVariants.{BadOption}
use Rattle.replcmd.specs.declared.text.token.Token.{Token}
use Rattle.replcmd.specs.declared.clauses.setting.Setting.{Setting}
use Rattle.replcmd.specs.declared.clauses.setting.Setting.TheVariants.{Version, Publications, Messages, Declined}
use Rattle.replcmd.specs.declared.fault.Unserved.{Unserved}
use Rattle.replcmd.specs.declared.fault.Unserved.TheVariants.{Binary, Streaming, TwoPhase}
use Rattle.replcmd.specs.declared.fault.OptionFault.{OptionFault}
use Rattle.replcmd.specs.declared.fault.OptionFault.TheVariants as wrong
use Rattle.replcmd.specs.declared.clauses.strictness.Strictness.{Strictness}
use Rattle.replcmd.specs.declared.clauses.strictness.Strictness.TheVariants.{Strict, Lenient}
use Rattle.replcmd.specs.declared.clauses.setting.StreamOptions.{StreamOptions}
use Rattle.replcmd.specs.Publications.{SpellsNames}
use Rattle.replcmd.specs.Reading.{◌>>=◌, name_at, value_at, names_of, truth_of}
use Rattle.replcmd.specs.Words.{is_truth}

-- what isn't served
abbrev pub unserved_name : Unserved → List ℕ
unserved_name Binary = codes "binary"
unserved_name Streaming = codes "streaming"
unserved_name TwoPhase = codes "two_phase"

-- the name of an option, and the values that say so
abbrev pub option_name : Setting → List ℕ
option_name Version = codes "proto_version"
option_name (Publications names) = codes "publication_names"
option_name (Messages on) = codes "messages"
option_name (Declined option) = unserved_name option

-- the version of the protocol that is served, and those of which its messages are a part
abbrev pub is_served_version : Strictness → List ℕ → Bool
is_served_version Strict value = bytes_eq value (codes "1")
is_served_version Lenient value = bytes_eq value (codes "1") || (bytes_eq value (codes "2") || bytes_eq value (codes "3"))

-- what asks for nothing, or for what needn't be given
abbrev pub is_content : Strictness → List ℕ → Bool
is_content Strict value = is_truth false value
is_content Lenient value = is_truth true value || is_truth false value

abbrev pub IsValue : Strictness → Setting → List ℕ → Type 0
IsValue strictness Version value = is_served_version strictness value ≡ true
IsValue strictness (Publications names) value = SpellsNames value names
IsValue strictness (Messages on) value = is_truth on value ≡ true
IsValue strictness (Declined option) value = is_content strictness value ≡ true

-- ---- what they come to

abbrev pub is_version : Setting → Bool
is_version Version = true
is_version _ = false

abbrev pub publications_of : Setting → Option (List (List ℕ))
publications_of (Publications names) = Some names
publications_of _ = None

abbrev pub messages_of : Setting → Option Bool
messages_of (Messages on) = Some on
messages_of _ = None

abbrev pub declines : Unserved → Setting → Bool
declines Binary (Declined Binary) = true
declines Streaming (Declined Streaming) = true
declines TwoPhase (Declined TwoPhase) = true
declines option setting = false

-- what is said of messages, once at most, comes to this: to false where nothing is said
abbrev pub ComesTo : List Bool → Bool → Type 0
ComesTo [] on = on ≡ false
ComesTo (said ∷ []) on = on ≡ said
ComesTo (said ∷ again ∷ more) on = ⊥

-- In any order: the version and the publications once, messages and what is declined once at most, and nothing else.
pub record AreSettings (settings : List Setting) (options : StreamOptions) : Type 0 where
  pub version : count_by is_version settings ≡ 1
  pub names : filter_map publications_of settings ≡ options.publications ∷ []
  pub messages : ComesTo (filter_map messages_of settings) options.messages
  pub declined : (option : Unserved) → count_by (declines option) settings ≤ 1

-- ---- reading

abbrev pub other_version : Strictness → List ℕ → OptionFault
other_version Strict value = wrong.Version
other_version Lenient value = if list_all is_ascii_digit value then wrong.OtherVersion else wrong.Version

abbrev pub version_at : Strictness → List Token → Result (Setting × List Token) CmdFault
version_at strictness tokens = value_at tokens >>= λ value. if is_served_version strictness value.0 then Ok (Version, value.1) else Err (BadOption (other_version strictness value.0))

abbrev pub publications_at : List Token → Result (Setting × List Token) CmdFault
publications_at tokens = value_at tokens >>= λ value. names_of value.0 >>= λ names. Ok (Publications names, value.1)

abbrev pub messages_at : List Token → Result (Setting × List Token) CmdFault
messages_at tokens = value_at tokens >>= λ value. ok_or (truth_of value.0) (BadOption wrong.Messages) >>= λ on. Ok (Messages on, value.1)

abbrev pub discontent : Strictness → Unserved → OptionFault
discontent Strict option = wrong.NotServed option
discontent Lenient option = wrong.NoTruth option

abbrev pub declined_at : Strictness → Unserved → List Token → Result (Setting × List Token) CmdFault
declined_at strictness option tokens = value_at tokens >>= λ value. if is_content strictness value.0 then Ok (Declined option, value.1) else Err (BadOption (discontent strictness option))

abbrev pub unserved_of : List ℕ → Option Unserved
unserved_of name =
    if bytes_eq name (codes "binary") then Some Binary else if bytes_eq name (codes "streaming") then Some Streaming else if bytes_eq name (codes "two_phase") then Some TwoPhase else None

abbrev pub unserved_at : Strictness → Option Unserved → List Token → Result (Setting × List Token) CmdFault
unserved_at strictness None tokens = Err (BadOption wrong.Unrecognized)
unserved_at strictness (Some option) tokens = declined_at strictness option tokens

unfoldable pub setting_at : Strictness → List Token → Result (Setting × List Token) CmdFault
setting_at strictness tokens = name_at tokens >>= λ name.
    if bytes_eq name.0 (codes "proto_version") then version_at strictness name.1
    else if bytes_eq name.0 (codes "publication_names") then publications_at name.1
    else if bytes_eq name.0 (codes "messages") then messages_at name.1
    else unserved_at strictness (unserved_of name.0) name.1

-- what is asked of the stream, where the version is told and the publications are
abbrev pub stream_options : Bool → Option (List (List ℕ)) → Option Bool → Result StreamOptions CmdFault
stream_options true (Some names) messages = Ok (record { publications = names; messages = unwrap_or messages false })
stream_options true None messages = Err (BadOption wrong.PublicationNamesMissing)
stream_options false names messages = Err (BadOption wrong.VersionMissing)

-- no option twice: whether the version was told, which publications, and what of messages
abbrev pub options_of_settings : Bool → Option (List (List ℕ)) → Option Bool → List Setting → Result StreamOptions CmdFault
options_of_settings version names messages [] = stream_options version names messages
options_of_settings version names messages (Version ∷ settings) = if version then Err (BadOption wrong.Redundant) else options_of_settings true names messages settings
options_of_settings version names messages (Publications chosen ∷ settings) = if is_some names then Err (BadOption wrong.Redundant) else options_of_settings version (Some chosen) messages settings
options_of_settings version names messages (Messages on ∷ settings) = if is_some messages then Err (BadOption wrong.Redundant) else options_of_settings version names (Some on) settings
options_of_settings version names messages (Declined option ∷ settings) = options_of_settings version names messages settings

-- what isn't served stands twice
abbrev pub declines_twice : List Setting → Bool
declines_twice settings = nat_lt 1 (count_by (declines Binary) settings) || (nat_lt 1 (count_by (declines Streaming) settings) || nat_lt 1 (count_by (declines TwoPhase) settings))

-- what these options ask for
abbrev pub told_options : List Setting → Result StreamOptions CmdFault
told_options settings = if declines_twice settings then Err (BadOption wrong.Redundant) else options_of_settings false None None settings
