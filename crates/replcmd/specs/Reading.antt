-- Reading a command token by token, up to its leftmost fault: single tokens, keywords, positions and lists. `Settings.antt` reads an
-- option, and `Commands.antt` a command whole.
use Rattle.std.specs.Prelude.{◌≡◌, ℕ, zero, suc, ◌+◌, ◌*◌, ◌^◌, ◌==◌, nat_lt, nat_le, List, [], ◌∷◌, length, Option, Some, None, Result, Ok, Err, Bool, true, false, ◌||◌, ◌&&◌, if◌then◌else◌, codes}
use Rattle.std.specs.Borrow.{Bor}
use Rattle.std.specs.declared.vec.Vec.{Vec}
use Rattle.std.specs.declared.alloc.Global.{Global}
use Rattle.std.specs.Option.{ok_or, option_map, option_and_then, is_some}
use Rattle.std.specs.List.{list_all}
use Rattle.std.specs.Char.{digit_value}
use Rattle.std.specs.Str.Parse.{digits_value}
use Rattle.replcmd.specs.declared.fault.CmdFault.{CmdFault}
use Rattle.replcmd.specs.declared.fault.CmdFault.TheVariants.{Syntax, BadName, BadPosition, Unsupported, BadOption, Memory}
use Rattle.replcmd.specs.declared.fault.OptionFault.TheVariants.{PublicationNames}
use Rattle.replcmd.specs.declared.text.token.Token.{Token}
use Rattle.replcmd.specs.declared.text.token.Token.TheVariants.{Word, Quoted, Value, Mark}
use Rattle.replcmd.specs.declared.text.token.TheConstants.{COMMA, SEMICOLON}
use Rattle.replcmd.specs.declared.text.verb.Verb.{Verb}
use Rattle.replcmd.specs.declared.text.verb.Verb.TheVariants as verb
use Rattle.replcmd.specs.declared.clauses.strictness.Strictness.{Strictness}
use Rattle.replcmd.specs.declared.clauses.snapshot_clause.SnapshotClause.{SnapshotClause}
use Rattle.replcmd.specs.declared.clauses.snapshot_clause.SnapshotClause.TheVariants.{Export}
use Rattle.replcmd.specs.Lexing.{after_blanks, token_at}
use Rattle.replcmd.specs.Snapshots.{said_snapshot}
use Rattle.replcmd.specs.Words.{lower, is_keyword, is_truth, is_bare, is_slot_name}

infixl 10 ◌>>=◌
abbrev pub ◌>>=◌ : {A B : Type 0} → Result A CmdFault → (A → Result B CmdFault) → Result B CmdFault
(Ok x) >>= f = f x
(Err e) >>= f = Err e

-- ---- single tokens

abbrev pub name_of : Token → Option (List ℕ)
name_of (Word w) = if is_bare w then Some (lower w) else None
name_of (Quoted n) = Some n
name_of _ = None

abbrev pub name_at : List Token → Result (List ℕ × List Token) CmdFault
name_at [] = Err Syntax
name_at (token ∷ tokens) = ok_or (name_of token) Syntax >>= λ name. Ok (name, tokens)

unfoldable pub slot_at : List Token → Result (List ℕ × List Token) CmdFault
slot_at tokens = name_at tokens >>= λ name. if is_slot_name name.0 then Ok name else Err BadName

abbrev pub value_at : List Token → Result (List ℕ × List Token) CmdFault
value_at (Value v ∷ tokens) = Ok (v, tokens)
value_at _ = Err Syntax

-- the mark, where it stands at the front
abbrev pub past_mark : ℕ → List Token → Bool × List Token
past_mark mark (Mark m ∷ tokens) = if m == mark then (true, tokens) else (false, Mark m ∷ tokens)
past_mark mark tokens = (false, tokens)

abbrev pub begins_with_name : List Token → Bool
begins_with_name [] = false
begins_with_name (token ∷ tokens) = is_some (name_of token)

-- ---- keywords

-- the keyword, where it stands at the front
abbrev pub past_word : List ℕ → List Token → Bool × List Token
past_word keyword (Word w ∷ tokens) = if is_keyword keyword w then (true, tokens) else (false, Word w ∷ tokens)
past_word keyword tokens = (false, tokens)

-- what the keyword at the front says of a snapshot; it is exported where nothing is said
abbrev pub past_said : Option SnapshotClause → List ℕ → List Token → SnapshotClause × List Token
past_said (Some snapshot) w tokens = (snapshot, tokens)
past_said None w tokens = (Export, Word w ∷ tokens)

abbrev pub past_snapshot : Strictness → List Token → SnapshotClause × List Token
past_snapshot strictness (Word w ∷ tokens) = past_said (said_snapshot strictness w) w tokens
past_snapshot strictness tokens = (Export, tokens)

unfoldable pub verb_of : List ℕ → Option Verb
verb_of word =
    if is_keyword (codes "IDENTIFY_SYSTEM") word then Some verb.Identify
    else if is_keyword (codes "CREATE_REPLICATION_SLOT") word then Some verb.Create
    else if is_keyword (codes "DROP_REPLICATION_SLOT") word then Some verb.Drop
    else if is_keyword (codes "START_REPLICATION") word then Some verb.Start
    else None

abbrev pub verb_at : List Token → Result (Verb × List Token) CmdFault
verb_at (Word w ∷ tokens) = ok_or (verb_of w) Syntax >>= λ v. Ok (v, tokens)
verb_at _ = Err Syntax

-- the words of what is left out of each command
unfoldable pub is_left_out : Verb → List ℕ → Bool
is_left_out verb.Identify word = false
is_left_out verb.Create word =
    is_keyword (codes "TEMPORARY") word || (is_keyword (codes "PHYSICAL") word
    || (is_keyword (codes "EXPORT_SNAPSHOT") word || (is_keyword (codes "USE_SNAPSHOT") word || is_keyword (codes "TWO_PHASE") word)))
is_left_out verb.Drop word = is_keyword (codes "WAIT") word
is_left_out verb.Start word = is_keyword (codes "PHYSICAL") word

-- the fault of a token where another one must stand
abbrev pub unexpected : Verb → List Token → CmdFault
unexpected v (Word w ∷ tokens) = if is_left_out v w then Unsupported else Syntax
unexpected v _ = Syntax

unfoldable pub keyword_at : Verb → List ℕ → List Token → Result (List Token) CmdFault
keyword_at v keyword (Word w ∷ tokens) = if is_keyword keyword w then Ok tokens else Err (unexpected v (Word w ∷ tokens))
keyword_at v keyword tokens = Err (unexpected v tokens)

-- the end, with one semicolon or none
abbrev pub nothing_at : List Token → Result (Unit {0}) CmdFault
nothing_at [] = Ok tt
nothing_at (token ∷ tokens) = Err Syntax

unfoldable pub end_at : Verb → List Token → Result (Unit {0}) CmdFault
end_at v [] = Ok tt
end_at v (Mark m ∷ tokens) = if m == SEMICOLON then nothing_at tokens else Err Syntax
end_at v tokens = Err (unexpected v tokens)

-- ---- positions

-- the texts on both sides of the first slash
abbrev pub halves_of : List ℕ → Option (List ℕ × List ℕ)
halves_of [] = None
halves_of (b ∷ bytes) = if b == 47 then Some ([], bytes) else option_map (λ halves. (b ∷ halves.0, halves.1)) (halves_of bytes)

abbrev pub is_half : List ℕ → Bool
is_half text = nat_lt 0 (length text) && (nat_le (length text) 8 && list_all (λ b. nat_lt (digit_value b) 16) text)

unfoldable pub position_of : List ℕ → Option ℕ
position_of text = option_and_then (λ halves. if is_half halves.0 && is_half halves.1 then Some (digits_value 16 halves.0 * 2 ^ 32 + digits_value 16 halves.1) else None) (halves_of text)

unfoldable pub position_at : List Token → Result (ℕ × List Token) CmdFault
position_at (Word w ∷ tokens) = ok_or (position_of w) BadPosition >>= λ n. Ok (n, tokens)
position_at _ = Err Syntax

-- ---- what is in a list with commas

-- `item` reads one, and `more` tells whether another follows; no list is longer than its text
unfoldable pub separated_items : {S X : Type 0} → (S → Result (X × S) CmdFault) → (S → Result (Bool × S) CmdFault) → ℕ → S → Result (List X × S) CmdFault
separated_items item more zero s = Err Syntax
separated_items item more (suc n) s = do
  first ← item s
  goes ← more first.1
  if goes.0 then (separated_items item more n goes.1 >>= λ others. Ok (first.0 ∷ others.0, others.1)) else Ok (first.0 ∷ [], goes.1)

-- ---- publications

unfoldable pub front_name : List ℕ → Result (List ℕ × List ℕ) CmdFault
front_name text = do
  token ← ok_or (token_at text) (BadOption PublicationNames)
  name ← ok_or (name_of token.0) (BadOption PublicationNames)
  Ok (name, token.1)

abbrev pub comma_at : List ℕ → Result (Bool × List ℕ) CmdFault
comma_at [] = Ok (false, [])
comma_at (b ∷ bytes) = if b == COMMA then Ok (true, bytes) else Err (BadOption PublicationNames)

abbrev pub more_names : List ℕ → Result (Bool × List ℕ) CmdFault
more_names text = comma_at (after_blanks text)

unfoldable pub names_of : List ℕ → Result (List (List ℕ)) CmdFault
names_of text = separated_items front_name more_names (suc (length text)) text >>= λ names. Ok names.0

-- ---- truth values

-- the truth value that the word stands for
unfoldable pub truth_of : List ℕ → Option Bool
truth_of word = if is_truth true word then Some true else if is_truth false word then Some false else None

-- ---- A call that answers what reading gives, unless memory ran out.

abbrev pub Fails : {Y : Type 0} → CmdFault → Result Y CmdFault → Type 0
Fails Memory read = Unit {0}
Fails e read = read ≡ Err e

abbrev pub Answers : {X : Type 0} → Result X CmdFault → Result X CmdFault → Type 0
Answers (Ok x) read = read ≡ Ok x
Answers (Err e) read = Fails e read

-- the same of calls that go on from what they read to the rest: one that gives a value, a name that is lent, items in a
-- vector, or a name with the text that follows it
abbrev pub Gives : {X S : Type 0} → Result X CmdFault → S → Result (X × S) CmdFault → Type 0
Gives (Ok x) rest read = read ≡ Ok (x, rest)
Gives (Err e) rest read = Fails e read

abbrev pub GivesLent : {S : Type 0} → Result (Bor (List ℕ)) CmdFault → S → Result (List ℕ × S) CmdFault → Type 0
GivesLent (Ok x) rest read = read ≡ Ok (x.now, rest)
GivesLent (Err e) rest read = Fails e read

abbrev pub GivesItems : {X S : Type 0} → Result (Vec X Global) CmdFault → S → Result (List X × S) CmdFault → Type 0
GivesItems (Ok x) rest read = read ≡ Ok (x.items, rest)
GivesItems (Err e) rest read = Fails e read

abbrev pub LendsName : Result (List ℕ × Bor (List ℕ)) CmdFault → Result (List ℕ × List ℕ) CmdFault → Type 0
LendsName (Ok x) read = read ≡ Ok (x.0, x.1.now)
LendsName (Err e) read = Fails e read

-- and one that gives nothing but moves on
abbrev pub Moves : {S : Type 0} → Result (Unit {0}) CmdFault → S → Result S CmdFault → Type 0
Moves (Ok u) rest read = read ≡ Ok rest
Moves (Err e) rest read = Fails e read
