-- Servers that keep to their protocol, over all lives of a follower: on each connection comes a beginning of a stream of what is
-- published from a position on.
use Rattle.std.specs.Prelude.{◌≡◌, ◌≢◌, ℕ, ◌<◌, ◌≤◌, List, [], ◌∷◌, ◌++◌, max}
use Rattle.std.specs.List.{AllByRecursion}
use Rattle.frames.specs.declared.copy_data.TheConstants.{COPY_DATA}
use Rattle.pgoutput.specs.declared.copy_both_message.CopyBothMessage.{CopyBothMessage}
use Rattle.pgoutput.specs.declared.messages.relation.Relation.{Relation}
use Rattle.pgoutput.specs.declared.published.Published.{Published}
use Rattle.pgoutput.specs.Items.{Item, FitItems, transactions_of, words_of}
use Rattle.pgoutput.specs.Stream.{AreSafeKeepalives}
use Rattle.pgoutput.specs.Words.{frames_of}
use Rattle.follower.specs.Standing.{Standing, Deed, Connects, Receives, Tells, Runs}
use Rattle.follower.specs.Lives.{Life, Lived, Lives, beginning, place_after_all, printed_after}

-- As a log publishes them: from a position on, each record starts where the one before it ends, or later, and ends past its start.
abbrev pub InLogOrder : ℕ → List Published → Type 0
InLogOrder from [] = Unit {0}
InLogOrder from (t ∷ ts) = (from ≤ t.start) × (t.start < t.end) × InLogOrder t.end ts

abbrev pub AllBelow : ℕ → List Published → Type 0
AllBelow place ts = AllByRecursion (λ (t : Published). t.start < place) ts

abbrev pub AllFrom : ℕ → List Published → Type 0
AllFrom place ts = AllByRecursion (λ (t : Published). place ≤ t.start) ts

-- the bytes that are taken until a next connection begins
abbrev pub bytes_until_connection : List Deed → List ℕ
bytes_until_connection [] = []
bytes_until_connection (Connects ∷ deeds) = []
bytes_until_connection (Receives bytes result ∷ deeds) = bytes ++ bytes_until_connection deeds
bytes_until_connection (_ ∷ deeds) = bytes_until_connection deeds

-- Items of a stream of what is published from a position on, as far as the log was read: what is published beyond starts there or
-- later.
pub record AreOfStream (published : List Published) (from : ℕ) (relation : ℕ → Relation) (items : List Item) : Type 0 where
  pub passed : List Published
  pub unsent : List Published
  pub parts : published ≡ passed ++ (transactions_of items ++ unsent)
  pub passed_below : AllBelow from passed
  pub sent_from : AllFrom from (transactions_of items ++ unsent)
  pub read_to : ℕ
  pub unsent_from : AllFrom read_to unsent
  pub fits : FitItems relation items
  pub safe : AreSafeKeepalives read_to items

-- What a server may say after a stream: nothing, or first another frame than CopyData, as CopyDone or ErrorResponse.
abbrev pub IsNoCopyData : List ℕ → Type 0
IsNoCopyData [] = Unit {0}
IsNoCopyData (kind ∷ bytes) = kind ≢ COPY_DATA

-- A server is asked for a position; where more was acknowledged it may begin further on, up to that. It sends the first words of a
-- stream, or all, and then may end it. Of all that it says these bytes are a beginning.
pub record IsServed (published : List Published) (asked acknowledged : ℕ) (bytes : List ℕ) : Type 0 where
  pub from : ℕ
  pub late : asked ≤ from
  pub early : from ≤ max asked acknowledged
  pub relation : ℕ → Relation
  pub items : List Item
  pub stream : AreOfStream published from relation items
  pub sent : List CopyBothMessage
  pub unsent : List CopyBothMessage
  pub words : words_of relation [] items ≡ sent ++ unsent
  pub ending : List ℕ
  pub ends : IsNoCopyData ending
  pub more : List ℕ
  pub says : bytes ++ more ≡ frames_of sent ++ ending

-- the greatest position that was acknowledged, before these deeds and by them
abbrev pub acknowledged_after : ℕ → (old : Standing) (deeds : List Deed) (new : Standing) → Runs old deeds new → ℕ
acknowledged_after acknowledged old [] new run = acknowledged
acknowledged_after acknowledged old (Tells clock ask count ∷ deeds) new run = acknowledged_after (max acknowledged old.applier.subscriber.position) run.0 deeds new run.2
acknowledged_after acknowledged old (_ ∷ deeds) new run = acknowledged_after acknowledged run.0 deeds new run.2

-- each connection of these deeds is served
abbrev pub AreServed : List Published → ℕ → (old : Standing) (deeds : List Deed) (new : Standing) → Runs old deeds new → Type 0
AreServed published acknowledged old [] new run = Unit {0}
AreServed published acknowledged old (Connects ∷ deeds) new run = IsServed published old.applier.subscriber.position acknowledged (bytes_until_connection deeds) × AreServed published acknowledged run.0 deeds new run.2
AreServed published acknowledged old (Tells clock ask count ∷ deeds) new run = AreServed published (max acknowledged old.applier.subscriber.position) run.0 deeds new run.2
AreServed published acknowledged old (_ ∷ deeds) new run = AreServed published acknowledged run.0 deeds new run.2

-- A life goes on where the output ends, nothing comes before its first connection, and each connection is served.
pub record IsServedLife (published : List Published) (acknowledged start : ℕ) (printed : List Published) (life : Life) (lived : Lived start printed life) : Type 0 where
  pub goes_on : life.from ≤ place_after_all start printed
  pub none_before : bytes_until_connection life.deeds ≡ []
  pub served : AreServed published acknowledged (beginning life) life.deeds life.now lived.run

-- and each life
abbrev pub AreServedLives : List Published → ℕ → (start : ℕ) (printed : List Published) (lives : List Life) → Lives start printed lives → Type 0
AreServedLives published acknowledged start printed [] lived = Unit {0}
AreServedLives published acknowledged start printed (life ∷ lives) lived =
    IsServedLife published acknowledged start printed life lived.0
    × AreServedLives published (acknowledged_after acknowledged (beginning life) life.deeds life.now lived.0.run) start (printed_after start printed life lived.0) lives lived.1
