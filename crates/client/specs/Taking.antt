-- What an applier makes of the bytes that it takes.
use Rattle.std.specs.Prelude.{◌≡◌, ℕ, ◌⊎◌, List, ◌++◌, Option, Some, None, Result, Ok, Err}
use Rattle.pgoutput.specs.declared.copy_both_message.CopyBothMessage.{CopyBothMessage}
use Rattle.client.specs.declared.fault.ClientFault.{ClientFault}
use Rattle.client.specs.declared.fault.ClientFault.TheVariants.{CommitEnd, Order, UnknownRelation}
use Rattle.client.specs.Subscriber.{Subscriber, after_word, after_words}
use Rattle.client.specs.Words.{SpellsWord, AreSpelled, Waits, IsUnread, TakesMemory}

-- an applier between two calls: the subscriber, what isn't read yet, and the fault that it has answered
pub record ApplierState : Type 0 where
  pub subscriber : Subscriber
  pub unread : List ℕ
  pub fault : Option ClientFault

-- The bytes are whole words, which make the one subscriber of the other, and a rest.
pub record Reached (old : Subscriber) (bytes : List ℕ) (new : Subscriber) (rest : List ℕ) : Type 0 where
  pub words : List CopyBothMessage
  pub text : List ℕ
  pub spells : AreSpelled text words
  pub is : bytes ≡ text ++ rest
  pub steps : after_words old words ≡ Ok new

-- a word stands at the front that this subscriber refuses
abbrev pub IsRefused : ClientFault → Subscriber → List ℕ → Type 0
IsRefused e s rest = (w : CopyBothMessage) × (text more : List ℕ) × SpellsWord text w × (rest ≡ text ++ more) × (after_word s w ≡ Err e)

-- why a subscriber goes no further
abbrev pub Stops : ClientFault → Subscriber → List ℕ → Type 0
Stops Order s rest = IsRefused Order s rest
Stops UnknownRelation s rest = IsRefused UnknownRelation s rest
Stops CommitEnd s rest = IsRefused CommitEnd s rest
Stops e s rest = IsUnread e rest

-- whole words were taken, and what is after them stops it
pub record StopsAfter (old : Subscriber) (bytes : List ℕ) (new : Subscriber) (fault : ClientFault) : Type 0 where
  pub rest : List ℕ
  pub reached : Reached old bytes new rest
  pub stops : Stops fault new rest

-- Where want of memory stops a call: before it takes a word, or after whole words, at a frame that stands there whole and holds
-- something to keep.
abbrev pub StopsForMemory : Subscriber → List ℕ → Subscriber → Type 0
StopsForMemory old bytes new = (new ≡ old) ⊎ ((rest : List ℕ) × Reached old bytes new rest × TakesMemory rest)

-- Since this subscriber connected, so many bytes were taken: all whole words, and what is left holds none.
pub record HasTaken (base : Subscriber) (a : ApplierState) (bytes : List ℕ) : Type 0 where
  pub reached : Reached base bytes a.subscriber a.unread
  pub waits : Waits a.unread
  pub sound : a.fault ≡ None

-- They were taken up to a fault, which stands where the whole words end.
pub record HasFailed (base : Subscriber) (a : ApplierState) (bytes : List ℕ) (fault : ClientFault) : Type 0 where
  pub stops : StopsAfter base bytes a.subscriber fault
  pub fails : a.fault ≡ Some fault

-- What a call makes of bytes: what was unread and they are taken, up to a fault. After a fault it is answered again, and
-- nothing changes.
abbrev pub TakesFrom : Option ClientFault → ApplierState → ApplierState → List ℕ → Result (Unit {0}) ClientFault → Type 0
TakesFrom (Some fault) old new bytes result = (result ≡ Err fault) × (new ≡ old)
TakesFrom None old new bytes (Ok u) = HasTaken old.subscriber new (old.unread ++ bytes)
TakesFrom None old new bytes (Err e) = HasFailed old.subscriber new (old.unread ++ bytes) e

abbrev pub Takes : ApplierState → ApplierState → List ℕ → Result (Unit {0}) ClientFault → Type 0
Takes old new bytes result = TakesFrom old.fault old new bytes result
