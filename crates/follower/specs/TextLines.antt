-- What a line of text tells.
use Rattle.std.specs.Prelude.{◌≡◌, ◌≢◌, ◌⊎◌, ℕ, ◌+◌, ◌<◌, ◌||◌, Bool, List, [], ◌∷◌, ◌++◌, length, get_or, nat_eq, codes}
use Rattle.std.specs.List.{starts_with}
use Rattle.replcmd.specs.Position.{SpellsPosition}
use Rattle.message_lines.specs.Fronts.{begins}

-- it is the first of a transaction, or a note, as far as it is there
abbrev pub text_begins : List ℕ → Bool
text_begins line = begins line (codes "BEGIN ") || begins line (codes "MESSAGE 0 ")

abbrev pub text_is_note : List ℕ → Bool
text_is_note line = starts_with nat_eq line (codes "MESSAGE 0 ")

abbrev pub HasNoBlank : List ℕ → Type 0
HasNoBlank text = (i : ℕ) → i < length text → get_or text i 0 ≢ 32

-- it tells a change of a table
abbrev pub text_is_change : List ℕ → Bool
text_is_change line =
    starts_with nat_eq line (codes "INSERT ") || (starts_with nat_eq line (codes "UPDATE ") || (starts_with nat_eq line (codes "DELETE ") || starts_with nat_eq line (codes "TRUNCATE ")))

-- It is a Commit's: where its record starts, where its transaction ends, and its time.
pub record TellsCommit (line : List ℕ) (end : ℕ) : Type 0 where
  pub start_text : List ℕ
  pub start : ℕ
  pub end_text : List ℕ
  pub time : List ℕ
  pub is : line ≡ codes "COMMIT " ++ (start_text ++ (32 ∷ (end_text ++ (32 ∷ (time ++ (10 ∷ []))))))
  pub starts : SpellsPosition start_text start
  pub ends : SpellsPosition end_text end

-- It is a note's, whose record starts a byte before.
pub record TellsNoteBefore (line : List ℕ) (end : ℕ) : Type 0 where
  pub start_text : List ℕ
  pub start : ℕ
  pub said : List ℕ
  pub is : line ≡ codes "MESSAGE 0 " ++ (start_text ++ (32 ∷ (said ++ (10 ∷ []))))
  pub starts : SpellsPosition start_text start
  pub ends : end ≡ start + 1

abbrev pub TellsEnd : List ℕ → ℕ → Type 0
TellsEnd line end = TellsCommit line end ⊎ TellsNoteBefore line end
