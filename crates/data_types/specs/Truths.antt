-- bool (PostgreSQL 15, 8.6).
use Rattle.std.specs.Prelude.{ℕ, ◌==◌, ◌&&◌, ◌||◌, Bool, true, false, List, [], ◌∷◌, codes, length, take, drop, nat_le, Option, Some, None, if◌then◌else◌}
use Rattle.std.specs.Char.{to_ascii_lowercase}
use Rattle.std.specs.Str.{bytes_eq}
use Rattle.data_types.specs.Digits.{after_blanks, are_blanks, word_length}

-- the text begins a word, in either case
abbrev pub begins_word : List ℕ → List ℕ → Bool
begins_word [] word = true
begins_word (b ∷ text) [] = false
begins_word (b ∷ text) (c ∷ word) = if to_ascii_lowercase b == c then begins_word text word else false

-- so many bytes of the word at least
abbrev pub abridges : ℕ → List ℕ → List ℕ → Bool
abridges least word text = nat_le least (length text) && begins_word text word

abbrev pub is_yes : List ℕ → Bool
is_yes text = abridges 1 (codes "true") text || abridges 1 (codes "yes") text || abridges 2 (codes "on") text || bytes_eq text (codes "1")

abbrev pub is_no : List ℕ → Bool
is_no text = abridges 1 (codes "false") text || abridges 1 (codes "no") text || abridges 2 (codes "off") text || bytes_eq text (codes "0")

unfoldable pub truth_of_word : List ℕ → Option Bool
truth_of_word word = if is_yes word then Some true else (if is_no word then Some false else None)

-- a word, and nothing but blanks after it
abbrev pub truth_at : List ℕ → Option Bool
truth_at text = if are_blanks (drop (word_length text) text) then truth_of_word (take (word_length text) text) else None

-- the truth value that a text is taken for
abbrev pub truth_of : List ℕ → Option Bool
truth_of text = truth_at (after_blanks text)

abbrev pub is_truth_text : List ℕ → Bool
is_truth_text text = bytes_eq text (codes "t") || bytes_eq text (codes "f")
