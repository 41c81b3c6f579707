-- text, varchar(n) and char(n) (PostgreSQL 15, 8.3), in UTF-8.
use Rattle.std.specs.Prelude.{ℕ, zero, suc, length, take, slice_index, ◌==◌, ◌&&◌, Bool, true, false, not, List, [], ◌∷◌, count_by, nat_le, nat_lt, Option, Some, None, if◌then◌else◌}
use Rattle.std.specs.List.{list_all}
use Rattle.data_types.specs.declared.limits.CharacterLimit.{CharacterLimit}

-- no zero byte stands in the text
abbrev pub has_no_zero : List ℕ → Bool
has_no_zero text = list_all (λ b. not (b == 0)) text

-- the byte begins a character of UTF-8
abbrev pub begins_character : ℕ → Bool
begins_character b = not (nat_le 128 b && nat_lt b 192)

-- how many characters a text has
abbrev pub character_count : List ℕ → ℕ
character_count text = count_by begins_character text

abbrev pub is_limited : Option CharacterLimit → List ℕ → Bool
is_limited None text = true
is_limited (Some limit) text = nat_le (character_count text) limit.count

-- no more characters than there may be
abbrev pub is_varchar_text : Option CharacterLimit → List ℕ → Bool
is_varchar_text limit text = has_no_zero text && is_limited limit text

-- as many characters as there have to be
abbrev pub is_char_text : CharacterLimit → List ℕ → Bool
is_char_text limit text = has_no_zero text && character_count text == limit.count

-- the first so many bytes of a text without the spaces at their end
abbrev pub unpadded_to : ℕ → List ℕ → List ℕ
unpadded_to zero text = []
unpadded_to (suc n) text = if slice_index text n == 32 then unpadded_to n text else take (suc n) text

-- the text without the spaces at its end
abbrev pub unpadded : List ℕ → List ℕ
unpadded text = unpadded_to (length text) text
