-- What a client reads of a server (RFC 5802, 7): "server-first-message = [reserved-mext ","] nonce "," salt "," iteration-count
-- ["," extensions]". As PostgreSQL's clients it takes no extension.
use Rattle.std.specs.Prelude.{◌≡◌, ℕ, ◌==◌, ◌&&◌, not, nat_le, List, [], ◌∷◌, length, take, Bool, Option, Some, None, Result, Ok, Err, if◌then◌else◌, is_none}
use Rattle.std.specs.List.{list_all, list_any}
use Rattle.std.specs.Option.{ok_or}
use Rattle.std.specs.Str.{bytes_eq}
use Rattle.std.specs.Str.Parse.{digits_value}
use Rattle.base64.specs.Engines.{standard}
use Rattle.base64.specs.GeneralPurpose.{decoded_of}
use Rattle.scram.specs.Parts.{parted}
use Rattle.scram.specs.declared.client_side.iteration_count.TheConstants.{MOST_ROUNDS}
use Rattle.scram.specs.declared.client_side.server_first.ServerFirst.{ServerFirst}
use Rattle.scram.specs.declared.client_side.server_fault.ServerFault.{ServerFault}
use Rattle.scram.specs.declared.client_side.server_fault.ServerFault.TheVariants.{Malformed, Extension, Nonce, Salt, Rounds, Memory}

infixl 10 ◌>>=◌
abbrev pub ◌>>=◌ : {A B : Type 0} → Result A ServerFault → (A → Result B ServerFault) → Result B ServerFault
(Ok x) >>= f = f x
(Err e) >>= f = Err e

-- "attr-val = ALPHA "=" value": the value of this attribute, where the text is one
abbrev pub attribute_of : ℕ → List ℕ → Option (List ℕ)
attribute_of letter [] = None
attribute_of letter (a ∷ []) = None
attribute_of letter (a ∷ (b ∷ value)) = if (a == letter) && (b == 61) then Some value else None

-- "posit-number", with zeros before it too
abbrev pub is_number : List ℕ → Bool
is_number text = list_all (λ b. nat_le 48 b && nat_le b 57) text

abbrev pub within : ℕ → Option ℕ
within n = if nat_le 1 n && nat_le n MOST_ROUNDS then Some n else None

abbrev pub rounds_of : List ℕ → Option ℕ
rounds_of text = if is_number text then within (digits_value 10 text) else None

unfoldable pub server_first_of : List ℕ → List ℕ → Result ServerFirst ServerFault
server_first_of own text =
    if not (is_none (attribute_of 109 text)) then Err Extension
    else (ok_or (parted 44 text) Malformed >>= λ first.
    ok_or (parted 44 first.1) Malformed >>= λ second.
    ok_or (attribute_of 114 first.0) Malformed >>= λ nonce.
    if not (bytes_eq (take (length own) nonce) own) then Err Nonce
    else (ok_or (attribute_of 115 second.0) Malformed >>= λ coded.
    ok_or (decoded_of standard coded) Salt >>= λ salt.
    ok_or (attribute_of 105 second.1) Malformed >>= λ count.
    if list_any (λ b. b == 44) count then Err Extension
    else (ok_or (rounds_of count) Rounds >>= λ rounds.
    Ok (record { nonce = nonce; salt = salt; rounds = rounds }))))

-- ---- A call that answers what reading gives, unless memory ran out.

abbrev pub Fails : {Y : Type 0} → ServerFault → Result Y ServerFault → Type 0
Fails Memory read = Unit {0}
Fails e read = read ≡ Err e

abbrev pub Answers : {X : Type 0} → Result X ServerFault → Result X ServerFault → Type 0
Answers (Ok x) read = read ≡ Ok x
Answers (Err e) read = Fails e read
