-- A client's message (RFC 5802, 5.1 and 7), read attribute by attribute up to its leftmost fault: "attr-val = ALPHA "=" value", with
-- commas between them and no zero byte.
use Rattle.std.specs.Prelude.{◌≡◌, ℕ, zero, suc, ◌==◌, ◌||◌, ◌&&◌, nat_le, List, [], ◌∷◌, length, drop, Bool, Result, Ok, Err, if◌then◌else◌}
use Rattle.std.specs.List.{list_any}
use Rattle.std.specs.Option.{unwrap_or}
use Rattle.std.specs.Borrow.{Bor}
use Rattle.scram.specs.Parts.{parted}
use Rattle.scram.specs.declared.fault.Malformed.{Malformed}
use Rattle.scram.specs.declared.fault.Malformed.TheVariants as form
use Rattle.scram.specs.declared.fault.ExchangeFault.{ExchangeFault}
use Rattle.scram.specs.declared.fault.ExchangeFault.TheVariants.{Malformed as Misformed, Memory}

infixl 10 ◌>>=◌
abbrev pub ◌>>=◌ : {A B : Type 0} → Result A ExchangeFault → (A → Result B ExchangeFault) → Result B ExchangeFault
(Ok x) >>= f = f x
(Err e) >>= f = Err e

-- the fault of a form
abbrev pub Bad : {A : Type 0} → Malformed → Result A ExchangeFault
Bad fault = Err (Misformed fault)

abbrev pub message_at : List ℕ → Result (List ℕ) ExchangeFault
message_at text = if length text == 0 then Bad form.Empty else if list_any (λ b. b == 0) text then Bad form.ZeroByte else Ok text

-- the byte at the front; 0, which stands in no message, at the end
abbrev pub front : List ℕ → ℕ
front [] = 0
front (b ∷ bytes) = b

-- a value up to a comma, and what follows
abbrev pub value_of : List ℕ → List ℕ × List ℕ
value_of text = unwrap_or (parted 44 text) (text, [])

-- after the letter of an attribute
abbrev pub value_at : ℕ → List ℕ → Result (List ℕ × List ℕ) ExchangeFault
value_at attribute text = if front text == 61 then Ok (value_of (drop 1 text)) else Bad (form.Equals attribute)

abbrev pub named_at : ℕ → List ℕ → Result (List ℕ × List ℕ) ExchangeFault
named_at attribute text = if front text == attribute then value_at attribute (drop 1 text) else Bad (form.Expected attribute (front text))

abbrev pub is_letter : ℕ → Bool
is_letter b = (nat_le 65 b && nat_le b 90) || (nat_le 97 b && nat_le b 122)

-- an attribute, its value, and what follows
abbrev pub any_at : List ℕ → Result ((ℕ × List ℕ) × List ℕ) ExchangeFault
any_at [] = Bad form.Attribute
any_at (b ∷ bytes) = if is_letter b then (value_at b bytes >>= λ value. Ok ((b, value.0), value.1)) else Bad (form.Letter b)

-- so many attributes at most, up to the end
unfoldable pub extensions_at : ℕ → List ℕ → Result (List ℕ) ExchangeFault
extensions_at zero text = Ok text
extensions_at (suc n) [] = Ok []
extensions_at (suc n) (b ∷ bytes) = any_at (b ∷ bytes) >>= λ found. extensions_at n found.1

-- so many attributes at most, up to the proof: how many bytes stand from it on, its value, and what follows
unfoldable pub proof_at : ℕ → List ℕ → Result ((ℕ × List ℕ) × List ℕ) ExchangeFault
proof_at zero text = Bad form.Attribute
proof_at (suc n) text = any_at text >>= λ found. if found.0.0 == 112 then Ok ((length text, found.0.1), found.1) else proof_at n found.1

abbrev pub end_at : List ℕ → Result (Unit {0}) ExchangeFault
end_at text = if length text == 0 then Ok tt else Bad form.Garbage

-- ---- Calls that go on from what they read to the rest: one that lends a value, one that lends it beside a number, and one that gives
-- nothing.

abbrev pub GivesLent : {S : Type 0} → Result (Bor (List ℕ)) ExchangeFault → S → Result (List ℕ × S) ExchangeFault → Type 0
GivesLent (Ok x) rest read = read ≡ Ok (x.now, rest)
GivesLent (Err e) rest read = read ≡ Err e

abbrev pub GivesFound : {S : Type 0} → Result (ℕ × Bor (List ℕ)) ExchangeFault → S → Result ((ℕ × List ℕ) × S) ExchangeFault → Type 0
GivesFound (Ok x) rest read = read ≡ Ok ((x.0, x.1.now), rest)
GivesFound (Err e) rest read = read ≡ Err e

abbrev pub Moves : {S : Type 0} → Result (Unit {0}) ExchangeFault → S → Result S ExchangeFault → Type 0
Moves (Ok u) rest read = read ≡ Ok rest
Moves (Err e) rest read = read ≡ Err e

-- ---- A call that answers what reading gives, unless memory ran out.

abbrev pub Fails : {Y : Type 0} → ExchangeFault → Result Y ExchangeFault → Type 0
Fails Memory read = Unit {0}
Fails e read = read ≡ Err e

abbrev pub Answers : {X : Type 0} → Result X ExchangeFault → Result X ExchangeFault → Type 0
Answers (Ok x) read = read ≡ Ok x
Answers (Err e) read = Fails e read
