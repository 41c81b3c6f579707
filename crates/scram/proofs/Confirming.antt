-- What confirms a client's exchange is the server's signature.
use Rattle.std.proofs.Common.{◌≡◌, Bool, true, false, cond, ℕ, List, Result, Ok, Err, refl, sym, ap, ◌∙◌, length, take}
use Rattle.std.specs.Prelude.{not, is_none, if◌then◌else◌, ◌==◌}
use Rattle.std.specs.List.{list_any}
use Rattle.std.specs.Option.{ok_or}
use Rattle.std.specs.Str.{bytes_eq}
use Rattle.std.specs.Cmp.Lexicographic.{bytes_decides}
use Rattle.base64.specs.Engines.{standard}
use Rattle.base64.specs.GeneralPurpose.{decoded_of}
use Rattle.scram.specs.Parts.{parted}
use Rattle.scram.specs.Challenges.{◌>>=◌, attribute_of, rounds_of, server_first_of}
use Rattle.scram.specs.ClientExchanges.{KnowsPassword, answer_to, answered, confirmed}
use Rattle.scram.specs.declared.client_side.client_exchange.ClientAnswer.{ClientAnswer}
use Rattle.scram.specs.declared.client_side.client_exchange.ClientExchange.{ClientExchange}
use Rattle.scram.specs.declared.client_side.server_first.ServerFirst.{ServerFirst}
use Rattle.scram.specs.declared.client_side.server_fault.ServerFault.{ServerFault}
use Rattle.scram.specs.declared.client_side.server_fault.ServerFault.TheVariants.{Malformed, Extension, Nonce, Salt, Rounds, Refused, Signature}

same : (a b : List ℕ) → bytes_eq a b ≡ true → a ≡ b
same a b is = (bytes_decides a b).0 is

bind_ok : {A B : Type 0} (r : Result A ServerFault) (f : A → Result B ServerFault) (y : B) → (r >>= f) ≡ Ok y → (x : A) × (r ≡ Ok x) × (f x ≡ Ok y)
bind_ok (Ok x) f y is = (x, refl, is)
bind_ok (Err e) f y is = absurd cc

-- what is read is of one's own nonce

abbrev after_count : List ℕ → List ℕ → List ℕ → Result ServerFirst ServerFault
after_count nonce salt count =
    if list_any (λ b. b == 44) count then Err Extension
    else (ok_or (rounds_of count) Rounds >>= λ rounds. Ok (record { nonce = nonce; salt = salt; rounds = rounds }))

kept_by_count : (nonce salt count : List ℕ) (first : ServerFirst) → after_count nonce salt count ≡ Ok first → first.nonce ≡ nonce
kept_by_count nonce salt count first is = by_test (list_any (λ b. b == 44) count) is
  where
    by_test : (b : Bool) → cond b (Err Extension) (ok_or (rounds_of count) Rounds >>= λ rounds. Ok (record { nonce = nonce; salt = salt; rounds = rounds })) ≡ Ok first → first.nonce ≡ nonce
    by_test true is = absurd cc
    by_test false is =
        let read = bind_ok (ok_or (rounds_of count) Rounds) (λ rounds. Ok (record { nonce = nonce; salt = salt; rounds = rounds })) first is in
        cc

abbrev after_nonce : List ℕ → List ℕ → List ℕ → List ℕ → Result ServerFirst ServerFault
after_nonce own nonce salt count =
    if not (bytes_eq (take (length own) nonce) own) then Err Nonce
    else (ok_or (attribute_of 115 salt) Malformed >>= λ coded.
    ok_or (decoded_of standard coded) Salt >>= λ salt.
    ok_or (attribute_of 105 count) Malformed >>= λ count. after_count nonce salt count)

own_by_nonce : (own nonce salt count : List ℕ) (first : ServerFirst) → after_nonce own nonce salt count ≡ Ok first → take (length own) first.nonce ≡ own
own_by_nonce own nonce salt count first is = by_test (bytes_eq (take (length own) nonce) own) refl is
  where
    by_test : (b : Bool) → bytes_eq (take (length own) nonce) own ≡ b → cond (not b) (Err Nonce) (ok_or (attribute_of 115 salt) Malformed >>= λ coded.
        ok_or (decoded_of standard coded) Salt >>= λ salt. ok_or (attribute_of 105 count) Malformed >>= λ count. after_count nonce salt count) ≡ Ok first → take (length own) first.nonce ≡ own
    by_test false other is = absurd cc
    by_test true begins is =
        let coded = bind_ok (ok_or (attribute_of 115 salt) Malformed) (λ coded. ok_or (decoded_of standard coded) Salt >>= λ salt. ok_or (attribute_of 105 count) Malformed >>= λ count. after_count nonce salt count) first is in
        let salted = bind_ok (ok_or (decoded_of standard coded.0) Salt) (λ salt. ok_or (attribute_of 105 count) Malformed >>= λ count. after_count nonce salt count) first coded.2 in
        let counted = bind_ok (ok_or (attribute_of 105 count) Malformed) (λ count. after_count nonce salted.0 count) first salted.2 in
        ap (take (length own)) (kept_by_count nonce salted.0 counted.0 first counted.2) ∙ same (take (length own) nonce) own begins

pub own_nonce : (own text : List ℕ) (first : ServerFirst) → server_first_of own text ≡ Ok first → take (length own) first.nonce ≡ own
unfolding server_first_of
own_nonce own text first is = by_test (not (is_none (attribute_of 109 text))) is
  where
    by_test : (b : Bool) → cond b (Err Extension) (ok_or (parted 44 text) Malformed >>= λ first. ok_or (parted 44 first.1) Malformed >>= λ second.
        ok_or (attribute_of 114 first.0) Malformed >>= λ nonce. after_nonce own nonce second.0 second.1) ≡ Ok first → take (length own) first.nonce ≡ own
    by_test true is = absurd cc
    by_test false is =
        let one = bind_ok (ok_or (parted 44 text) Malformed) (λ first. ok_or (parted 44 first.1) Malformed >>= λ second. ok_or (attribute_of 114 first.0) Malformed >>= λ nonce. after_nonce own nonce second.0 second.1) first is in
        let two = bind_ok (ok_or (parted 44 one.0.1) Malformed) (λ second. ok_or (attribute_of 114 one.0.0) Malformed >>= λ nonce. after_nonce own nonce second.0 second.1) first one.2 in
        let nonce = bind_ok (ok_or (attribute_of 114 one.0.0) Malformed) (λ nonce. after_nonce own nonce two.0.0 two.0.1) first two.2 in
        own_by_nonce own nonce.0 two.0.0 two.0.1 first nonce.2

-- what confirms is what is due

is_due : (answer : ClientAnswer) (said : List ℕ) → confirmed answer said ≡ Ok (tt {0}) → said ≡ answer.due
is_due answer said is = by_test (bytes_eq said answer.due) refl is
  where
    by_test : (b : Bool) → bytes_eq said answer.due ≡ b → cond b (Ok (tt {0})) (if not (is_none (attribute_of 101 said)) then Err Refused else Err Signature) ≡ Ok (tt {0}) → said ≡ answer.due
    by_test true right is = same said answer.due right
    by_test false wrong is = by_error (not (is_none (attribute_of 101 said))) is
      where
        by_error : (b : Bool) → cond b (Err Refused) (Err Signature) ≡ Ok (tt {0}) → said ≡ answer.due
        by_error true is = absurd cc
        by_error false is = absurd cc

pub confirmed_by_the_password : (password : List ℕ) (exchange : ClientExchange) (challenge said : List ℕ) (answer : ClientAnswer) → answered password exchange challenge ≡ Ok answer → confirmed answer said ≡ Ok (tt {0})
    → KnowsPassword password exchange challenge said
confirmed_by_the_password password exchange challenge said answer is right =
    let read = bind_ok (server_first_of exchange.nonce challenge) (λ first. Ok (answer_to password exchange challenge first)) answer is in
    let due : (answer_to password exchange challenge read.0).due ≡ answer.due = cc in
    record {
      first = read.0;
      spells = read.1;
      own = own_nonce exchange.nonce challenge read.0 read.1;
      signature = is_due answer said right ∙ sym due;
    }
