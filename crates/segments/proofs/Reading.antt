-- What is spelled is read again, and what is read was spelled so.
use Rattle.std.proofs.Common.{◌≡◌, zero, suc, ℕ, ◌+◌, ◌-◌, ◌<◌, ◌≤◌, ◌^◌, inl, inr, Bool, true, false, cond, eqb, List, [], ◌∷◌, ◌++◌, length, take, drop, Some, Result, Ok, Err, refl, sym, ap, subst, ◌∙◌, append_assoc, arith}
use Rattle.std.specs.Int.{w32, w64}
use Rattle.std.specs.List.{AllByRecursion}
use Rattle.std.proofs.lemmas.Bool.{cases_lt, eqb-true, eq-eqb, ltb-false, ltb-true}
use Rattle.std.proofs.lemmas.List.{drop_at, get_or_append_left, get_or_past, length-append, take-append-drop, take_all, take_at}
use Rattle.std.proofs.lemmas.List.Concat.{flat_map-cons}
use Rattle.std.specs.Prelude.{nat_lt}
use Rattle.std.specs.Bool.{MatchBool}
use mathlib.Core.List.{IsPrefix}
use Rattle.pqformat.specs.Fields.{bytes_at, int32, int64, number_at}
use Rattle.pqformat.specs.Steps.{◌>>=◌}
use Rattle.pqformat.proofs.Codec.{IsBytes, IsBytes-drop, Takes, bind_ok, done, ok_is}
use Rattle.pqformat.proofs.Numbers.{bytes_codec, length-int32, length-int64, number32, number64}
use Rattle.sqlite_disk.specs.Digest.{digest}
use Rattle.segments.specs.Contents.{Tells}
use Rattle.segments.specs.Entries.{Fits, Reads, ReadsTo, Written, entries, entry, entry_at, header, payload, signature, tested, there}
use Rattle.segments.specs.declared.header.TheConstants.{MAGIC, VERSION}

unit : Unit {0}
unit = tt

abbrev nobytes : List ℕ
nobytes = []

pub payload_length : (e : Written) → length (payload e) ≡ 8 + length e.body
payload_length e = omega (arith, length-append (int64 e.synced) e.body, length-int64 e.synced)

pub entry_some : (key : ℕ) (e : Written) → 0 < length (entry key e)
entry_some key e = omega (arith, length-append (int32 (length (payload e))) (int64 (digest key (payload e)) ++ payload e), length-int32 (length (payload e)))

signature_length : (key : ℕ) → length (signature key) ≡ 20
signature_length key = omega (arith, length-append (int64 MAGIC) (int32 VERSION ++ int64 key), length-append (int32 VERSION) (int64 key), length-int64 MAGIC, length-int32 VERSION, length-int64 key)

pub header_length : (key : ℕ) → length (header key) ≡ 28
header_length key = omega (arith, length-append (signature key) (int64 (digest key (signature key))), signature_length key, length-int64 (digest key (signature key)))

-- an entry that stands at the front is read, whatever follows it
pub read_again : (key : ℕ) (e : Written) (rest : List ℕ) → Fits key e → entry_at key (entry key e ++ rest) ≡ Ok (e, rest)
read_again key e rest fits =
    let p = payload e in
    let d = digest key p in
    let n = length p in
    let parts : entry key e ++ rest ≡ int32 n ++ (int64 d ++ (p ++ rest)) = append_assoc (int32 n) (int64 d ++ p) rest ∙ ap (λ (l : List ℕ). int32 n ++ l) (append_assoc (int64 d) p rest) in
    let one = (number32 unit).again n (int64 d ++ (p ++ rest)) fits.0 in
    let two = (number64 unit).again d (p ++ rest) fits.1 in
    let three = (bytes_codec unit n).again p rest refl in
    let four : tested key d (p, rest) ≡ Ok (e, rest) = rw (eq-eqb d d refl, (number64 unit).again e.synced e.body fits.2) refl in
    ap (entry_at key) parts ∙ rw (one, two, three) four

-- what a header signs was spelled so where it is read
pub signature_read : (bytes a b rest : List ℕ) (m v key : ℕ) → IsBytes bytes → number_at w64 bytes ≡ Some (m, a) → number_at w32 a ≡ Some (v, b) → number_at w64 b ≡ Some (key, rest) → m ≡ MAGIC → v ≡ VERSION → take 20 bytes ≡ signature key
signature_read bytes a b rest m v key fits one two three is_m is_v =
    let first = (number64 unit).takes bytes m a fits (ap there one) in
    let second = (number32 unit).takes a v b first.0.rest_fits (ap there two) in
    let third = (number64 unit).takes b key rest second.0.rest_fits (ap there three) in
    let front = int64 m ++ (int32 v ++ int64 key) in
    let whole : bytes ≡ front ++ rest =
    first.0.parts ∙ ap (λ (l : List ℕ). int64 m ++ l) (second.0.parts ∙ ap (λ (l : List ℕ). int32 v ++ l) third.0.parts ∙ sym (append_assoc (int32 v) (int64 key) rest)) ∙ sym (append_assoc (int64 m) (int32 v ++ int64 key) rest) in
    let size : length front ≡ 20 = omega (arith, length-append (int64 m) (int32 v ++ int64 key), length-append (int32 v) (int64 key), length-int64 m, length-int32 v, length-int64 key) in
    ap (take 20) whole ∙ take_at front rest 20 size ∙ ap (λ (l : List ℕ). l ++ (int32 v ++ int64 key)) (ap int64 is_m) ∙ ap (λ (l : List ℕ). int64 MAGIC ++ (l ++ int64 key)) (ap int32 is_v)

-- a header that is read was spelled so
pub header_read : (bytes front rest after : List ℕ) (wanted key : ℕ) → IsBytes bytes → bytes_at 20 bytes ≡ Some (front, rest) → number_at w64 rest ≡ Some (wanted, after) → take 20 front ≡ signature key → digest key front ≡ wanted
    → (take 28 bytes ≡ header key) × (28 ≤ length bytes)
header_read bytes front rest after wanted key fits one two is same =
    let first = (bytes_codec unit 20).takes bytes front rest fits (ap there one) in
    let second = (number64 unit).takes rest wanted after first.0.rest_fits (ap there two) in
    let is_front : front ≡ signature key = sym (take_all 20 front (omega (arith, first.1))) ∙ is in
    let spelled : front ++ int64 wanted ≡ header key = ap (λ (n : ℕ). front ++ int64 n) (sym same) ∙ ap (λ (l : List ℕ). l ++ int64 (digest key l)) is_front in
    let whole : bytes ≡ header key ++ after = first.0.parts ∙ ap (λ (l : List ℕ). front ++ l) second.0.parts ∙ sym (append_assoc front (int64 wanted) after) ∙ ap (λ (l : List ℕ). l ++ after) spelled in
    (ap (take 28) whole ∙ take_at (header key) after 28 (header_length key), omega (arith, ap length whole, length-append (header key) after, header_length key))

nothing_dropped : (n : ℕ) → drop n nobytes ≡ nobytes
nothing_dropped zero = refl
nothing_dropped (suc n) = refl

drop_drop : (a b : ℕ) (l : List ℕ) → drop (a + b) l ≡ drop b (drop a l)
drop_drop zero b l = let is : zero + b ≡ b = omega arith in ap (λ (n : ℕ). drop n l) is
drop_drop (suc a) b [] = nothing_dropped (suc a + b) ∙ sym (nothing_dropped b)
drop_drop (suc a) b (x ∷ l) = let is : suc a + b ≡ suc (a + b) = omega arith in ap (λ (n : ℕ). drop n (x ∷ l)) is ∙ drop_drop a b l

bytes_front : (front rest : List ℕ) → IsBytes (front ++ rest) → IsBytes front
bytes_front front rest fits i = elim (cases_lt i (length front)) [
  | inl low ↦ subst (λ (n : ℕ). n < 256) (get_or_append_left front rest 0 i low) (fits i)
  | inr high ↦ rw (get_or_past front i 0 high) (omega arith)
]

tested_ok : {A : Type 0} (b : Bool) (r : Result A (Unit {0})) (y : A) → cond b r (Err tt) ≡ Ok y → (b ≡ true) × (r ≡ Ok y)
tested_ok true r y is = (refl, is)
tested_ok false r y is = absurd cc

-- an entry that is read was spelled so
pub read_takes : (key : ℕ) (bytes : List ℕ) (e : Written) (rest : List ℕ) → IsBytes bytes → entry_at key bytes ≡ Ok (e, rest) → Takes bytes (entry key e) rest × Fits key e
read_takes key bytes e rest fits is =
    let one = bind_ok (there (number_at w32 bytes)) (λ n. there (number_at w64 n.1) >>= λ d. there (bytes_at n.0 d.1) >>= tested key d.0) (e, rest) is in
    let n = one.0 in
    let first = (number32 unit).takes bytes n.0 n.1 fits one.1 in
    let two = bind_ok (there (number_at w64 n.1)) (λ d. there (bytes_at n.0 d.1) >>= tested key d.0) (e, rest) one.2 in
    let d = two.0 in
    let second = (number64 unit).takes n.1 d.0 d.1 first.0.rest_fits two.1 in
    let three = bind_ok (there (bytes_at n.0 d.1)) (tested key d.0) (e, rest) two.2 in
    let p = three.0 in
    let third = (bytes_codec unit n.0).takes d.1 p.0 p.1 second.0.rest_fits three.1 in
    let passed = tested_ok (eqb (digest key p.0) d.0) (there (number_at w64 p.0) >>= λ s. Ok (record { synced = s.0; body = s.1 }, p.1)) (e, rest) three.2 in
    let four = bind_ok (there (number_at w64 p.0)) (λ s. Ok (record { synced = s.0; body = s.1 }, p.1)) (e, rest) passed.1 in
    let s = four.0 in
    let fourth = (number64 unit).takes p.0 s.0 s.1 (bytes_front p.0 p.1 (subst IsBytes third.0.parts second.0.rest_fits)) four.1 in
    let found : Written = record { synced = s.0; body = s.1 } in
    let made : Written × List ℕ = (found, p.1) in
    let whole : bytes ≡ int32 n.0 ++ (int64 d.0 ++ (p.0 ++ p.1)) = first.0.parts ∙ ap (λ (l : List ℕ). int32 n.0 ++ l) (second.0.parts ∙ ap (λ (l : List ℕ). int64 d.0 ++ l) third.0.parts) in
    let regrouped : int32 n.0 ++ (int64 d.0 ++ (p.0 ++ p.1)) ≡ (int32 n.0 ++ (int64 d.0 ++ p.0)) ++ p.1 =
    ap (λ (l : List ℕ). int32 n.0 ++ l) (sym (append_assoc (int64 d.0) p.0 p.1)) ∙ sym (append_assoc (int32 n.0) (int64 d.0 ++ p.0) p.1) in
    let spelled : int32 n.0 ++ (int64 d.0 ++ p.0) ≡ entry key found =
    ap (λ (m : ℕ). int32 m ++ (int64 d.0 ++ p.0)) (sym third.1) ∙ ap (λ (m : ℕ). int32 (length p.0) ++ (int64 m ++ p.0)) (sym (eqb-true (digest key p.0) d.0 passed.0))
    ∙ ap (λ (l : List ℕ). int32 (length l) ++ (int64 (digest key l) ++ l)) fourth.0.parts in
    let front : Takes bytes (entry key found) p.1 = record { parts = whole ∙ regrouped ∙ ap (λ (l : List ℕ). l ++ p.1) spelled; rest_fits = third.0.rest_fits } in
    let is_digest : d.0 ≡ digest key (payload found) = sym (eqb-true (digest key p.0) d.0 passed.0) ∙ ap (digest key) fourth.0.parts in
    let is_length : n.0 ≡ length (payload found) = sym third.1 ∙ ap length fourth.0.parts in
    let fits_found : Fits key found = (subst (λ (m : ℕ). m < 2 ^ 32) is_length first.1, subst (λ (m : ℕ). m < 2 ^ 64) is_digest second.1, fourth.1) in
    let P : Written × List ℕ → Type 0 = λ y. Takes bytes (entry key y.0) y.1 × Fits key y.0 in
    subst P (ok_is (Unit {0}) made (e, rest) four.2) (front, fits_found)

pub reads_more : (key : ℕ) (es : List Written) (bytes middle rest : List ℕ) (e : Written) → ReadsTo key es bytes middle → entry_at key middle ≡ Ok (e, rest) → ReadsTo key (es ++ e ∷ []) bytes rest
reads_more key [] bytes middle rest e is at = (rest, ap (entry_at key) (sym is) ∙ at, refl)
reads_more key (d ∷ es) bytes middle rest e to at = (to.0, to.1, reads_more key es to.0 middle rest e to.2 at)

-- what follows an entry that is read
pub rest_after : (key : ℕ) (bytes middle rest : List ℕ) (e : Written) → IsBytes bytes → length middle ≤ length bytes → middle ≡ drop (length bytes - length middle) bytes → entry_at key middle ≡ Ok (e, rest)
    → (length rest < length middle) × (rest ≡ drop (length bytes - length rest) bytes)
rest_after key bytes middle rest e fits within is at =
    let at_middle = length bytes - length middle in
    let t = (read_takes key middle e rest (subst IsBytes (sym is) (IsBytes-drop at_middle bytes fits)) at).0 in
    let size : length middle ≡ length (entry key e) + length rest = ap length t.parts ∙ length-append (entry key e) rest in
    let some = entry_some key e in
    let dropped : rest ≡ drop (length (entry key e)) middle = sym (ap (drop (length (entry key e))) t.parts ∙ drop_at (entry key e) rest (length (entry key e)) refl) in
    let sum : at_middle + length (entry key e) ≡ length bytes - length rest = omega (arith, size, within) in
    (omega (arith, size, some), dropped ∙ ap (drop (length (entry key e))) is ∙ sym (drop_drop at_middle (length (entry key e)) bytes) ∙ ap (λ (n : ℕ). drop n bytes) sum)

-- WHAT IS FOUND AGAIN

abbrev nothing_read : Result (Written × List ℕ) (Unit {0})
nothing_read = Err tt

never_read : (x : Written × List ℕ) → nothing_read ≡ Ok x → ⊥
never_read x is = cc

pub found_again : (key : ℕ) (es found : List Written) (bytes tail rest : List ℕ) → AllByRecursion (Fits key) es → bytes ≡ entries key es ++ tail → Reads key found bytes rest → IsPrefix es found
found_again key [] found bytes tail rest fit is reads = (found, refl)
found_again key (e ∷ es) found bytes tail rest fit is reads = by_found found reads (λ fs next is reads. found_again key es fs next tail rest fit.1 is reads)
  where
    at : entry_at key bytes ≡ Ok (e, entries key es ++ tail)
    at = ap (entry_at key) (is ∙ ap (λ (l : List ℕ). l ++ tail) (flat_map-cons (entry key) e es) ∙ append_assoc (entry key e) (entries key es) tail) ∙ read_again key e (entries key es ++ tail) fit.0

    by_found : (found : List Written) → Reads key found bytes rest → ((fs : List Written) (next : List ℕ) → next ≡ entries key es ++ tail → Reads key fs next rest → IsPrefix es fs) → IsPrefix (e ∷ es) found
    by_found [] reads again = absurd (never_read (e, entries key es ++ tail) (sym reads.1 ∙ ap (entry_at key) reads.0 ∙ at))
    by_found (f ∷ fs) reads again =
        let same : done (Unit {0}) (e, entries key es ++ tail) ≡ Ok (f, reads.0.0) = sym at ∙ reads.0.1 in
        let pair = ok_is (Unit {0}) (e, entries key es ++ tail) (f, reads.0.0) same in
        let first : e ≡ f = ap (λ (p : Written × List ℕ). p.0) pair in
        let next : reads.0.0 ≡ entries key es ++ tail = sym (ap (λ (p : Written × List ℕ). p.1) pair) in
        let more = again fs reads.0.0 next (reads.0.2, reads.1) in
        (more.0, ap (λ (d : Written). d ∷ (es ++ more.0)) first ∙ ap (λ (l : List Written). f ∷ l) more.1)

-- WHAT WAS READ WAS WRITTEN SO

pub reads_parts : (key : ℕ) (es : List Written) (bytes rest : List ℕ) → IsBytes bytes → ReadsTo key es bytes rest → (bytes ≡ entries key es ++ rest) × AllByRecursion (Fits key) es
reads_parts key [] bytes rest fits is = (sym is, tt)
reads_parts key (e ∷ es) bytes rest fits to =
    let t = read_takes key bytes e to.0 fits to.1 in
    let more = reads_parts key es to.0 rest t.0.rest_fits to.2 in
    (t.0.parts ∙ ap (λ (l : List ℕ). entry key e ++ l) more.0 ∙ sym (append_assoc (entry key e) (entries key es) rest) ∙ ap (λ (l : List ℕ). l ++ rest) (sym (flat_map-cons (entry key) e es)), (t.1, more.1))

-- a content up to where its entries end
pub front_of : (key end : ℕ) (es : List Written) (content rest : List ℕ) → IsBytes content → take 28 content ≡ header key → ReadsTo key es (drop 28 content) rest → end + length rest ≡ length content
    → (take end content ≡ header key ++ entries key es) × AllByRecursion (Fits key) es
front_of key end es content rest fits begins to is =
    let parts = reads_parts key es (drop 28 content) rest (IsBytes-drop 28 content fits) to in
    let front = header key ++ entries key es in
    let whole : content ≡ front ++ rest =
    sym (take-append-drop 28 content) ∙ ap (λ (l : List ℕ). l ++ drop 28 content) begins ∙ ap (λ (l : List ℕ). header key ++ l) parts.0 ∙ sym (append_assoc (header key) (entries key es) rest) in
    let size : length front ≡ end = omega (arith, ap length whole, length-append front rest, is) in
    (ap (take end) whole ∙ take_at front rest end size, parts.1)

-- WHAT AN ENTRY TELLS

pub tells_by : (key at : ℕ) (bytes next : List ℕ) (e : Written) → entry_at key bytes ≡ Ok (e, next) → MatchBool (nat_lt at e.synced) (Tells key bytes at) (Tells key bytes at → ⊥)
tells_by key at bytes next e is = by_test (nat_lt at e.synced) refl
  where
    by_test : (b : Bool) → nat_lt at e.synced ≡ b → MatchBool b (Tells key bytes at) (Tells key bytes at → ⊥)
    by_test true less = record { entry = e; next = next; stands = is; more = ltb-true at e.synced less }
    by_test false more = λ told.
        let same : done (Unit {0}) (e, next) ≡ Ok (told.entry, told.next) = sym is ∙ told.stands in
        let mark : e.synced ≡ told.entry.synced = ap (λ (p : Written × List ℕ). p.0.synced) (ok_is (Unit {0}) (e, next) (told.entry, told.next) same) in
        let high = told.more in
        omega (arith, mark, high, ltb-false at e.synced more)

-- no entry stands after a content's end
pub none_after : (key at later : ℕ) (content : List ℕ) → length content ≤ later → Tells key (drop later content) at → ⊥
none_after key at later content past told =
    never_read (told.entry, told.next) (sym (ap (entry_at key) (nothing_left later content past)) ∙ told.stands)
  where
    nothing_left : (n : ℕ) (l : List ℕ) → length l ≤ n → drop n l ≡ nobytes
    nothing_left n [] low = nothing_dropped n
    nothing_left zero (x ∷ l) low = absurd (omega (arith, low))
    nothing_left (suc n) (x ∷ l) low = nothing_left n l (omega (arith, low))
