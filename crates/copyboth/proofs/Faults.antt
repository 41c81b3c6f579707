-- Where the faults of a body stand: reading field by field fails just where too few bytes are there, or too many.
use Rattle.std.proofs.Common.{◌≡◌, ℕ, ℤ, ◌+◌, Bool, true, false, cond, ltb, eqb, List, [], ◌∷◌, length, take, drop, Option, Some, None, Result, Ok, Err, refl, sym, subst, arith}
use Rattle.std.specs.Option.{ok_or}
use Rattle.std.specs.Int.{w64, from_be_bytes, cast_signed}
use Rattle.std.proofs.lemmas.Bool.{ltb-true, ltb-false, lt-ltb, le-ltb}
use Rattle.std.proofs.lemmas.List.{length-drop}
use Rattle.pqformat.specs.Steps.{◌>>=◌, signed_at}
use Rattle.copyboth.specs.declared.keepalive.TheConstants.{KEEPALIVE}
use Rattle.copyboth.specs.declared.xlogdata.TheConstants.{XLOGDATA}
use Rattle.copyboth.specs.declared.status.TheConstants.{STATUS}
use Rattle.copyboth.specs.declared.server_body.ServerBody.TheVariants as bodies
use Rattle.copyboth.specs.declared.fault.CopyFault.{CopyFault}
use Rattle.copyboth.specs.declared.fault.CopyFault.TheVariants.{Short, UnknownKind}
use Rattle.copyboth.specs.Server.{at_least, exactly, server_fault}
use Rattle.copyboth.specs.Status.{client_fault}
use Rattle.copyboth.specs.Reading.{FaultIs, int64_at, ask_at, nothing_left, xlogdata_at, keepalive_at, status_at, server_at, client_at}

-- ---- what is due, after a number

shorter : (n : ℕ) (bytes : List ℕ) → ltb (length bytes) 8 ≡ false → (b : Bool) → ltb (length (drop 8 bytes)) n ≡ b → ltb (length bytes) (8 + n) ≡ b
shorter n bytes there true e = lt-ltb (length bytes) (8 + n) (omega (arith, ltb-true _ _ e, ltb-false _ _ there, length-drop 8 bytes))
shorter n bytes there false e = le-ltb (length bytes) (8 + n) (omega (arith, ltb-false _ _ e, ltb-false _ _ there, length-drop 8 bytes))

longer : (n : ℕ) (bytes : List ℕ) → ltb (length bytes) 8 ≡ false → (b : Bool) → ltb n (length (drop 8 bytes)) ≡ b → ltb (8 + n) (length bytes) ≡ b
longer n bytes there true e = lt-ltb (8 + n) (length bytes) (omega (arith, ltb-true _ _ e, ltb-false _ _ there, length-drop 8 bytes))
longer n bytes there false e = le-ltb (8 + n) (length bytes) (omega (arith, ltb-false _ _ e, ltb-false _ _ there, length-drop 8 bytes))

abbrev behind : List ℕ → Option CopyFault → Option CopyFault
behind bytes fault = cond (ltb (length bytes) 8) (Some Short) fault

at_least_after : (n : ℕ) (bytes : List ℕ) → at_least (8 + n) bytes ≡ behind bytes (at_least n (drop 8 bytes))
at_least_after n bytes = by_test (ltb (length bytes) 8) refl
  where
    by_test : (b : Bool) → ltb (length bytes) 8 ≡ b → at_least (8 + n) bytes ≡ cond b (Some Short) (at_least n (drop 8 bytes))
    by_test true e = rw (lt-ltb (length bytes) (8 + n) (omega (arith, ltb-true _ _ e))) refl
    by_test false e = rw (shorter n bytes e (ltb (length (drop 8 bytes)) n) refl) refl

exactly_after : (n : ℕ) (bytes : List ℕ) → exactly (8 + n) bytes ≡ behind bytes (exactly n (drop 8 bytes))
exactly_after n bytes = by_test (ltb (length bytes) 8) refl
  where
    by_test : (b : Bool) → ltb (length bytes) 8 ≡ b → exactly (8 + n) bytes ≡ cond b (Some Short) (exactly n (drop 8 bytes))
    by_test true e = rw (lt-ltb (length bytes) (8 + n) (omega (arith, ltb-true _ _ e))) refl
    by_test false e = rw (shorter n bytes e (ltb (length (drop 8 bytes)) n) refl, longer n bytes e (ltb n (length (drop 8 bytes))) refl) refl

-- ---- reading a field

int64_fault : {X : Type 0} (bytes : List ℕ) (k : ℕ × List ℕ → Result X CopyFault) (fault : Option CopyFault)
    → ((v : ℕ) → FaultIs (k (v, drop 8 bytes)) fault) → FaultIs (int64_at bytes >>= k) (behind bytes fault)
int64_fault bytes k fault after = by_test (ltb (length bytes) 8)
  where
    by_test : (b : Bool) → FaultIs (ok_or (cond b None (Some (from_be_bytes w64 (take 8 bytes), drop 8 bytes))) Short >>= k) (cond b (Some Short) fault)
    by_test true = refl
    by_test false = after (from_be_bytes w64 (take 8 bytes))

abbrev signed_from : ℕ × List ℕ → Result (ℤ × List ℕ) CopyFault
signed_from n = Ok (cast_signed w64 n.0, n.1)

signed_fault : {X : Type 0} (bytes : List ℕ) (k : ℤ × List ℕ → Result X CopyFault) (fault : Option CopyFault)
    → ((v : ℤ) → FaultIs (k (v, drop 8 bytes)) fault) → FaultIs (signed_at Short w64 bytes >>= k) (behind bytes fault)
signed_fault {X} bytes k fault after = by_test (ltb (length bytes) 8)
  where
    by_test : (b : Bool) → FaultIs ((ok_or (cond b None (Some (from_be_bytes w64 (take 8 bytes), drop 8 bytes))) Short >>= signed_from) >>= k) (cond b (Some Short) fault)
    by_test true = refl
    by_test false = after (cast_signed w64 (from_be_bytes w64 (take 8 bytes)))

-- the last byte, and nothing after it
ask_fault : {X : Type 0} (bytes : List ℕ) (make : Bool → X) → FaultIs (ask_at bytes >>= λ ask. nothing_left ask.1 >>= λ done. Ok (make ask.0)) (exactly 1 bytes)
ask_fault [] make = refl
ask_fault (b ∷ []) make = refl
ask_fault (b ∷ c ∷ rest) make = rw (le-ltb (length (b ∷ c ∷ rest)) 1 (omega arith), lt-ltb 1 (length (b ∷ c ∷ rest)) (omega arith)) refl

mapped_fault : {X Y : Type 0} (r : Result X CopyFault) (f : X → Y) (fault : Option CopyFault) → FaultIs r fault → FaultIs (r >>= λ x. Ok (f x)) fault
mapped_fault (Ok x) f fault h = h
mapped_fault (Err e) f fault h = h

-- ---- bodies

xlogdata_fault : (bytes : List ℕ) → FaultIs (xlogdata_at bytes) (at_least 24 bytes)
xlogdata_fault bytes =
    subst (FaultIs (xlogdata_at bytes)) (sym (at_least_after 16 bytes)) (int64_fault bytes _ _ (λ start.
    subst (FaultIs _) (sym (at_least_after 8 (drop 8 bytes))) (int64_fault (drop 8 bytes) _ _ (λ end.
    subst (FaultIs _) (sym (at_least_after 0 (drop 8 (drop 8 bytes)))) (signed_fault (drop 8 (drop 8 bytes)) _ _ (λ clock. none_due (drop 8 (drop 8 (drop 8 bytes)))))))))
  where
    none_due : (rest : List ℕ) → at_least 0 rest ≡ None
    none_due rest = rw (le-ltb (length rest) 0 (omega arith)) refl

keepalive_fault : (bytes : List ℕ) → FaultIs (keepalive_at bytes) (exactly 17 bytes)
keepalive_fault bytes =
    subst (FaultIs (keepalive_at bytes)) (sym (exactly_after 9 bytes)) (int64_fault bytes _ _ (λ end.
    subst (FaultIs _) (sym (exactly_after 1 (drop 8 bytes))) (signed_fault (drop 8 bytes) _ _ (λ clock.
    ask_fault (drop 8 (drop 8 bytes)) (λ ask. record { end = end; clock = clock; ask = ask })))))

status_fault : (bytes : List ℕ) → FaultIs (status_at bytes) (exactly 33 bytes)
status_fault bytes =
    subst (FaultIs (status_at bytes)) (sym (exactly_after 25 bytes)) (int64_fault bytes _ _ (λ written.
    subst (FaultIs _) (sym (exactly_after 17 (drop 8 bytes))) (int64_fault (drop 8 bytes) _ _ (λ flushed.
    subst (FaultIs _) (sym (exactly_after 9 (drop 8 (drop 8 bytes)))) (int64_fault (drop 8 (drop 8 bytes)) _ _ (λ applied.
    subst (FaultIs _) (sym (exactly_after 1 (drop 8 (drop 8 (drop 8 bytes))))) (signed_fault (drop 8 (drop 8 (drop 8 bytes))) _ _ (λ clock.
    ask_fault (drop 8 (drop 8 (drop 8 (drop 8 bytes)))) (λ ask. record { written = written; flushed = flushed; applied = applied; clock = clock; ask = ask })))))))))

pub server_fault_is : (bytes : List ℕ) → FaultIs (server_at bytes) (server_fault bytes)
server_fault_is [] = refl
server_fault_is (b ∷ rest) = by_kind (eqb b XLOGDATA) (eqb b KEEPALIVE)
  where
    by_kind : (is_data is_keepalive : Bool) → FaultIs (cond is_data (xlogdata_at rest >>= λ m. Ok (bodies.XLogData m)) (cond is_keepalive (keepalive_at rest >>= λ k. Ok (bodies.Keepalive k)) (Err UnknownKind)))
        (cond is_data (at_least 24 rest) (cond is_keepalive (exactly 17 rest) (Some UnknownKind)))
    by_kind true y = mapped_fault (xlogdata_at rest) (λ m. bodies.XLogData m) _ (xlogdata_fault rest)
    by_kind false true = mapped_fault (keepalive_at rest) (λ k. bodies.Keepalive k) _ (keepalive_fault rest)
    by_kind false false = refl

pub client_fault_is : (bytes : List ℕ) → FaultIs (client_at bytes) (client_fault bytes)
client_fault_is [] = refl
client_fault_is (b ∷ rest) = by_kind (eqb b STATUS)
  where
    by_kind : (is : Bool) → FaultIs (cond is (status_at rest) (Err UnknownKind)) (cond is (exactly 33 rest) (Some UnknownKind))
    by_kind true = status_fault rest
    by_kind false = refl
