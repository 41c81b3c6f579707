-- A body is read as it is spelled, and what is spelled is read.
use Rattle.std.proofs.Common.{◌≡◌, ℕ, ℤ, Bool, true, false, cond, eqb, List, [], ◌∷◌, ◌++◌, Result, Ok, Err, refl, sym, ap, subst, ◌∙◌}
use Rattle.std.specs.Prelude.{IfOk}
use Rattle.std.specs.Int.{w64, cast_unsigned}
use Rattle.std.proofs.lemmas.Bool.{eqb-true}
use Rattle.pqformat.specs.Fields.{int64}
use Rattle.pqformat.specs.Steps.{◌>>=◌, signed_at}
use Rattle.pqformat.proofs.Codec.{IsBytes, IsBytes-rest, bind_ok, ok_is}
use Rattle.pqformat.proofs.Numbers.{number64, signed64}
use Rattle.copyboth.specs.declared.keepalive.Keepalive.{Keepalive}
use Rattle.copyboth.specs.declared.keepalive.TheConstants.{KEEPALIVE, ASKS}
use Rattle.copyboth.specs.declared.xlogdata.TheConstants.{XLOGDATA}
use Rattle.copyboth.specs.declared.status.TheConstants.{STATUS}
use Rattle.copyboth.specs.declared.status.Status.{Status}
use Rattle.copyboth.specs.declared.server_body.ServerBody.{ServerBody}
use Rattle.copyboth.specs.declared.server_body.ServerBody.TheVariants as bodies
use Rattle.copyboth.specs.declared.fault.CopyFault.{CopyFault}
use Rattle.copyboth.specs.declared.fault.CopyFault.TheVariants.{Short, UnknownKind}
use Rattle.copyboth.specs.XLogData.{XLogDataBody}
use Rattle.copyboth.specs.Server.{SpellsServer, SpellsXLogData, SpellsKeepalive}
use Rattle.copyboth.specs.Status.{SpellsStatus}
use Rattle.copyboth.specs.Reading.{int64_at, ask_at, nothing_left, xlogdata_at, keepalive_at, status_at, server_at, client_at}

-- ---- XLogData

abbrev data_made : ℕ → ℕ → ℤ × List ℕ → Result XLogDataBody CopyFault
data_made start end clock = Ok (record { start = start; end = end; clock = clock.0; payload = clock.1 })

abbrev data_clock : ℕ → ℕ × List ℕ → Result XLogDataBody CopyFault
data_clock start end = signed_at Short w64 end.1 >>= data_made start end.0

abbrev data_end : ℕ × List ℕ → Result XLogDataBody CopyFault
data_end start = int64_at start.1 >>= data_clock start.0

data_takes : (rest : List ℕ) (m : XLogDataBody) → IsBytes rest → xlogdata_at rest ≡ Ok m → SpellsXLogData (XLOGDATA ∷ rest) m
data_takes rest m fits e =
    let a = bind_ok (int64_at rest) data_end m e in
    let t = (number64 Short).takes rest a.0.0 a.0.1 fits a.1 in
    let b = bind_ok (int64_at a.0.1) (data_clock a.0.0) m a.2 in
    let u = (number64 Short).takes a.0.1 b.0.0 b.0.1 t.0.rest_fits b.1 in
    let c = bind_ok (signed_at Short w64 b.0.1) (data_made a.0.0 b.0.0) m b.2 in
    let v = (signed64 Short).takes b.0.1 c.0.0 c.0.1 u.0.rest_fits c.1 in
    let made : XLogDataBody = record { start = a.0.0; end = b.0.0; clock = c.0.0; payload = c.0.1 } in
    let text : rest ≡ int64 a.0.0 ++ (int64 b.0.0 ++ (int64 (cast_unsigned w64 c.0.0) ++ c.0.1)) =
    t.0.parts ∙ ap (λ (l : List ℕ). int64 a.0.0 ++ l) (u.0.parts ∙ ap (λ (l : List ℕ). int64 b.0.0 ++ l) v.0.parts) in
    let P : XLogDataBody → Type 0 = λ n. SpellsXLogData (XLOGDATA ∷ rest) n in
    subst P (ok_is CopyFault made m c.2) (record { start = t.1; end = u.1; clock = v.1; text = ap (λ (l : List ℕ). XLOGDATA ∷ l) text })

-- ---- the last byte

ask_takes : {X : Type 0} (rest : List ℕ) (make : Bool → X) (x : X) → (ask_at rest >>= λ ask. nothing_left ask.1 >>= λ done. Ok (make ask.0)) ≡ Ok x
    → (b : ℕ) × (rest ≡ b ∷ []) × (make (eqb b ASKS) ≡ x)
ask_takes [] make x e = absurd cc
ask_takes (b ∷ []) make x e = (b, refl, ok_is CopyFault (make (eqb b ASKS)) x e)
ask_takes (b ∷ c ∷ rest) make x e = absurd cc

-- ---- keepalive

abbrev keepalive_made : ℕ → ℤ → Bool → Keepalive
keepalive_made end clock ask = record { end = end; clock = clock; ask = ask }

abbrev keepalive_ask : ℕ → ℤ × List ℕ → Result Keepalive CopyFault
keepalive_ask end clock = ask_at clock.1 >>= λ ask. nothing_left ask.1 >>= λ done. Ok (keepalive_made end clock.0 ask.0)

abbrev keepalive_clock : ℕ × List ℕ → Result Keepalive CopyFault
keepalive_clock end = signed_at Short w64 end.1 >>= keepalive_ask end.0

keepalive_takes : (rest : List ℕ) (k : Keepalive) → IsBytes rest → keepalive_at rest ≡ Ok k → SpellsKeepalive (KEEPALIVE ∷ rest) k
keepalive_takes rest k fits e =
    let a = bind_ok (int64_at rest) keepalive_clock k e in
    let t = (number64 Short).takes rest a.0.0 a.0.1 fits a.1 in
    let b = bind_ok (signed_at Short w64 a.0.1) (keepalive_ask a.0.0) k a.2 in
    let u = (signed64 Short).takes a.0.1 b.0.0 b.0.1 t.0.rest_fits b.1 in
    let c = ask_takes b.0.1 (keepalive_made a.0.0 b.0.0) k b.2 in
    let text : rest ≡ int64 a.0.0 ++ (int64 (cast_unsigned w64 b.0.0) ++ (c.0 ∷ [])) =
    t.0.parts ∙ ap (λ (l : List ℕ). int64 a.0.0 ++ l) (u.0.parts ∙ ap (λ (l : List ℕ). int64 (cast_unsigned w64 b.0.0) ++ l) c.1) in
    let P : Keepalive → Type 0 = λ n. SpellsKeepalive (KEEPALIVE ∷ rest) n in
    subst P c.2 (record { end = t.1; clock = u.1; ask = c.0; asks = refl; text = ap (λ (l : List ℕ). KEEPALIVE ∷ l) text })

-- ---- status

abbrev status_made : ℕ → ℕ → ℕ → ℤ → Bool → Status
status_made written flushed applied clock ask = record { written = written; flushed = flushed; applied = applied; clock = clock; ask = ask }

abbrev status_ask : ℕ → ℕ → ℕ → ℤ × List ℕ → Result Status CopyFault
status_ask written flushed applied clock = ask_at clock.1 >>= λ ask. nothing_left ask.1 >>= λ done. Ok (status_made written flushed applied clock.0 ask.0)

abbrev status_clock : ℕ → ℕ → ℕ × List ℕ → Result Status CopyFault
status_clock written flushed applied = signed_at Short w64 applied.1 >>= status_ask written flushed applied.0

abbrev status_applied : ℕ → ℕ × List ℕ → Result Status CopyFault
status_applied written flushed = int64_at flushed.1 >>= status_clock written flushed.0

abbrev status_flushed : ℕ × List ℕ → Result Status CopyFault
status_flushed written = int64_at written.1 >>= status_applied written.0

status_takes : (rest : List ℕ) (s : Status) → IsBytes rest → status_at rest ≡ Ok s → SpellsStatus (STATUS ∷ rest) s
status_takes rest s fits e =
    let a = bind_ok (int64_at rest) status_flushed s e in
    let t = (number64 Short).takes rest a.0.0 a.0.1 fits a.1 in
    let b = bind_ok (int64_at a.0.1) (status_applied a.0.0) s a.2 in
    let u = (number64 Short).takes a.0.1 b.0.0 b.0.1 t.0.rest_fits b.1 in
    let c = bind_ok (int64_at b.0.1) (status_clock a.0.0 b.0.0) s b.2 in
    let v = (number64 Short).takes b.0.1 c.0.0 c.0.1 u.0.rest_fits c.1 in
    let d = bind_ok (signed_at Short w64 c.0.1) (status_ask a.0.0 b.0.0 c.0.0) s c.2 in
    let w = (signed64 Short).takes c.0.1 d.0.0 d.0.1 v.0.rest_fits d.1 in
    let f = ask_takes d.0.1 (status_made a.0.0 b.0.0 c.0.0 d.0.0) s d.2 in
    let text : rest ≡ int64 a.0.0 ++ (int64 b.0.0 ++ (int64 c.0.0 ++ (int64 (cast_unsigned w64 d.0.0) ++ (f.0 ∷ [])))) =
    t.0.parts ∙ ap (λ (l : List ℕ). int64 a.0.0 ++ l) (u.0.parts ∙ ap (λ (l : List ℕ). int64 b.0.0 ++ l) (v.0.parts ∙ ap (λ (l : List ℕ). int64 c.0.0 ++ l)
    (w.0.parts ∙ ap (λ (l : List ℕ). int64 (cast_unsigned w64 d.0.0) ++ l) f.1))) in
    let P : Status → Type 0 = λ n. SpellsStatus (STATUS ∷ rest) n in
    subst P f.2 (record { written = t.1; flushed = u.1; applied = v.1; clock = w.1; ask = f.0; asks = refl; text = ap (λ (l : List ℕ). STATUS ∷ l) text })

-- ---- whole bodies

server_takes : (bytes : List ℕ) (s : ServerBody) → IsBytes bytes → server_at bytes ≡ Ok s → SpellsServer bytes s
server_takes [] s fits e = absurd cc
server_takes (b ∷ rest) s fits e = by_kind (eqb b XLOGDATA) refl (eqb b KEEPALIVE) refl e
  where
    by_kind : (x : Bool) → eqb b XLOGDATA ≡ x → (y : Bool) → eqb b KEEPALIVE ≡ y
        → cond x (xlogdata_at rest >>= λ m. Ok (bodies.XLogData m)) (cond y (keepalive_at rest >>= λ k. Ok (bodies.Keepalive k)) (Err UnknownKind)) ≡ Ok s → SpellsServer (b ∷ rest) s
    by_kind true is y _ e =
        let m = bind_ok (xlogdata_at rest) (λ m. Ok (bodies.XLogData m)) s e in
        let front : SpellsXLogData (b ∷ rest) m.0 = subst (λ (k : ℕ). SpellsXLogData (k ∷ rest) m.0) (sym (eqb-true b XLOGDATA is)) (data_takes rest m.0 (IsBytes-rest b rest fits) m.1) in
        subst (λ (z : ServerBody). SpellsServer (b ∷ rest) z) (ok_is CopyFault (bodies.XLogData m.0) s m.2) front
    by_kind false _ true is e =
        let m = bind_ok (keepalive_at rest) (λ k. Ok (bodies.Keepalive k)) s e in
        let front : SpellsKeepalive (b ∷ rest) m.0 = subst (λ (k : ℕ). SpellsKeepalive (k ∷ rest) m.0) (sym (eqb-true b KEEPALIVE is)) (keepalive_takes rest m.0 (IsBytes-rest b rest fits) m.1) in
        subst (λ (z : ServerBody). SpellsServer (b ∷ rest) z) (ok_is CopyFault (bodies.Keepalive m.0) s m.2) front
    by_kind false _ false _ e = absurd cc

pub server_found : (bytes : List ℕ) (result : Result ServerBody CopyFault) → IsBytes bytes → result ≡ server_at bytes → IfOk result (λ s. SpellsServer bytes s)
server_found bytes (Ok s) fits e = server_takes bytes s fits (sym e)
server_found bytes (Err d) fits e = tt

pub server_again : (bytes : List ℕ) (s : ServerBody) → SpellsServer bytes s → server_at bytes ≡ Ok s
server_again bytes (bodies.XLogData m) spelled =
    rw (
      spelled.text,
      (number64 Short).again m.start (int64 m.end ++ (int64 (cast_unsigned w64 m.clock) ++ m.payload)) spelled.start,
      (number64 Short).again m.end (int64 (cast_unsigned w64 m.clock) ++ m.payload) spelled.end,
      (signed64 Short).again m.clock m.payload spelled.clock,
    ) refl
server_again bytes (bodies.Keepalive k) spelled =
    rw (
      spelled.text,
      (number64 Short).again k.end (int64 (cast_unsigned w64 k.clock) ++ (spelled.ask ∷ [])) spelled.end,
      (signed64 Short).again k.clock (spelled.ask ∷ []) spelled.clock,
      ← spelled.asks,
    ) refl

client_takes : (bytes : List ℕ) (s : Status) → IsBytes bytes → client_at bytes ≡ Ok s → SpellsStatus bytes s
client_takes [] s fits e = absurd cc
client_takes (b ∷ rest) s fits e = by_kind (eqb b STATUS) refl e
  where
    by_kind : (x : Bool) → eqb b STATUS ≡ x → cond x (status_at rest) (Err UnknownKind) ≡ Ok s → SpellsStatus (b ∷ rest) s
    by_kind true is e = subst (λ (k : ℕ). SpellsStatus (k ∷ rest) s) (sym (eqb-true b STATUS is)) (status_takes rest s (IsBytes-rest b rest fits) e)
    by_kind false _ e = absurd cc

pub client_found : (bytes : List ℕ) (result : Result Status CopyFault) → IsBytes bytes → result ≡ client_at bytes → IfOk result (λ s. SpellsStatus bytes s)
client_found bytes (Ok s) fits e = client_takes bytes s fits (sym e)
client_found bytes (Err d) fits e = tt

pub client_again : (bytes : List ℕ) (s : Status) → SpellsStatus bytes s → client_at bytes ≡ Ok s
client_again bytes s spelled =
    rw (
      spelled.text,
      (number64 Short).again s.written (int64 s.flushed ++ (int64 s.applied ++ (int64 (cast_unsigned w64 s.clock) ++ (spelled.ask ∷ [])))) spelled.written,
      (number64 Short).again s.flushed (int64 s.applied ++ (int64 (cast_unsigned w64 s.clock) ++ (spelled.ask ∷ []))) spelled.flushed,
      (number64 Short).again s.applied (int64 (cast_unsigned w64 s.clock) ++ (spelled.ask ∷ [])) spelled.applied,
      (signed64 Short).again s.clock (spelled.ask ∷ []) spelled.clock,
      ← spelled.asks,
    ) refl
