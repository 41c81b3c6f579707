-- What the body of a CopyData says is read, and what says nothing is refused.
use Rattle.std.proofs.Common.{◌≡◌, ℕ, List, [], ◌++◌, Result, Ok, Err, sym, ap, subst, ◌∙◌}
use Rattle.std.specs.Result.{IsErrAnd}
use Rattle.copyboth.specs.declared.server_body.ServerBody.{ServerBody}
use Rattle.copyboth.specs.declared.server_body.ServerBody.TheVariants as bodies
use Rattle.copyboth.specs.declared.fault.CopyFault.{CopyFault}
use Rattle.copyboth.specs.XLogData.{XLogDataBody}
use Rattle.copyboth.specs.Server.{SpellsServer, SpellsXLogData}
use Rattle.copyboth.proofs.Bodies.{server_again}
use Rattle.pgoutput.specs.declared.logical.Logical.{Logical}
use Rattle.pgoutput.specs.Logical.{SpellsLogical}
use Rattle.pgoutput.proofs.Whole.{two_spellings}
use Rattle.pqformat.proofs.Codec.{ok_is}
use Rattle.pgoutput.specs.declared.copy_both_message.CopyBothMessage.{CopyBothMessage}
use Rattle.pgoutput.specs.declared.copy_both_message.CopyBothMessage.TheVariants as words
use Rattle.pgoutput.specs.declared.copy_both_message.XLogData.{XLogData}
use Rattle.client.specs.declared.fault.ClientFault.{ClientFault}
use Rattle.client.specs.declared.fault.ClientFault.TheVariants as faults
use Rattle.client.specs.Words.{Says, ReadsBody, ReadsMessage}

-- the body of a server that a word stands in
body_of : (body : List ℕ) (w : CopyBothMessage) → Says body w → (b : ServerBody) × SpellsServer body b
body_of body (words.Keepalive k) says = (bodies.Keepalive (record { end = k.position; clock = k.clock; ask = k.ask }), says)
body_of body (words.XLogData x) says = (bodies.XLogData (record { start = x.start; end = x.end; clock = x.clock; payload = says.0 }), says.1)

pub no_body : (body : List ℕ) (result : Result ServerBody CopyFault) (e : CopyFault) → ((b : ServerBody) → SpellsServer body b → result ≡ Ok b) → result ≡ Err e
    → (w : CopyBothMessage) → Says body w → ⊥
no_body body result e only is w says =
    let b = body_of body w says in
    let read : result ≡ Ok b.0 = only b.0 b.1 in
    absurd cc

-- of a body that is spelled there is one
same_body : (body : List ℕ) (a b : ServerBody) → SpellsServer body a → SpellsServer body b → a ≡ b
same_body body a b is_a is_b = ok_is CopyFault a b (sym (server_again body a is_a) ∙ server_again body b is_b)

same_message : (payload : List ℕ) (m n : Logical) → SpellsLogical payload m → SpellsLogical payload n → m ≡ n
same_message payload m n is_m is_n = (two_spellings m n [] [] is_m.in_range is_n.in_range (ap (λ (l : List ℕ). l ++ []) (sym is_m.text ∙ is_n.text))).0

payload_is : (a b : XLogDataBody) → bodies.XLogData a ≡ bodies.XLogData b → a ≡ b
payload_is a b e = cc

-- where the message of an XLogData can't be read, the body says no word
pub unread_message : (body : List ℕ) (m : XLogDataBody) (e : ClientFault) → SpellsXLogData body m → ReadsMessage m.payload (Err e) → ReadsBody body (Err e)
unread_message body m faults.Frame spelled no_message = by_word
  where
    by_word : (w : CopyBothMessage) → Says body w → ⊥
    by_word (words.Keepalive k) says =
        let other : ServerBody = bodies.Keepalive (record { end = k.position; clock = k.clock; ask = k.ask }) in
        let same : bodies.XLogData m ≡ other = same_body body (bodies.XLogData m) other spelled says in
        absurd cc
    by_word (words.XLogData x) says =
        let own : XLogDataBody = record { start = x.start; end = x.end; clock = x.clock; payload = says.0 } in
        let same : m ≡ own = payload_is m own (same_body body (bodies.XLogData m) (bodies.XLogData own) spelled says.1) in
        no_message x.message (subst (λ (l : List ℕ). SpellsLogical l x.message) (ap (λ (b : XLogDataBody). b.payload) (sym same)) says.2)
unread_message body m faults.Memory spelled unread = (m, spelled, unread)
unread_message body m faults.Order spelled unread = absurd unread
unread_message body m faults.UnknownRelation spelled unread = absurd unread
unread_message body m faults.CommitEnd spelled unread = absurd unread
unread_message body m faults.Server spelled unread = absurd unread

-- a fault that is passed on
pub passed_on : (body : List ℕ) (r : Result CopyBothMessage ClientFault) (e : ClientFault) → IsErrAnd r (λ d. d ≡ e) → ReadsBody body (Err e) → ReadsBody body r
passed_on body (Ok w) e no_err read = absurd no_err
passed_on body (Err d) e is read = subst (λ (f : ClientFault). ReadsBody body (Err f)) (sym is) read

-- A body says one word.
pub says_once : (body : List ℕ) (w v : CopyBothMessage) → Says body w → Says body v → w ≡ v
says_once body (words.Keepalive k) (words.Keepalive l) is_k is_l =
    let a : ServerBody = bodies.Keepalive (record { end = k.position; clock = k.clock; ask = k.ask }) in
    let b : ServerBody = bodies.Keepalive (record { end = l.position; clock = l.clock; ask = l.ask }) in
    ap word_in (same_body body a b is_k is_l)
  where
    word_in : ServerBody → CopyBothMessage
    word_in (bodies.Keepalive k) = words.Keepalive (record { position = k.end; clock = k.clock; ask = k.ask })
    word_in (bodies.XLogData x) = words.Keepalive k
says_once body (words.Keepalive k) (words.XLogData x) is_k is_x =
    let a : ServerBody = bodies.Keepalive (record { end = k.position; clock = k.clock; ask = k.ask }) in
    let b : ServerBody = bodies.XLogData (record { start = x.start; end = x.end; clock = x.clock; payload = is_x.0 }) in
    let same : a ≡ b = same_body body a b is_k is_x.1 in
    absurd cc
says_once body (words.XLogData x) (words.Keepalive k) is_x is_k =
    let a : ServerBody = bodies.Keepalive (record { end = k.position; clock = k.clock; ask = k.ask }) in
    let b : ServerBody = bodies.XLogData (record { start = x.start; end = x.end; clock = x.clock; payload = is_x.0 }) in
    let same : b ≡ a = same_body body b a is_x.1 is_k in
    absurd cc
says_once body (words.XLogData x) (words.XLogData y) is_x is_y =
    let a : XLogDataBody = record { start = x.start; end = x.end; clock = x.clock; payload = is_x.0 } in
    let b : XLogDataBody = record { start = y.start; end = y.end; clock = y.clock; payload = is_y.0 } in
    let same : a ≡ b = payload_is a b (same_body body (bodies.XLogData a) (bodies.XLogData b) is_x.1 is_y.1) in
    let messages = same_message is_x.0 x.message y.message is_x.2 (subst (λ (l : List ℕ). SpellsLogical l y.message) (ap (λ (c : XLogDataBody). c.payload) (sym same)) is_y.2) in
    ap (λ (m : Logical). with_message x m) messages ∙ ap (λ (c : XLogDataBody). word_with c y.message) same
  where
    with_message : XLogData → Logical → CopyBothMessage
    with_message x m = words.XLogData (record { start = x.start; end = x.end; clock = x.clock; message = m })

    word_with : XLogDataBody → Logical → CopyBothMessage
    word_with c m = words.XLogData (record { start = c.start; end = c.end; clock = c.clock; message = m })
