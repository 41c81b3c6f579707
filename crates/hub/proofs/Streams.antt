-- A stream that goes on call by call.
use Rattle.std.proofs.Common.{◌≡◌, ◌+◌, ℕ, ℤ, zero, suc, false, List, [], ◌++◌, Result, Ok, Err, OnOk, inl, refl, ap, sym, subst, ◌∙◌, append_assoc, arith}
use Rattle.std.proofs.lemmas.List.{append-nil}
use Rattle.std.specs.declared.option.Option.{Option}
use Rattle.std.specs.Io.KnownBytes.{Appends}
use Rattle.std.proofs.KnownBytes.{Appends-nil, Appends-trans}
use Rattle.shared_log.specs.Readers.{seen_of}
use Rattle.wal.specs.declared.record.Record.{Record}
use Rattle.walsender.specs.Sending.{SenderState}
use Rattle.walsender.specs.declared.walsender.Walsender.{Walsender}
use Rattle.pgoutput.specs.Words.{word_bytes}
use Rattle.pgoutput.specs.Items.{keepalive_word}
use Rattle.walsender.specs.Serving.{Gives, Serves, WritesFirst}
use Rattle.walsender.proofs.Serving.{nothing_given}
use Rattle.hub.specs.Streams.{HasLearnt, StreamsOn, WordsBehind, keepalives}

pub one_more : {L : Type 0} (a b c : Walsender L) (before between after : Option (List ℕ)) → StreamsOn a b before between → StreamsOn b c between after → StreamsOn a c before after
one_more a b c before between after (g, first, p) (h, second, q) = (
  g ++ h,
  λ (written : List ℕ) serving.
      let P : List ℕ → Type 0 = λ l. Serves (seen_of c.reader) l c in
      subst P (append_assoc written g h) (second (written ++ g) (first written serving)),
  Appends-trans before between after g h p q,
)

pub not_yet : {L : Type 0} (a b : Walsender L) (before : Option (List ℕ)) → ((written : List ℕ) → Serves (seen_of a.reader) written a → Serves (seen_of b.reader) written b) → StreamsOn a b before before
not_yet a b before goes = ([], λ (written : List ℕ) serving. nothing_given (seen_of b.reader) b.reader.place written b.sender (goes written serving), Appends-nil before)

-- nothing was read, and nothing written
pub kept_on : {L : Type 0} (a b : Walsender L) (before : Option (List ℕ)) → b.reader ≡ a.reader → ((log : List Record) (written : List ℕ) → Serves log written a → Serves log written b) → StreamsOn a b before before
kept_on a b before same serves =
    not_yet a b before
    (λ (written : List ℕ) serving. let P : List Record → Type 0 = λ log. Serves log written b in subst P (ap seen_of (sym same)) (serves (seen_of a.reader) written serving))

pub same_on : {L : Type 0} (a b : Walsender L) (before : Option (List ℕ)) → b ≡ a → StreamsOn a b before before
same_on a b before same = kept_on a b before (ap (λ (w : Walsender _). w.reader) same) (λ log written serving. let P : Walsender _ → Type 0 = λ w. Serves log written w in subst P (sym same) serving)

pub learnt : {L : Type 0} (old new : Walsender L) (before : Option (List ℕ)) → HasLearnt old new → StreamsOn old new before before
learnt old new before is = not_yet old new before (λ (written : List ℕ) serving. rw (is.sender, is.place, is.seen) serving)

-- ---- keepalives

keepalives_more : (position : ℕ) (clock : ℤ) (a b : ℕ) → keepalives position clock (a + b) ≡ keepalives position clock a ++ keepalives position clock b
keepalives_more position clock a zero = let none : a + zero ≡ a = omega arith in ap (keepalives position clock) none ∙ sym (append-nil (keepalives position clock a))
keepalives_more position clock a (suc b) =
    let word = word_bytes (keepalive_word position clock false) in
    let one : a + suc b ≡ suc (a + b) = omega arith in
    ap (keepalives position clock) one ∙ ap (λ (l : List ℕ). l ++ word) (keepalives_more position clock a b) ∙ append_assoc (keepalives position clock a) (keepalives position clock b) word

-- one more is held
pub one_keepalive_more : (old held new : SenderState) (clock : ℤ) (count : ℕ) → held ≡ record old { held = held.held } → held.held ≡ old.held ++ keepalives old.position clock count
    → new ≡ record held { held = held.held ++ word_bytes (keepalive_word held.position clock false) } → (new.held ≡ old.held ++ keepalives old.position clock (count + 1)) × (new ≡ record old { held = new.held })
one_keepalive_more old held new clock count rest so_many one =
    let before = keepalives old.position clock count in
    let word = word_bytes (keepalive_word old.position clock false) in
    let after : count + 1 ≡ suc count = omega arith in
    let longer = ap (λ (s : SenderState). s.held) one in (
      longer ∙ ap (λ (s : SenderState). held.held ++ word_bytes (keepalive_word s.position clock false)) rest ∙ ap (λ (l : List ℕ). l ++ word) so_many ∙ append_assoc old.held before word
          ∙ ap (λ (n : ℕ). old.held ++ keepalives old.position clock n) (sym after),
      one ∙ ap (λ (s : SenderState). record s { held = held.held ++ word_bytes (keepalive_word held.position clock false) }) rest ∙ ap (λ (l : List ℕ). record old { held = l }) (sym longer),
    )

-- of these bytes some were given, and the others are held
abbrev pub Gave : List ℕ → List ℕ → Option (List ℕ) → Option (List ℕ) → Type 0
Gave bytes held before after = (given : List ℕ) × (given ++ held ≡ bytes) × Appends before after given

-- nothing is held yet
pub nothing_kept : (held : List ℕ) (position : ℕ) (clock : ℤ) (before : Option (List ℕ)) → Gave (held ++ keepalives position clock 0) held before before
nothing_kept held position clock before = ([], sym (append-nil held), Appends-nil before)

-- so many more are held, and what was held is written
pub wrote_more : (old held_before held_then held_after given : List ℕ) (position : ℕ) (clock : ℤ) (a b : ℕ) (before between after : Option (List ℕ)) → Gave (old ++ keepalives position clock a) held_before before between
    → held_then ≡ held_before ++ keepalives position clock b → held_then ≡ given ++ held_after → Appends between after given → Gave (old ++ keepalives position clock (a + b)) held_after before after
wrote_more old held_before held_then held_after given position clock a b before between after (early, whole, p) held parts q = (
  early ++ given,
  append_assoc early given held_after ∙ ap (λ (l : List ℕ). early ++ l) (sym parts ∙ held) ∙ sym (append_assoc early held_before (keepalives position clock b)) ∙ ap (λ (l : List ℕ). l ++ keepalives position clock b) whole
      ∙ append_assoc old (keepalives position clock a) (keepalives position clock b) ∙ ap (λ (l : List ℕ). old ++ l) (sym (keepalives_more position clock a b)),
  Appends-trans before between after early given p q,
)

-- so many more are held, and nothing is written
pub held_more : (old held_before held_after : List ℕ) (position : ℕ) (clock : ℤ) (a b : ℕ) (before after : Option (List ℕ)) → Gave (old ++ keepalives position clock a) held_before before after → held_after ≡ held_before ++ keepalives position clock b
    → Gave (old ++ keepalives position clock (a + b)) held_after before after
held_more old held_before held_after position clock a b before after (early, whole, p) held = (
  early,
  ap (λ (l : List ℕ). early ++ l) held ∙ sym (append_assoc early held_before (keepalives position clock b)) ∙ ap (λ (l : List ℕ). l ++ keepalives position clock b) whole ∙ append_assoc old (keepalives position clock a) (keepalives position clock b)
      ∙ ap (λ (l : List ℕ). old ++ l) (sym (keepalives_more position clock a b)),
  p,
)

-- a sender of which more is held, then that is written
pub wrote_on : (a b c d : SenderState) → b ≡ record a { held = b.held; lent = b.lent } → c ≡ record b { held = c.held } → d ≡ record c { held = d.held; lent = d.lent } → d ≡ record a { held = d.held; lent = d.lent }
wrote_on a b c d first then last =
    let over : SenderState → SenderState = λ s. record s { held = d.held; lent = d.lent } in
    last ∙ ap over then ∙ ap over first

-- what is due was written first: a part of it while it was held, and the rest by the turn after that
pub promised_first : {L : Type 0} (old answered asked : Walsender L) (before between turned after : Option (List ℕ)) (promised more : List ℕ) → Gave promised answered.sender.held before between → StreamsOn old asked before between
    → asked.sender.held ≡ answered.sender.held ++ more → WritesFirst asked.sender.held asked between turned → (given : List ℕ) × Appends turned after given → WritesFirst (promised ++ more) old before after
promised_first old answered asked before between turned after promised more (early, whole, p) (given, goes, q) held first (late, r) =
    λ written serving.
    let (new, s) = first (written ++ given) (goes written serving) in
    let kept = answered.sender.held in
    let regrouped : early ++ (((kept ++ more) ++ new) ++ late) ≡ ((early ++ kept) ++ more) ++ (new ++ late) = simp append_assoc in
    let all : early ++ ((asked.sender.held ++ new) ++ late) ≡ (promised ++ more) ++ (new ++ late) =
    ap (λ (l : List ℕ). early ++ ((l ++ new) ++ late)) held ∙ regrouped ∙ ap (λ (l : List ℕ). (l ++ more) ++ (new ++ late)) whole in
    let P : List ℕ → Type 0 = λ l. Appends before after l in
    (new ++ late, subst P all (Appends-trans before between after early ((asked.sender.held ++ new) ++ late) p (Appends-trans between turned after (asked.sender.held ++ new) late s r)))

pub both_so : {T E P Q R : Type 0} (r : Result T E) → OnOk r P → OnOk r Q → (P → Q → R) → OnOk r R
both_so (Ok done) one other so = so one other
both_so (Err fault) one other so = tt

-- what a walsender gave goes on with its stream
pub gave_on : {L : Type 0} (a b : Walsender L) (before after : Option (List ℕ)) (given : List ℕ) → b.reader ≡ a.reader → Gives given a b → Appends before after given → StreamsOn a b before after
gave_on a b before after given same gives appended = (
  given,
  λ (written : List ℕ) serving.
      let P : List Record → Type 0 = λ log. Serves log (written ++ given) b in
      subst P (ap seen_of (sym same)) (gives (seen_of a.reader) written serving),
  appended,
)

-- ---- the end of a stream

-- nothing is said
pub nothing_after : {L : Type 0} (a : Walsender L) (before : Option (List ℕ)) → WordsBehind [] a a before before
nothing_after a before = ([], λ (log : List Record) (written : List ℕ) serving. nothing_given log a.reader.place written a.sender serving, inl refl, Appends-nil before)
