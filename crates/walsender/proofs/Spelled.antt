-- What is read off a message's spelling is what the message says.
use Rattle.std.proofs.Common.{◌≡◌, ℕ, ◌+◌, ◌^◌, ◌<◌, ◌≤◌, Bool, false, cond, eqb, ltb, List, [], ◌∷◌, ◌++◌, length, take, drop, Option, Some, None, refl, sym, ap, subst, ◌∙◌, append_assoc, arith}
use Rattle.std.specs.List.{flat_map, AllByRecursion}
use Rattle.std.specs.Option.{option_map}
use Rattle.std.specs.Int.{w32, from_be_bytes}
use Rattle.std.proofs.lemmas.Bool.{le-ltb}
use Rattle.std.proofs.lemmas.List.{append-nil, drop_at, length-append, take_at}
use Rattle.std.proofs.lemmas.List.Concat.{flat_map-cons}
use Rattle.pqformat.specs.Fields.{int32, int64, number_at, string}
use Rattle.pqformat.proofs.Codec.{found_some, not_missing}
use Rattle.pqformat.proofs.Numbers.{length-int32, length-int64, number32}
use Rattle.pgoutput.specs.declared.logical.Logical.{Logical}
use Rattle.pgoutput.specs.declared.logical.Logical.TheVariants as logical
use Rattle.pgoutput.specs.declared.messages.relation.Relation.{Relation}
use Rattle.pgoutput.specs.declared.messages.insert.TheConstants.{INSERT, NEW}
use Rattle.pgoutput.specs.declared.messages.update.TheConstants.{UPDATE}
use Rattle.pgoutput.specs.declared.messages.delete.TheConstants.{DELETE}
use Rattle.pgoutput.specs.declared.messages.truncate.TheConstants.{TRUNCATE}
use Rattle.pgoutput.specs.declared.messages.message.TheConstants.{MESSAGE}
use Rattle.pgoutput.specs.Message.{content}
use Rattle.pgoutput.specs.Logical.{FitsLogical, spell_logical}
use Rattle.pgoutput.specs.Tuple.{tuple}
use Rattle.pgoutput.specs.declared.parts.old_tuple.OldTuple.{OldTuple}
use Rattle.pgoutput.specs.declared.parts.old_tuple.OldTuple.TheVariants as olds
use Rattle.pgoutput.specs.OldTuple.{old_tuple}
use Rattle.pgoutput.specs.Update.{old_if_any}
use Rattle.pgoutput.specs.Truncate.{options_letter}
use Rattle.pgoutput.proofs.Wires.{logical_codec}
use Rattle.publication.specs.Publications.{PublicationSet}
use Rattle.publication.specs.Logged.{change_message}
use Rattle.publication.specs.Projection.{MessageFits}
use Rattle.row_messages.specs.Spelling.{IsPut}
use Rattle.tables.specs.declared.changes.change.Change.{Change}
use Rattle.tables.specs.Reading.{SpellsBody}
use Rattle.wal.specs.Log.{Entry}
use Rattle.reorder.specs.Ready.{IsEntryAt}
use Rattle.pgoutput.specs.declared.published.PublishedChange.{PublishedChange}
use Rattle.pgoutput.specs.Items.{IsOfChange, tables_of}
use Rattle.walsender.specs.Published.{published_at, published_changes}
use Rattle.walsender.specs.Spelled.{Tells, Yields, message_in, named_in, oids_in}
use Rattle.walsender.proofs.Changes.{there}

-- ---- the message

pub message_again : (m : Logical) → FitsLogical m → message_in (spell_logical m) ≡ m
message_again m fits =
    ap message_in (sym (append-nil (spell_logical m))) ∙ rw (logical_codec.again m [] fits) refl

pub tells : (selection : PublicationSet) (position : ℕ) (bytes : List ℕ) (m : Logical) → position < 2 ^ 64 → bytes ≡ spell_logical m → MessageFits selection m → Tells selection position bytes × (message_in bytes ≡ m)
tells selection position bytes m low text fits =
    let is : message_in bytes ≡ m = ap message_in text ∙ message_again m fits.fits in
    let P : Logical → Type 0 = λ n. MessageFits selection n in
    (record { told = (low, subst P (sym is) fits); text = text ∙ ap spell_logical (sym is) }, is)

-- ---- the tables that it names

pub oids_next : (bytes rest : List ℕ) (n : ℕ) → number_at w32 bytes ≡ Some (n, rest) → (oids_in bytes ≡ n ∷ oids_in rest) × (length bytes ≡ 4 + length rest)
oids_next [] rest n e = absurd cc
oids_next (a ∷ []) rest n e = absurd cc
oids_next (a ∷ b ∷ []) rest n e = absurd cc
oids_next (a ∷ b ∷ c ∷ []) rest n e = absurd cc
oids_next (a ∷ b ∷ c ∷ d ∷ bytes) rest n e =
    let found : ℕ × List ℕ = (from_be_bytes w32 (a ∷ b ∷ c ∷ d ∷ []), bytes) in
    let answer : ℕ × List ℕ = (n, rest) in
    let g = not_missing (ltb (length (a ∷ b ∷ c ∷ d ∷ bytes)) 4) found answer e in
    let n-is : from_be_bytes w32 (a ∷ b ∷ c ∷ d ∷ []) ≡ n = ap (λ (p : ℕ × List ℕ). p.0) g.1 in
    let rest-is : bytes ≡ rest = ap (λ (p : ℕ × List ℕ). p.1) g.1 in
    (ap (λ x. x ∷ oids_in bytes) n-is ∙ ap (λ (l : List ℕ). n ∷ oids_in l) rest-is, omega (arith, ap length rest-is))

pub oids_none : (bytes : List ℕ) → number_at w32 bytes ≡ None → oids_in bytes ≡ []
oids_none [] e = refl
oids_none (a ∷ []) e = refl
oids_none (a ∷ b ∷ []) e = refl
oids_none (a ∷ b ∷ c ∷ []) e = refl
oids_none (a ∷ b ∷ c ∷ d ∷ bytes) e =
    let long : ltb (length (a ∷ b ∷ c ∷ d ∷ bytes)) 4 ≡ false = le-ltb _ _ (omega arith) in
    absurd (never (ltb (length (a ∷ b ∷ c ∷ d ∷ bytes)) 4) long e)
  where
    found : ℕ × List ℕ
    found = (from_be_bytes w32 (a ∷ b ∷ c ∷ d ∷ []), bytes)

    never : (long : Bool) → long ≡ false → cond long None (Some found) ≡ None → ⊥
    never long is e = cc

oid_first : (oid : ℕ) (rest : List ℕ) → oid < 2 ^ 32 → oids_in (int32 oid ++ rest) ≡ oid ∷ oids_in rest
oid_first oid rest low =
    let answer : ℕ × List ℕ = (oid, rest) in
    (oids_next (int32 oid ++ rest) rest oid (found_some {E = ℕ} (number_at w32 (int32 oid ++ rest)) 0 answer ((number32 {E = ℕ} 0).again oid rest low))).0

oids_all : (oids : List ℕ) → AllByRecursion (λ oid. oid < 2 ^ 32) oids → oids_in (flat_map int32 oids) ≡ oids
oids_all [] all = refl
oids_all (oid ∷ oids) all = ap oids_in (flat_map-cons int32 oid oids) ∙ oid_first oid (flat_map int32 oids) all.0 ∙ ap (λ (l : List ℕ). oid ∷ l) (oids_all oids all.1)

-- what names one table
one_named : (kind oid : ℕ) (rest : List ℕ) → eqb kind TRUNCATE ≡ false → eqb kind MESSAGE ≡ false → oid < 2 ^ 32 → named_in (kind ∷ (int32 oid ++ rest)) ≡ oid ∷ []
one_named kind oid rest other no_message low =
    let whole = kind ∷ (int32 oid ++ rest) in
    ap (λ (b : Bool). cond b (oids_in (drop 6 whole)) (cond (eqb kind MESSAGE) [] (oids_in (take 4 (drop 1 whole))))) other
    ∙ ap (λ (b : Bool). cond b [] (oids_in (take 4 (drop 1 whole)))) no_message
    ∙ ap (λ (l : List ℕ). oids_in (take 4 l)) (drop_at (kind ∷ []) (int32 oid ++ rest) 1 refl)
    ∙ ap oids_in (take_at (int32 oid) rest 4 (length-int32 oid) ∙ sym (append-nil (int32 oid))) ∙ oid_first oid [] low

pub named_is : (rel : ℕ → Relation) (m : Logical) → IsOfChange rel m → FitsLogical m → named_in (spell_logical m) ≡ tables_of m
named_is rel (logical.Begin m) of fits = absurd of
named_is rel (logical.Commit m) of fits = absurd of
named_is rel (logical.Relation m) of fits = absurd of
named_is rel (logical.Insert m) of fits = one_named INSERT m.oid ((NEW ∷ []) ++ tuple m.new) refl refl fits.0
named_is rel (logical.Update m) of fits = one_named UPDATE m.oid (old_if_any m.old ++ ((NEW ∷ []) ++ tuple m.new)) refl refl fits.0
named_is rel (logical.Delete m) of fits = one_named DELETE m.oid (old_tuple m.old) refl refl fits.0
named_is rel (logical.Message m) of fits = refl
named_is rel (logical.Truncate m) of fits =
    let head = int32 (length m.oids) ++ (options_letter m.options ∷ []) in
    let tail = flat_map int32 m.oids in
    let grouped : spell_logical (logical.Truncate m) ≡ (TRUNCATE ∷ head) ++ tail = ap (λ (l : List ℕ). TRUNCATE ∷ l) (sym (append_assoc (int32 (length m.oids)) (options_letter m.options ∷ []) tail)) in
    ap (λ (l : List ℕ). oids_in (drop 6 l)) grouped
    ∙ ap oids_in (drop_at (TRUNCATE ∷ head) tail 6 (omega (arith, length-append (int32 (length m.oids)) (options_letter m.options ∷ []), length-int32 (length m.oids))))
    ∙ oids_all m.oids fits.1

old_some : (old : OldTuple) → 1 ≤ length (old_tuple old)
old_some (olds.Key cells) = omega arith
old_some (olds.Full cells) = omega arith

-- such a message has a letter, a number of four bytes and one byte more at least
pub long_enough : (rel : ℕ → Relation) (m : Logical) → IsOfChange rel m → 6 ≤ length (spell_logical m)
long_enough rel (logical.Begin m) of = absurd of
long_enough rel (logical.Commit m) of = absurd of
long_enough rel (logical.Relation m) of = absurd of
long_enough rel (logical.Insert m) of = omega (arith, length-append (int32 m.oid) ((NEW ∷ []) ++ tuple m.new), length-int32 m.oid)
long_enough rel (logical.Update m) of =
    omega (arith, length-append (int32 m.oid) (old_if_any m.old ++ ((NEW ∷ []) ++ tuple m.new)), length-append (old_if_any m.old) ((NEW ∷ []) ++ tuple m.new), length-int32 m.oid)
long_enough rel (logical.Delete m) of = omega (arith, length-append (int32 m.oid) (old_tuple m.old), length-int32 m.oid, old_some m.old)
long_enough rel (logical.Message m) of =
    omega (
      arith,
      length-append (int64 m.position) (string m.prefix ++ content m.content),
      length-int64 m.position,
    )
long_enough rel (logical.Truncate m) of =
    omega (arith, length-append (int32 (length m.oids)) ((options_letter m.options ∷ []) ++ flat_map int32 m.oids), length-int32 (length m.oids))

-- ---- a change of a commit

pub put_yields : (selection : PublicationSet) (entries : List Entry) (k position : ℕ) (body room : List ℕ) (put : Option ℕ) → k < length entries → position < 2 ^ 64 → IsEntryAt entries k position body
    → ((c : Change) → SpellsBody body c → IsPut put room (change_message selection position c)) → ((c : Change) (m : Logical) → SpellsBody body c → change_message selection position c ≡ Some m → MessageFits selection m)
    → Yields selection (published_changes selection (drop k entries)) (published_changes selection (drop (k + 1) entries)) (option_map (λ n. (position, n)) put) room
put_yields selection entries k position body room put low in_range is puts fits =
    let t = there entries k low in
    let at = is t.entry t.gets in
    let next = published_changes selection (drop (k + 1) entries) in
    let here : published_changes selection (drop k entries) ≡ published_at position (change_message selection position t.entry.change) ++ next =
    ap (published_changes selection) t.parts ∙ ap (λ p. published_at p (change_message selection p t.entry.change) ++ next) (sym at.0) in
    by_message put (change_message selection position t.entry.change) next here (puts t.entry.change at.1) (λ m. fits t.entry.change m at.1)
  where
    by_message : (put : Option ℕ) (o : Option Logical) (next : List PublishedChange) → published_changes selection (drop k entries) ≡ published_at position o ++ next → IsPut put room o
        → ((m : Logical) → o ≡ Some m → MessageFits selection m) → Yields selection (published_changes selection (drop k entries)) next (option_map (λ n. (position, n)) put) room
    by_message None None next here is fits = here
    by_message None (Some m) next here is fits = absurd is
    by_message (Some n) None next here is fits = absurd is
    by_message (Some n) (Some m) next here is fits =
        let told = tells selection position (take n room) m in_range is.1 (fits m refl) in
        (is.0, told.0, here ∙ ap (λ x. record { position = position; message = x } ∷ next) (sym told.1))
