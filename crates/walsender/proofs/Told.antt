-- What is ready can be told in a stream.
use Rattle.std.proofs.Common.{◌≡◌, ◌<◌, ◌+◌, ◌^◌, ℕ, Bool, true, false, List, [], ◌∷◌, ◌++◌, Option, Some, None, drop, get_or, length, map, zero, suc, refl, sym, ap, subst, ◌∙◌, arith}
use Rattle.std.specs.Prelude.{FitsSigned, IfSome, MatchBool, is_some, option_map, option_to_list}
use Rattle.std.specs.Int.{w64}
use Rattle.std.specs.List.{All, AllByRecursion}
use Rattle.pgoutput.specs.declared.logical.Logical.{Logical}
use Rattle.tables.specs.declared.changes.change.Change.{Change}
use Rattle.tables.specs.Reading.{SpellsBody}
use Rattle.wal.specs.Log.{Entry}
use Rattle.publication.specs.Publications.{PublicationSet}
use Rattle.publication.specs.Logged.{change_message}
use Rattle.publication.specs.Projection.{MessageFits}
use Rattle.publication.specs.Selection.{relation}
use Rattle.reorder.specs.Entries.{IsEntry, body_in, position_in}
use Rattle.reorder.specs.Pool.{PoolState, entries_at}
use Rattle.reorder.specs.Ready.{IsEntryAt, IsReadyIn, IsPlace, ReadyState, PlaceState, bytes_at, entry_at, lent_from, ready_entries}
use Rattle.reorder.proofs.Coding.{body_spells, position_of}
use Rattle.pgoutput.specs.declared.published.Published.{Published}
use Rattle.pgoutput.specs.declared.published.PublishedChange.{PublishedChange}
use Rattle.pgoutput.specs.Items.{FitsPublished}
use Rattle.walsender.specs.declared.commit_frames.header.Header.{Header}
use Rattle.walsender.specs.Published.{CanBeTold, published_at, published_changes, published_with}
use Rattle.walsender.proofs.Changes.{there}
use Rattle.walsender.proofs.Fitting.{commit_fits}

-- the change has a position of 64 bits, and a body that spells it
pub record IsSpelled (e : Entry) : Type 0 where
  pub position : e.position < 2 ^ 64
  pub body : List ℕ
  pub spells : SpellsBody body e.change

-- ---- what is ready

in_all : {A : Type 0} (P : A → Type 0) (xs : List A) (k : ℕ) (d : A) → AllByRecursion P xs → k < length xs → P (get_or xs k d)
in_all P [] k d all low = absurd (omega (arith, low))
in_all P (x ∷ xs) zero d all low = all.0
in_all P (x ∷ xs) (suc k) d all low = in_all P xs k d all.1 (omega (arith, low))

place_spelled : (pool : PoolState) (place : PlaceState) → AllByRecursion IsEntry (entries_at pool place.xid) → IsPlace pool place → IsSpelled (entry_at pool place)
place_spelled pool place all is =
    let entry : IsEntry (bytes_at pool place) = in_all IsEntry (entries_at pool place.xid) place.place [] all is in
    let at : position_in (bytes_at pool place) ≡ entry.position = ap position_in entry.is ∙ position_of entry.position entry.change entry.in_range in
    record { position = subst (λ (n : ℕ). n < 2 ^ 64) (sym at) entry.in_range; body = body_in (bytes_at pool place); spells = body_spells (bytes_at pool place) entry }

pub ready_spelled : (pool : PoolState) (ready : ReadyState) → IsReadyIn pool ready → AllByRecursion IsSpelled (ready_entries pool ready)
ready_spelled pool ready is = each ready.places is.places
  where
    each : (places : List PlaceState) → All (IsPlace (lent_from pool ready)) places → AllByRecursion IsSpelled (map (entry_at (lent_from pool ready)) places)
    each [] all = tt
    each (place ∷ places) all = (place_spelled (lent_from pool ready) place (is.lent.hold place.xid) (all 0 place (omega arith)), each places (λ k d low. all (suc k) d (omega (arith, low))))

-- ---- whether a change has a message

pub entry_told : (selection : PublicationSet) (entries : List Entry) (k position : ℕ) (body : List ℕ) (told : Bool) → k < length entries → IsEntryAt entries k position body
    → ((p : ℕ) (c : Change) → SpellsBody body c → told ≡ is_some (change_message selection p c))
    → MatchBool told (0 < length (published_changes selection (drop k entries))) (published_changes selection (drop k entries) ≡ published_changes selection (drop (k + 1) entries))
entry_told selection entries k position body told lt at value =
    let t = there entries k lt in
    let e = t.entry in
    let later = published_changes selection (drop (k + 1) entries) in
    let P : List PublishedChange → Type 0 = λ l. MatchBool told (0 < length l) (l ≡ later) in
    subst P (sym (ap (published_changes selection) t.parts)) (by_option (change_message selection e.position e.change) told (value e.position e.change (at e t.gets).1) e.position later)
  where
    by_option : (o : Option Logical) (b : Bool) → b ≡ is_some o → (position : ℕ) (later : List PublishedChange) → MatchBool b (0 < length (published_at position o ++ later)) (published_at position o ++ later ≡ later)
    by_option None true is position later = absurd (let f : true ≡ false = is in cc)
    by_option None false is position later = refl
    by_option (Some m) true is position later = omega arith
    by_option (Some m) false is position later = absurd (let f : false ≡ true = is in cc)

-- ---- what it publishes

-- the message of each change that has one fits
abbrev pub MessagesFit : PublicationSet → Type 0
MessagesFit selection = (position : ℕ) (body : List ℕ) (c : Change) (m : Logical) → position < 2 ^ 64 → SpellsBody body c → change_message selection position c ≡ Some m → MessageFits selection m

changes_told : (selection : PublicationSet) → MessagesFit selection → (es : List Entry) → AllByRecursion IsSpelled es → AllByRecursion (CanBeTold selection) (published_changes selection es)
changes_told selection fit [] all = tt
changes_told selection fit (e ∷ es) all = by_option (change_message selection e.position e.change) refl (changes_told selection fit es all.1)
  where
    by_option : (o : Option Logical) → change_message selection e.position e.change ≡ o → AllByRecursion (CanBeTold selection) (published_changes selection es) → AllByRecursion (CanBeTold selection) (published_at e.position o ++ published_changes selection es)
    by_option None is rest = rest
    by_option (Some m) is rest = ((all.0.position, fit e.position all.0.body e.change m all.0.position all.0.spells is), rest)

-- a commit, or nothing, whose changes are ready
pub judged_fit : (selection : PublicationSet) (pool : PoolState) (ready : ReadyState) (o : Option Header) (ts : List Published) → MessagesFit selection → IsReadyIn pool ready
    → option_to_list (option_map (published_with selection (ready_entries pool ready)) o) ≡ ts → IfSome o (λ h. (h.start < 2 ^ 64) × (h.end < 2 ^ 64) × FitsSigned w64 h.time × (h.xid < 2 ^ 32)) → AllByRecursion (FitsPublished (relation selection)) ts
judged_fit selection pool ready None ts fit is value numbers = let P : List Published → Type 0 = λ l. AllByRecursion (FitsPublished (relation selection)) l in subst P value tt
judged_fit selection pool ready (Some h) ts fit is value numbers = commit_fits selection (ready_entries pool ready) h ts value numbers (changes_told selection fit (ready_entries pool ready) (ready_spelled pool ready is))
