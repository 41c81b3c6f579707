-- What a writer's steps make of how it stands.
use Rattle.std.proofs.Common.{◌≡◌, ℕ, ◌+◌, ◌<◌, ◌≤◌, List, [], ◌∷◌, ◌++◌, length, Option, Some, None, fold, refl, ap, sym, subst, ◌∙◌, arith, length-append}
use Rattle.std.specs.Prelude.{Result, Ok, Err, MatchResult, vec_capacity, vec_len, slice_set}
use Rattle.std.specs.Arc.{arc_value}
use Rattle.std.proofs.lemmas.List.{append-nil}
use mathlib.Core.Option.{some}
use lib.ListN.{get_elem?}
use Rattle.logbook.specs.Pages.{Book}
use Rattle.logbook.specs.declared.tokens.Seen.{Seen}
use Rattle.wal.specs.declared.record.TheConstants.{FIRST_POSITION}
use Rattle.wal.specs.declared.record.Record.{Record}
use Rattle.wal.specs.Log.{IsWellFormedLog, end_of}
use Rattle.wal.specs.Restart.{oldest}
use Rattle.wal.proofs.Laws.{end_of-append}
use Rattle.shared_log.specs.declared.histories.entry.Entry.{Entry}
use Rattle.shared_log.specs.declared.histories.entry.Entry.TheVariants.{Offered, Confirmed}
use Rattle.shared_log.specs.declared.histories.copy.LogCopy.{LogCopy}
use Rattle.shared_log.specs.declared.histories.copy.PutRecord.{PutRecord}
use Rattle.shared_log.specs.declared.histories.law.Law.{Law}
use Rattle.shared_log.specs.declared.appending.openings.Opening.{Opening}
use Rattle.shared_log.specs.declared.appending.openings.Openings.{Openings as Noted}
use Rattle.shared_log.specs.declared.appending.outline.Outline.{Outline}
use Rattle.shared_log.specs.declared.histories.rule.View.{View}
use Rattle.shared_log.specs.SeenPrefixes.{one_of, settled_from, settled_records, open_from, shown_records, ends_confirmed}
use Rattle.shared_log.specs.declared.histories.edge.Edge.{Edge}
use Rattle.shared_log.specs.Kept.{LiesFrom, edge_entered, kept_entered, kept_in}
use Rattle.shared_log.specs.Openings.{AreOpenings, openings_after, restart_after}
use Rattle.shared_log.specs.Sharing.{Keeps, Saw}
use Rattle.shared_log.specs.Writing.{IsOffered, IsOutline, IsPut, Shows, Stands, Waits}
use Rattle.shared_log.proofs.Lying.{LiesBelow, folded, lies_longer}
use Rattle.shared_log.proofs.Progress.{oldest-next, openings-next}
use Rattle.shared_log.proofs.SeenPrefixes.{open_after, settled_offer, settled_confirm, ends_confirm}
use Rattle.shared_log.proofs.Steps.{goes_on}

-- ---- What is known by the history.

-- nothing was offered yet
pub stands_empty : (front sure : List Entry) (noted : Noted) → front ≡ [] → sure ≡ front → noted.items.items ≡ [] → Stands front sure 0 FIRST_POSITION noted
stands_empty front sure noted front_is sure_is none = record {
  counted = ap (λ (es : List Entry). length (settled_records es)) (sym front_is);
  ends = ap (λ (es : List Entry). end_of FIRST_POSITION (settled_records es)) (sym front_is);
  alike = ap settled_records sure_is;
  confirmed = ap ends_confirmed (sure_is ∙ front_is);
  progress = subst (λ (l : List Record). AreOpenings l noted.items.items) (ap settled_records (sym front_is)) (subst (λ (os : List Opening). AreOpenings [] os) (sym none) (λ p. refl));
  room = λ r is. let never : None ≡ Some r = ap (open_from None) (sym front_is) ∙ is in absurd cc;
}

-- there is no less room than there was
pub stands_still : (front sure : List Entry) (count end : ℕ) (old new : Noted) → Stands front sure count end old → new.items.items ≡ old.items.items
    → (vec_len old.items < vec_capacity old.items → vec_len new.items < vec_capacity new.items) → Stands front sure count end new
stands_still front sure count end old new stands same stays = record {
  counted = stands.counted;
  ends = stands.ends;
  alike = stands.alike;
  confirmed = stands.confirmed;
  progress = subst (λ (os : List Opening). AreOpenings (settled_records front) os) (sym same) stands.progress;
  room = λ r is. stays (stands.room r is);
}

-- a record was offered, and there is room to note its transaction
pub stands_offered : (front next sure : List Entry) (r : Record) (count end : ℕ) (old new : Noted) → Stands front sure count end old → next ≡ front ++ Offered r ∷ [] → new.items.items ≡ old.items.items
    → vec_len new.items < vec_capacity new.items → Stands next sure count end new
stands_offered front next sure r count end old new stands is same room =
    let now : settled_records front ≡ settled_records next = sym (ap settled_records is ∙ settled_offer front r) in
    record {
      counted = stands.counted ∙ ap length now;
      ends = stands.ends ∙ ap (end_of FIRST_POSITION) now;
      alike = stands.alike ∙ now;
      confirmed = stands.confirmed;
      progress = subst (λ (l : List Record). AreOpenings l new.items.items) now (subst (λ (os : List Opening). AreOpenings (settled_records front) os) (sym same) stands.progress);
      room = λ _ _. room;
    }

-- the record that was offered is confirmed
pub stands_confirmed : (front next sure last : List Entry) (count end : ℕ) (old new : Noted) (outline : Outline) → Stands front sure count end old → IsOffered front outline → next ≡ front ++ Confirmed ∷ [] → last ≡ next
    → new.items.items ≡ openings_after outline.top outline.is_last count old.items.items → Stands next last (count + 1) outline.end new
stands_confirmed front next sure last count end old new outline stands offered is last_is noted =
    let log = settled_records front in
    let r = offered.offered in
    let now : settled_records next ≡ log ++ r ∷ [] = ap settled_records is ∙ settled_confirm front ∙ ap (λ (o : Option Record). log ++ one_of o) offered.waits in
    let new_is : new.items.items ≡ openings_after outline.top outline.is_last (length log) old.items.items = noted ∙ ap (λ (n : ℕ). openings_after outline.top outline.is_last n old.items.items) stands.counted in
    let fits = offered.fits in
    record {
      counted = omega (arith, stands.counted, length-append log (r ∷ []), ap length now);
      ends = sym fits.tells.1 ∙ sym (end_of-append FIRST_POSITION log (r ∷ [])) ∙ ap (end_of FIRST_POSITION) (sym now);
      alike = ap settled_records last_is;
      confirmed = ap ends_confirmed (last_is ∙ is) ∙ ends_confirm front;
      progress = subst (λ (l : List Record). AreOpenings l new.items.items) (sym now)
          (subst (λ (os : List Opening). AreOpenings (log ++ r ∷ []) os) (sym new_is) (openings-next log r old.items.items outline.top outline.is_last fits.good fits.owner fits.last stands.progress));
      room = λ other some. let never : None ≡ Some other = sym (ap (open_from None) is ∙ open_after None front (Confirmed ∷ [])) ∙ some in absurd cc;
    }

-- where a record is offered, that one is it
pub offered_is : (front next : List Entry) (r : Record) (outline : Outline) → IsOutline (settled_records front) r outline → next ≡ front ++ Offered r ∷ [] → length front < 2305843009213693952 → IsOffered next outline
offered_is front next r outline fits is short =
    let now : settled_records front ≡ settled_records next = sym (ap settled_records is ∙ settled_offer front r) in
    record {
      offered = r;
      waits = ap (open_from None) is ∙ open_after None front (Offered r ∷ []);
      fits = subst (λ (l : List Record). IsOutline l r outline) now fits;
      short = omega (arith, short, ap length is, length-append front (Offered r ∷ []));
    }

-- its restart place
pub restart_is : (log : List Record) (r : Record) (os old : List Opening) (outline : Outline) (count restart : ℕ) → IsOutline log r outline → count ≡ length log → old ≡ os
    → restart ≡ restart_after outline.top outline.is_last count old → AreOpenings log os → restart ≡ oldest (log ++ r ∷ [])
restart_is log r os old outline count restart fits counted same is are =
    is ∙ ap (λ (n : ℕ). restart_after outline.top outline.is_last n old) counted ∙ ap (restart_after outline.top outline.is_last (length log)) same
    ∙ oldest-next log r os outline.top outline.is_last fits.good fits.owner fits.last are

-- ---- What readers see, and what waits.

-- one more waits
waits_push : (log : List Record) (first last : ℕ) (puts : List PutRecord) (put : PutRecord) → Waits log first last puts → put.place ≡ length log → last ≤ put.edge → Waits log first put.edge (puts ++ put ∷ [])
waits_push log first last [] put waits at le = (at, omega (arith, waits, le), omega arith)
waits_push log first last (p ∷ puts) put waits at le = (waits.0, waits.1, waits_push log p.edge last puts put waits.2 at le)

waits_further : (log : List Record) (first last next : ℕ) (puts : List PutRecord) → Waits log first last puts → last ≤ next → Waits log first next puts
waits_further log first last next [] waits le = omega (arith, waits, le)
waits_further log first last next (p ∷ puts) waits le = (waits.0, waits.1, waits_further log p.edge last next puts waits.2 le)

-- nothing new is seen, and nothing more waits
pub shows_still : (log now : List Record) (last next given : ℕ) (old new : LogCopy) (old_waiting waiting : List PutRecord) → Shows log last given old.mark.seen.log old.edge (kept_in old.records.items) old_waiting → now ≡ log
    → new ≡ old → waiting ≡ old_waiting → last ≤ next → next ≤ given → Shows now next given new.mark.seen.log new.edge (kept_in new.records.items) waiting
shows_still log now last next given old new old_waiting waiting shows now_is new_is waiting_is le bounded =
    let whole : Shows log next given old.mark.seen.log old.edge (kept_in old.records.items) old_waiting =
    record { says = shows.says; shown = shows.shown; waits = waits_further log old.edge.place last next old_waiting shows.waits le; bounded = bounded; within = shows.within } in
    rw (now_is, new_is, waiting_is) whole

-- nothing new is seen, and one more waits
pub shows_waiting : (log now : List Record) (last given : ℕ) (old new : LogCopy) (old_waiting waiting : List PutRecord) (put : PutRecord) → Shows log last given old.mark.seen.log old.edge (kept_in old.records.items) old_waiting → now ≡ log
    → new ≡ old → waiting ≡ old_waiting ++ put ∷ [] → put.place ≡ length log → last ≤ put.edge → put.edge ≤ given → Shows now put.edge given new.mark.seen.log new.edge (kept_in new.records.items) waiting
shows_waiting log now last given old new old_waiting waiting put shows now_is new_is waiting_is at le bounded =
    let whole : Shows log put.edge given old.mark.seen.log old.edge (kept_in old.records.items) (old_waiting ++ put ∷ []) =
    record { says = shows.says; shown = shows.shown; waits = waits_push log old.edge.place last old_waiting put shows.waits at le; bounded = bounded; within = shows.within } in
    rw (now_is, new_is, waiting_is) whole

-- all that waited is seen
pub shows_all : (log now : List Record) (next given : ℕ) (new : LogCopy) (waiting : List PutRecord) → shown_records new.mark.seen.log ≡ log → LiesFrom log new.edge (kept_in new.records.items) → new.edge.place ≡ next → now ≡ log → waiting ≡ []
    → next ≤ given → given ≤ length log → Shows now next given new.mark.seen.log new.edge (kept_in new.records.items) waiting
shows_all log now next given new waiting says lies at now_is none bounded within =
    let whole : Shows log next given new.mark.seen.log new.edge (kept_in new.records.items) [] = record { says = says; shown = lies; waits = omega (arith, at); bounded = bounded; within = within } in
    rw (now_is, none) whole

-- more may be given back
pub shows_given : (log : List Record) (last given next : ℕ) (copy : LogCopy) (waiting : List PutRecord) → Shows log last given copy.mark.seen.log copy.edge (kept_in copy.records.items) waiting → given ≤ next → next ≤ length log
    → Shows log last next copy.mark.seen.log copy.edge (kept_in copy.records.items) waiting
shows_given log last given next copy waiting shows le within = record { says = shows.says; shown = shows.shown; waits = shows.waits; bounded = omega (arith, shows.bounded, le); within = within }

-- ---- What the writer's calls of its two copies say.

pub on_ok : {A B : Type 0} (P : A → Type 0) (Q : B → Type 0) (r : Result A B) (a : A) → r ≡ Ok a → MatchResult r P Q → P a
on_ok P Q (Ok b) a is m = subst P (cc is) m
on_ok P Q (Err e) a is m = absurd cc

pub on_err : {A B : Type 0} (P : A → Type 0) (Q : B → Type 0) (r : Result A B) (b : B) → r ≡ Err b → MatchResult r P Q → Q b
on_err P Q (Ok a) b is m = absurd cc
on_err P Q (Err e) b is m = subst Q (cc is) m

-- what is shown once the record is published
pub published_is : (log : List Record) (edge : Edge) (kept : List (Record × ℕ)) (s : Seen Entry ℕ Law) (last : ℕ) (pending waiting : List PutRecord) (put : PutRecord) → LiesFrom log edge kept → pending ≡ waiting ++ put ∷ [] → Waits log edge.place last waiting
    → put.place ≡ length log → last ≤ put.edge → put.edge ≤ length log
    → LiesBelow log put.edge (arc_value put.entry, put.restart) put.mark.seen
    (fold (λ (x : Edge × List (Record × ℕ) × Seen Entry ℕ Law) (p : PutRecord). (edge_entered p.place p.edge x.0 x.1, kept_entered p.place p.edge x.0 x.1 (arc_value p.entry, p.restart), p.mark.seen)) (edge, kept, s) pending)
published_is log edge kept s last pending waiting put lies pending_is waits at le within =
    let all = folded (λ (p : PutRecord). (arc_value p.entry, p.restart)) (λ (p : PutRecord). p.mark.seen) log edge kept [] s last waiting put lies waits at le within in
    rw (pending_is) (rw (append-nil kept) at all)

-- a copy that a record has entered
pub record IsGrown (name : Book) (log : List Record) (r : Record) (history : List Entry) (first : ℕ) (copy : LogCopy) : Type 0 where
  pub lies : LiesFrom (log ++ r ∷ []) copy.edge (kept_in copy.records.items)
  pub from : copy.edge.place ≡ first
  pub named : copy.mark.seen.book ≡ name
  pub says : copy.mark.seen.log ≡ history

pub grown_is : (name : Book) (log : List Record) (r : Record) (history : List Entry) (put : PutRecord) (copy : LogCopy) (state : Edge × List (Record × ℕ) × Seen Entry ℕ Law) → IsPut name log r history put
    → ◌≡◌ {A = Edge × List (Record × ℕ) × Seen Entry ℕ Law} (copy.edge, kept_in copy.records.items, copy.mark.seen) state → LiesBelow log put.edge (arc_value put.entry, put.restart) put.mark.seen state → IsGrown name log r history put.edge copy
grown_is name log r history put copy state enters is below =
    let edge : copy.edge ≡ state.0 = ap (λ x. x.0) is in
    let items : kept_in copy.records.items ≡ state.1 = ap (λ x. x.1) is in
    let seen : copy.mark.seen ≡ put.mark.seen = ap (λ x. x.2) is ∙ below.sees in
    let kept : kept_in copy.records.items ≡ below.kept ++ (r, oldest (log ++ r ∷ [])) ∷ [] =
    items ∙ below.items ∙ ap (λ (a : Record). below.kept ++ (a, put.restart) ∷ []) enters.entry ∙ ap (λ (n : ℕ). below.kept ++ (r, n) ∷ []) enters.restart in
    let longer = lies_longer log r state.0 below.kept below.lies.lies in
    record {
      lies = subst (λ (e : Edge). LiesFrom (log ++ r ∷ []) e (kept_in copy.records.items)) (sym edge) (subst (LiesFrom (log ++ r ∷ []) state.0) (sym kept) longer);
      from = ap (λ (e : Edge). e.place) edge ∙ below.lies.place;
      named = ap (λ s. s.book) seen ∙ enters.named;
      says = ap (λ s. s.log) seen ∙ enters.says;
    }

pub grown_by : (name : Book) (log : List Record) (r : Record) (history : List Entry) (put : PutRecord) (old new : LogCopy) (last : ℕ) (pending waiting : List PutRecord) → LiesFrom log old.edge (kept_in old.records.items) → Waits log old.edge.place last waiting
    → last ≤ put.edge → put.edge ≤ length log → IsPut name log r history put → pending ≡ waiting ++ put ∷ []
    → ◌≡◌ {A = Edge × List (Record × ℕ) × Seen Entry ℕ Law} (new.edge, kept_in new.records.items, new.mark.seen)
    (fold (λ (x : Edge × List (Record × ℕ) × Seen Entry ℕ Law) (p : PutRecord). (edge_entered p.place p.edge x.0 x.1, kept_entered p.place p.edge x.0 x.1 (arc_value p.entry, p.restart), p.mark.seen)) (old.edge, kept_in old.records.items, old.mark.seen) pending)
    → IsGrown name log r history put.edge new
grown_by name log r history put old new last pending waiting lies waits further within enters pending_is is =
    let below = published_is log old.edge (kept_in old.records.items) old.mark.seen last pending waiting put lies pending_is waits enters.place further within in
    grown_is name log r history put new _ enters is below

-- the log that readers see goes on to that copy
pub goes_to : (name : Book) (seat : ℕ) (v : View) (log : List Record) (r : Record) (history : List Entry) (first : ℕ) (old new : LogCopy) (views : List View)
    → IsGrown name log r history first new → old.edge.place ≤ first → IsWellFormedLog (log ++ r ∷ []) → shown_records history ≡ log ++ r ∷ []
    → Keeps name (shown_records old.mark.seen.log) old.edge (kept_in old.records.items) old.mark.seen.book views → get_elem? views seat ≡ some v → shown_records old.mark.seen.log ≡ log
    → (w : View) × Keeps name (shown_records new.mark.seen.log) new.edge (kept_in new.records.items) new.mark.seen.book (slice_set views seat w)
    × Saw name v (shown_records new.mark.seen.log) new.edge (kept_in new.records.items) new.mark.seen.book w
goes_to name seat v log r history first old new views grown further good shown keeps at same =
    let is : shown_records new.mark.seen.log ≡ log ++ r ∷ [] = ap shown_records grown.says ∙ shown in
    goes_on name seat v (shown_records old.mark.seen.log) (shown_records new.mark.seen.log) old.edge new.edge (kept_in old.records.items) (kept_in new.records.items) old.mark.seen.book new.mark.seen.book views keeps at
    (r ∷ [], ap (λ (l : List Record). l ++ r ∷ []) same ∙ sym is) (omega (arith, further, grown.from)) (subst IsWellFormedLog (sym is) good) grown.named
    (subst (λ (l : List Record). LiesFrom l new.edge (kept_in new.records.items)) (sym is) grown.lies)

-- ---- Counts.

-- the history is no shorter than what it has settled
settled_short : (log : List Record) (o : Option Record) (es : List Entry) → length (settled_from log o es) ≤ length log + length es
settled_short log o [] = omega arith
settled_short log o (Offered r ∷ es) = omega (arith, settled_short log (Some r) es)
settled_short log None (Confirmed ∷ es) = omega (arith, settled_short (log ++ []) None es, length-append log [])
settled_short log (Some r) (Confirmed ∷ es) = omega (arith, settled_short (log ++ r ∷ []) None es, length-append log (r ∷ []))

pub settled_within : (es : List Entry) → length (settled_records es) ≤ length es
settled_within es = omega (arith, settled_short [] None es)

pub few_settled : (count most : ℕ) (front seen : List Entry) (n : ℕ) → count ≡ length (settled_records front) → seen ≡ front → n ≡ length seen → n < most → count < most
few_settled count most front seen n counted same long few = omega (arith, counted, settled_within front, ap length same, long, few)
