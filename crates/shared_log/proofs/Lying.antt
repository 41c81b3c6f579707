-- The end of a log that lies in memory: records enter after it, and records before a new edge are given back.
use Rattle.std.proofs.Common.{◌≡◌, ◌+◌, ◌-◌, ◌≤◌, ℕ, zero, suc, List, [], ◌∷◌, ◌++◌, length, take, drop, fold, refl, sym, ap, subst, ◌∙◌, arith, length-append}
use Rattle.std.specs.List.{drop-map, take-map}
use Rattle.std.proofs.lemmas.List.{length-drop, map-append, take-append-drop, take-append-le, take_at}
use Rattle.wal.specs.declared.record.TheConstants.{FIRST_POSITION}
use Rattle.wal.specs.declared.record.Record.{Record}
use Rattle.wal.specs.Log.{end_of}
use Rattle.wal.specs.Restart.{oldest}
use Rattle.wal.proofs.Laws.{end_of-append}
use Rattle.shared_log.specs.declared.histories.edge.Edge.{Edge}
use Rattle.shared_log.specs.declared.histories.copy.Logged.{Logged}
use Rattle.shared_log.specs.declared.histories.copy.PutRecord.{PutRecord}
use Rattle.shared_log.specs.Kept.{LiesFrom, edge_entered, edge_past, kept_entered, kept_in, with_restarts_from}
use Rattle.shared_log.specs.Writing.{Waits}
use Rattle.shared_log.proofs.Kept.{restarts-push}

-- ---- One place further on.

pub next_place : (n : ℕ) (log : List Record) (r : Record) (rest : List Record) → drop n log ≡ r ∷ rest → (take (suc n) log ≡ take n log ++ r ∷ []) × (drop (suc n) log ≡ rest) × (suc n ≤ length log)
next_place zero [] r rest is = absurd cc
next_place (suc n) [] r rest is = absurd cc
next_place zero (q ∷ log) r rest is = let first : q ≡ r = cc is in (ap (λ (x : Record). x ∷ []) first, cc is, omega arith)
next_place (suc n) (q ∷ log) r rest is =
    let inner = next_place n log r rest is in
    (ap (λ (l : List Record). q ∷ l) inner.0, inner.1, omega (arith, inner.2))

length_from : (before log : List Record) → length (with_restarts_from before log) ≡ length log
length_from before [] = refl
length_from before (r ∷ log) = ap suc (length_from (before ++ r ∷ []) log)

pub length_lies : (log : List Record) (edge : Edge) (kept : List (Record × ℕ)) → LiesFrom log edge kept → length kept + edge.place ≡ length log
length_lies log edge kept lies = omega (arith, ap length lies.records, length_from (take edge.place log) (drop edge.place log), length-drop edge.place log, lies.within)

-- one record is given back
gives_one : (log : List Record) (edge : Edge) (p : Record × ℕ) (ps : List (Record × ℕ)) → LiesFrom log edge (p ∷ ps) → LiesFrom log (record { place = suc edge.place; restart = p.1; position = p.0.end }) ps
gives_one log edge p ps lies = by_rest (drop edge.place log) refl lies.records
  where
    by_rest : (rest : List Record) → drop edge.place log ≡ rest → p ∷ ps ≡ with_restarts_from (take edge.place log) rest → LiesFrom log (record { place = suc edge.place; restart = p.1; position = p.0.end }) ps
    by_rest [] is kept = absurd cc
    by_rest (r ∷ rest) is kept =
        let next = next_place edge.place log r rest is in
        let here : p ≡ (r, oldest (take edge.place log ++ r ∷ [])) = cc kept in
        let more : ps ≡ with_restarts_from (take edge.place log ++ r ∷ []) rest = cc kept in
        record {
          within = next.2;
          records = more ∙ ap (λ (l : List Record). with_restarts_from l rest) (sym next.0) ∙ ap (with_restarts_from (take (suc edge.place) log)) (sym next.1);
          restart = ap (λ (x : Record × ℕ). x.1) here ∙ ap oldest (sym next.0);
          position = ap (λ (x : Record × ℕ). x.0.end) here ∙ sym (end_of-append FIRST_POSITION (take edge.place log) (r ∷ [])) ∙ ap (end_of FIRST_POSITION) (sym next.0);
        }

-- so says the code of it
pub gave_one : (edge : Edge) (items rest : List Logged) (l : Logged) (n m : ℕ) → items ≡ l ∷ rest → n ≡ suc m
    → edge_past edge (take n (kept_in items)) ≡ edge_past (record { place = edge.place + 1; restart = l.restart; position = l.entry.value.end }) (take m (kept_in rest))
gave_one edge items rest l n m items_is n_is =
    let one : suc edge.place ≡ edge.place + 1 = omega arith in
    ap (λ (l : List Logged). edge_past edge (take n (kept_in l))) items_is ∙ ap (λ (n : ℕ). edge_past edge (take n (kept_in (l ∷ rest)))) n_is
    ∙ ap (λ (n : ℕ). edge_past (record { place = n; restart = l.restart; position = l.entry.value.end }) (take m (kept_in rest))) one

-- a record enters a copy
pub entered : (old left new : List Logged) (place first : ℕ) (edge : Edge) (logged : Logged) → left ≡ drop (first - edge.place) (take (place - edge.place) old) → new ≡ left ++ logged ∷ []
    → kept_in new ≡ kept_entered place first edge (kept_in old) (logged.entry.value, logged.restart)
entered old left new place first edge logged left_is new_is =
    let value : Logged → Record × ℕ = λ l. (l.entry.value, l.restart) in
    ap kept_in new_is ∙ map-append value left (logged ∷ [])
    ∙ ap (λ (l : List (Record × ℕ)). l ++ value logged ∷ []) (ap kept_in left_is ∙ sym (drop-map value (first - edge.place) (take (place - edge.place) old)) ∙ ap (drop (first - edge.place)) (sym (take-map value (place - edge.place) old)))

pub kept_part : (n : ℕ) (old left : List Logged) → left ≡ take n old → kept_in left ≡ take n (kept_in old)
kept_part n old left is = ap kept_in is ∙ sym (take-map (λ (l : Logged). (l.entry.value, l.restart)) n old)

-- what lies there once records were given back
pub record LiesAt (log : List Record) (first : ℕ) (edge : Edge) (kept : List (Record × ℕ)) : Type 0 where
  pub lies : LiesFrom log edge kept
  pub place : edge.place ≡ first

pub gives : (n : ℕ) (log : List Record) (edge : Edge) (kept : List (Record × ℕ)) → LiesFrom log edge kept → n ≤ length kept → LiesAt log (edge.place + n) (edge_past edge (take n kept)) (drop n kept)
gives zero log edge kept lies le = record { lies = lies; place = omega arith }
gives (suc n) log edge [] lies le = absurd (omega (arith, le))
gives (suc n) log edge (p ∷ ps) lies le =
    let next : Edge = record { place = suc edge.place; restart = p.1; position = p.0.end } in
    let inner = gives n log next ps (gives_one log edge p ps lies) (omega (arith, le)) in
    record { lies = inner.lies; place = inner.place ∙ omega arith }

-- ---- Records enter.

-- what stands at a place gives way, and what stands before another is given back
pub enters_at : (log : List Record) (edge : Edge) (kept rest : List (Record × ℕ)) (place first : ℕ) → LiesFrom log edge kept → place ≡ length log → edge.place ≤ first → first ≤ length log
    → LiesAt log first (edge_entered place first edge (kept ++ rest)) (drop (first - edge.place) (take (place - edge.place) (kept ++ rest)))
enters_at log edge kept rest place first lies at le within =
    let long = length_lies log edge kept lies in
    let stays : take (place - edge.place) (kept ++ rest) ≡ kept = take_at kept rest (place - edge.place) (omega (arith, long, at)) in
    let given = gives (first - edge.place) log edge kept lies (omega (arith, long, le, within)) in
    let P : List (Record × ℕ) → Type 0 = λ l. LiesAt log first (edge_past edge (take (first - edge.place) l)) (drop (first - edge.place) l) in
    subst P (sym stays) (record { lies = given.lies; place = given.place ∙ omega (arith, le) })

-- what lies in memory once a record stands after it
pub lies_longer : (log : List Record) (r : Record) (edge : Edge) (kept : List (Record × ℕ)) → LiesFrom log edge kept → LiesFrom (log ++ r ∷ []) edge (kept ++ (r, oldest (log ++ r ∷ [])) ∷ [])
lies_longer log r edge kept lies =
    let front : take edge.place (log ++ r ∷ []) ≡ take edge.place log = take-append-le edge.place log (r ∷ []) lies.within in
    let whole : take edge.place log ++ drop edge.place log ≡ log = take-append-drop edge.place log in
    let back : drop edge.place (log ++ r ∷ []) ≡ drop edge.place log ++ r ∷ [] = drop-within edge.place log (r ∷ []) lies.within in
    record {
      within = omega (arith, lies.within, length-append log (r ∷ []));
      records =
          ap (λ (l : List (Record × ℕ)). l ++ (r, oldest (log ++ r ∷ [])) ∷ []) lies.records
          ∙ ap (λ (l : List Record). with_restarts_from (take edge.place log) (drop edge.place log) ++ (r, oldest (l ++ r ∷ [])) ∷ []) (sym whole)
          ∙ sym (restarts-push (take edge.place log) (drop edge.place log) r)
          ∙ ap (with_restarts_from (take edge.place log)) (sym back) ∙ ap (λ (l : List Record). with_restarts_from l (drop edge.place (log ++ r ∷ []))) (sym front);
      restart = lies.restart ∙ ap oldest (sym front);
      position = lies.position ∙ ap (end_of FIRST_POSITION) (sym front);
    }
  where
    drop-within : (n : ℕ) (xs ys : List Record) → n ≤ length xs → drop n (xs ++ ys) ≡ drop n xs ++ ys
    drop-within zero xs ys le = refl
    drop-within (suc n) [] ys le = absurd (omega (arith, le))
    drop-within (suc n) (x ∷ xs) ys le = drop-within n xs ys (omega (arith, le))

-- copies begin ever further on
pub waits_rise : (log : List Record) (first last : ℕ) (puts : List PutRecord) → Waits log first last puts → first ≤ last
waits_rise log first last [] waits = waits
waits_rise log first last (p ∷ puts) waits = omega (arith, waits.1, waits_rise log p.edge last puts waits.2)

-- what was made of a copy by all that waited, and a last record: the end of the log lies there, and that record after it
pub record LiesBelow {S : Type 0} (log : List Record) (first : ℕ) (item : Record × ℕ) (seen : S) (state : Edge × List (Record × ℕ) × S) : Type 0 where
  pub kept : List (Record × ℕ)
  pub lies : LiesAt log first state.0 kept
  pub items : state.1 ≡ kept ++ item ∷ []
  pub sees : state.2 ≡ seen

-- what waits at one place, one after the other: the last of it stands there
pub folded : {S : Type 0} (item_of : PutRecord → Record × ℕ) (seen_of : PutRecord → S) (log : List Record) (edge : Edge) (kept rest : List (Record × ℕ)) (s : S) (last : ℕ) (puts : List PutRecord) (put : PutRecord)
    → LiesFrom log edge kept → Waits log edge.place last puts → put.place ≡ length log → last ≤ put.edge → put.edge ≤ length log
    → LiesBelow log put.edge (item_of put) (seen_of put)
    (fold (λ (x : Edge × List (Record × ℕ) × S) (p : PutRecord). (edge_entered p.place p.edge x.0 x.1, kept_entered p.place p.edge x.0 x.1 (item_of p), seen_of p)) (edge, kept ++ rest, s) (puts ++ put ∷ []))
folded item_of seen_of log edge kept rest s last [] put lies waits at le within =
    record { kept = drop (put.edge - edge.place) (take (put.place - edge.place) (kept ++ rest)); lies = enters_at log edge kept rest put.place put.edge lies at (omega (arith, waits, le)) within; items = refl; sees = refl }
folded item_of seen_of log edge kept rest s last (p ∷ puts) put lies waits at le within =
    let rises = waits_rise log p.edge last puts waits.2 in
    let now = enters_at log edge kept rest p.place p.edge lies waits.0 waits.1 (omega (arith, rises, le, within)) in
    let next : Edge = edge_entered p.place p.edge edge (kept ++ rest) in
    folded item_of seen_of log next (drop (p.edge - edge.place) (take (p.place - edge.place) (kept ++ rest))) (item_of p ∷ []) (seen_of p) last puts put now.lies
    (subst (λ (n : ℕ). Waits log n last puts) (sym now.place) waits.2) at le within
