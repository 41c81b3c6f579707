-- What entries tell of a log: the more of them, the longer the log.
use Rattle.std.proofs.Common.{◌≡◌, ℕ, ◌+◌, ◌<◌, Bool, true, false, cond, eqb, List, [], ◌∷◌, ◌++◌, length, take, get_or, inl, inr, refl, sym, ap, subst, ◌∙◌, append_assoc}
use Rattle.std.proofs.lemmas.List.{append-nil, take_more}
use mathlib.Core.List.{IsPrefix}
use Rattle.std.specs.List.{AllByRecursion}
use Rattle.std.proofs.lemmas.Bool.{eqb-true}
use Rattle.wal.specs.declared.record.TheConstants.{FIRST_POSITION}
use Rattle.wal.specs.Log.{IsSized, IsWellFormedLog, end_of, follows, size_of}
use Rattle.wal.specs.Records.{record_after}
use Rattle.wal.proofs.Growing.{end_of_push}
use Rattle.segments.specs.Keeping.{bodies_of}
use Rattle.wal.specs.declared.record.Body.{Body}
use Rattle.wal.specs.declared.record.Record.{Record}
use Rattle.segments.specs.Entries.{Written}
use Rattle.segments.specs.Records.{SpellsRecord}
use Rattle.segments.specs.Recovery.{AreTold, Replays, ReplaysEntry, ReplaysOne, log_after}
use Rattle.segments.specs.Kinds.{is_beside, records_in}
use Rattle.segments.proofs.Beside.{beside_last, record_last, records_begin, spelled_no_beside}
use Rattle.segments.proofs.Prefixes.{head_same, tail_same}
use Rattle.segments.proofs.Told.{one_spelling}

longer : (log : List Record) (bodies : List Body) → IsPrefix log (log_after log bodies)
longer log [] = ([], append-nil log)
longer log (b ∷ bodies) =
    let one : List Record = record_after log b ∷ [] in
    let more = longer (log ++ one) bodies in
    (one ++ more.0, sym (append_assoc log one more.0) ∙ more.1)

begins_log : (log : List Record) (es fs : List Written) (bs cs : List Body) → AreTold es bs → AreTold fs cs → IsPrefix es fs → IsPrefix (log_after log bs) (log_after log cs)
begins_log log [] fs [] cs p q front = longer log cs
begins_log log [] fs (b ∷ bs) cs p q front = absurd p
begins_log log (e ∷ es) fs [] cs p q front = absurd p
begins_log log (e ∷ es) [] (b ∷ bs) cs p q front = let is = front.1 in absurd cc
begins_log log (e ∷ es) (f ∷ fs) (b ∷ bs) [] p q front = absurd q
begins_log log (e ∷ es) (f ∷ fs) (b ∷ bs) (c ∷ cs) p q front =
    let first : e ≡ f = head_same e f (es ++ front.0) fs front.1 in
    let same : b ≡ c = one_spelling b c p.0.in_range q.0.in_range (sym p.0.text ∙ ap (λ (w : Written). w.body) first ∙ q.0.text) in
    let inner = begins_log (log ++ record_after log b ∷ []) es fs bs cs p.1 q.1 (front.0, tail_same e f (es ++ front.0) fs front.1) in
    subst (λ (d : Body). IsPrefix (log_after (log ++ record_after log b ∷ []) bs) (log_after (log ++ record_after log d ∷ []) cs)) same inner

log_after_more : (log : List Record) (bodies : List Body) (b : Body) → log_after log (bodies ++ b ∷ []) ≡ log_after log bodies ++ record_after (log_after log bodies) b ∷ []
log_after_more log [] b = refl
log_after_more log (c ∷ bodies) b = log_after_more (log ++ record_after log c ∷ []) bodies b

told_after : (es : List Written) (bodies : List Body) (e : Written) (b : Body) → AreTold es bodies → SpellsRecord e.body b → AreTold (es ++ e ∷ []) (bodies ++ b ∷ [])
told_after [] [] e b told spells = (spells, tt)
told_after [] (c ∷ bodies) e b told spells = absurd told
told_after (f ∷ es) [] e b told spells = absurd told
told_after (f ∷ es) (c ∷ bodies) e b told spells = (told.0, told_after es bodies e b told.1 spells)

pub none_replayed : (log : List Record) → Replays [] log log
none_replayed log = record { bodies = []; told = tt; log = refl }

one_replayed : (es : List Written) (e : Written) (old middle new : List Record) → Replays es old middle → ReplaysEntry e.body middle new → Replays (es ++ e ∷ []) old new
one_replayed es e old middle new front (inl (beside, same)) =
    record { bodies = front.bodies; told = subst (λ (l : List Written). AreTold l front.bodies) (sym (beside_last es e beside)) front.told; log = same ∙ front.log }
one_replayed es e old middle new front (inr one) =
    let last = subst (λ (log : List Record). new ≡ log ++ record_after log one.body ∷ []) front.log one.log in
    let told = told_after (records_in es) front.bodies e one.body front.told one.told in
    record {
      bodies = front.bodies ++ one.body ∷ [];
      told = subst (λ (l : List Written). AreTold l (front.bodies ++ one.body ∷ [])) (sym (record_last es e (spelled_no_beside e.body one.body one.told))) told;
      log = last ∙ sym (log_after_more old front.bodies one.body);
    }

-- one entry more
pub replays_more : (es : List Written) (i : ℕ) (e : Written) (old middle new : List Record) → i < length es → e ≡ get_or es i e → Replays (take i es) old middle → ReplaysEntry e.body middle new → Replays (take (i + 1) es) old new
replays_more es i e old middle new below is front one =
    let step : take (i + 1) es ≡ take i es ++ e ∷ [] = take_more es i e below ∙ ap (λ (f : Written). take i es ++ f ∷ []) (sym is) in
    subst (λ (l : List Written). Replays l old new) (sym step) (one_replayed (take i es) e old middle new front one)

-- ---- a log by what its records say

same_record : (r : Record) (at : ℕ) (body : Body) → r.start ≡ at → r.end ≡ r.start + size_of r.body → body ≡ r.body → record { start = at; end = at + size_of body; body = body } ≡ r
same_record r at body start end is =
    let first = ap (λ (b : Body). record { start = at; end = at + size_of b; body = b }) is in
    let second = ap (λ (n : ℕ). record { start = n; end = n + size_of r.body; body = r.body }) (sym start) in
    first ∙ second ∙ ap (λ (n : ℕ). record { start = r.start; end = n; body = r.body }) (sym end)

from_bodies : (front rest : List Record) → follows (end_of FIRST_POSITION front) rest ≡ true → AllByRecursion IsSized rest → log_after front (bodies_of rest) ≡ front ++ rest
from_bodies front [] follow sized = sym (append-nil front)
from_bodies front (r ∷ rest) follow sized = by_test (eqb r.start (end_of FIRST_POSITION front)) refl (λ next. from_bodies (front ++ r ∷ []) rest next sized.1) follow
  where
    by_test : (t : Bool) → eqb r.start (end_of FIRST_POSITION front) ≡ t → (follows (end_of FIRST_POSITION (front ++ r ∷ [])) rest ≡ true → log_after (front ++ r ∷ []) (bodies_of rest) ≡ (front ++ r ∷ []) ++ rest) → cond t (follows r.end rest) false ≡ true → log_after (front ++ record_after front r.body ∷ []) (bodies_of rest) ≡ front ++ r ∷ rest
    by_test true is inner follow =
        let same : record_after front r.body ≡ r = same_record r (end_of FIRST_POSITION front) r.body (eqb-true r.start (end_of FIRST_POSITION front) is) sized.0 refl in
        let next : follows (end_of FIRST_POSITION (front ++ r ∷ [])) rest ≡ true = rw (end_of_push FIRST_POSITION front r) follow in
        ap (λ (s : Record). log_after (front ++ s ∷ []) (bodies_of rest)) same ∙ inner next ∙ append_assoc front (r ∷ []) rest
    by_test false is inner follow = absurd cc

pub recovered : (log other : List Record) (es found : List Written) → IsWellFormedLog log → AreTold (records_in es) (bodies_of log) → Replays found [] other → (IsPrefix found es → IsPrefix other log) × (IsPrefix es found → IsPrefix log other)
recovered log other es found good told replays =
    let none : List Record = [] in
    let whole : log_after none (bodies_of log) ≡ log = from_bodies none log good.follows good.sizes in
    let P : (l m : List Record) → Type 0 = λ l m. IsPrefix l m in (
      λ front. subst (λ (l : List Record). P l log) (sym replays.log) (subst (λ (l : List Record). P (log_after none replays.bodies) l) whole (begins_log none (records_in found) (records_in es) replays.bodies (bodies_of log) replays.told told (records_begin found es front))),
      λ front. subst (λ (l : List Record). P log l) (sym replays.log) (subst (λ (l : List Record). P l (log_after none replays.bodies)) whole (begins_log none (records_in es) (records_in found) (bodies_of log) replays.bodies told replays.told (records_begin es found front))),
    )
