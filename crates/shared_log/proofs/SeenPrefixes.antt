-- What a history says of its log goes on being said by longer ones.
use Rattle.std.proofs.Common.{◌≡◌, ◌⊎◌, inl, inr, suc, ◌<◌, ◌≤◌, Bool, true, false, List, [], ◌∷◌, ◌++◌, length, Option, Some, None, refl, ap, sym, subst, ◌∙◌, arith, length-append}
use Rattle.std.proofs.lemmas.Bool.{cases_lt}
use mathlib.Core.List.{IsPrefix}
use Rattle.wal.specs.declared.record.Record.{Record}
use Rattle.shared_log.specs.declared.histories.entry.Entry.{Entry}
use Rattle.shared_log.specs.declared.histories.entry.Entry.TheVariants.{Offered, Confirmed}
use Rattle.shared_log.specs.SeenPrefixes.{one_of, settled_from, settled_records, open_from, shown_records, ends_from, ends_confirmed}
use Rattle.shared_log.proofs.Prefixes.{begins_itself, begins_longer, begins_other}

-- ---- one history after another

pub settled_after : (log : List Record) (o : Option Record) (es fs : List Entry) → settled_from log o (es ++ fs) ≡ settled_from (settled_from log o es) (open_from o es) fs
settled_after log o [] fs = refl
settled_after log o (Offered r ∷ es) fs = settled_after log (Some r) es fs
settled_after log o (Confirmed ∷ es) fs = settled_after (log ++ one_of o) None es fs

pub open_after : (o : Option Record) (es fs : List Entry) → open_from o (es ++ fs) ≡ open_from (open_from o es) fs
open_after o [] fs = refl
open_after o (Offered r ∷ es) fs = open_after (Some r) es fs
open_after o (Confirmed ∷ es) fs = open_after None es fs

pub ends_after : (b : Bool) (es fs : List Entry) → ends_from b (es ++ fs) ≡ ends_from (ends_from b es) fs
ends_after b [] fs = refl
ends_after b (Offered r ∷ es) fs = ends_after false es fs
ends_after b (Confirmed ∷ es) fs = ends_after true es fs

-- ---- the log only grows

grows : (log : List Record) (o : Option Record) (es : List Entry) → IsPrefix log (settled_from log o es)
grows log o [] = begins_itself log
grows log o (Offered r ∷ es) = grows log (Some r) es
grows log o (Confirmed ∷ es) = begins_longer log (log ++ one_of o) (settled_from (log ++ one_of o) None es) (one_of o, refl) (grows (log ++ one_of o) None es)

pub settled_grows : (es fs : List Entry) → IsPrefix es fs → IsPrefix (settled_records es) (settled_records fs)
settled_grows es fs begins =
    let is : settled_records fs ≡ settled_from (settled_records es) (open_from None es) begins.0 = ap settled_records (sym begins.1) ∙ settled_after [] None es begins.0 in
    subst (λ (l : List Record). IsPrefix (settled_records es) l) (sym is) (grows (settled_records es) (open_from None es) begins.0)

-- ---- a record is offered, and confirmed

pub settled_offer : (es : List Entry) (r : Record) → settled_records (es ++ Offered r ∷ []) ≡ settled_records es
settled_offer es r = settled_after [] None es (Offered r ∷ [])

pub shown_offer : (es : List Entry) (r : Record) → shown_records (es ++ Offered r ∷ []) ≡ settled_records es ++ r ∷ []
shown_offer es r = rw (settled_offer es r, open_after None es (Offered r ∷ [])) refl

pub settled_confirm : (es : List Entry) → settled_records (es ++ Confirmed ∷ []) ≡ shown_records es
settled_confirm es = settled_after [] None es (Confirmed ∷ [])

pub ends_confirm : (es : List Entry) → ends_confirmed (es ++ Confirmed ∷ []) ≡ true
ends_confirm es = ends_after true es (Confirmed ∷ [])

-- ---- what a reader was told is in what it finds

-- all but the last entry
last_of : (es : List Entry) (fs : List Entry) → IsPrefix es fs → length fs ≡ suc (length es) → (e : Entry) × (fs ≡ es ++ e ∷ [])
last_of es fs begins long = by_rest begins.0 begins.1
  where
    by_rest : (rest : List Entry) → es ++ rest ≡ fs → (e : Entry) × (fs ≡ es ++ e ∷ [])
    by_rest [] is = absurd (omega (arith, ap length is, length-append es [], long))
    by_rest (e ∷ []) is = (e, sym is)
    by_rest (e ∷ f ∷ rest) is = absurd (omega (arith, ap length is, length-append es (e ∷ f ∷ rest), long))

one_more : (es : List Entry) (e : Entry) → ends_confirmed (es ++ e ∷ []) ≡ true → settled_records (es ++ e ∷ []) ≡ shown_records es
one_more es (Offered r) ends = let never : false ≡ true = sym (ends_after true es (Offered r ∷ [])) ∙ ends in absurd cc
one_more es Confirmed ends = settled_confirm es

pub in_shown : (told found both : List Entry) → IsPrefix told both → IsPrefix found both → ends_confirmed told ≡ true → length told ≤ suc (length found) → IsPrefix (settled_records told) (shown_records found)
in_shown told found both first second ends few = by_length (cases_lt (length found) (length told))
  where
    shorter : length told ≤ length found → IsPrefix (settled_records told) (shown_records found)
    shorter le =
        begins_longer (settled_records told) (settled_records found) (shown_records found) (settled_grows told found (begins_other told found both first second le)) (one_of (open_from None found), refl)

    longer : length told ≡ suc (length found) → IsPrefix (settled_records told) (shown_records found)
    longer long =
        let last = last_of found told (begins_other found told both second first (omega (arith, long))) long in
        let same : settled_records told ≡ shown_records found = ap settled_records last.1 ∙ one_more found last.0 (ap ends_confirmed (sym last.1) ∙ ends) in
        subst (λ (l : List Record). IsPrefix l (shown_records found)) (sym same) (begins_itself (shown_records found))

    by_length : (length found < length told) ⊎ (length told ≤ length found) → IsPrefix (settled_records told) (shown_records found)
    by_length (inl gt) = longer (omega (arith, gt, few))
    by_length (inr le) = shorter le
