-- The tables of a truncate, one after the other.
use Rattle.std.proofs.Common.{◌≡◌, ℕ, ◌+◌, ◌*◌, ◌≤◌, ◌<◌, Bool, true, false, cond, eqb, leb, List, [], ◌∷◌, ◌++◌, drop, get_or, length, take, sym, ap, ◌∙◌, append_assoc, append-nil, arith}
use Rattle.std.specs.Prelude.{filter}
use Rattle.std.specs.List.{flat_map}
use Rattle.std.proofs.lemmas.List.{drop_more, length-append, take_more}
use Rattle.std.proofs.lemmas.Grind.{flat_map-append}
use Rattle.std.proofs.lemmas.List.Concat.{flat_map-cons}
use Rattle.pqformat.specs.Fields.{int32}
use Rattle.pqformat.proofs.Numbers.{length-int32}
use Rattle.std.specs.List.{list_all}
use Rattle.std.specs.Prelude.{is_some, not}
use Rattle.std.proofs.lemmas.Bool.{leb-true}
use Rattle.tables.specs.declared.changes.change_body.TheConstants.{MAX_TRUNCATED}
use Rattle.tables.specs.declared.table.Table.{Table}
use Rattle.tables.specs.Tables.{repeats, table_of}
use Rattle.publication.specs.Projection.{may_be_emptied}
use Rattle.row_messages.proofs.Rows.{both_true}

-- one OID more is written
pub one_more : (oids : List ℕ) (i : ℕ) (oid : ℕ) → i < length oids → oid ≡ get_or oids i 0 → flat_map int32 (take (i + 1) oids) ≡ flat_map int32 (take i oids) ++ int32 oid
one_more oids i oid low is =
    ap (flat_map int32) (take_more oids i 0 low ∙ ap (λ x. take i oids ++ x ∷ []) (sym is)) ∙ flat_map-append int32 (take i oids) (oid ∷ [])
    ∙ ap (λ l. flat_map int32 (take i oids) ++ l) (flat_map-cons int32 oid [] ∙ append-nil (int32 oid))

pub oids_length : (oids : List ℕ) → length (flat_map int32 oids) ≡ 4 * length oids
oids_length [] = omega arith
oids_length (x ∷ oids) = omega (arith, ap length (flat_map-cons int32 x oids), length-append (int32 x) (flat_map int32 oids), length-int32 x, oids_length oids)

module _ (p : ℕ → Bool) (oids : List ℕ) (i oid : ℕ) (low : i < length oids) (is : oid ≡ get_or oids i oid) where
  from : drop i oids ≡ oid ∷ drop (i + 1) oids
  from = drop_more oids i oid low ∙ ap (λ y. y ∷ drop (i + 1) oids) (sym is)

  pub kept : (front more : List ℕ) → p oid ≡ true → more ≡ front ++ oid ∷ [] → front ++ filter p (drop i oids) ≡ filter p oids → more ++ filter p (drop (i + 1) oids) ≡ filter p oids
  kept front more holds grown so_far =
      ap (λ l. l ++ filter p (drop (i + 1) oids)) grown ∙ append_assoc front (oid ∷ []) (filter p (drop (i + 1) oids))
      ∙ ap (λ l. front ++ l) (sym (ap (filter p) from ∙ ap (λ b. cond b (oid ∷ filter p (drop (i + 1) oids)) (filter p (drop (i + 1) oids))) holds)) ∙ so_far

  pub passed : (front : List ℕ) → p oid ≡ false → front ++ filter p (drop i oids) ≡ filter p oids → front ++ filter p (drop (i + 1) oids) ≡ filter p oids
  passed front other so_far = ap (λ l. front ++ l) (sym (ap (filter p) from ∙ ap (λ b. cond b (oid ∷ filter p (drop (i + 1) oids)) (filter p (drop (i + 1) oids))) other)) ∙ so_far

pub truncation_length : (oids : List ℕ) → length (84 ∷ (int32 (length oids) ++ ((0 ∷ []) ++ flat_map int32 oids))) ≡ 6 + 4 * length oids
truncation_length oids = omega (arith, length-append (int32 (length oids)) ((0 ∷ []) ++ flat_map int32 oids), length-int32 (length oids), oids_length oids)

pub few_emptied : (tables : List Table) (oids : List ℕ) → may_be_emptied tables oids ≡ true → length oids ≤ MAX_TRUNCATED
few_emptied tables oids is =
    let some = both_true (list_all (λ oid. is_some (table_of oid tables)) oids) _ is in
    let others = both_true (not (eqb (length oids) 0)) _ some.1 in
    leb-true (length oids) MAX_TRUNCATED (both_true (not (repeats oids)) (leb (length oids) MAX_TRUNCATED) others.1).1
