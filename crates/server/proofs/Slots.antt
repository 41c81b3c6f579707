-- A text that drops a slot is read.
use Rattle.std.proofs.Common.{◌≡◌, ◌≤◌, ℕ, ◌<◌, Bool, true, false, eqb, leb, List, [], ◌∷◌, ◌++◌, None, length, refl, sym, ap, subst, ◌∙◌, ⊎_elim, inl, inr, append-nil, arith}
use Rattle.std.specs.Prelude.{◌≢◌, ◌⊎◌, ◌&&◌, ◌||◌, codes, nat_le, nat_lt, Result, Ok, Err, IfOk, MatchOption, Option, Some}
use Rattle.std.specs.declared.alloc.AllocError.{AllocError}
use Rattle.std.specs.List.{list_all}
use Rattle.std.specs.Char.{is_ascii_digit, is_ascii_lowercase}
use Rattle.std.specs.Str.{IsUtf8}
use Rattle.std.proofs.lemmas.Bool.{eqb-true, leb-true}
use Rattle.std.proofs.lemmas.List.{append_cancel_left, append_cancel_right}
use Rattle.pqformat.specs.Quoting.{in_quotes}
use Rattle.replcmd.specs.Words.{is_slot_byte, is_slot_name}
use Rattle.pqformat.proofs.Quoting.{found}
use Rattle.replcmd.proofs.Texts.{cut_at_ascii, with_ascii}
use Rattle.server.specs.Questions.{SpellsDrop, SpellsSlot}
use Rattle.server.specs.Reading.{quoted_front}
use Rattle.server.specs.declared.asked.quoted.TheConstants.{NAME_QUOTE}
use Rattle.server.proofs.Quotes.{quoted_reads, quoted_spells}
use Rattle.server.proofs.Lists.{same_first}

both : (p q : Bool) → (p && q) ≡ true → (p ≡ true) × (q ≡ true)
both true q e = (refl, e)
both false q e = absurd cc

-- ---- names

-- the quote is no byte of a slot's name
pub no_quote : (slot rest : List ℕ) → is_slot_name slot ≡ true → slot ≡ NAME_QUOTE ∷ rest → ⊥
no_quote slot rest short is =
    let named : is_slot_name (NAME_QUOTE ∷ rest) ≡ true = ap is_slot_name (sym is) ∙ short in
    let all = (both (nat_le (length (NAME_QUOTE ∷ rest)) 63) (list_all is_slot_byte (NAME_QUOTE ∷ rest)) (both (nat_lt 0 (length (NAME_QUOTE ∷ rest))) _ named).1).1 in
    absurd cc

pub quoted_once : (a b : List ℕ) → in_quotes NAME_QUOTE a ≡ in_quotes NAME_QUOTE b → a ≡ b
quoted_once a b e =
    (same_first a [] b [] (sym (quoted_reads NAME_QUOTE a [] refl) ∙ ap (quoted_front NAME_QUOTE) (append-nil (in_quotes NAME_QUOTE a) ∙ e ∙ sym (append-nil (in_quotes NAME_QUOTE b))) ∙ quoted_reads NAME_QUOTE b [] refl)).0

pub slot_is : (named a b : List ℕ) → is_slot_name a ≡ true → is_slot_name b ≡ true → SpellsSlot named a → SpellsSlot named b → a ≡ b
slot_is named a b short_a short_b x y =
    ⊎_elim (λ (p : named ≡ in_quotes NAME_QUOTE a).
    ⊎_elim (λ (q : named ≡ in_quotes NAME_QUOTE b). quoted_once a b (sym p ∙ q)) (λ (q : named ≡ b). absurd (no_quote b _ short_b (sym q ∙ p))) y)
    (λ (p : named ≡ a).
    ⊎_elim (λ (q : named ≡ in_quotes NAME_QUOTE b). absurd (no_quote a _ short_a (sym p ∙ q))) (λ (q : named ≡ b). sym p ∙ q) y) x

-- ---- the text round it

pub named_once : (text a b : List ℕ) → text ≡ codes "DROP_REPLICATION_SLOT " ++ (a ++ codes " WAIT") → text ≡ codes "DROP_REPLICATION_SLOT " ++ (b ++ codes " WAIT") → a ≡ b
named_once text a b x y = append_cancel_right a b (codes " WAIT") (append_cancel_left (codes "DROP_REPLICATION_SLOT ") (a ++ codes " WAIT") (b ++ codes " WAIT") (sym x ∙ y))

pub drop_once : (text a b : List ℕ) → SpellsDrop text a → SpellsDrop text b → a ≡ b
drop_once text a b x y =
    slot_is y.1.0 a b x.0 y.0 (subst (λ (l : List ℕ). SpellsSlot l a) (named_once text x.1.0 y.1.0 x.1.1 y.1.1) x.1.2) y.1.2

-- ---- a name without quotes is a text

slot_text : (bytes : List ℕ) → list_all is_slot_byte bytes ≡ true → IsUtf8 bytes
slot_text [] all = ([], (refl, refl))
slot_text (b ∷ bytes) all = let x = both (is_slot_byte b) (list_all is_slot_byte bytes) all in with_ascii b bytes (slot_byte_low b x.0) (slot_text bytes x.1)
  where
    either : (p q : Bool) → (p || q) ≡ true → (p ≡ true) ⊎ (q ≡ true)
    either true q e = inl refl
    either false q e = inr e

    within : (low high b : ℕ) → (leb low b && leb b high) ≡ true → b ≤ high
    within low high b e = leb-true b high (both (leb low b) (leb b high) e).1

    slot_byte_low : (b : ℕ) → is_slot_byte b ≡ true → b < 128
    slot_byte_low b is =
        ⊎_elim (λ (l : is_ascii_lowercase b ≡ true). let w = within 97 122 b l in omega (arith, w))
        (λ (o : (is_ascii_digit b || eqb b 95) ≡ true).
        ⊎_elim (λ (d : is_ascii_digit b ≡ true). let w = within 48 57 b d in omega (arith, w)) (λ (u : eqb b 95 ≡ true). omega (arith, eqb-true b 95 u)) (either (is_ascii_digit b) (eqb b 95) o))
        (either (is_ascii_lowercase b) (is_ascii_digit b || eqb b 95) is)

pub name_is_text : (slot : List ℕ) → is_slot_name slot ≡ true → IsUtf8 slot
name_is_text slot short = slot_text slot (both (nat_le (length slot) 63) (list_all is_slot_byte slot) (both (nat_lt 0 (length slot)) _ short).1).1

pub not_slot_name : (bytes : List ℕ) → (IsUtf8 bytes → ⊥) → is_slot_name bytes ≡ false
not_slot_name bytes none = by_test (is_slot_name bytes) (λ short. none (name_is_text bytes short))
  where
    by_test : (b : Bool) → (b ≡ true → ⊥) → b ≡ false
    by_test true never = absurd (never refl)
    by_test false never = refl

-- ---- what is read

pub not_named : (named : List ℕ) → quoted_front NAME_QUOTE named ≡ None → (slot : List ℕ) → is_slot_name slot ≡ true → named ≡ in_quotes NAME_QUOTE slot → ⊥
not_named named read slot short is = cc (sym read ∙ ap (quoted_front NAME_QUOTE) (is ∙ sym (append-nil (in_quotes NAME_QUOTE slot))) ∙ quoted_reads NAME_QUOTE slot [] refl)

pub nothing_left : (rest : List ℕ) → eqb (length rest) 0 ≡ true → rest ≡ []
nothing_left [] e = refl
nothing_left (b ∷ rest) e = absurd (omega (arith, eqb-true (length (b ∷ rest)) 0 e))

pub name_read : (named slot rest : List ℕ) → quoted_front NAME_QUOTE named ≡ found slot rest → rest ≡ [] → named ≡ in_quotes NAME_QUOTE slot
name_read named slot rest read end = quoted_spells NAME_QUOTE named slot rest read ∙ ap (λ (l : List ℕ). in_quotes NAME_QUOTE slot ++ l) end ∙ append-nil (in_quotes NAME_QUOTE slot)

pub the_name : (named other rest : List ℕ) → quoted_front NAME_QUOTE named ≡ found other rest → (slot : List ℕ) → is_slot_name slot ≡ true → named ≡ in_quotes NAME_QUOTE slot → (rest ≡ []) × (is_slot_name other ≡ true)
the_name named other rest read slot short is =
    let same = same_first other rest slot [] (sym read ∙ ap (quoted_front NAME_QUOTE) (is ∙ sym (append-nil (in_quotes NAME_QUOTE slot))) ∙ quoted_reads NAME_QUOTE slot [] refl) in
    (same.1, ap is_slot_name same.0 ∙ short)

-- what stands before the word at the end is a text
pub named_text : (text named : List ℕ) → text ≡ named ++ codes " WAIT" → IsUtf8 text → IsUtf8 named
named_text text named is valid = (cut_at_ascii named 32 (codes "WAIT") (omega arith) (subst IsUtf8 is valid)).0

pub drops_quoted : (text rest named : List ℕ) (r : Result (Option (List ℕ)) AllocError) → text ≡ codes "DROP_REPLICATION_SLOT " ++ rest → rest ≡ named ++ codes " WAIT" → is_slot_name named ≡ false
    → IfOk r (λ f. MatchOption f ((slot : List ℕ) → is_slot_name slot ≡ true → named ≢ in_quotes NAME_QUOTE slot) (λ slot. (is_slot_name slot ≡ true) × (named ≡ in_quotes NAME_QUOTE slot)))
    → IfOk r (λ f. MatchOption f ((slot : List ℕ) → SpellsDrop text slot → ⊥) (λ slot. SpellsDrop text slot))
drops_quoted text rest named (Err e) front end bare fact = tt
drops_quoted text rest named (Ok None) front end bare fact = λ slot spells.
    let same : named ≡ spells.1.0 = named_once text named spells.1.0 (front ∙ ap (λ (l : List ℕ). codes "DROP_REPLICATION_SLOT " ++ l) end) spells.1.1 in
    ⊎_elim (λ (q : spells.1.0 ≡ in_quotes NAME_QUOTE slot). fact slot spells.0 (same ∙ q)) (λ (q : spells.1.0 ≡ slot). absurd (cc (sym bare ∙ ap is_slot_name (same ∙ q) ∙ spells.0))) spells.1.2
drops_quoted text rest named (Ok (Some slot)) front end bare fact = (fact.0, (named, front ∙ ap (λ (l : List ℕ). codes "DROP_REPLICATION_SLOT " ++ l) end, inl fact.1))
