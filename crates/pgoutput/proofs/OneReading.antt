-- A stream has one reading: frames to words, words to items, and both together.
use Rattle.std.proofs.Common.{◌≡◌, ℕ, ℤ, Bool, true, false, cond, List, [], ◌∷◌, ◌++◌, refl, sym, ap, ◌∙◌, append_assoc, arith}
use Rattle.std.specs.List.{AllByRecursion}
use Rattle.pgoutput.specs.declared.logical.Logical.{Logical}
use Rattle.pgoutput.specs.declared.logical.Logical.TheVariants as logical
use Rattle.pgoutput.specs.declared.messages.begin.Begin.{Begin}
use Rattle.pgoutput.specs.declared.messages.message.Message.{Message}
use Rattle.pgoutput.specs.declared.messages.relation.Relation.{Relation}
use Rattle.pgoutput.specs.declared.copy_both_message.CopyBothMessage.{CopyBothMessage}
use Rattle.pgoutput.specs.declared.copy_both_message.CopyBothMessage.TheVariants as words
use Rattle.pgoutput.specs.declared.copy_both_message.Keepalive.{Keepalive}
use Rattle.pgoutput.specs.declared.published.Published.{Published}
use Rattle.pgoutput.specs.declared.published.PublishedChange.{PublishedChange}
use Rattle.pgoutput.specs.Words.{word_bytes, FitsWord}
use Rattle.pgoutput.specs.Items.{Item, KeepaliveItem, Block, words_by, transaction_words, xlogdata_word, tables_of, relations_due, relations_sent_by, relation_words, changes_words, item_words, relations_sent_after, words_of, bytes_of_items, IsOfChange, FitsChange, FitChanges, FitsItem, FitItems}
use Rattle.pgoutput.proofs.Ranges.{one_word, words_fit}
use Rattle.pgoutput.proofs.Words.{begins, IsSpelledOnce, words_are_code, words_are_full}

-- ---- words to items

-- numbers that tell kinds of words apart
abbrev message_kind : Logical → ℕ
message_kind (logical.Begin m) = 1
message_kind (logical.Commit m) = 2
message_kind (logical.Relation m) = 3
message_kind (logical.Message m) = cond m.is_transactional 4 5
message_kind _ = 4

abbrev kind_of : CopyBothMessage → ℕ
kind_of (words.Keepalive k) = 0
kind_of (words.XLogData s) = message_kind s.message

change_kind : (relation : ℕ → Relation) (m : Logical) → IsOfChange relation m → (message_kind m ≡ 2 → ⊥) × (message_kind m ≡ 3 → ⊥)
change_kind relation (logical.Insert m) h = (λ e. omega (arith, e), λ e. omega (arith, e))
change_kind relation (logical.Update m) h = (λ e. omega (arith, e), λ e. omega (arith, e))
change_kind relation (logical.Delete m) h = (λ e. omega (arith, e), λ e. omega (arith, e))
change_kind relation (logical.Truncate m) h = (λ e. omega (arith, e), λ e. omega (arith, e))
change_kind relation (logical.Message m) h = (λ e. omega (arith, e, sent_with m.is_transactional h), λ e. omega (arith, e, sent_with m.is_transactional h))
  where
    sent_with : (b : Bool) → b ≡ true → cond {A = ℕ} b 4 5 ≡ 4
    sent_with true h = refl
    sent_with false h = absurd cc
change_kind relation (logical.Begin m) h = absurd h
change_kind relation (logical.Commit m) h = absurd h
change_kind relation (logical.Relation m) h = absurd h

-- after the Relations the next word is the same, and so is what follows it
past_relations : (xs ys : List CopyBothMessage) (w v : CopyBothMessage) (u t : List CopyBothMessage) → AllByRecursion (λ x. kind_of x ≡ 3) xs → AllByRecursion (λ y. kind_of y ≡ 3) ys
    → (kind_of w ≡ 3 → ⊥) → (kind_of v ≡ 3 → ⊥) → xs ++ (w ∷ u) ≡ ys ++ (v ∷ t) → (w ≡ v) × (u ≡ t)
past_relations [] [] w v u t all_x all_y not_w not_v e = (cc, cc)
past_relations [] (y ∷ ys) w v u t all_x all_y not_w not_v e = let same : w ≡ y = cc in absurd (not_w (ap kind_of same ∙ all_y.0))
past_relations (x ∷ xs) [] w v u t all_x all_y not_w not_v e = let same : v ≡ x = cc in absurd (not_v (ap kind_of same ∙ all_x.0))
past_relations (x ∷ xs) (y ∷ ys) w v u t all_x all_y not_w not_v e = let tails : xs ++ (w ∷ u) ≡ ys ++ (v ∷ t) = cc in past_relations xs ys w v u t all_x.1 all_y.1 not_w not_v tails

are_relations : (relation : ℕ → Relation) (position : ℕ) (clock : ℤ) (oids : List ℕ) → AllByRecursion (λ w. kind_of w ≡ 3) (relation_words relation position clock oids)
are_relations relation position clock [] = tt
are_relations relation position clock (oid ∷ oids) = (refl, are_relations relation position clock oids)

-- a change's words in front of others
regrouped : (relation : ℕ → Relation) (relations_sent : List ℕ) (clock : ℤ) (c : PublishedChange) (cs : List PublishedChange) (x : List CopyBothMessage)
    → changes_words relation relations_sent clock (c ∷ cs) ++ x
    ≡ relation_words relation c.position clock (relations_due relations_sent (tables_of c.message)) ++ (xlogdata_word c.position clock c.message ∷ (changes_words relation (relations_sent_by relations_sent c) clock cs ++ x))
regrouped relation relations_sent clock c cs x =
    let front = relation_words relation c.position clock (relations_due relations_sent (tables_of c.message)) in
    append_assoc (front ++ (xlogdata_word c.position clock c.message ∷ [])) (changes_words relation (relations_sent_by relations_sent c) clock cs) x
    ∙ append_assoc front (xlogdata_word c.position clock c.message ∷ []) (changes_words relation (relations_sent_by relations_sent c) clock cs ++ x)

abbrev change_of : ℕ → Logical → PublishedChange
change_of position message = record { position = position; message = message }

same_xlogdata : (p q : ℕ) (c d : ℤ) (m n : Logical) → xlogdata_word p c m ≡ xlogdata_word q d n → (p ≡ q) × (c ≡ d) × (m ≡ n)
same_xlogdata p q c d m n e = (ap position_in e, ap (clock_in c) e, ap (message_in m) e)
  where
    position_in : CopyBothMessage → ℕ
    position_in (words.Keepalive k) = 0
    position_in (words.XLogData s) = s.start

    clock_in : ℤ → CopyBothMessage → ℤ
    clock_in z (words.Keepalive k) = z
    clock_in z (words.XLogData s) = s.clock

    message_in : Logical → CopyBothMessage → Logical
    message_in z (words.Keepalive k) = z
    message_in z (words.XLogData s) = s.message

same_changes : (relation : ℕ → Relation) (relations_sent : List ℕ) (clock : ℤ) (cs ds : List PublishedChange) (w v : CopyBothMessage) (x y : List CopyBothMessage)
    → AllByRecursion (FitsChange relation) cs → AllByRecursion (FitsChange relation) ds → kind_of w ≡ 2 → kind_of v ≡ 2
    → changes_words relation relations_sent clock cs ++ (w ∷ x) ≡ changes_words relation relations_sent clock ds ++ (v ∷ y) → (cs ≡ ds) × (w ≡ v) × (x ≡ y)
same_changes relation relations_sent clock [] [] w v x y fits_c fits_d is_w is_v e = (refl, cc, cc)
same_changes relation relations_sent clock [] (d ∷ ds) w v x y fits_c fits_d is_w is_v e =
    let kinds = change_kind relation d.message fits_d.0.of_change in
    let met = past_relations [] (relation_words relation d.position clock (relations_due relations_sent (tables_of d.message))) w (xlogdata_word d.position clock d.message) x (changes_words relation (relations_sent_by relations_sent d) clock ds ++ (v ∷ y))
    tt (are_relations relation d.position clock (relations_due relations_sent (tables_of d.message))) (λ is. omega (arith, is, is_w)) kinds.1 (e ∙ regrouped relation relations_sent clock d ds (v ∷ y)) in
    absurd (kinds.0 (sym (ap kind_of met.0) ∙ is_w))
same_changes relation relations_sent clock (c ∷ cs) [] w v x y fits_c fits_d is_w is_v e =
    let kinds = change_kind relation c.message fits_c.0.of_change in
    let met = past_relations (relation_words relation c.position clock (relations_due relations_sent (tables_of c.message))) [] (xlogdata_word c.position clock c.message) v (changes_words relation (relations_sent_by relations_sent c) clock cs ++ (w ∷ x)) y
    (are_relations relation c.position clock (relations_due relations_sent (tables_of c.message))) tt kinds.1 (λ is. omega (arith, is, is_v)) (sym (regrouped relation relations_sent clock c cs (w ∷ x)) ∙ e) in
    absurd (kinds.0 (ap kind_of met.0 ∙ is_v))
same_changes relation relations_sent clock (c ∷ cs) (d ∷ ds) w v x y fits_c fits_d is_w is_v e =
    let kinds_c = change_kind relation c.message fits_c.0.of_change in
    let kinds_d = change_kind relation d.message fits_d.0.of_change in
    let met = past_relations (relation_words relation c.position clock (relations_due relations_sent (tables_of c.message))) (relation_words relation d.position clock (relations_due relations_sent (tables_of d.message)))
    (xlogdata_word c.position clock c.message) (xlogdata_word d.position clock d.message) (changes_words relation (relations_sent_by relations_sent c) clock cs ++ (w ∷ x)) (changes_words relation (relations_sent_by relations_sent d) clock ds ++ (v ∷ y))
    (are_relations relation c.position clock (relations_due relations_sent (tables_of c.message))) (are_relations relation d.position clock (relations_due relations_sent (tables_of d.message))) kinds_c.1 kinds_d.1
    (sym (regrouped relation relations_sent clock c cs (w ∷ x)) ∙ e ∙ regrouped relation relations_sent clock d ds (v ∷ y)) in
    let parts = same_xlogdata c.position d.position clock clock c.message d.message met.0 in
    let change : c ≡ d = ap (λ (p : ℕ). change_of p c.message) parts.0 ∙ ap (change_of d.position) parts.2 in
    let aligned : changes_words relation (relations_sent_by relations_sent d) clock cs ++ (w ∷ x) ≡ changes_words relation (relations_sent_by relations_sent d) clock ds ++ (v ∷ y) = ap (λ (a : PublishedChange). changes_words relation (relations_sent_by relations_sent a) clock cs ++ (w ∷ x)) (sym change) ∙ met.1 in
    let inner = same_changes relation (relations_sent_by relations_sent d) clock cs ds w v x y fits_c.1 fits_d.1 is_w is_v aligned in
    (ap (λ (a : PublishedChange). a ∷ cs) change ∙ ap (λ (l : List PublishedChange). d ∷ l) inner.0, inner.1, inner.2)

abbrev published_of : Bool → ℕ → ℕ → ℤ → ℕ → List PublishedChange → Published
published_of is_note start end time xid changes = record { is_note = is_note; start = start; end = end; time = time; xid = xid; changes = changes }

-- what two published transactions or notes have in common that are the same but for their kind
record AreSame (t u : Published) : Type 0 where
  start : t.start ≡ u.start
  end : t.end ≡ u.end
  time : t.time ≡ u.time
  xid : t.xid ≡ u.xid
  changes : t.changes ≡ u.changes

is_no_begin : (m : Message) (b : Begin) → logical.Message m ≡ logical.Begin b → ⊥
is_no_begin m b e = cc

same_block : (relation : ℕ → Relation) (relations_sent : List ℕ) (a b : Bool) (clock other : ℤ) (t u : Published) (x y : List CopyBothMessage) → FitChanges a relation t → FitChanges b relation u
    → words_by a relation relations_sent clock t ++ x ≡ words_by b relation relations_sent other u ++ y → (clock ≡ other) × (a ≡ b) × AreSame t u × (x ≡ y)
same_block relation relations_sent true true clock other t u x y fits_t fits_u e =
    let words : xlogdata_word t.end clock (logical.Message fits_t.message) ∷ x ≡ xlogdata_word u.end other (logical.Message fits_u.message) ∷ y =
    ap (λ (ws : List CopyBothMessage). ws ++ x) (sym (one_word clock t fits_t)) ∙ e ∙ ap (λ (ws : List CopyBothMessage). ws ++ y) (one_word other u fits_u) in
    let first : xlogdata_word t.end clock (logical.Message fits_t.message) ≡ xlogdata_word u.end other (logical.Message fits_u.message) = cc in
    let same = same_xlogdata t.end u.end clock other (logical.Message fits_t.message) (logical.Message fits_u.message) first in
    let messages : fits_t.message ≡ fits_u.message = let is = same.2 in cc in
    let starts : t.start ≡ u.start = sym fits_t.position ∙ ap (λ (m : Message). m.position) messages ∙ fits_u.position in
    let behind : x ≡ y = cc in (
      same.1,
      refl,
      record {
        start = starts;
        end = same.0;
        time = fits_t.time ∙ sym fits_u.time;
        xid = fits_t.xid ∙ sym fits_u.xid;
        changes = fits_t.is ∙ ap (λ (p : ℕ). change_of p (logical.Message fits_t.message) ∷ []) starts ∙ ap (λ (m : Message). change_of u.start (logical.Message m) ∷ []) messages ∙ sym fits_u.is;
      },
      behind,
    )
same_block relation relations_sent true false clock other t u x y fits_t fits_u e =
    let begun : Begin = record { position = u.start; time = u.time; xid = u.xid } in
    let words : xlogdata_word t.end clock (logical.Message fits_t.message) ∷ x ≡ transaction_words relation relations_sent other u ++ y = ap (λ (ws : List CopyBothMessage). ws ++ x) (sym (one_word clock t fits_t)) ∙ e in
    let first : xlogdata_word t.end clock (logical.Message fits_t.message) ≡ xlogdata_word u.start other (logical.Begin begun) = cc in
    absurd (is_no_begin fits_t.message begun (same_xlogdata t.end u.start clock other (logical.Message fits_t.message) (logical.Begin begun) first).2)
same_block relation relations_sent false true clock other t u x y fits_t fits_u e =
    let begun : Begin = record { position = t.start; time = t.time; xid = t.xid } in
    let words : transaction_words relation relations_sent clock t ++ x ≡ xlogdata_word u.end other (logical.Message fits_u.message) ∷ y = e ∙ ap (λ (ws : List CopyBothMessage). ws ++ y) (one_word other u fits_u) in
    let first : xlogdata_word t.start clock (logical.Begin begun) ≡ xlogdata_word u.end other (logical.Message fits_u.message) = cc in
    absurd (is_no_begin fits_u.message begun (sym (same_xlogdata t.start u.end clock other (logical.Begin begun) (logical.Message fits_u.message) first).2))
same_block relation relations_sent false false clock other t u x y fits_t fits_u e =
    let begun : Logical = logical.Begin (record { position = t.start; time = t.time; xid = t.xid }) in
    let begun_too : Logical = logical.Begin (record { position = u.start; time = u.time; xid = u.xid }) in
    let ended : CopyBothMessage = xlogdata_word t.end clock (logical.Commit (record { position = t.start; end = t.end; time = t.time })) in
    let ended_too : CopyBothMessage = xlogdata_word u.end other (logical.Commit (record { position = u.start; end = u.end; time = u.time })) in
    let first : xlogdata_word t.start clock begun ≡ xlogdata_word u.start other begun_too = cc in
    let front = same_xlogdata t.start u.start clock other begun begun_too first in
    let tails : (changes_words relation relations_sent clock t.changes ++ (ended ∷ [])) ++ x ≡ (changes_words relation relations_sent other u.changes ++ (ended_too ∷ [])) ++ y = cc in
    let clocks : clock ≡ other = front.1 in
    let aligned : changes_words relation relations_sent other t.changes ++ (ended ∷ x) ≡ changes_words relation relations_sent other u.changes ++ (ended_too ∷ y) =
    ap (λ (z : ℤ). changes_words relation relations_sent z t.changes ++ (ended ∷ x)) (sym clocks)
    ∙ sym (append_assoc (changes_words relation relations_sent clock t.changes) (ended ∷ []) x) ∙ tails ∙ append_assoc (changes_words relation relations_sent other u.changes) (ended_too ∷ []) y in
    let inner = same_changes relation relations_sent other t.changes u.changes ended ended_too x y fits_t fits_u refl refl aligned in
    let last = same_xlogdata t.end u.end clock other (logical.Commit (record { position = t.start; end = t.end; time = t.time })) (logical.Commit (record { position = u.start; end = u.end; time = u.time })) inner.1 in
    (clocks, refl, record { start = front.0; end = last.0; time = ap (time_in t.time) front.2; xid = ap (xid_in t.xid) front.2; changes = inner.0 }, inner.2)
  where
    time_in : ℤ → Logical → ℤ
    time_in z (logical.Begin m) = m.time
    time_in z _ = z

    xid_in : ℕ → Logical → ℕ
    xid_in z (logical.Begin m) = m.xid
    xid_in z _ = z

no_keepalive : (relation : ℕ → Relation) (relations_sent : List ℕ) (is_note : Bool) (clock : ℤ) (t : Published) (k : Keepalive) (x y : List CopyBothMessage) → FitChanges is_note relation t
    → words_by is_note relation relations_sent clock t ++ x ≡ words.Keepalive k ∷ y → ⊥
no_keepalive relation relations_sent false clock t k x y fits e = cc
no_keepalive relation relations_sent true clock t k x y fits e =
    let words : xlogdata_word t.end clock (logical.Message fits.message) ∷ x ≡ words.Keepalive k ∷ y = ap (λ (ws : List CopyBothMessage). ws ++ x) (sym (one_word clock t fits)) ∙ e in
    cc

no_words : (relation : ℕ → Relation) (relations_sent : List ℕ) (is_note : Bool) (clock : ℤ) (t : Published) (x : List CopyBothMessage) → FitChanges is_note relation t
    → words_by is_note relation relations_sent clock t ++ x ≡ [] → ⊥
no_words relation relations_sent false clock t x fits e = cc
no_words relation relations_sent true clock t x fits e =
    let words : xlogdata_word t.end clock (logical.Message fits.message) ∷ x ≡ [] = ap (λ (ws : List CopyBothMessage). ws ++ x) (sym (one_word clock t fits)) ∙ e in
    cc

same_item : (relation : ℕ → Relation) (relations_sent : List ℕ) (i j : Item) (x y : List CopyBothMessage) → FitsItem relation i → FitsItem relation j
    → item_words relation relations_sent i ++ x ≡ item_words relation relations_sent j ++ y → (i ≡ j) × (x ≡ y)
same_item relation relations_sent (KeepaliveItem k) (KeepaliveItem l) x y fits_i fits_j e =
    let heads : words.Keepalive k ≡ words.Keepalive l = cc in
    let same : k ≡ l = cc in
    (ap KeepaliveItem same, cc)
same_item relation relations_sent (KeepaliveItem k) (Block clock t) x y fits_i fits_j e = absurd (no_keepalive relation relations_sent t.is_note clock t k y x fits_j.1.changes (sym e))
same_item relation relations_sent (Block clock t) (KeepaliveItem k) x y fits_i fits_j e = absurd (no_keepalive relation relations_sent t.is_note clock t k x y fits_i.1.changes e)
same_item relation relations_sent (Block clock t) (Block other u) x y fits_i fits_j e =
    let inner = same_block relation relations_sent t.is_note u.is_note clock other t u x y fits_i.1.changes fits_j.1.changes e in
    let same = inner.2 in
    let whole : t ≡ u = ap (λ (b : Bool). published_of b t.start t.end t.time t.xid t.changes) inner.1 ∙ ap (λ (n : ℕ). published_of u.is_note n t.end t.time t.xid t.changes) same.start
    ∙ ap (λ (n : ℕ). published_of u.is_note u.start n t.time t.xid t.changes) same.end ∙ ap (λ (z : ℤ). published_of u.is_note u.start u.end z t.xid t.changes) same.time
    ∙ ap (λ (n : ℕ). published_of u.is_note u.start u.end u.time n t.changes) same.xid ∙ ap (published_of u.is_note u.start u.end u.time u.xid) same.changes in
    (ap (λ (z : ℤ). Block z t) inner.0 ∙ ap (Block other) whole, inner.3)

-- items whose words begin the words of others are a beginning of those
pub begun_words : (relation : ℕ → Relation) (relations_sent : List ℕ) (a b : List Item) (x : List CopyBothMessage) → FitItems relation a → FitItems relation b
    → words_of relation relations_sent a ++ x ≡ words_of relation relations_sent b → (more : List Item) × (b ≡ a ++ more)
begun_words relation relations_sent [] b x fits_a fits_b e = (b, refl)
begun_words relation relations_sent (KeepaliveItem k ∷ a) [] x fits_a fits_b e = absurd cc
begun_words relation relations_sent (Block clock t ∷ a) [] x fits_a fits_b e =
    let behind = words_of relation (relations_sent_after relations_sent (Block clock t)) a in
    absurd (no_words relation relations_sent t.is_note clock t (behind ++ x) fits_a.0.1.changes (sym (append_assoc (words_by t.is_note relation relations_sent clock t) behind x) ∙ e))
begun_words relation relations_sent (i ∷ a) (j ∷ b) x fits_a fits_b e =
    let parted : item_words relation relations_sent i ++ (words_of relation (relations_sent_after relations_sent i) a ++ x) ≡ item_words relation relations_sent j ++ words_of relation (relations_sent_after relations_sent j) b = sym (append_assoc (item_words relation relations_sent i) (words_of relation (relations_sent_after relations_sent i) a) x) ∙ e in
    let same = same_item relation relations_sent i j (words_of relation (relations_sent_after relations_sent i) a ++ x) (words_of relation (relations_sent_after relations_sent j) b) fits_a.0 fits_b.0 parted in
    let aligned : words_of relation (relations_sent_after relations_sent j) a ++ x ≡ words_of relation (relations_sent_after relations_sent j) b = ap (λ (k : Item). words_of relation (relations_sent_after relations_sent k) a ++ x) (sym same.0) ∙ same.1 in
    let inner = begun_words relation (relations_sent_after relations_sent j) a b x fits_a.1 fits_b.1 aligned in
    (inner.0, ap (λ (l : List Item). j ∷ l) inner.1 ∙ ap (λ (k : Item). k ∷ (a ++ inner.0)) (sym same.0))

-- ---- a stream has one reading, and so has each beginning of one

pub one_reading : IsSpelledOnce → (relation : ℕ → Relation) (a b : List Item) (x : List ℕ) → FitItems relation a → FitItems relation b
    → bytes_of_items relation [] a ++ x ≡ bytes_of_items relation [] b → (more : List Item) × (b ≡ a ++ more)
one_reading once relation a b x fits_a fits_b e =
    let w = begins word_bytes FitsWord (words_are_code once) words_are_full (words_of relation [] a) (words_of relation [] b) x (words_fit relation [] a fits_a) (words_fit relation [] b fits_b) e in
    begun_words relation [] a b w.more fits_a fits_b (sym w.is)
