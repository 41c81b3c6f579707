-- A stream that is read on, kept alive, and moved.
use Rattle.std.proofs.Common.{◌≡◌, ◌<◌, ◌≤◌, ◌^◌, ℕ, ℤ, Bool, List, [], ◌∷◌, ◌++◌, refl, sym, ap, subst, ◌∙◌, append_assoc, arith}
use Rattle.std.specs.Prelude.{FitsSigned}
use Rattle.std.specs.List.{AllByRecursion}
use Rattle.std.specs.Int.{w64}
use Rattle.std.proofs.lemmas.List.{append-nil}
use Rattle.std.proofs.lemmas.Grind.{flat_map-append}
use Rattle.std.proofs.lemmas.List.Concat.{flat_map-cons}
use Rattle.pgoutput.specs.declared.messages.relation.Relation.{Relation}
use Rattle.wal.specs.declared.record.Record.{Record}
use Rattle.publication.specs.Publications.{PublicationSet}
use Rattle.publication.specs.Selection.{relation}
use Rattle.pgoutput.specs.declared.copy_both_message.Keepalive.{Keepalive}
use Rattle.pgoutput.specs.declared.published.Published.{Published}
use Rattle.pgoutput.specs.Words.{word_bytes, frames_of}
use Rattle.pgoutput.specs.Items.{Item, KeepaliveItem, Block, keepalive_word, item_words, words_of, bytes_of_items, transactions_of, relations_sent_by_all, relations_sent_through, FitsPublished, FitsItem, FitItems}
use Rattle.pgoutput.specs.Stream.{IsStream, AreSafeKeepalives}
use Rattle.pgoutput.proofs.Lists.{all_of_both}
use Rattle.walsender.specs.Published.{published_from, published_transactions}
use Rattle.walsender.specs.Sending.{blocks, published_bytes}
use Rattle.walsender.proofs.Batches.{published_from-append}

-- ---- items after items

sent-append : (a b : List Item) → transactions_of (a ++ b) ≡ transactions_of a ++ transactions_of b
sent-append [] b = refl
sent-append (KeepaliveItem k ∷ a) b = sent-append a b
sent-append (Block clock t ∷ a) b = ap (λ l. t ∷ l) (sent-append a b)

sent-blocks : (clock : ℤ) (ts : List Published) → transactions_of (blocks clock ts) ≡ ts
sent-blocks clock [] = refl
sent-blocks clock (t ∷ ts) = ap (λ l. t ∷ l) (sent-blocks clock ts)

spelled-append : (rel : ℕ → Relation) (told : List ℕ) (a b : List Item) → bytes_of_items rel told (a ++ b) ≡ bytes_of_items rel told a ++ bytes_of_items rel (relations_sent_through told (transactions_of a)) b
spelled-append rel told [] b = refl
spelled-append rel told (KeepaliveItem k ∷ a) b =
    let first = item_words rel told (KeepaliveItem k) in
    flat_map-append word_bytes first (words_of rel told (a ++ b))
    ∙ ap (λ (l : List ℕ). frames_of first ++ l) (spelled-append rel told a b)
    ∙ sym (append_assoc (frames_of first) (bytes_of_items rel told a) (bytes_of_items rel (relations_sent_through told (transactions_of a)) b))
    ∙ ap (λ (l : List ℕ). l ++ bytes_of_items rel (relations_sent_through told (transactions_of a)) b) (sym (flat_map-append word_bytes first (words_of rel told a)))
spelled-append rel told (Block clock t ∷ a) b =
    let first = item_words rel told (Block clock t) in
    let then = relations_sent_by_all told t.changes in
    flat_map-append word_bytes first (words_of rel then (a ++ b))
    ∙ ap (λ (l : List ℕ). frames_of first ++ l) (spelled-append rel then a b)
    ∙ sym (append_assoc (frames_of first) (bytes_of_items rel then a) (bytes_of_items rel (relations_sent_through then (transactions_of a)) b))
    ∙ ap (λ (l : List ℕ). l ++ bytes_of_items rel (relations_sent_through then (transactions_of a)) b) (sym (flat_map-append word_bytes first (words_of rel then a)))

-- ---- blocks fit

blocks_fit : (selection : PublicationSet) (clock : ℤ) (ts : List Published) → FitsSigned w64 clock → AllByRecursion (FitsPublished (relation selection)) ts → FitItems (relation selection) (blocks clock ts)
blocks_fit selection clock [] fits all = tt
blocks_fit selection clock (t ∷ ts) fits all = ((fits, all.0), blocks_fit selection clock ts fits all.1)

-- ---- safe keepalives

safe-blocks : (limit : ℕ) (clock : ℤ) (ts : List Published) → AreSafeKeepalives limit (blocks clock ts)
safe-blocks limit clock [] = tt
safe-blocks limit clock (t ∷ ts) = safe-blocks limit clock ts

all_later : (p limit : ℕ) (ts : List Published) → p ≤ limit → AllByRecursion (λ (t : Published). limit ≤ t.start) ts → AllByRecursion (λ (t : Published). p ≤ t.start) ts
all_later p limit [] le all = tt
all_later p limit (t ∷ ts) le all = (omega (arith, all.0), all_later p limit ts le all.1)

safe-more : (limit wider : ℕ) (items : List Item) (clock : ℤ) (ts : List Published) → limit ≤ wider → AllByRecursion (λ (t : Published). limit ≤ t.start) ts → AreSafeKeepalives limit items
    → AreSafeKeepalives wider (items ++ blocks clock ts)
safe-more limit wider [] clock ts le late safe = safe-blocks wider clock ts
safe-more limit wider (KeepaliveItem k ∷ items) clock ts le late safe =
    let behind : transactions_of (items ++ blocks clock ts) ≡ transactions_of items ++ ts = sent-append items (blocks clock ts) ∙ ap (λ l. transactions_of items ++ l) (sent-blocks clock ts) in
    let P : List Published → Type 0 = λ l. AllByRecursion (λ (t : Published). k.position ≤ t.start) l in
    (omega (arith, safe.0), subst P (sym behind) (all_of_both (λ (t : Published). k.position ≤ t.start) (transactions_of items) ts safe.1 (all_later k.position limit ts safe.0 late)), safe-more limit wider items clock ts le late safe.2)
safe-more limit wider (Block c t ∷ items) clock ts le late safe = safe-more limit wider items clock ts le late safe

safe-alive : (limit : ℕ) (items : List Item) (k : Keepalive) → k.position ≤ limit → AreSafeKeepalives limit items → AreSafeKeepalives limit (items ++ (KeepaliveItem k ∷ []))
safe-alive limit [] k le safe = (le, tt, tt)
safe-alive limit (KeepaliveItem j ∷ items) k le safe =
    let behind : transactions_of (items ++ (KeepaliveItem k ∷ [])) ≡ transactions_of items = sent-append items (KeepaliveItem k ∷ []) ∙ append-nil (transactions_of items) in
    let P : List Published → Type 0 = λ l. AllByRecursion (λ (t : Published). j.position ≤ t.start) l in
    (safe.0, subst P (sym behind) safe.1, safe-alive limit items k le safe.2)
safe-alive limit (Block clock t ∷ items) k le safe = safe-alive limit items k le safe

-- ---- a read, a keepalive

pub stream_read : (selection : PublicationSet) (clock : ℤ) (b more : List ℕ) (pre section : List Record) (s limit wider : ℕ) → IsStream (relation selection) b (published_transactions selection pre s) limit
    → more ≡ b ++ published_bytes selection clock (published_transactions selection pre s) (published_from selection s pre section) → limit ≤ wider
    → AllByRecursion (λ (t : Published). limit ≤ t.start) (published_from selection s pre section) → AllByRecursion (FitsPublished (relation selection)) (published_from selection s pre section) → FitsSigned w64 clock
    → IsStream (relation selection) more (published_transactions selection (pre ++ section) s) wider
stream_read selection clock b more pre section s limit wider stream grown le late fit fits =
    let ts = published_from selection s pre section in
    record {
      items = stream.items ++ blocks clock ts;
      fits = all_of_both (FitsItem (relation selection)) stream.items (blocks clock ts) stream.fits (blocks_fit selection clock ts fits fit);
      spells = grown ∙ ap (λ (l : List ℕ). l ++ published_bytes selection clock (published_transactions selection pre s) ts) stream.spells
          ∙ ap (λ (l : List Published). bytes_of_items (relation selection) [] stream.items ++ bytes_of_items (relation selection) (relations_sent_through [] l) (blocks clock ts)) (sym stream.sends)
          ∙ sym (spelled-append (relation selection) [] stream.items (blocks clock ts));
      sends = sent-append stream.items (blocks clock ts) ∙ ap (λ l. l ++ transactions_of (blocks clock ts)) stream.sends ∙ ap (λ l. published_transactions selection pre s ++ l) (sent-blocks clock ts)
          ∙ sym (published_from-append selection s [] pre section);
      safe = safe-more limit wider stream.items clock ts le late stream.safe;
    }

pub stream_kept_alive : (rel : ℕ → Relation) (clock : ℤ) (ask : Bool) (b : List ℕ) (ts : List Published) (limit : ℕ) → IsStream rel b ts limit → limit < 2 ^ 64 → FitsSigned w64 clock
    → IsStream rel (b ++ word_bytes (keepalive_word limit clock ask)) ts limit
stream_kept_alive rel clock ask b ts limit stream lt fits =
    let k : Keepalive = record { position = limit; clock = clock; ask = ask } in
    record {
      items = stream.items ++ (KeepaliveItem k ∷ []);
      fits = all_of_both (FitsItem rel) stream.items (KeepaliveItem k ∷ []) stream.fits ((lt, fits), tt);
      spells = ap (λ (l : List ℕ). l ++ word_bytes (keepalive_word limit clock ask)) stream.spells
          ∙ ap (λ (l : List ℕ). bytes_of_items rel [] stream.items ++ l) (sym (flat_map-cons word_bytes (keepalive_word limit clock ask) [] ∙ append-nil (word_bytes (keepalive_word limit clock ask))))
          ∙ sym (spelled-append rel [] stream.items (KeepaliveItem k ∷ []));
      sends = sent-append stream.items (KeepaliveItem k ∷ []) ∙ append-nil (transactions_of stream.items) ∙ stream.sends;
      safe = safe-alive limit stream.items k (omega arith) stream.safe;
    }

pub stream_moved : (rel : ℕ → Relation) (a b : List ℕ) (ts : List Published) (limit : ℕ) → IsStream rel a ts limit → b ≡ a → IsStream rel b ts limit
stream_moved rel a b ts limit stream e = record { items = stream.items; fits = stream.fits; spells = e ∙ stream.spells; sends = stream.sends; safe = stream.safe }

pub stream_new : (rel : ℕ → Relation) (limit : ℕ) → IsStream rel [] [] limit
stream_new rel limit = record { items = []; fits = tt; spells = refl; sends = refl; safe = tt }
