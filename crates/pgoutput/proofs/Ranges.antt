-- Items in range have words in range.
use Rattle.std.proofs.Common.{◌≡◌, ℕ, ℤ, ◌^◌, ◌<◌, Bool, true, false, cond, List, [], ◌∷◌, ◌++◌, map, sym, ap, subst, arith}
use Rattle.std.specs.Prelude.{FitsSigned}
use Rattle.std.specs.List.{AllByRecursion}
use Rattle.std.specs.Int.{w64, cast_unsigned}
use Rattle.std.proofs.lemmas.List.{length-append}
use Rattle.pqformat.specs.Fields.{int32, int64}
use Rattle.pqformat.proofs.Numbers.{length-int32, length-int64}
use Rattle.copyboth.specs.Keepalive.{ask_byte}
use Rattle.pgoutput.specs.declared.logical.Logical.{Logical}
use Rattle.pgoutput.specs.declared.logical.Logical.TheVariants as logical
use Rattle.pgoutput.specs.declared.messages.relation.Relation.{Relation}
use Rattle.pgoutput.specs.Logical.{spell_logical, FitsLogical}
use Rattle.pgoutput.specs.declared.copy_both_message.CopyBothMessage.{CopyBothMessage}
use Rattle.pgoutput.specs.declared.copy_both_message.CopyBothMessage.TheVariants as words
use Rattle.pgoutput.specs.declared.copy_both_message.Keepalive.{Keepalive}
use Rattle.pgoutput.specs.declared.published.Published.{Published}
use Rattle.pgoutput.specs.declared.published.PublishedChange.{PublishedChange}
use Rattle.pgoutput.proofs.Lists.{all_of_both}
use Rattle.pgoutput.specs.Words.{FitsWord}
use Rattle.pgoutput.specs.Items.{Item, KeepaliveItem, Block, words_by, note_words, xlogdata_word, tables_of, is_relation_sent, relations_due, relations_sent_by, relation_words, change_words, changes_words, item_words, relations_sent_after, words_of, IsShortMessage, FitsRelationOf, FitsChange, FitsNote, FitChanges, FitsPublished, FitsItem, FitItems}

-- a note's words
pub one_word : (clock : ℤ) (t : Published) (fits : FitsNote t) → note_words clock t ≡ xlogdata_word t.end clock (logical.Message fits.message) ∷ []
one_word clock t fits = ap (λ (cs : List PublishedChange). map (λ c. xlogdata_word t.end clock c.message) cs) fits.is

all_relations_due : (P : ℕ → Type 0) (relations_sent oids : List ℕ) → AllByRecursion P oids → AllByRecursion P (relations_due relations_sent oids)
all_relations_due P relations_sent [] all = tt
all_relations_due P relations_sent (oid ∷ oids) all = by_test (is_relation_sent relations_sent oid) (all_relations_due P relations_sent oids all.1) (all_relations_due P (oid ∷ relations_sent) oids all.1)
  where
    by_test : (b : Bool) → AllByRecursion P (relations_due relations_sent oids) → AllByRecursion P (relations_due (oid ∷ relations_sent) oids) → AllByRecursion P (cond b (relations_due relations_sent oids) (oid ∷ relations_due (oid ∷ relations_sent) oids))
    by_test true old new = old
    by_test false old new = (all.0, new)

xlogdata_fits : (position : ℕ) (clock : ℤ) (m : Logical) → position < 2 ^ 64 → FitsSigned w64 clock → FitsLogical m → IsShortMessage m → FitsWord (xlogdata_word position clock m)
xlogdata_fits position clock m lt fits in_range short = record {
  fields = (lt, lt, fits, in_range);
  short = omega (
    arith,
    short,
    length-int64 position,
    length-int64 (cast_unsigned w64 clock),
    length-append (int64 position) (int64 position ++ (int64 (cast_unsigned w64 clock) ++ spell_logical m)),
    length-append (int64 position) (int64 (cast_unsigned w64 clock) ++ spell_logical m),
    length-append (int64 (cast_unsigned w64 clock)) (spell_logical m),
  );
}

keepalive_fits : (k : Keepalive) → (k.position < 2 ^ 64) × FitsSigned w64 k.clock → FitsWord (words.Keepalive k)
keepalive_fits k fits = record {
  fields = fits;
  short = omega (
    arith,
    length-int64 k.position,
    length-int64 (cast_unsigned w64 k.clock),
    length-append (int64 k.position) (int64 (cast_unsigned w64 k.clock) ++ (ask_byte k.ask ∷ [])),
    length-append (int64 (cast_unsigned w64 k.clock)) (ask_byte k.ask ∷ []),
  );
}

relations_fit : (relation : ℕ → Relation) (position : ℕ) (clock : ℤ) (oids : List ℕ) → position < 2 ^ 64 → FitsSigned w64 clock → AllByRecursion (FitsRelationOf relation) oids
    → AllByRecursion FitsWord (relation_words relation position clock oids)
relations_fit relation position clock [] lt fits all = tt
relations_fit relation position clock (oid ∷ oids) lt fits all =
    (xlogdata_fits position clock (logical.Relation (relation oid)) lt fits all.0.fits all.0.short, relations_fit relation position clock oids lt fits all.1)

changes_fit : (relation : ℕ → Relation) (relations_sent : List ℕ) (clock : ℤ) (cs : List PublishedChange) → FitsSigned w64 clock → AllByRecursion (FitsChange relation) cs
    → AllByRecursion FitsWord (changes_words relation relations_sent clock cs)
changes_fit relation relations_sent clock [] fits all = tt
changes_fit relation relations_sent clock (c ∷ cs) fits all =
    all_of_both FitsWord (change_words relation relations_sent clock c) (changes_words relation (relations_sent_by relations_sent c) clock cs)
    (all_of_both FitsWord (relation_words relation c.position clock (relations_due relations_sent (tables_of c.message))) (xlogdata_word c.position clock c.message ∷ [])
    (relations_fit relation c.position clock (relations_due relations_sent (tables_of c.message)) all.0.position fits (all_relations_due (FitsRelationOf relation) relations_sent (tables_of c.message) all.0.relations))
    (xlogdata_fits c.position clock c.message all.0.position fits all.0.fits all.0.short, tt))
    (changes_fit relation (relations_sent_by relations_sent c) clock cs fits all.1)

block_fits : (relation : ℕ → Relation) (relations_sent : List ℕ) (is_note : Bool) (clock : ℤ) (t : Published) → FitsSigned w64 clock → FitsPublished relation t → FitChanges is_note relation t
    → AllByRecursion FitsWord (words_by is_note relation relations_sent clock t)
block_fits relation relations_sent true clock t in_range fits changes =
    let All : List CopyBothMessage → Type 0 = λ ws. AllByRecursion FitsWord ws in
    subst All (sym (one_word clock t changes)) (xlogdata_fits t.end clock (logical.Message changes.message) fits.end in_range changes.fits changes.short, tt)
block_fits relation relations_sent false clock t in_range fits changes =
    let begun : FitsWord (xlogdata_word t.start clock (logical.Begin (record { position = t.start; time = t.time; xid = t.xid }))) =
    xlogdata_fits t.start clock (logical.Begin (record { position = t.start; time = t.time; xid = t.xid })) fits.start in_range (fits.start, (fits.time, fits.xid))
    (omega (arith, length-int64 t.start, length-int64 (cast_unsigned w64 t.time), length-int32 t.xid, length-append (int64 t.start) (int64 (cast_unsigned w64 t.time) ++ int32 t.xid), length-append (int64 (cast_unsigned w64 t.time)) (int32 t.xid))) in
    let ended : FitsWord (xlogdata_word t.end clock (logical.Commit (record { position = t.start; end = t.end; time = t.time }))) =
    xlogdata_fits t.end clock (logical.Commit (record { position = t.start; end = t.end; time = t.time })) fits.end in_range (fits.start, (fits.end, fits.time))
    (omega (arith, length-int64 t.start, length-int64 t.end, length-int64 (cast_unsigned w64 t.time), length-append (int64 t.start) (int64 t.end ++ int64 (cast_unsigned w64 t.time)), length-append (int64 t.end) (int64 (cast_unsigned w64 t.time)))) in (
      begun,
      all_of_both FitsWord (changes_words relation relations_sent clock t.changes) (xlogdata_word t.end clock (logical.Commit (record { position = t.start; end = t.end; time = t.time })) ∷ [])
          (changes_fit relation relations_sent clock t.changes in_range changes) (ended, tt),
    )

item_fits : (relation : ℕ → Relation) (relations_sent : List ℕ) (i : Item) → FitsItem relation i → AllByRecursion FitsWord (item_words relation relations_sent i)
item_fits relation relations_sent (KeepaliveItem k) fits = (keepalive_fits k fits, tt)
item_fits relation relations_sent (Block clock t) fits = block_fits relation relations_sent t.is_note clock t fits.0 fits.1 fits.1.changes

pub words_fit : (relation : ℕ → Relation) (relations_sent : List ℕ) (items : List Item) → FitItems relation items → AllByRecursion FitsWord (words_of relation relations_sent items)
words_fit relation relations_sent [] fits = tt
words_fit relation relations_sent (i ∷ items) fits =
    all_of_both FitsWord (item_words relation relations_sent i) (words_of relation (relations_sent_after relations_sent i) items) (item_fits relation relations_sent i fits.0) (words_fit relation (relations_sent_after relations_sent i) items fits.1)
