-- A frame that is made at once, a head and a message after it, is the frame of a word; and what it is of the changes' bytes.
use Rattle.std.proofs.Common.{◌≡◌, ◌≤◌, ◌+◌, ℕ, ℤ, Bool, true, false, cond, List, [], ◌∷◌, ◌++◌, length, take, reverse, refl, sym, ap, subst, ◌∙◌, append_assoc, arith}
use Rattle.std.specs.Prelude.{◌==◌, ◌||◌}
use Rattle.std.specs.List.{AllByRecursion, list_any}
use Rattle.std.specs.Int.{w64, cast_unsigned}
use Rattle.std.proofs.lemmas.Bool.{eq-eqb, eqb-true}
use Rattle.std.proofs.lemmas.Grind.{reverse_onto}
use Rattle.std.proofs.lemmas.List.{length-append, length-take-le}
use Rattle.std.proofs.lemmas.List.Concat.{flat_map-cons}
use Rattle.std.proofs.Math.Seq.{take-append-add}
use Rattle.pqformat.specs.Fields.{int32, int64}
use Rattle.pqformat.proofs.Numbers.{length-int32, length-int64}
use Rattle.frames.specs.Frame.{frame}
use Rattle.frames.specs.declared.copy_data.TheConstants.{COPY_DATA}
use Rattle.copyboth.specs.XLogData.{xlogdata}
use Rattle.copyboth.specs.declared.xlogdata.TheConstants.{XLOGDATA}
use Rattle.pgoutput.specs.declared.logical.Logical.{Logical}
use Rattle.pgoutput.specs.declared.logical.Logical.TheVariants as logical
use Rattle.pgoutput.specs.declared.messages.relation.Relation.{Relation}
use Rattle.pgoutput.specs.Logical.{spell_logical}
use Rattle.publication.specs.Publications.{PublicationSet}
use Rattle.publication.specs.Selection.{relation}
use Rattle.pgoutput.specs.declared.published.PublishedChange.{PublishedChange}
use Rattle.pgoutput.specs.declared.copy_both_message.CopyBothMessage.{CopyBothMessage}
use Rattle.pgoutput.specs.Words.{frames_of, word_bytes}
use Rattle.pgoutput.specs.Items.{changes_words, is_relation_sent, relation_words, relations_due, relations_sent_by, relations_sent_by_all, tables_of, xlogdata_word}
use Rattle.walsender.specs.Waiting.{Makes, changes_bytes, frame_head}
use Rattle.walsender.proofs.Heads.{either}
use Rattle.walsender.proofs.Framing.{xlogdata_whole}

-- ---- A FRAME

pub length-head : (position : ℕ) (clock : ℤ) (size : ℕ) → length (frame_head position clock size) ≡ 30
length-head position clock size =
    let end = int64 (cast_unsigned w64 clock) in
    omega (
      arith,
      length-int32 (29 + size),
      length-int64 position,
      length-int64 (cast_unsigned w64 clock),
      length-append (int32 (29 + size)) (XLOGDATA ∷ (int64 position ++ (int64 position ++ end))),
      length-append (int64 position) (int64 position ++ end),
      length-append (int64 position) end,
    )

regroup : (kind letter : ℕ) (sized position clock message : List ℕ) → (kind ∷ (sized ++ (letter ∷ (position ++ (position ++ clock))))) ++ message ≡ (kind ∷ sized) ++ (letter ∷ (position ++ (position ++ (clock ++ message))))
regroup kind letter sized position clock message =
    ap (λ (l : List ℕ). kind ∷ l) (append_assoc sized (letter ∷ (position ++ (position ++ clock))) message)
    ∙ ap (λ (l : List ℕ). kind ∷ (sized ++ (letter ∷ l))) (append_assoc position (position ++ clock) message ∙ ap (λ (l : List ℕ). position ++ l) (append_assoc position clock message))

pub frame_whole : (position : ℕ) (clock : ℤ) (size : ℕ) (message : List ℕ) → size ≡ length message → frame_head position clock size ++ message ≡ frame COPY_DATA (xlogdata position position clock message)
frame_whole position clock size message is =
    let headed = COPY_DATA ∷ int32 (29 + size) in
    let same : 29 + size ≡ 4 + (25 + length message) = omega (arith, is) in
    xlogdata_whole [] headed (frame_head position clock size ++ message) message position clock (ap (λ (n : ℕ). COPY_DATA ∷ int32 n) same)
    (regroup COPY_DATA XLOGDATA (int32 (29 + size)) (int64 position) (int64 (cast_unsigned w64 clock)) message)

pub frame_made : (head room out : List ℕ) (n size position : ℕ) (clock : ℤ) (m : Logical) → out ≡ head ++ room → head ≡ frame_head position clock size → size ≤ length room → n ≡ 30 + size → take size room ≡ spell_logical m
    → take n out ≡ word_bytes (xlogdata_word position clock m)
frame_made head room out n size position clock m both is_head within is text =
    let long : n ≡ length head + size = omega (arith, is, ap (length {A = ℕ}) is_head, length-head position clock size) in
    ap (take n) both ∙ ap (λ (k : ℕ). take k (head ++ room)) long ∙ take-append-add head room size ∙ ap (λ (l : List ℕ). l ++ take size room) is_head
    ∙ frame_whole position clock size (take size room) (sym (length-take-le size room within)) ∙ ap (λ (l : List ℕ). frame COPY_DATA (xlogdata position position clock l)) text

-- ---- THE FIRST OF THE CHANGES' BYTES

-- the Relations that are due after the first
rest_due : (sent oids : List ℕ) (oid : ℕ) (rest : List ℕ) → relations_due sent oids ≡ oid ∷ rest → relations_due (oid ∷ sent) oids ≡ rest
rest_due sent [] oid rest e = absurd cc
rest_due sent (x ∷ oids) oid rest e = by_test (is_relation_sent sent x) refl e (rest_due sent oids oid rest)
  where
    then_due : Bool → List ℕ
    then_due b = cond b (relations_due (oid ∷ sent) oids) (x ∷ relations_due (x ∷ (oid ∷ sent)) oids)

    heads : {y z : ℕ} {ys zs : List ℕ} → y ∷ ys ≡ z ∷ zs → y ≡ z
    heads e = cc

    tails : {y z : ℕ} {ys zs : List ℕ} → y ∷ ys ≡ z ∷ zs → ys ≡ zs
    tails e = cc

    by_test : (b : Bool) → is_relation_sent sent x ≡ b → cond b (relations_due sent oids) (x ∷ relations_due (x ∷ sent) oids) ≡ oid ∷ rest → (relations_due sent oids ≡ oid ∷ rest → relations_due (oid ∷ sent) oids ≡ rest)
        → then_due (is_relation_sent (oid ∷ sent) x) ≡ rest
    by_test true is e go = ap then_due (either (oid == x) (is_relation_sent sent x) is) ∙ go e
    by_test false is e go =
        let same : x ≡ oid = heads e in
        let first : (oid == x) ≡ true = eq-eqb oid x (sym same) in
        ap (λ (b : Bool). then_due (b || is_relation_sent sent x)) first ∙ ap (λ (n : ℕ). relations_due (n ∷ sent) oids) (sym same) ∙ tails e

module _ (rel : ℕ → Relation) (clock : ℤ) (sent : List ℕ) (c : PublishedChange) (cs : List PublishedChange) where
  abbrev pub due : List ℕ
  due = relations_due sent (tables_of c.message)

  -- a Relation is due
  module _ (oid : ℕ) (rest : List ℕ) (is : due ≡ oid ∷ rest) where
    abbrev pub word : CopyBothMessage
    word = xlogdata_word c.position clock (logical.Relation (rel oid))

    after : relations_due (oid ∷ sent) (tables_of c.message) ≡ rest
    after = rest_due sent (tables_of c.message) oid rest is

    pub names_due : relations_sent_by sent c ≡ relations_sent_by (oid ∷ sent) c
    names_due =
        ap (λ (l : List ℕ). reverse l ++ sent) is ∙ ap (λ (l : List ℕ). l ++ sent) (reverse_onto rest oid []) ∙ append_assoc (reverse rest) (oid ∷ []) sent
        ∙ ap (λ (l : List ℕ). reverse l ++ (oid ∷ sent)) (sym after)

    abbrev pub with_due : List ℕ → List CopyBothMessage
    with_due oids = relation_words rel c.position clock oids ++ (xlogdata_word c.position clock c.message ∷ [])

    words_due : changes_words rel sent clock (c ∷ cs) ≡ word ∷ changes_words rel (oid ∷ sent) clock (c ∷ cs)
    words_due =
        ap (λ (l : List ℕ). with_due l ++ changes_words rel (relations_sent_by sent c) clock cs) is
        ∙ ap (λ (l : List ℕ). word ∷ (with_due rest ++ changes_words rel l clock cs)) names_due
        ∙ ap (λ (l : List ℕ). word ∷ (with_due l ++ changes_words rel (relations_sent_by (oid ∷ sent) c) clock cs)) (sym after)

    pub frames_due : frames_of (changes_words rel sent clock (c ∷ cs)) ≡ word_bytes word ++ frames_of (changes_words rel (oid ∷ sent) clock (c ∷ cs))
    frames_due = ap frames_of words_due ∙ flat_map-cons word_bytes word (changes_words rel (oid ∷ sent) clock (c ∷ cs))

  -- none is due
  module _ (is : due ≡ []) where
    pub names_none : relations_sent_by sent c ≡ sent
    names_none = ap (λ (l : List ℕ). reverse l ++ sent) is

    pub frames_none : frames_of (changes_words rel sent clock (c ∷ cs)) ≡ word_bytes (xlogdata_word c.position clock c.message) ++ frames_of (changes_words rel sent clock cs)
    frames_none =
        let own = xlogdata_word c.position clock c.message in
        ap frames_of (
        ap (λ (l : List ℕ). (relation_words rel c.position clock l ++ (own ∷ [])) ++ changes_words rel (relations_sent_by sent c) clock cs) is
        ∙ ap (λ (l : List ℕ). own ∷ changes_words rel l clock cs) names_none
        ) ∙ flat_map-cons word_bytes own (changes_words rel sent clock cs)

-- ---- WHAT A FRAME MAKES

module _ (selection : PublicationSet) (clock : ℤ) (here next : List PublishedChange) (sent made : List ℕ) (c : PublishedChange) (first : here ≡ c ∷ next) where
  abbrev rel : ℕ → Relation
  rel = relation selection

  -- the Relation that is due
  pub makes_relation : (oid : ℕ) (rest sent' : List ℕ) → relations_due sent (tables_of c.message) ≡ oid ∷ rest → sent' ≡ oid ∷ sent → made ≡ word_bytes (xlogdata_word c.position clock (logical.Relation (rel oid)))
      → Makes selection clock here here sent sent' made
  makes_relation oid rest sent' due noted is = record {
    bytes = ap (λ (cs : List PublishedChange). changes_bytes selection sent clock cs) first ∙ frames_due rel clock sent c next oid rest due
        ∙ ap (λ (l : List ℕ). l ++ frames_of (changes_words rel (oid ∷ sent) clock (c ∷ next))) (sym is)
        ∙ ap (λ (l : List ℕ). made ++ frames_of (changes_words rel l clock (c ∷ next))) (sym noted)
        ∙ ap (λ (cs : List PublishedChange). made ++ changes_bytes selection sent' clock cs) (sym first);
    names = ap (relations_sent_by_all sent) first ∙ ap (λ (l : List ℕ). relations_sent_by_all l next) (names_due rel clock sent c next oid rest due)
        ∙ ap (λ (l : List ℕ). relations_sent_by_all l (c ∷ next)) (sym noted) ∙ ap (relations_sent_by_all sent') (sym first);
  }

  -- the change's message, where none is due
  pub makes_change : relations_due sent (tables_of c.message) ≡ [] → made ≡ word_bytes (xlogdata_word c.position clock c.message) → Makes selection clock here next sent sent made
  makes_change due is = record {
    bytes = ap (λ (cs : List PublishedChange). changes_bytes selection sent clock cs) first ∙ frames_none rel clock sent c next due ∙ ap (λ (l : List ℕ). l ++ frames_of (changes_words rel sent clock next)) (sym is);
    names = ap (relations_sent_by_all sent) first ∙ ap (λ (l : List ℕ). relations_sent_by_all l next) (names_none rel clock sent c next due);
  }

-- what holds of all holds of each that is among them
pub all_any : (P : ℕ → Type 0) (oids : List ℕ) (oid : ℕ) → AllByRecursion P oids → list_any (λ n. n == oid) oids ≡ true → P oid
all_any P [] oid all e = absurd cc
all_any P (x ∷ oids) oid all e = by_test (x == oid) refl e (all_any P oids oid all.1)
  where
    by_test : (b : Bool) → (x == oid) ≡ b → (b || list_any (λ n. n == oid) oids) ≡ true → (list_any (λ n. n == oid) oids ≡ true → P oid) → P oid
    by_test true is e go = subst P (eqb-true x oid is) all.0
    by_test false is e go = go e
