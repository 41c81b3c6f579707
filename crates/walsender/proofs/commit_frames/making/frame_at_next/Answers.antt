use Rattle.std.proofs.Common.{◌≡◌, ◌==◌, ◌+◌, ◌≤◌, ℕ, List, [], ◌∷◌, ◌++◌, drop, length, take, reverse, refl, ap, sym, subst, ◌∙◌, arith, to_z, of_z, w64}
use Rattle.std.specs.Prelude.{IsSome}
use Rattle.std.specs.List.{list_any}
use Rattle.std.proofs.lemmas.Int.{to_z-of_z}
use Rattle.pgoutput.specs.Logical.{spell_logical}
use Rattle.pgoutput.specs.declared.logical.Logical.TheVariants as logical
use Rattle.publication.specs.Selection.{relation, selected_table}
use Rattle.pgoutput.specs.Items.{relations_due, tables_of}
use Rattle.walsender.specs.Spelled.{message_in, named_in, oids_in, told_at}
use Rattle.reorder.specs.Ready.{ReadyState, ready_entries}
use Rattle.walsender.specs.Published.{published_changes}
use Rattle.walsender.specs.Waiting.{Makes, frame_head, left_of}
use Rattle.walsender.proofs.Framed.{all_any, frame_made, makes_change, makes_relation}
use Rattle.walsender.proofs.Spelled.{long_enough, named_is}
use Rattle.walsender.proofs.commit_frames.making.frame_at_next.Goals as goal
use Rattle.walsender.proofs.commit_frames.making.frame_at_next.Goals.{in-Some-first_due+else-room-lt-MAX_MESSAGE_LENGTH, in-None}

pub named_in-named-requires : goal.named_in-named-requires
named_in-named-requires c =
    let bytes = take c.in-Some.length c.put_entry.new.room in
    let t = (rw c.in-Some.is at c.in-Ok.ensures.yields).1 in
    omega (arith, ap (length {A = ℕ}) t.text, long_enough (relation c.args.selection.now) (message_in bytes) t.told.1.of_change)

pub put_due-length-requires-clause-known : goal.put_due-length-requires-clause-known
put_due-length-requires-clause-known c =
    let m = message_in (take c.in-Some.length c.put_entry.new.room) in
    let t = (rw c.in-Some.is at c.in-Ok.ensures.yields).1 in
    let oid = c.in-Some-first_due.oid in
    let named : oids_in c.named_in-named.result ≡ tables_of m = c.named_in-named.ensures ∙ ap named_in t.text ∙ named_is (relation c.args.selection.now) m t.told.1.of_change t.told.1.fits in
    all_any (λ o. IsSome (selected_table c.args.selection.now o)) (tables_of m) oid t.told.1.known (ap (list_any (λ n. n == oid)) (sym named) ∙ c.in-Some-first_due.ensures.among)

pub returns-clause-makes : goal.returns-clause-makes
returns-clause-makes c =
    let selection = c.args.selection.now in
    let clock = c.args.waiting.now.clock in
    let here = left_of selection c.args.reorder.now.strands.pool c.args.waiting.now in
    let next = published_changes selection (drop (c.args.waiting.now.next + 1) (ready_entries c.args.reorder.now.strands.pool c.args.waiting.now.ready)) in
    let sent = reverse c.args.relations_sent.now.items in
    let y = rw c.in-Some.is at c.in-Ok.ensures.yields in
    let t = y.1 in
    let bytes = take c.in-Some.length c.put_entry.new.room in
    let m = message_in bytes in
    let named : oids_in c.named_in-named.result ≡ tables_of m = c.named_in-named.ensures ∙ ap named_in t.text ∙ named_is (relation selection) m t.told.1.of_change t.told.1.fits in
    let made = take (30 + c.match-first_due.length) (c.put_head.new.head ++ c.match-first_due.room) in
    let size = c.match-first_due.length in
    let room = c.match-first_due.room in
    let pool = c.args.reorder.now.strands.pool in
    let told = told_at c.in-Some.position bytes in
    let due_as = ap (relations_due sent) (sym named) ∙ ap (λ (l : List ℕ). relations_due (reverse l) (oids_in c.named_in-named.result)) (sym c.as_slice.ensures.value) in
    let clock_fits = to_z-of_z w64 clock (record { sfits = c.fits-waiting.1.1.0.1 }) in
    elim c.match-first_due.branch [
      | in-Some-first_due+else-room-lt-MAX_MESSAGE_LENGTH w ↦
          let oid = w.in-Some-first_due.oid in
          let put = w.put_due-length.ensures in
          let due = w.in-Some-first_due.ensures.due in
          let due_is : relations_due sent (tables_of m) ≡ oid ∷ due.0 = due_as ∙ due.1 in
          let sent' = reverse c.match-first_due.relations_sent.items in
          let noted : sent' ≡ oid ∷ sent = ap (λ r. reverse r.items) w.relations_sent-is ∙ put.noted in
          let clock_is = ap (λ v. to_z w64 (of_z w64 v.clock)) w.waiting-is ∙ clock_fits in
          let head : c.put_head.new.head ≡ frame_head c.in-Some.position clock size = c.put_head.ensures ∙ ap (λ k. frame_head c.in-Some.position k size) clock_is in
          let within : size ≤ length room =
          omega (arith, w.length-is, ap (length {A = ℕ}) w.room-is, put.short, put.same, c.put_entry.ensures.same, c.split_at_mut-head.ensures.back_len, c.requires.room) in
          let text : take size room ≡ spell_logical (logical.Relation (relation selection oid)) = ap (λ n. take n room) w.length-is ∙ ap (take w.put_due-length.result) w.room-is ∙ put.relation in
          let frame = frame_made c.put_head.new.head room (c.put_head.new.head ++ room) (30 + size) size c.in-Some.position clock (logical.Relation (relation selection oid)) refl head within refl text in
          let here_is : left_of selection pool c.match-first_due.waiting ≡ here =
          ap (left_of selection pool) w.waiting-is ∙ ap (λ (r : ReadyState). published_changes selection (drop c.args.waiting.now.next (ready_entries pool r))) c.put_entry.ensures.ready in
          subst (λ l. Makes selection clock here l sent sent' made) (sym here_is) (makes_relation selection clock here next sent made told y.2 oid due.0 sent' due_is noted frame)
      | in-None w ↦
          let none : relations_due sent (tables_of m) ≡ [] = due_as ∙ w.in-None.ensures.none refl in
          let clock_is = ap (λ v. to_z w64 (of_z w64 v.clock)) w.waiting-is ∙ clock_fits in
          let head : c.put_head.new.head ≡ frame_head c.in-Some.position clock size = c.put_head.ensures ∙ ap (λ k. frame_head c.in-Some.position k size) clock_is in
          let within : size ≤ length room = omega (arith, w.length-is, ap (length {A = ℕ}) w.room-is, y.0) in
          let text : take size room ≡ spell_logical m = ap (λ n. take n room) w.length-is ∙ ap (take c.in-Some.length) w.room-is ∙ t.text in
          let frame = frame_made c.put_head.new.head room (c.put_head.new.head ++ room) (30 + size) size c.in-Some.position clock m refl head within refl text in
          let next_is : left_of selection pool c.match-first_due.waiting ≡ next =
          ap (left_of selection pool) w.waiting-is ∙ ap (λ (r : ReadyState). published_changes selection (drop (c.args.waiting.now.next + 1) (ready_entries pool r))) c.put_entry.ensures.ready in
          let sent_is : reverse c.match-first_due.relations_sent.items ≡ sent = ap (λ r. reverse r.items) w.relations_sent-is in
          subst (λ l. Makes selection clock here l sent (reverse c.match-first_due.relations_sent.items) made) (sym next_is)
          (subst (λ l. Makes selection clock here next sent l made) (sym sent_is) (makes_change selection clock here next sent made told y.2 none frame))
    ]
