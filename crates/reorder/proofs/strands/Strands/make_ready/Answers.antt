use Rattle.std.proofs.Common.{◌≡◌, ◌==◌, ℕ, List, None, true, cond, map, arith, refl, sym, ap, subst, ◌∙◌}
use Rattle.std.specs.List.{All, sum_by}
use Rattle.std.specs.Map.{lookup}
use Rattle.std.proofs.lemmas.Grind.{common_steps}
use Rattle.wal.specs.Log.{Entry}
use Rattle.chgarena.specs.Strands.{Strands as Arena}
use Rattle.reorder.specs.Pool.{IsLent, PoolState, entries_by, strand_of}
use Rattle.reorder.specs.Lents.{strands_in}
use Rattle.reorder.specs.Orders.{places_in}
use Rattle.reorder.specs.Ready.{IsPlace, PlaceState, entry_at}
use Rattle.reorder.specs.Strands.{AreDistinct, AreMerged, StrandsState, all_in, by_xid, changes_at, is_in}
use Rattle.reorder.specs.Chunks.{chunks_for}
use Rattle.reorder.specs.Settled.{ready_chunks}
use Rattle.reorder.proofs.Owning.{of}
use Rattle.reorder.proofs.Tidying.{tidy_ready}
use Rattle.reorder.proofs.Lending.{ready_apart, ready_known, ready_lent}
use Rattle.reorder.proofs.Lookups.{ended_lent}
use Rattle.reorder.proofs.ReadyChunks.{chunks_of_lent}
use Rattle.reorder.proofs.Spotting.{shown_alike, there_alike}
use Rattle.reorder.proofs.strands.Strands.make_ready.Goals as goal

pub returns-clause-ended : goal.returns-clause-ended
returns-clause-ended c =
    let old = c.self.inside.pool in
    let new = c.lend_all.new.self in
    let xids = c.remove_members-members.result in
    let stay : (x : ℕ) → strand_of new.strands x ≡ cond (is_in x xids) None (strand_of old.strands x) = λ x. grind (arith, common_steps, c.in_ok-strands.ensures.left x) in
    rw (← c.self.view_is) (ended_lent c.self.inside.strands.entries c.remove_all.new.strands.entries c.self.inside.members.entries c.remove_members-members.new.members.entries old new c.args.top xids (sym c.remove_members-members.ensures.xids)
    (λ x out. ap (λ (a : Arena). entries_by a (strand_of new.strands x)) c.lend_all.ensures.arena ∙ ap (entries_by old.arena) (stay x ∙ rw out refl))
    (λ x. grind (arith, common_steps, c.remove_all.ensures x)) c.remove_members-members.ensures.gone)

pub returns-clause-merged : goal.returns-clause-merged
returns-clause-merged c =
    let old = c.self.inside.pool in
    let new = c.lend_all.new.self in
    let lent = strands_in c.in_ok-strands.strands in
    let xids = c.remove_members-members.result in
    let places = places_in c.in_ok-order.order in
    let go : (x : ℕ) → strand_of lent x ≡ cond (is_in x xids) (strand_of old.strands x) None = λ x. grind (arith, common_steps, c.in_ok-strands.ensures.strands x) in
    let xids_are : all_in (lookup (λ k. c.args.top == k) c.args.self.now.members) ≡ xids =
    ap (λ (s : StrandsState). all_in (lookup (λ k. c.args.top == k) s.members)) (sym c.self.view_is) ∙ sym c.remove_members-members.ensures.xids in
    let own = subst (λ (xs : List ℕ). All (λ (at : PlaceState). is_in at.xid xs ≡ true) places) xids_are c.in_ok-order.ensures.own in
    let alike : map (entry_at old) places ≡ map (entry_at (of new.arena lent)) places =
    shown_alike old (of new.arena lent) xids (λ x inn. ap (λ (a : Arena). entries_by a (strand_of lent x)) c.lend_all.ensures.arena ∙ ap (entries_by old.arena) (go x ∙ rw inn refl)) places own in
    let base : AreMerged (by_xid c.args.self.now) c.args.top (map (entry_at old) places) =
    subst (λ (p : PoolState). AreMerged (by_xid c.args.self.now) c.args.top (map (entry_at p) places)) (ap (λ (s : StrandsState). s.pool) (sym c.self.view_is)) c.in_ok-order.ensures.merged in
    rw c.new.ensures (subst (λ (es : List Entry). AreMerged (by_xid c.args.self.now) c.args.top es) alike base)

pub returns-clause-ready : goal.returns-clause-ready
returns-clause-ready c =
    let old = c.self.inside.pool in
    let new = c.lend_all.new.self in
    let lent = strands_in c.in_ok-strands.strands in
    let xids = c.remove_members-members.result in
    let places = places_in c.in_ok-order.order in
    let stay : (x : ℕ) → strand_of new.strands x ≡ cond (is_in x xids) None (strand_of old.strands x) = λ x. grind (arith, common_steps, c.in_ok-strands.ensures.left x) in
    let go : (x : ℕ) → strand_of lent x ≡ cond (is_in x xids) (strand_of old.strands x) None = λ x. grind (arith, common_steps, c.in_ok-strands.ensures.strands x) in
    let xids_are : all_in (lookup (λ k. c.args.top == k) c.args.self.now.members) ≡ xids =
    ap (λ (s : StrandsState). all_in (lookup (λ k. c.args.top == k) s.members)) (sym c.self.view_is) ∙ sym c.remove_members-members.ensures.xids in
    let own = subst (λ (xs : List ℕ). All (λ (at : PlaceState). is_in at.xid xs ≡ true) places) xids_are c.in_ok-order.ensures.own in
    let there = subst (λ (p : PoolState). All (IsPlace p) places) (ap (λ (s : StrandsState). s.pool) (sym c.self.view_is)) c.in_ok-order.ensures.there in
    rw c.new.ensures (record {
      lent = subst (λ (a : Arena). IsLent (of a new.strands) lent) (sym c.lend_all.ensures.arena) (ready_lent old.arena old.strands new.strands lent xids stay go c.lend_all.ensures.pool c.lend_all.ensures.hold);
      places = there_alike old (of new.arena lent) xids (λ x inn. ap (λ (a : Arena). entries_by a (strand_of lent x)) c.lend_all.ensures.arena ∙ ap (entries_by old.arena) (go x ∙ rw inn refl)) places own there;
      known = ready_known old.arena old.strands new.strands lent xids stay go;
    })

pub returns-clause-apart : goal.returns-clause-apart
returns-clause-apart c =
    let old = c.self.inside.pool in
    let new = c.lend_all.new.self in
    let lent = strands_in c.in_ok-strands.strands in
    let xids = c.remove_members-members.result in
    let stay : (x : ℕ) → strand_of new.strands x ≡ cond (is_in x xids) None (strand_of old.strands x) = λ x. grind (arith, common_steps, c.in_ok-strands.ensures.left x) in
    let go : (x : ℕ) → strand_of lent x ≡ cond (is_in x xids) (strand_of old.strands x) None = λ x. grind (arith, common_steps, c.in_ok-strands.ensures.strands x) in
    rw (c.new.ensures, ← c.self.view_is) (ready_apart old.arena old.strands new.strands lent xids stay go)

pub returns-clause-tidy : goal.returns-clause-tidy
returns-clause-tidy c =
    let old = c.self.inside.pool in
    let new = c.lend_all.new.self in
    let lent = strands_in c.in_ok-strands.strands in
    let xids = c.remove_members-members.result in
    let stay : (x : ℕ) → strand_of new.strands x ≡ cond (is_in x xids) None (strand_of old.strands x) = λ x. grind (arith, common_steps, c.in_ok-strands.ensures.left x) in
    let go : (x : ℕ) → strand_of lent x ≡ cond (is_in x xids) (strand_of old.strands x) None = λ x. grind (arith, common_steps, c.in_ok-strands.ensures.strands x) in
    rw (c.new.ensures, ← c.self.view_is)
    (tidy_ready (record { strands = c.self.inside.strands.entries; members = c.self.inside.members.entries; pool = old }) (record { strands = c.remove_all.new.strands.entries; members = c.remove_members-members.new.members.entries; pool = new })
    (record { xids = xids; strands = lent; places = places_in c.in_ok-order.order }) xids c.lend_all.ensures.arena stay go (λ x. grind (arith, common_steps, c.remove_all.ensures x)))

pub returns-clause-chunks : goal.returns-clause-chunks
returns-clause-chunks c =
    let old = c.self.inside.pool in
    let lent = strands_in c.in_ok-strands.strands in
    let xids = c.remove_members-members.result in
    let places = places_in c.in_ok-order.order in
    let go : (x : ℕ) → strand_of lent x ≡ cond (is_in x xids) (strand_of old.strands x) None = λ x. grind (arith, common_steps, c.in_ok-strands.ensures.strands x) in
    let of_these : AreDistinct xids → ready_chunks c.lend_all.new.self.arena (record { xids = xids; strands = lent; places = places }) ≡ sum_by (λ x. chunks_for (changes_at old x)) xids =
    λ distinct. ap (λ (a : Arena). ready_chunks a (record { xids = xids; strands = lent; places = places })) c.lend_all.ensures.arena ∙ chunks_of_lent old.arena old.strands lent xids places c.lend_all.ensures.hold go distinct in
    rw c.new.ensures
    (subst (λ (s : StrandsState). AreDistinct (all_in (lookup (λ k. c.args.top == k) s.members)) →
    ready_chunks c.lend_all.new.self.arena (record { xids = xids; strands = lent; places = places }) ≡ sum_by (λ x. chunks_for (changes_at s.pool x)) (all_in (lookup (λ k. c.args.top == k) s.members)))
    c.self.view_is
    (subst (λ (xs : List ℕ). AreDistinct xs → ready_chunks c.lend_all.new.self.arena (record { xids = xids; strands = lent; places = places }) ≡ sum_by (λ x. chunks_for (changes_at old x)) xs) c.remove_members-members.ensures.xids of_these))

pub returns-clause-lent : goal.returns-clause-lent
returns-clause-lent c = rw (← c.self.view_is) c.lend_all.ensures.lent
