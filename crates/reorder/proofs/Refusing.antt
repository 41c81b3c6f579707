-- A change finds no room in the arena exactly where the records, and what is ready, leave none.
use Rattle.std.proofs.Common.{◌≡◌, ℕ, ◌+◌, ◌==◌, Bool, List, [], Option, Some, None, length, map, refl, sym, subst, ap, ◌∙◌, arith}
use Rattle.std.specs.Prelude.{nat_le}
use Rattle.std.specs.Map.{lookup}
use Rattle.std.specs.Option.{option_map}
use Rattle.chgarena.specs.Fill.{filled, sizes}
use Rattle.chgarena.specs.Strands.{fills, has_room}
use Rattle.tables.specs.declared.changes.change.Change.{Change}
use Rattle.tables.specs.Spelling.{body_length}
use Rattle.wal.specs.declared.record.Record.{Record}
use Rattle.wal.specs.declared.record.Body.{Body}
use Rattle.wal.specs.declared.record.Body.TheVariants.{Change as Changed}
use Rattle.wal.specs.Log.{IsOpen}
use Rattle.reorder.specs.Entries.{entry_in}
use Rattle.reorder.specs.Pool.{HoldEntries, IsPool, entries_at}
use Rattle.reorder.specs.Ready.{ReadyState}
use Rattle.reorder.specs.Strands.{Standing, StrandsState, by_xid, changes_at, with_changes}
use Rattle.reorder.specs.Bookkeeping.{AreStrandsOf, changes_of}
use Rattle.reorder.specs.Chunks.{HasNoRoom, IsTidy, LeavesNoRoom, entry_length, live_chunks}
use Rattle.reorder.specs.Settled.{AreLentIn, LeavesNoRoomBeside, after_giving_all_back, lent_chunks}
use Rattle.reorder.specs.Taking.{HasTaken, MayCome, ReorderState}
use Rattle.reorder.proofs.Counting.{sizes_are}
use Rattle.reorder.proofs.Filling.{chunks_beside, tidy_settled}
use Rattle.reorder.proofs.Named.{no_changes}
use Rattle.reorder.proofs.Opening.{strandless}

-- what lies in the pool of an xid that is open is what the records say
changes_are : (s : StrandsState) (rs : List Record) (x : ℕ) → AreStrandsOf (by_xid s) rs → IsOpen rs x → ((y : ℕ) → lookup (λ k. y == k) s.strands ≡ None → entries_at s.pool y ≡ []) → changes_at s.pool x ≡ changes_of rs x
changes_are s rs x book alive only = by_strand (lookup (λ k. x == k) s.strands) refl
  where
    by_strand : (o : Option Standing) → lookup (λ k. x == k) s.strands ≡ o → changes_at s.pool x ≡ changes_of rs x
    by_strand None is =
        let none : (by_xid s).strand x ≡ None = ap (option_map (with_changes s.pool x)) is in
        ap (map (entry_in x)) (only x is) ∙ sym (no_changes rs x (strandless (by_xid s) rs x book alive none))
    by_strand (Some st) is =
        let some : (by_xid s).strand x ≡ Some (with_changes s.pool x st) = ap (option_map (with_changes s.pool x)) is in
        (book.strands x (with_changes s.pool x st) some).changes alive.undropped

-- the room of an xid's last chunk, by the records
abbrev room_by : List Record → ℕ → Change → Bool
room_by rs x change = nat_le ((filled (map entry_length (changes_of rs x))).1 + ((8 + body_length change) + 4)) 16384

room_is : (s : StrandsState) (rs : List Record) (x size : ℕ) (change : Change) → changes_at s.pool x ≡ changes_of rs x → HoldEntries s.pool.arena s.pool.strands → size ≡ 8 + body_length change → has_room (entries_at s.pool x) size ≡ room_by rs x change
room_is s rs x size change same hold long =
    let lengths : sizes (entries_at s.pool x) ≡ map entry_length (changes_of rs x) = sizes_are x (entries_at s.pool x) (hold x) ∙ ap (map entry_length) same in
    ap (λ n. nat_le ((filled (sizes (entries_at s.pool x))).1 + (n + 4)) 16384) long ∙ ap (λ (ns : List ℕ). nat_le ((filled ns).1 + ((8 + body_length change) + 4)) 16384) lengths

module _ (s : ReorderState) (rs : List Record) (r : Record) (xid size : ℕ) (change : Change) (is : r.body ≡ Changed xid change) (long : size ≡ 8 + body_length change)
    (book : AreStrandsOf (by_xid s.strands) rs) (alive : IsOpen rs xid) (ws : List ReadyState) (count : ℕ) (are : AreLentIn s ws) (tidy : IsTidy count [] (after_giving_all_back s ws).strands) where
  whole : IsTidy count ws s.strands
  whole = tidy_settled s ws count are tidy

  same : changes_at s.strands.pool xid ≡ changes_of rs xid
  same = changes_are s.strands rs xid book alive whole.only

  pub refused_beside : HasNoRoom s.strands.pool xid size → LeavesNoRoomBeside (lent_chunks s ws) count rs r
  refused_beside none = record {
    left = live_chunks rs;
    split = chunks_beside s rs ws count none.pool none.hold book are tidy ∙ none.fills ∙ whole.chunks;
    full = record { xid = xid; change = change; is = is; all = refl; room = sym (room_is s.strands rs xid size change same none.hold long) ∙ none.room };
  }

  pub lacks_beside : IsPool s.strands.pool.arena s.strands.pool.strands → HoldEntries s.strands.pool.arena s.strands.pool.strands → LeavesNoRoomBeside (lent_chunks s ws) count rs r → HasNoRoom s.strands.pool xid size
  lacks_beside pool hold lacks =
      let one : Changed lacks.full.xid lacks.full.change ≡ Changed xid change = sym lacks.full.is ∙ is in
      let xids : lacks.full.xid ≡ xid = cc in
      let changes : lacks.full.change ≡ change = cc in
      let shared : live_chunks rs + lent_chunks s ws ≡ fills s.strands.pool.arena = chunks_beside s rs ws count pool hold book are tidy in
      record {
        pool = pool;
        hold = hold;
        room = room_is s.strands rs xid size change same hold long ∙ sym (ap (λ x. room_by rs x change) xids) ∙ sym (ap (λ (ch : Change). room_by rs lacks.full.xid ch) changes) ∙ lacks.full.room;
        fills = sums (live_chunks rs) (lent_chunks s ws) (fills s.strands.pool.arena) (length s.strands.pool.arena) lacks.left count shared lacks.full.all lacks.split whole.chunks;
      }
    where
      sums : (live lent full all left count : ℕ) → live + lent ≡ full → live ≡ left → left + lent ≡ count → all ≡ count → full ≡ all
      sums live lent full all left count one two three four = omega arith

-- where a change finds room, the records leave some
pub never_beside : (s now : ReorderState) → s ≡ now → (rs : List Record) (r : Record) (xid size : ℕ) (change : Change) → r.body ≡ Changed xid change → size ≡ 8 + body_length change → IsPool s.strands.pool.arena s.strands.pool.strands →
    HoldEntries s.strands.pool.arena s.strands.pool.strands → (HasNoRoom s.strands.pool xid size → ⊥) → HasTaken now rs → MayCome rs r.body → (ws : List ReadyState) (count : ℕ) → AreLentIn now ws → IsTidy count [] (after_giving_all_back now ws).strands →
    LeavesNoRoomBeside (lent_chunks now ws) count rs r → ⊥
never_beside s now view rs r xid size change is long pool hold room =
    subst (λ (n : ReorderState). HasTaken n rs → MayCome rs r.body → (ws : List ReadyState) (count : ℕ) → AreLentIn n ws → IsTidy count [] (after_giving_all_back n ws).strands → LeavesNoRoomBeside (lent_chunks n ws) count rs r → ⊥) view
    (λ taken next ws count are tidy lacks. room (lacks_beside s rs r xid size change is long taken.ready.strands (subst (λ (b : Body). MayCome rs b) is next) ws count are tidy pool hold lacks))

-- the same where nothing is ready
pub never_alone : (s now : ReorderState) → s ≡ now → (rs : List Record) (r : Record) (xid size : ℕ) (change : Change) → r.body ≡ Changed xid change → size ≡ 8 + body_length change → IsPool s.strands.pool.arena s.strands.pool.strands →
    HoldEntries s.strands.pool.arena s.strands.pool.strands → (HasNoRoom s.strands.pool xid size → ⊥) → HasTaken now rs → MayCome rs r.body → (count : ℕ) → IsTidy count [] now.strands → LeavesNoRoom count rs r → ⊥
never_alone s now view rs r xid size change is long pool hold room taken next count tidy lacks =
    let none : lent_chunks now [] ≡ 0 = refl in
    never_beside s now view rs r xid size change is long pool hold room taken next [] count tt tidy (record { left = count; split = omega arith; full = lacks })

pub refused_alone : (s : ReorderState) (rs : List Record) (r : Record) (xid size : ℕ) (change : Change) → r.body ≡ Changed xid change → size ≡ 8 + body_length change → AreStrandsOf (by_xid s.strands) rs → IsOpen rs xid → (count : ℕ) → IsTidy count [] s.strands →
    HasNoRoom s.strands.pool xid size → LeavesNoRoom count rs r
refused_alone s rs r xid size change is long book alive count tidy none =
    let beside : LeavesNoRoomBeside (lent_chunks s []) count rs r = refused_beside s rs r xid size change is long book alive [] count tt tidy none in
    let nothing : lent_chunks s [] ≡ 0 = refl in
    let split : beside.left + lent_chunks s [] ≡ count = beside.split in
    let left : beside.left ≡ count = omega arith in
    subst (λ n. LeavesNoRoom n rs r) left beside.full
