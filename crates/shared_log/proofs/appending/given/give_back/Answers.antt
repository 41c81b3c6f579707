use Rattle.std.proofs.Common.{◌≡◌, ℕ, ◌+◌, ◌-◌, ◌∷◌, List, arith, suc, sym, ap, ◌∙◌, drop, take}
use Rattle.wal.specs.declared.record.Record.{Record}
use Rattle.shared_log.specs.declared.histories.copy.Logged.{Logged}
use Rattle.shared_log.specs.Kept.{edge_past, kept_in}
use Rattle.shared_log.proofs.Lying.{gave_one}
use Rattle.shared_log.proofs.appending.given.give_back.Goals as goal

pub loop-preserved : goal.loop-preserved
loop-preserved c =
    let left : c.args.count - c.loop.counter ≡ suc (c.args.count - (c.loop.counter + 1)) = omega (arith, c.loop-test.true) in
    let items : c.loop.records.items ≡ c.in-Some.logged ∷ c.pop_front.new.self.items = c.in-Some.ensures.items in
    let end = ap (λ (r : Record). r.end) c.deref.ensures in
    record {
      fits = omega (arith, c.loop.invariant.fits, left);
      edge =
          ap (λ (n : ℕ). edge_past (record { place = c.loop.edge.place + 1; restart = c.in-Some.logged.restart; position = n }) (take (c.args.count - (c.loop.counter + 1)) (kept_in c.pop_front.new.self.items))) end
          ∙ sym (gave_one c.loop.edge c.loop.records.items c.pop_front.new.self.items c.in-Some.logged (c.args.count - c.loop.counter) (c.args.count - (c.loop.counter + 1)) items left) ∙ c.loop.invariant.edge;
      len = omega (arith, c.loop.invariant.len, c.in-Some.ensures.len);
      capacity = c.pop_front.ensures.capacity ∙ c.loop.invariant.capacity;
      items = sym (ap (λ (l : List Logged). drop (c.args.count - c.loop.counter) l) items ∙ ap (λ n. drop n (c.in-Some.logged ∷ c.pop_front.new.self.items)) left) ∙ c.loop.invariant.items;
    }
