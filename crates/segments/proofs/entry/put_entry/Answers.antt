use Rattle.std.proofs.Common.{◌≡◌, ◌<◌, ◌^◌, [], ◌++◌, length, List, ℕ, Result, Ok, Err, OnOk, ap, subst, ◌∙◌, arith}
use Rattle.pqformat.specs.Fields.{int64}
use Rattle.sqlite_disk.specs.Digest.{digest}
use Rattle.segments.specs.Entries.{Written, payload}
use Rattle.segments.proofs.Reading.{payload_length}
use Rattle.segments.proofs.entry.put_entry.Goals as goal

whole : (synced : ℕ) (body clear mark all : List ℕ) → clear ≡ [] → mark ≡ clear ++ int64 synced → all ≡ mark ++ body → all ≡ payload (record { synced = synced; body = body })
whole synced body clear mark all is_clear is_mark is_all = is_all ∙ ap (λ (l : List ℕ). l ++ body) (is_mark ∙ ap (λ (l : List ℕ). l ++ int64 synced) is_clear)

always : {A E : Type 0} (r : Result A E) (P : Type 0) → P → OnOk r P
always (Ok a) P p = p
always (Err e) P p = tt

pub overflow_cast-len : goal.overflow_cast-len
overflow_cast-len c =
    let e : Written = record { synced = c.args.synced; body = c.args.body.now } in
    let is = whole c.args.synced c.args.body.now c.clear.new.self.items c.put_int64.new.out.items c.put_bytes.new.out.items c.clear.ensures.items c.in_ok-put_int64.ensures.ok c.in_ok-put_bytes.ensures.ok in
    record { fits = omega (arith, ap length is, payload_length e, c.requires, c.len.ensures.value) }

pub returns-clause-fits : goal.returns-clause-fits
returns-clause-fits c =
    let e : Written = record { synced = c.args.synced; body = c.args.body.now } in
    let is = whole c.args.synced c.args.body.now c.clear.new.self.items c.put_int64.new.out.items c.put_bytes.new.out.items c.clear.ensures.items c.in_ok-put_int64.ensures.ok c.in_ok-put_bytes.ensures.ok in
    let told : c.digest_of.result ≡ digest c.args.key (payload e) = c.digest_of.ensures.value ∙ ap (digest c.args.key) (c.as_slice.ensures ∙ is) in
    let small : c.digest_of.result < 2 ^ 64 = c.digest_of.type_inv in
    always c.put_bytes-2.result _ (omega (arith, payload_length e, c.requires), subst (λ (n : ℕ). n < 2 ^ 64) told small, c.ranges.synced.fits)
