use Rattle.std.proofs.Common.{◌≡◌, ◌<◌, ◌≤◌, ◌-◌, ◌++◌, List, ℕ, Result, Err, get_or, length, drop, take, ap, subst, ◌∙◌, arith}
use Rattle.std.proofs.lemmas.List.{length-drop}
use Rattle.std.specs.List.{AllByRecursion}
use Rattle.segments.specs.Entries.{Fits, Reads, Written, entries, header}
use Rattle.segments.specs.declared.finding.Content.{Content}
use Rattle.segments.specs.declared.fault.SegmentFault.{SegmentFault}
use Rattle.segments.specs.declared.fault.SegmentFault.TheVariants.{Damaged}
use Rattle.segments.specs.Contents.{Finds, TellsMore}
use Rattle.segments.proofs.Reading.{front_of}
use Rattle.segments.proofs.finding.read_content.Goals as goal

-- what is read of a content, where what follows its entries is so long
found : (key rest : ℕ) (es : List Written) (content after : List ℕ) → take 28 content ≡ header key → after ≡ drop 28 content → rest ≤ length after → Reads key es after (drop (length after - rest) after) → (f : Finds key es content) × (length f.rest ≡ rest)
found key rest es content after begins is low reads = (
  record {
    rest = drop (length after - rest) after;
    header = begins;
    reads = subst (λ (l : List ℕ). Reads key es l (drop (length after - rest) after)) is reads;
  },
  omega (arith, low, length-drop (length after - rest) after),
)

abbrev refused : ℕ → Result Content SegmentFault
refused at = Err (Damaged at)

same_place : (a b : ℕ) → refused a ≡ refused b → a ≡ b
same_place a b is = cc

pub returns-then-tells_more-clause-damaged : goal.returns-then-tells_more-clause-damaged
returns-then-tells_more-clause-damaged c = λ at is.
    let content = c.args.bytes.now in
    let rest = c.in_ok-entries.rest in
    let after = c.split_at.result.1.now in
    let low = c.in_ok-entries.ensures.0 in
    let f = found c.in_ok-key.key rest c.in_ok-entries.entries.items content after c.in_ok-key.ensures.key c.split_at.ensures.back low c.in_ok-entries.ensures.1 in
    let so_long = f.1 in
    let same = same_place (length content - rest) at is in
    let size : length after ≡ length content - 28 = ap length c.split_at.ensures.back ∙ length-drop 28 content in
    let long = c.in_ok-key.ensures.long in
    record {
      key = c.in_ok-key.key;
      es = c.in_ok-entries.entries.items;
      found = f.0;
      place = omega (arith, same, low, size, long, so_long);
      told = subst (λ (n : ℕ). TellsMore c.in_ok-key.key content n) same c.if-tells_more.ensures;
    }

pub returns-clause-found : goal.returns-clause-found
returns-clause-found c =
    (found c.in_ok-key.key c.in_ok-entries.rest c.in_ok-entries.entries.items c.args.bytes.now _ c.in_ok-key.ensures.key c.split_at.ensures.back c.in_ok-entries.ensures.0 c.in_ok-entries.ensures.1).0

front : (key rest : ℕ) (es : List Written) (content after : List ℕ) → ((i : ℕ) → get_or content i 0 < 256) → take 28 content ≡ header key → 28 ≤ length content → after ≡ drop 28 content → rest ≤ length after
    → Reads key es after (drop (length after - rest) after) → (take (length content - rest) content ≡ header key ++ entries key es) × AllByRecursion (Fits key) es
front key rest es content after fits begins long is low reads =
    let f = found key rest es content after begins is low reads in
    let so_long = f.1 in
    let size : length after ≡ length content - 28 = ap length is ∙ length-drop 28 content in
    front_of key (length content - rest) es content f.0.rest fits begins f.0.reads.0 (omega (arith, low, size, long, so_long))

pub returns-clause-front : goal.returns-clause-front
returns-clause-front c =
    (front c.in_ok-key.key c.in_ok-entries.rest c.in_ok-entries.entries.items c.args.bytes.now _ (λ i. omega (arith, c.type_inv.bytes i)) c.in_ok-key.ensures.key c.in_ok-key.ensures.long c.split_at.ensures.back c.in_ok-entries.ensures.0 c.in_ok-entries.ensures.1).0

pub returns-clause-fit : goal.returns-clause-fit
returns-clause-fit c =
    (front c.in_ok-key.key c.in_ok-entries.rest c.in_ok-entries.entries.items c.args.bytes.now _ (λ i. omega (arith, c.type_inv.bytes i)) c.in_ok-key.ensures.key c.in_ok-key.ensures.long c.split_at.ensures.back c.in_ok-entries.ensures.0 c.in_ok-entries.ensures.1).1
