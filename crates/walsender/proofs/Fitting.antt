-- What can be told of a transaction fits a stream.
use Rattle.std.proofs.Common.{◌≡◌, ◌<◌, ◌^◌, List, [], ◌∷◌, subst}
use Rattle.std.specs.Prelude.{FitsSigned}
use Rattle.std.specs.Int.{w64}
use Rattle.std.specs.List.{AllByRecursion}
use Rattle.publication.specs.Publications.{PublicationSet}
use Rattle.publication.specs.Selection.{relation}
use Rattle.pgoutput.specs.declared.published.Published.{Published}
use Rattle.pgoutput.specs.declared.published.PublishedChange.{PublishedChange}
use Rattle.pgoutput.specs.Items.{FitsChange, FitsPublished}
use Rattle.wal.specs.Log.{Entry}
use Rattle.walsender.specs.declared.commit_frames.header.Header.{Header}
use Rattle.walsender.specs.Published.{CanBeTold, published_changes, published_with}

changes_fit : (selection : PublicationSet) (cs : List PublishedChange) → AllByRecursion (CanBeTold selection) cs → AllByRecursion (FitsChange (relation selection)) cs
changes_fit selection [] all = tt
changes_fit selection (c ∷ cs) all =
    let f = all.0.1 in
    (record { position = all.0.0; of_change = f.of_change; fits = f.fits; short = f.short; relations = f.relations }, changes_fit selection cs all.1)

transaction_fits : (selection : PublicationSet) (entries : List Entry) (h : Header) → (h.start < 2 ^ 64) × (h.end < 2 ^ 64) × FitsSigned w64 h.time × (h.xid < 2 ^ 32)
    → AllByRecursion (CanBeTold selection) (published_changes selection entries) → FitsPublished (relation selection) (published_with selection entries h)
transaction_fits selection entries h (start, end, time, xid) all = record { start = start; end = end; time = time; xid = xid; changes = changes_fit selection (published_changes selection entries) all }

-- the one transaction that a commit publishes
pub commit_fits : (selection : PublicationSet) (entries : List Entry) (h : Header) (ts : List Published) → published_with selection entries h ∷ [] ≡ ts →
    (h.start < 2 ^ 64) × (h.end < 2 ^ 64) × FitsSigned w64 h.time × (h.xid < 2 ^ 32) → AllByRecursion (CanBeTold selection) (published_changes selection entries) → AllByRecursion (FitsPublished (relation selection)) ts
commit_fits selection entries h ts is numbers told =
    let P : List Published → Type 0 = λ l. AllByRecursion (FitsPublished (relation selection)) l in
    subst P is (transaction_fits selection entries h numbers told, tt)
