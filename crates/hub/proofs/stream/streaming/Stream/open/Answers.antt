use Rattle.std.proofs.Common.{[], length, subst, sym}
use Rattle.std.proofs.Math.Logic.{∥∥₁_map}
use Rattle.std.proofs.lemmas.List.{append-nil}
use Rattle.shared_log.specs.Readers.{seen_of}
use Rattle.shared_log.specs.declared.following.reader.LogReader.{LogReader}
use Rattle.walsender.specs.Serving.{Serves}
use Rattle.hub.specs.declared.stream.grant.TheConstants.{LIMIT}
use Rattle.hub.proofs.Resuming.{begins_in}
use Rattle.hub.proofs.stream.streaming.Stream.open.Goals as goal

pub returns-clause-serves : goal.returns-clause-serves
returns-clause-serves g c = λ log begins good.
    let grant = c.args.grant in
    c.begin.ensures.serves log (begins_in (seen_of grant.reader) log LIMIT grant.start grant.first grant.reader.place grant.place grant.begins begins good)

pub returns-clause-new : goal.returns-clause-new
returns-clause-new g c =
    let grant = c.args.grant in
    let seen = seen_of grant.reader in
    let At : LogReader _ → Type 0 = λ r. Serves (seen_of r) [] c.begin.result in
    ∥∥₁_map grant.good (λ good. subst At (sym c.begin.ensures.reader) (c.begin.ensures.serves seen (begins_in seen seen LIMIT grant.start grant.first grant.reader.place grant.place grant.begins ([], append-nil seen) good)))

pub returns-clause-chunks : goal.returns-clause-chunks
returns-clause-chunks g c = let grant = c.args.grant in c.begin.ensures.chunks (length grant.arena) grant.empty
