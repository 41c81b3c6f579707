use Rattle.std.proofs.Common.{sym}
use Rattle.wal.proofs.Places.{committed-by_places, chain-IsChain, chain-only}
use Rattle.wal.proofs.Sections.{section-by_places}
use Rattle.wal.proofs.reading.a_log_has_one_reading.Goals as goal

pub returns-clause-committed : goal.returns-clause-committed
returns-clause-committed c log s h = sym (committed-by_places log s h)

pub returns-clause-chain : goal.returns-clause-chain
returns-clause-chain c log x h = chain-IsChain log x h

pub returns-clause-one_chain : goal.returns-clause-one_chain
returns-clause-one_chain c log x xs h = chain-only log x xs h

pub returns-clause-section : goal.returns-clause-section
returns-clause-section c skipped records s h none = section-by_places skipped records s h none
