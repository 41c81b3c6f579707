-- What threads share of a hub. Filters have trees, so each type above them is a step of its own here.
use denote.RattleType.{RattleType}
use denote.Param.Send.{IsSend, IsSync, sendable}
use denote.Param.SendFields.{declared_sync}
use Rattle.std.proofs.Crossing as heap
use Rattle.pqformat.proofs.items.Items.TheSendSync as items
use Rattle.pqformat.proofs.text.Text.TheSendSync as text
use Rattle.tables.proofs.table.Table.TheSendSync as table
use Rattle.rowfilter.proofs.Crossing.{filter_send, filter_sync}
use Rattle.publication_config.specs.contracts.published_table.PublishedTable as published
use Rattle.publication_config.specs.contracts.publication.Publication as publication
use Rattle.publication.specs.contracts.selection.Selection as selection
use Rattle.publication.specs.contracts.publications.Publications as publications
use Rattle.shared_log.specs.declared.histories.name.LogName as log_name
use Rattle.shared_log.proofs.following.reader.LogReader.TheSendSync as reader
use Rattle.slots.specs.declared.rule.SlotName as slot_name
use Rattle.slots.proofs.table.SlotTable.TheSendSync as slots
use Rattle.txlog.proofs.publisher.Publisher.TheSendSync as publisher
use Rattle.connections.proofs.Crossing.{latch_sync, monitor_sync, sockets_sync}
use Rattle.connections.proofs.authentication.users.Users.TheSendSync as users
use Rattle.server_state.specs.contracts.server_state.ServerState as server_state
use Rattle.server_state.specs.contracts.opening.system.SystemName as system
use Rattle.server_state.specs.contracts.disk.durability.Durability as durability
use Rattle.server_state.proofs.disk.disk_state.DiskState.TheSendSync as disk_state
use Rattle.server_state.proofs.disk.keeper_place.KeeperPlace.TheSendSync as keeper_place
use Rattle.server_state.proofs.disk.slot_journal.SlotJournal.TheSendSync as journal
use Rattle.server_state.proofs.opening.settings.HubSettings.TheSendSync as settings
use Rattle.server_state.proofs.streams.commit_notice.CommitNotice.TheSendSync as notice
use Rattle.server_state.proofs.kept.log_size.LogSize.TheSendSync as log_size
use Rattle.server_state.proofs.kept.log_times.LogTimes.TheSendSync as times
use Rattle.server_state.proofs.kept.owned_names.OwnedNames.TheSendSync as names
use Rattle.server_state.proofs.kept.pool.ReaderPool.TheSendSync as pool

-- ---- publications
published_send : IsSend published.the_row
published_send = search (filter_send, items.the_send, sendable) depth 40

published_sync : IsSync published.the_row
published_sync = search (filter_sync, items.the_sync, sendable) depth 40

publication_send : IsSend publication.the_row
publication_send = search (published_send, items.the_send, text.the_send, sendable) depth 40

publication_sync : IsSync publication.the_row
publication_sync = search (published_sync, items.the_sync, text.the_sync, sendable) depth 40

pub selection_send : IsSend selection.the_row
selection_send = search (publication_send, items.the_send, table.the_send, sendable) depth 40

pub publications_sync : IsSync publications.the_row
publications_sync = search (publication_sync, items.the_sync, table.the_sync, sendable) depth 40

-- ---- the name of the system
system_sync : IsSync system.the_row
system_sync = declared_sync system.the_type (text.the_sync, tt)

-- ---- how far the log is on its disk
durability_sync : IsSync durability.the_row
durability_sync = declared_sync durability.the_type (search (disk_state.the_send, heap.crosses, sendable) depth 20, (search (heap.crosses, sendable) depth 10, (search (heap.crosses, sendable) depth 10, (search (heap.crosses, sendable) depth 10, tt))))

-- ---- at the names of a log and its slots
module _ (L : RattleType) (s : slot_name.Ghosts L.Denot) (l : log_name.Ghosts L.Denot) where
  -- what all connections have in common
  pub server_state_sync : IsSync (server_state.the_row L s l)
  server_state_sync = declared_sync (server_state.the_type L s l) (
    heap.sync,
    (
      publications_sync,
      (
        system_sync,
        (
          settings.the_sync,
          (
            search (publisher.the_send, heap.crosses, sendable) depth 10,
            (
              slots.the_sync L s,
              (
                search (pool.the_send, heap.crosses, sendable) depth 10,
                (
                  search (names.the_send, heap.crosses, sendable) depth 10,
                  (
                    search (notice.the_send, heap.crosses, sendable) depth 10,
                    (
                      search (times.the_send, heap.crosses, sendable) depth 10,
                      (
                        search (latch_sync, heap.crosses, sendable) depth 10,
                        (
                          search (heap.crosses, sendable) depth 10,
                          (
                            search (heap.crosses, sendable) depth 10,
                            (
                              search (heap.crosses, sendable) depth 10,
                              (
                                search (heap.crosses, sendable) depth 10,
                                (
                                  search (monitor_sync, heap.crosses, sendable) depth 10,
                                  (sockets_sync, (search (heap.crosses, sendable) depth 10, (sockets_sync, (search (reader.the_send L l, heap.crosses, sendable) depth 10, (search (users.the_send, heap.crosses, sendable) depth 20, (search (heap.crosses, sendable) depth 10, (search (heap.crosses, sendable) depth 10, (search (log_size.the_send, heap.crosses, sendable) depth 10, (search (durability_sync, heap.crosses, sendable) depth 10, (search (keeper_place.the_send, heap.crosses, sendable) depth 20, (search (journal.the_send, heap.crosses, sendable) depth 20, tt))))))))))),
                                ),
                              ),
                            ),
                          ),
                        ),
                      ),
                    ),
                  ),
                ),
              ),
            ),
          ),
        ),
      ),
    ),
  )
