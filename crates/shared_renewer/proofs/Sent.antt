-- A pass may go to another thread, and a client may be shared by threads, where the client's link may go to another thread.
use denote.RattleType.{RattleType}
use denote.Param.Send.{IsSend, IsSync, sendable, view_send, view_sync}
use denote.Param.SendFields.{declared_send, declared_sync, as_row_sync}
use Rattle.atomic_table.proofs.owned.Table.TheSendSync as table
use Rattle.atomic_table.proofs.shared.Seat.TheSendSync as seat
use Rattle.atomic_table.specs.contracts.owned.Table as table_type
use Rattle.atomic_table.specs.contracts.shared.Seat as seat_type
use Rattle.client_link.specs.declared.link.Link.{Ghosts}
use Rattle.client_proto.proofs.config.ClientConfig.TheSendSync as config
use Rattle.renewer.proofs.renewal.Lease.TheSendSync as lease
use Rattle.renewer.proofs.renewal.Renewal.TheSendSync as renewal
use Rattle.renewer.specs.contracts.flight.Flight as flight
use Rattle.renewer.specs.contracts.flight.Flight.TheInside as inside_flight
use Rattle.shared_renewer.specs.contracts.pass.Pass as pass
use Rattle.shared_renewer.specs.contracts.pass.Pass.TheInside as inside_pass
use Rattle.shared_renewer.specs.contracts.rule.Shares as shares
use Rattle.shared_renewer.specs.contracts.rule.SharesTableRuleFlightViewStart.TheImpl as rule
use Rattle.shared_renewer.specs.contracts.rule.Start as start
use Rattle.shared_renewer.specs.contracts.sharing.Renewer as renewer
use Rattle.shared_renewer.specs.contracts.sharing.Renewer.TheInside as inside_renewer
use Rattle.shared_renewer.specs.contracts.view.View as view
use Rattle.std.proofs.Crossing.{crosses}
use Rattle.std.proofs.alloc.Global.TheSendSync as heap
use Rattle.std.specs.contracts.alloc.Global as heap_type
use Rattle.std.specs.contracts.impls.GlobalAllocator.TheImpl as heap_impl

module _ (L : RattleType) (g : Ghosts L.Denot) (l : IsSend L) where
  client_send : IsSend (flight.the_row L g)
  client_send = view_send (inside_flight.the_row L g) _ _ _ _ (declared_send (inside_flight.the_type L g) (
    search (sendable, l),
    (config.the_send, (search sendable, (search (sendable, crosses, renewal.the_send) depth 6, (search sendable depth 8, tt)))),
  ))

  place_send : IsSend (seat_type.the_row (flight.the_row L g) view.the_row)
  place_send = search (sendable, seat.the_send, client_send) depth 3

  pub pass_send : IsSend (pass.the_row L g)
  pass_send = view_send (inside_pass.the_row L g) _ _ _ _ (declared_send (inside_pass.the_type L g) (
    place_send,
    (search (sendable, lease.the_send) depth 8, (search sendable, (search sendable, tt))),
  ))

  pub renewer_sync : IsSync (renewer.the_row L g)
  renewer_sync = view_sync (inside_renewer.the_row L g) _ _ _ _ (declared_sync (inside_renewer.the_type L g) (
    as_row_sync (table_type.the_field (flight.the_row L g) view.the_row (start.the_row L g) (shares.the_row L) heap_type.the_row (rule.ghosts L g rule.no_dict) heap_impl.ghosts)
        (table.the_field_sync (flight.the_row L g) view.the_row (start.the_row L g) (shares.the_row L) heap_type.the_row (rule.ghosts L g rule.no_dict) heap_impl.ghosts
        client_send heap.the_send heap.the_sync (search crosses)),
    tt,
  ))
