use denote.Exit.{yes}
use denote.Param.{param}
use denote.Param.Send.{IsSync, arg_send, arg_sync, param_send, param_sync, sendable, shr_sync}
use denote.Param.SendFields.{as_row_sync, declared_send, declared_sync}
use denote.RattleType.{RattleType}
use denote.Struct.Field.{row_field, shr_ref_field}
use denote.Struct.Tuple.{TupleAt, type_at}
use mathlib.Core.List.{◌∷◌, []}
use mir.Syntax.{Sym}
use Rattle.shared_renewer.specs.contracts.sharing.Renewer as renewer
use Rattle.std.specs.contracts.alloc.Global as heap
use Rattle.std.proofs.Crossing.{crosses}
use Rattle.std.proofs.alloc.Global.TheSendSync as heap_crosses
use Rattle.shared_renewer.proofs.Sent.{pass_send, renewer_sync}
use Rattle.client_threads.proofs.hold.Hold.TheSendSync as hold_crosses
use Rattle.client_threads.proofs.threads.Found.TheSendSync as found
use Rattle.client_threads.specs.contracts.hold.Hold as hold
use Rattle.client_threads.specs.contracts.threads.Job as job
use Rattle.client_threads.proofs.threads.find_in_threads.Goals as goal

pub for_each_mut-requires-send-T : goal.for_each_mut-requires-send-T
for_each_mut-requires-send-T g c κs within =
    let passes = pass_send (param 0 g.row.L) g.L.Link c.type_bounds.send-L in
    param_send 1 _ (arg_send _ yes _ (declared_send (job.the_type (param 0 g.row.L) g.L.Link) (
      passes,
      (search (sendable, crosses, found.the_send) depth 10, tt),
    )))

-- four captures that threads may share
captured_sync : (ν : Sym) (A B C D : RattleType) → IsSync A → IsSync B → IsSync C → IsSync D → IsSync (TupleAt ν (A ∷ B ∷ C ∷ D ∷ []))
captured_sync ν A B C D a b c d = declared_sync (type_at ν (A ∷ B ∷ C ∷ D ∷ []))
    (as_row_sync (row_field A) a, (as_row_sync (row_field B) b, (as_row_sync (row_field C) c, (as_row_sync (row_field D) d, tt))))

pub for_each_mut-requires-sync-F : goal.for_each_mut-requires-sync-F
for_each_mut-requires-sync-F g c κs within =
    let client = renewer_sync (param 0 g.row.L) g.L.Link c.type_bounds.send-L in
    param_sync 2 _ (arg_sync _ yes _ (
    captured_sync _ (shr_ref_field _ (param 1 g.row.R) _).row (shr_ref_field _ heap.the_row _).row
    (shr_ref_field _ (renewer.the_row (param 0 g.row.L) g.L.Link) _).row (shr_ref_field _ hold.the_row _).row
    (shr_sync _ _ (param 1 g.row.R) c.type_bounds.sync-R) (shr_sync _ _ heap.the_row heap_crosses.the_sync)
    (shr_sync _ _ (renewer.the_row (param 0 g.row.L) g.L.Link) client) (shr_sync _ _ hold.the_row hold_crosses.the_sync)))
