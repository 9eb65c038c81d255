use Rattle.std.proofs.Crossing as own
use denote.Param.{param}
use denote.Param.Send.{IsSync}
use Rattle.shared_store.specs.contracts.store.Store as Store
use Rattle.shared_store.proofs.StoreCross.{store-sync}
use Rattle.store_tests.proofs.shared_store_kit.work_at_once.Goals as goal

pub for_each_mut-requires-sync-F : goal.for_each_mut-requires-sync-F
for_each_mut-requires-sync-F g c κs within =
    let stores : IsSync (Store.the_row (param 0 g.row.D) (param 1 g.row.N) g.D.Disk g.N.Named) =
    store-sync (param 0 g.row.D) (param 1 g.row.N) g.D.Disk g.N.Named c.type_bounds.send-D in
    let handles = c.type_bounds.sync-R in
    record {
      shared = λ x b o κ. (
        (((λ q. tt), handles.shared x.0.now _ _ _), (((λ q. tt), own.sync.shared x.1.now x.1.ref_ptr.0 x.1.ref_ptr.1 κ), (((λ q. tt), stores.shared x.2.now _ _ _), tt))),
        (λ q. tt),
      );
    }
