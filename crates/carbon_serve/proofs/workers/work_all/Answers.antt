use Rattle.std.proofs.Crossing as own
use denote.Param.{param}
use denote.Param.Send.{IsSync, sendable}
use Rattle.std.specs.contracts.sync.atomic.AtomicU32 as AtomicU32
use Rattle.std.specs.contracts.sync.atomic.AtomicUsize as AtomicUsize
use Rattle.shared_store.specs.contracts.store.Store as Store
use Rattle.shared_store.proofs.StoreCross.{store-sync}
use Rattle.aggregate_rules.proofs.RulesCross.{rules-sync}
use Rattle.carbon_serve.proofs.workers.work_all.Goals as goal

pub for_each_mut-requires-sync-F : goal.for_each_mut-requires-sync-F
for_each_mut-requires-sync-F g c κs within =
    let stores : IsSync (Store.the_row (param 1 g.row.D) (param 2 g.row.N) g.D.Disk g.N.Named) =
    store-sync (param 1 g.row.D) (param 2 g.row.N) g.D.Disk g.N.Named c.type_bounds.send-D in
    let counts : IsSync AtomicUsize.the_row = search (own.crosses, sendable) depth 20 in
    let bits : IsSync AtomicU32.the_row = search (own.crosses, sendable) depth 20 in
    let handles = c.type_bounds.sync-R in
    let clocks = c.type_bounds.sync-C in
    let nets = c.type_bounds.sync-E in
    record {
      shared = λ x b o κ. (
        (((λ q. tt), handles.shared x.0.now _ _ _), (((λ q. tt), own.sync.shared x.1.now x.1.ref_ptr.0 x.1.ref_ptr.1 κ), (((λ q. tt), stores.shared x.2.now _ _ _), (((λ q. tt), clocks.shared x.3.now _ _ _), (((λ q. tt), nets.shared x.4.now _ _ _), (((λ q. tt), rules-sync.shared x.5.now x.5.ref_ptr.0 x.5.ref_ptr.1 _), (((λ q. tt), counts.shared x.6.now x.6.ref_ptr.0 x.6.ref_ptr.1 _), (((λ q. tt), bits.shared x.7.now x.7.ref_ptr.0 x.7.ref_ptr.1 _), tt)))))))),
        (λ q. tt),
      );
    }
