use Rattle.std.proofs.Common.{rules, ◌≡◌, ◌∙◌, ◌++◌, ℕ, List, length, take, drop, sym, ap, subst, arith}
use Rattle.std.specs.Prelude.{All}
use Rattle.shared_history.specs.Parts.{PassValue}
use Rattle.http_front.specs.Origin.{Origin, origin_of}
use Rattle.carbon_serve.specs.Crews.{AllDid, AllWent, CrewValue, in_order}
use Rattle.carbon_serve.specs.Deeds.{AllDo, telling}
use Rattle.carbon_serve.specs.Workers.{AllWork, IsReady}
use Rattle.carbon_serve.specs.declared.workers.Worker.{Worker}
use Rattle.carbon_serve.proofs.OrderLemmas.{all_did, all_ready, all_went, taken_back}
use Rattle.carbon_serve.proofs.crew.Crew.work.Goals as goal

pub work_all-requires-clause-ready : goal.work_all-requires-clause-ready
work_all-requires-clause-ready g c κs within =
    let same : c.as_mut_slice.result.now ≡ c.self.inside.workers.items = search rules in
    let all : All (λ (pass : PassValue). pass.table ≡ g.N.Named.table) (in_order c.self.inside.workers.items) =
    subst (λ (crew : CrewValue). All (λ (pass : PassValue). pass.table ≡ g.N.Named.table) crew.served) (sym c.self.view_is) c.requires.one in
    subst (λ (workers : List Worker). All (IsReady g.N.Named.table) workers) (sym same) (all_ready g.N.Named.table c.self.inside.workers.items all)

pub returns-clause-went : goal.returns-clause-went
returns-clause-went g c =
    let old : List Worker = c.self.inside.workers.items in
    let now : List Worker = c.work_all.new.workers in
    let moments : ℕ → Type 0 = g.C.Clock.moments c.args.clock.now in
    let same : c.as_mut_slice.result.now ≡ old = search rules in
    let work : AllWork moments g.N.Named.start old now =
    subst (λ (workers : List Worker). AllWork moments g.N.Named.start workers now) same c.work_all.ensures.workers in
    let len : c.self.inside.workers.len ≡ length old = omega (arith, c.self.inside.workers.ok.0) in
    let back : take c.self.inside.workers.len (now ++ drop (length now) old) ≡ now =
    ap (λ (n : ℕ). take n (now ++ drop (length now) old)) len ∙ taken_back now old work.count in
    subst (λ (crew : CrewValue). AllWent moments g.N.Named.start crew.served (in_order (take c.self.inside.workers.len (now ++ drop (length now) old)))) c.self.view_is
    (subst (λ (workers : List Worker). AllWent moments g.N.Named.start (in_order old) (in_order workers)) (sym back)
    (all_went moments g.N.Named.start old now work))

pub returns-clause-did : goal.returns-clause-did
returns-clause-did g c =
    let old : List Worker = c.self.inside.workers.items in
    let now : List Worker = c.work_all.new.workers in
    let links = telling g.E.L.Source g.E.L.Sink c.args.rules.now in
    let w : Origin = origin_of g.C.Clock g.N.Named c.args.clock.now in
    let same : c.as_mut_slice.result.now ≡ old = search rules in
    let deeds : AllDo links w old now = subst (λ (workers : List Worker). AllDo links w workers now) same c.work_all.ensures.do_all in
    let len : c.self.inside.workers.len ≡ length old = omega (arith, c.self.inside.workers.ok.0) in
    let back : take c.self.inside.workers.len (now ++ drop (length now) old) ≡ now =
    ap (λ (n : ℕ). take n (now ++ drop (length now) old)) len ∙ taken_back now old deeds.count in
    subst (λ (crew : CrewValue). AllDid links w crew.duties crew.served (in_order (take c.self.inside.workers.len (now ++ drop (length now) old)))) c.self.view_is
    (subst (λ (workers : List Worker). AllDid links w c.self.inside.duties (in_order old) (in_order workers)) (sym back)
    (all_did links w c.self.inside.duties old now c.self.invariant.1.1.1 deeds))
