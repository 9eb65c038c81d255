use Rattle.std.proofs.Common.{◌≡◌, ◌∙◌, List, sym, ap, subst, refl}
use Rattle.std.specs.Prelude.{All, Err}
use Rattle.carbon_model.specs.Replay.{replay}
use Rattle.carbon_model.specs.State.{State}
use Rattle.found_rows.specs.Rows.{FindsFew}
use Rattle.render_need.specs.Ends.{AreEnds}
use Rattle.render_need.specs.declared.need.Need.{Need}
use Rattle.shared_store.specs.Asking.{Counts, LooksUp, Pairwise}
use Rattle.shared_store.specs.Finds.{needs_in}
use Rattle.shared_store.specs.Known.{needs_of}
use Rattle.shared_store.proofs.FindLemmas.{found_at}
use Rattle.shared_store.proofs.finding.look_for.Goals as goal

pub count_all-requires-clause-needs : goal.count_all-requires-clause-needs
count_all-requires-clause-needs g c =
    let named : needs_in c.as_slice.result.now ≡ needs_of c.args.needs.now = ap needs_in c.as_slice.ensures.value ∙ c.in-Ok.ensures.needs in
    subst (All AreEnds) (sym named) c.requires.needs

pub look_all-requires-clause-needs : goal.look_all-requires-clause-needs
look_all-requires-clause-needs g c =
    let named : needs_in c.as_slice-2.result.now ≡ needs_of c.args.needs.now = ap needs_in c.as_slice-2.ensures.value ∙ c.in-Ok.ensures.needs in
    subst (All AreEnds) (sym named) c.requires.needs

pub returns-in-Err-clause-fault : goal.returns-in-Err-clause-fault
returns-in-Err-clause-fault g c = λ list are.
    let named : needs_in c.as_slice.result.now ≡ needs_of c.args.needs.now = ap needs_in c.as_slice.ensures.value ∙ c.in-Ok.ensures.needs in
    let finds = found_at list c.args.desks.now c.args.desks.now c.in-Ok.finds.items c.as_slice.result.now refl c.as_slice.ensures.value are (c.in-Ok.ensures.finds list) in
    subst (λ (l : List Need). Counts (replay g.N.Named.start list) c.args.now l (Err c.in-Err.fault)) named (c.in-Err.ensures list finds)

pub returns-in-Ok-look_all-clause-found : goal.returns-in-Ok-look_all-clause-found
returns-in-Ok-look_all-clause-found g c = λ list are.
    let s : State = replay g.N.Named.start list in
    let named : needs_in c.as_slice.result.now ≡ needs_of c.args.needs.now = ap needs_in c.as_slice.ensures.value ∙ c.in-Ok.ensures.needs in
    let again : needs_in c.as_slice-2.result.now ≡ needs_of c.args.needs.now = ap needs_in c.as_slice-2.ensures.value ∙ c.in-Ok.ensures.needs in
    let first = found_at list c.args.desks.now c.args.desks.now c.in-Ok.finds.items c.as_slice.result.now refl c.as_slice.ensures.value are (c.in-Ok.ensures.finds list) in
    let second = found_at list c.args.desks.now c.args.desks.now c.in-Ok.finds.items c.as_slice-2.result.now refl c.as_slice-2.ensures.value are (c.in-Ok.ensures.finds list) in
    record {
      few = subst (λ (l : List Need). FindsFew s c.args.now l) named (c.in-Ok-count_all.ensures list first);
      up = subst (λ (l : List Need). Pairwise (LooksUp s c.args.now) l c.in-Ok-look_all.found.items) again (c.in-Ok-look_all.ensures list second);
    }
