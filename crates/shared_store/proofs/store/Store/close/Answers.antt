use Rattle.std.proofs.Common.{rules, ◌≡◌, ◌∙◌, ◌++◌, ℕ, List, length, take, drop, sym, ap, subst, arith}
use Rattle.std.specs.Prelude.{slice_get}
use Rattle.shared_history.specs.Parts.{AllSeen, PassValue, PassesOfTable}
use Rattle.shared_store.specs.Closes.{EndsBelow}
use Rattle.shared_store.specs.declared.close.Closed.{Closed}
use Rattle.shared_store.proofs.CloseLemmas.{closes, still_of_table, tails_of_table, taken_back}
use Rattle.shared_store.proofs.store.Store.close.Goals as goal

pub end_classes-disks-requires-clause-one : goal.end_classes-disks-requires-clause-one
end_classes-disks-requires-clause-one g c =
    let same : c.as_mut_slice.result.now ≡ c.args.passes.items = search rules in
    subst (PassesOfTable g.N.Named.table) (sym same) c.requires.one

pub close-requires-clause-tails : goal.close-requires-clause-tails
close-requires-clause-tails g c =
    let old : List PassValue = c.args.passes.items in
    let now : List PassValue = c.end_classes-disks.new.passes in
    let disks = c.end_classes-disks.result.disks.items in
    let tails = c.end_classes-disks.result.tails.items in
    let same : c.as_mut_slice.result.now ≡ old = search rules in
    let ends : EndsBelow g.D.Disk g.N.Named.table g.N.Named.told g.N.Named.start g.N.Named.faults 16 disks tails old now =
    subst (λ (l : List PassValue). EndsBelow g.D.Disk g.N.Named.table g.N.Named.told g.N.Named.start g.N.Named.faults 16 disks tails l now) same c.end_classes-disks.ensures in
    λ k tail there. tails_of_table g.D.Disk g.N.Named.table g.N.Named.told g.N.Named.start g.N.Named.faults 16 disks tails old now ends k tail there ∙ sym c.order.invariant.same

pub close-requires-clause-passes : goal.close-requires-clause-passes
close-requires-clause-passes g c =
    let old : List PassValue = c.args.passes.items in
    let now : List PassValue = c.end_classes-disks.new.passes in
    let disks = c.end_classes-disks.result.disks.items in
    let tails = c.end_classes-disks.result.tails.items in
    let same : c.as_mut_slice.result.now ≡ old = search rules in
    let ends : EndsBelow g.D.Disk g.N.Named.table g.N.Named.told g.N.Named.start g.N.Named.faults 16 disks tails old now =
    subst (λ (l : List PassValue). EndsBelow g.D.Disk g.N.Named.table g.N.Named.told g.N.Named.start g.N.Named.faults 16 disks tails l now) same c.end_classes-disks.ensures in
    let len : c.args.passes.len ≡ length old = omega (arith, c.args.passes.ok.0) in
    let back : take c.args.passes.len (now ++ drop (length now) old) ≡ now =
    ap (λ (n : ℕ). take n (now ++ drop (length now) old)) len ∙ taken_back now old ends.pass_count in
    λ k pass there. still_of_table g.D.Disk g.N.Named.table g.N.Named.told g.N.Named.start g.N.Named.faults 16 disks tails old now ends c.requires.one k pass (ap (λ (l : List PassValue). slice_get l k) (sym back) ∙ there)
    ∙ sym c.order.invariant.same

pub returns : goal.returns
returns g c =
    let old : List PassValue = c.args.passes.items in
    let now : List PassValue = c.end_classes-disks.new.passes in
    let disks = c.end_classes-disks.result.disks.items in
    let tails = c.end_classes-disks.result.tails.items in
    let same : c.as_mut_slice.result.now ≡ old = search rules in
    let ends : EndsBelow g.D.Disk g.N.Named.table g.N.Named.told g.N.Named.start g.N.Named.faults 16 disks tails old now =
    subst (λ (l : List PassValue). EndsBelow g.D.Disk g.N.Named.table g.N.Named.told g.N.Named.start g.N.Named.faults 16 disks tails l now) same c.end_classes-disks.ensures in
    let len : c.args.passes.len ≡ length old = omega (arith, c.args.passes.ok.0) in
    let back : take c.args.passes.len (now ++ drop (length now) old) ≡ now =
    ap (λ (n : ℕ). take n (now ++ drop (length now) old)) len ∙ taken_back now old ends.pass_count in
    let closed : Closed g.row.D.Denot = record { history = c.close.result; tally = c.order.inside.tally; disks = c.end_classes-disks.result.disks } in
    closes g.D.Disk g.N.Named.table g.N.Named.told g.N.Named.start g.N.Named.faults g.N.Named.passes old now c.order.inside.order tails closed c.order.invariant ends c.close.ensures.list
    (subst (AllSeen c.close.result) back c.close.ensures.seen) c.close.ensures.tails c.close.ensures.made
