use Rattle.std.proofs.Common.{rules, ◌≡◌, ◌∙◌, ℕ, sym}
use Rattle.shard_core.specs.Halves.{DeskInside, FilesInside, both, desk_of, files_of}
use Rattle.shard_core.proofs.OpenLemmas.{gate_shut}
use Rattle.shared_store.specs.Desks.{KeepsClass}
use Rattle.shared_store.proofs.BothLemmas.{both_keep}
use Rattle.shared_store.proofs.close.end_class.Goals as goal

pub look_all-requires : goal.look_all-requires
look_all-requires g c = record { one = λ k pass there. c.requires.one k pass there ∙ sym c.tail.invariant.same }

pub returns-clause-ends : goal.returns-clause-ends
returns-clause-ends g c =
    let n = g.N.Named in
    let d = c.tail.inside in
    let f = c.files.inside in
    let desk : DeskInside = desk_of d.desk in
    let files : FilesInside = files_of {d = g.D.Disk} f.files in
    let failed : ℕ = g.D.Disk.faults f.files.disk in
    let here : f.files.class ≡ d.desk.class = search rules in
    let keeps : KeepsClass n.table n.told n.start n.faults (both desk files) failed d.tail =
    both_keep n.table n.halves n.told n.start n.faults desk files failed d.half f.half d.tail here c.meet.ensures.same c.tail.invariant c.files.invariant in
    record {
      shard = both desk files;
      here = search rules;
      known = search rules;
      shut = λ none. gate_shut files.log files.known (c.finish.ensures.empty none) c.files.invariant.halves.logged;
      keeps = search rules;
    }
