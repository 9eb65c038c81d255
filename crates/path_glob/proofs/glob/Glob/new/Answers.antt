use Rattle.std.proofs.Common.{◌≡◌, Some, sym, ◌∙◌, ap}
use Rattle.path_glob.specs.declared.fault.GlobFault.{GlobFault}
use Rattle.path_glob.specs.declared.fault.GlobFault.TheVariants.{NoMemory}
use Rattle.path_glob.proofs.FaultLemmas.{glob_fault_is_no_memory}
use Rattle.path_glob.proofs.glob.Glob.new.Goals as goal

pub returns-in-Some-clause-memory : goal.returns-in-Some-clause-memory
returns-in-Some-clause-memory c = λ told.
    let same : ◌≡◌ {A = GlobFault} c.in-Some.fault NoMemory = cc in
    absurd (glob_fault_is_no_memory c.args.text.now (sym c.fault_of.ensures ∙ c.in-Some.is ∙ ap (λ (f : GlobFault). Some f) same))
