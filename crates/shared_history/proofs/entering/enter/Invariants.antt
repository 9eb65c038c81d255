use Rattle.shared_history.specs.Events.{entry_by}
use Rattle.shared_history.proofs.entering.enter.Given as goal

abbrev pub ghosts-enter_named : goal.ghosts-enter_named
ghosts-enter_named a = record { entry = entry_by a.pass.now a.tail.now a.event.now }
