use Rattle.shared_history.specs.Events.{ask_by}
use Rattle.shared_history.proofs.entering.enter_ask.Given as goal

abbrev pub ghosts-enter_ask_named : goal.ghosts-enter_ask_named
ghosts-enter_ask_named a = record { entry = ask_by a.pass.now a.attempt a.now }
