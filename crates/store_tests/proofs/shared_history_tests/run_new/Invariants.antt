use Rattle.store_tests.proofs.shared_history_tests.run_new.Given as goal

abbrev pub ghosts-run_all : goal.ghosts-run_all
ghosts-run_all g a = record { table = a.order.table }
