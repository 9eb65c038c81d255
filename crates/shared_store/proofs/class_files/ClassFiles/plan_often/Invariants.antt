use Rattle.std.specs.Prelude.{◌≡◌}
use Rattle.shared_store.proofs.class_files.ClassFiles.plan_often.Given as goal

abbrev pub invariant-loop-try : goal.invariant-loop-try
invariant-loop-try g l = record {
  pass : l.pass ≡ l.fn.pass;
  same : l.self ≡ l.fn.self;
}
