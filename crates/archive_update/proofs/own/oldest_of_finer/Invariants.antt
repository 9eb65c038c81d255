use Rattle.archive_update.specs.Spans.{IsOldestOf}
use Rattle.archive_update.proofs.own.oldest_of_finer.Given as goal

abbrev pub invariant-loop-finer : goal.invariant-loop-finer
invariant-loop-finer l = IsOldestOf l.archives l.finer-index l.now l.oldest
