use Rattle.line_front.proofs.batch.empty.Given as goal

abbrev pub decreases-loop-datum : goal.decreases-loop-datum
decreases-loop-datum l = goal.left-loop-datum l
