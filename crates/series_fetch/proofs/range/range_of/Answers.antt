use Rattle.std.proofs.Common.{arith}
use Rattle.series_fetch.proofs.WindowLemmas.{is_stretch}
use Rattle.series_fetch.proofs.range.range_of.Goals as goal

pub returns-clause-sound : goal.returns-clause-sound
returns-clause-sound c =
    let there = is_stretch c.archive.result.step c.args.from c.args.until (omega arith) (omega arith) c.requires.order c.requires.until in
    rw (c.archive.ensures.value, c.bucket_after.ensures.value, c.end_after.ensures, c.from-step.ensures) there
