use Rattle.std.proofs.Common.{◌<◌, ◌-◌, arith}
use Rattle.std.proofs.lemmas.Bool.Decides.{nat_tests}
use Rattle.archive_update.proofs.BucketLemmas.{bucket_holds, holds_bucket}
use Rattle.archive_update.proofs.rolling.is_in_bucket.Goals as goal

pub returns-then-bucket-time : goal.returns-then-bucket-time
returns-then-bucket-time c = (
  λ near. let near : c.args.time - c.args.bucket < c.args.step = grind (arith, nat_tests, near) in
      bucket_holds c.args.bucket c.args.step c.args.time c.requires.step c.requires.whole c.if-bucket-time.true near,
  λ same. let near = holds_bucket c.args.bucket c.args.step c.args.time c.requires.step same in grind (arith, nat_tests, near),
)
