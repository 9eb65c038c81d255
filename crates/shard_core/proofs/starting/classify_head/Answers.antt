use Rattle.shard_core.proofs.StartingLemmas.{tells_faulty, tells_ring, tells_zero}
use Rattle.shard_core.proofs.starting.classify_head.Goals as goal

pub returns-in-Ok : goal.returns-in-Ok
returns-in-Ok c = λ file front long. tells_ring c.in-Ok.told c.args.bytes.now file c.args.size front long c.in-Ok.ensures.read

pub returns-in-Err : goal.returns-in-Err
returns-in-Err c = λ file front long. tells_zero c.in-Err.fault c.args.bytes.now file c.args.size front long c.in-Err.ensures.value c.if-is_zero.ensures

pub returns-in-Err-2 : goal.returns-in-Err-2
returns-in-Err-2 c = λ file front long. tells_faulty c.in-Err.fault c.args.bytes.now file c.args.size front long c.in-Err.ensures.value c.if-is_zero.ensures
