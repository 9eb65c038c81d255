use Rattle.metric_path.proofs.PathLemmas.{utf8_of_legal}
use Rattle.metric_path.proofs.path.MetricPath.with_legal.Goals as goal

pub from_utf8_unchecked-text-requires : goal.from_utf8_unchecked-text-requires
from_utf8_unchecked-text-requires c = utf8_of_legal c.args.text.now c.requires
