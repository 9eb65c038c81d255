use Rattle.archive_update.proofs.SpanLemmas.{span_tells}
use Rattle.archive_update.proofs.own.HomeSpan.new.Goals as goal

pub returns : goal.returns
returns c = λ time short.
    span_tells c.args.archives.now c.args.archive c.args.now time c.oldest_reached.result c.oldest_of_finer.result _ c.requires short c.oldest_reached.ensures c.oldest_of_finer.ensures
