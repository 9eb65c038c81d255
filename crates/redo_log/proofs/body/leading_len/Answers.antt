use Rattle.std.proofs.Common.{◌∙◌, length, ap, arith}
use Rattle.ring_format.specs.Layout.{LayoutValue}
use Rattle.ring_format.specs.LayoutFile.{head_size}
use Rattle.redo_log.proofs.BodyLemmas.{length-leading}
use Rattle.redo_log.proofs.body.leading_len.Goals as goal

pub returns-clause-value : goal.returns-clause-value
returns-clause-value c =
    omega (
      arith,
      length-leading c.args.patch.now,
      c.head_len-head.ensures.size,
      ap (λ (layout : LayoutValue). head_size (length layout.archives)) c.layout.ensures,
      ap length (c.text.ensures.value ∙ c.path.ensures),
    )
