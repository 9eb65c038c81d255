use Rattle.std.proofs.Common.{ℕ, IsAscii, take, subst, sym, ap, ◌∙◌}
use Rattle.target_parse.proofs.AsciiLemmas.{stretch_is_ascii}
use Rattle.target_parse.proofs.bytes.cut_stretch.Goals as goal

pub returns-clause-ascii : goal.returns-clause-ascii
returns-clause-ascii c =
    subst IsAscii (sym (c.split_at.ensures.front ∙ ap (λ (n : ℕ). take n c.args.text.now) c.stretch_len.ensures.value)) (stretch_is_ascii c.args.text.now)
