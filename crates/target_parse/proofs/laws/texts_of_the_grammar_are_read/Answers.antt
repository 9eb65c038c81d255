use Rattle.target_parse.proofs.CompleteLemmas.{target_reads}
use Rattle.target_parse.proofs.laws.texts_of_the_grammar_are_read.Goals as goal

pub returns : goal.returns
returns c = λ text tree reads few. target_reads text tree reads few
