use Rattle.target_parse.proofs.TextLemmas.{text_reads}
use Rattle.target_parse.proofs.laws.the_text_of_a_tree_says_it.Goals as goal

pub returns : goal.returns
returns c = λ text tree read. text_reads text tree read
