use Rattle.std.proofs.lemmas.Result.{MatchResult-weaker}
use Rattle.target_parse.specs.Tree.{tree_of}
use Rattle.target_parse.proofs.LawLemmas.{reads_of, refused_of}
use Rattle.target_parse.proofs.read.parse.Goals as goal

pub returns-clause-reads : goal.returns-clause-reads
returns-clause-reads c = MatchResult-weaker c.read_text.result c.read_text.ensures.ok (λ expr read. reads_of c.args.text.now (tree_of expr) read) (λ fault any. any)

pub returns-clause-refused : goal.returns-clause-refused
returns-clause-refused c = MatchResult-weaker c.read_text.result c.read_text.ensures.err (λ expr any. any) (λ fault told other. refused_of c.args.text.now fault (told other))
