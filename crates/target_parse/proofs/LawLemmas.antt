-- What a reading says of the grammar.
use Rattle.std.proofs.Common.{◌≡◌, ℕ, ◌≤◌, List, Result, Ok, Err, sym, ◌∙◌}
use Rattle.std.proofs.lemmas.Result.{IfOk-at_ok}
use Rattle.target_parse.specs.declared.fault.TargetFault.{TargetFault}
use Rattle.target_parse.specs.Bytes.{most_depth}
use Rattle.target_parse.specs.Reading.{read_target}
use Rattle.target_parse.specs.Target.{Reads, SaysNone}
use Rattle.target_parse.specs.Tree.{Tree, depth}
use Rattle.target_parse.proofs.CompleteLemmas.{target_reads}
use Rattle.target_parse.proofs.SoundLemmas.{target_sound}

pub reads_of : (text : List ℕ) (tree : Tree) → read_target text ≡ Ok tree → Reads text tree × (depth tree ≤ most_depth)
reads_of text tree read = IfOk-at_ok (λ (said : Tree). Reads text said × (depth said ≤ most_depth)) read (target_sound text)

pub refused_of : (text : List ℕ) (fault : TargetFault) → read_target text ≡ Err fault → SaysNone text
refused_of text fault told tree reads few =
    let both : ◌≡◌ {A = Result Tree TargetFault} (Err fault) (Ok tree) = sym told ∙ target_reads text tree reads few in
    absurd cc
