use Rattle.ring_writer.proofs.PartLemmas.{part_laid}
use Rattle.ring_writer.proofs.laws.a_file_with_no_run_left_stands_alone.Goals as goal

pub returns : goal.returns
returns c = part_laid
