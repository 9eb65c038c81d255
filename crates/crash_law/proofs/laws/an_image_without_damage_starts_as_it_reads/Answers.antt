use Rattle.crash_law.proofs.OpenLemmas.{starts_itself}
use Rattle.crash_law.proofs.laws.an_image_without_damage_starts_as_it_reads.Goals as goal

pub returns : goal.returns
returns c = starts_itself
