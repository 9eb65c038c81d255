use Rattle.path_glob.proofs.FirstLemmas.{list_then}
use Rattle.path_glob.proofs.laws.lists_stand_for_one_byte.Goals as goal

pub returns : goal.returns
returns c = λ members glob path no_dot no_end no_braces. list_then members glob path no_dot no_end no_braces
