use Rattle.path_glob.proofs.FirstLemmas.{braces_then}
use Rattle.path_glob.proofs.laws.braces_stand_for_their_values.Goals as goal

pub returns : goal.returns
returns c = λ inner glob path no_dot no_end closed. braces_then inner glob path no_dot no_end closed
