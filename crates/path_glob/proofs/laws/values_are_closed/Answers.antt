use Rattle.path_glob.proofs.FirstLemmas.{both_closed, byte_closed, list_closed, none_closed}
use Rattle.path_glob.proofs.laws.values_are_closed.Goals as goal

pub returns : goal.returns
returns c = record {
  none = none_closed;
  byte = λ b no_dot no_list no_braces. byte_closed b no_dot no_list no_braces;
  list = λ members no_dot no_end no_braces. list_closed members no_dot no_end no_braces;
  both = λ first value one other. both_closed first value one other;
}
