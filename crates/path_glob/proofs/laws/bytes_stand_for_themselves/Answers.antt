use Rattle.path_glob.proofs.FirstLemmas.{byte_then, dot_then, end_fits, fits_end, then_dot}
use Rattle.path_glob.proofs.laws.bytes_stand_for_themselves.Goals as goal

pub returns : goal.returns
returns c = record {
  end = λ path. (end_fits path, fits_end path);
  byte = λ b glob path plain no_dot. byte_then b glob path plain no_dot;
  dot = λ glob path. (dot_then glob path, then_dot glob path);
}
