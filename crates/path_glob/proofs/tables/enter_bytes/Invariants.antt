use Rattle.path_glob.specs.Parts.{covers_byte}
use Rattle.path_glob.proofs.TableLemmas.{Entering}
use Rattle.path_glob.proofs.tables.enter_bytes.Given as goal

abbrev pub invariant-loop-b : goal.invariant-loop-b
invariant-loop-b l = Entering (covers_byte l.bytes) l.place l.fn.over l.over l.b
