use Rattle.path_glob.proofs.OrderLemmas.{front_never_past, front_not_below}
use Rattle.path_glob.proofs.laws.texts_with_one_front_stand_together.Goals as goal

pub returns : goal.returns
returns c = record {
  from = λ front rest. front_not_below front rest;
  to = λ front text later above apart behind begins. front_never_past front text later above apart behind begins;
}
