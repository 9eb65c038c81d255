use Rattle.carbon_words.proofs.ListLemmas.{IsRead}
use Rattle.carbon_words.proofs.host_reading.hosts_by.Given as goal

abbrev pub invariant-loop-index : goal.invariant-loop-index
invariant-loop-index l = IsRead l.words l.index l.list
