use Rattle.std.proofs.Common.{◌∙◌, rules, sym}
use Rattle.carbon_words.proofs.ListLemmas.{read_more}
use Rattle.carbon_words.proofs.host_reading.hosts_by.Goals as goal

pub loop-index-preserved : goal.loop-index-preserved
loop-index-preserved c =
    read_more c.args.words.now c.loop-index.index c.loop-index.list _ c.in_ok-list.field-0 (search rules) (search rules)
    (sym c.in_ok-list.was ∙ c.address_of.ensures) c.loop-index.invariant
