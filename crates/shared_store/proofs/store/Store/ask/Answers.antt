use Rattle.shared_store.proofs.AskPassLemmas.{on_both}
use Rattle.shared_store.proofs.store.Store.ask.Goals as goal

pub returns-in_default-clause-looks : goal.returns-in_default-clause-looks
returns-in_default-clause-looks g c = on_both c.args.pass.now c.names_for.new.pass c.give_up.new.pass c.names_for.ensures.only.on c.give_up.ensures.looks

pub returns-in_default-want_all-clause-looks : goal.returns-in_default-want_all-clause-looks
returns-in_default-want_all-clause-looks g c =
    on_both c.args.pass.now c.names_for.new.pass c.give_up-in_default-want_all.new.pass c.names_for.ensures.only.on c.give_up-in_default-want_all.ensures.looks

pub returns-clause-looks : goal.returns-clause-looks
returns-clause-looks g c = on_both c.args.pass.now c.names_for.new.pass c.ask_wanted.new.pass c.names_for.ensures.only.on c.ask_wanted.ensures.looks
