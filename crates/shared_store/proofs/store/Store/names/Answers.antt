use Rattle.shared_store.specs.Naming.{Names, NamesPartly}
use Rattle.shared_store.proofs.AskPassLemmas.{on_both, on_same}
use Rattle.shared_store.proofs.NameLemmas.{if_err, if_ok, names_behind, partly_behind}
use Rattle.shared_store.proofs.store.Store.names.Goals as goal

pub returns-clause-names : goal.returns-clause-names
returns-clause-names g c =
    let n = g.N.Named in
    let old = c.args.pass.now in
    let mid = c.learn_names.new.pass in
    let new = c.names_by.new.pass in
    if_ok (λ names. Names n.start n.passes c.args.now names.items mid new) (λ names. Names n.start n.passes c.args.now names.items old new) c.names_by.result
    (λ names told. names_behind n.start n.passes c.args.now names.items old mid new c.learn_names.ensures.only told) c.names_by.ensures.names

pub returns-clause-partly : goal.returns-clause-partly
returns-clause-partly g c =
    let n = g.N.Named in
    let old = c.args.pass.now in
    let mid = c.learn_names.new.pass in
    let new = c.names_by.new.pass in
    if_err (λ e. NamesPartly n.start n.passes c.args.now mid new) (λ e. NamesPartly n.start n.passes c.args.now old new) c.names_by.result
    (λ e told. partly_behind n.start n.passes c.args.now old mid new c.learn_names.ensures.only told) c.names_by.ensures.partly

pub returns-clause-looks : goal.returns-clause-looks
returns-clause-looks g c = on_both c.args.pass.now c.learn_names.new.pass c.names_by.new.pass c.learn_names.ensures.only.on c.names_by.ensures.looks

pub returns-in-Err-clause-looks : goal.returns-in-Err-clause-looks
returns-in-Err-clause-looks g c =
    on_both c.args.pass.now c.learn_names.new.pass c.see_all.new.pass c.learn_names.ensures.only.on (on_same c.learn_names.new.pass c.see_all.new.pass c.see_all.ensures.looks)
