use Rattle.std.proofs.Common.{Some, None}
use Rattle.path_glob.proofs.TableLemmas.{entered_where, none_entered}
use Rattle.path_glob.proofs.tables.enter_state.Goals as goal

pub returns-in-None : goal.returns-in-None
returns-in-None c = entered_where c.args.state.next None c.args.place c.args.over.now c.args.over.now c.in-None.is (none_entered c.args.place c.args.over.now)

pub returns-in-Some : goal.returns-in-Some
returns-in-Some c =
    entered_where c.args.state.next (Some c.in-Some.bytes) c.args.place c.args.over.now c.enter_set.new.over c.in-Some.is c.enter_set.ensures
