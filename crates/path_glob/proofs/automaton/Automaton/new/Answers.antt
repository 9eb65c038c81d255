use Rattle.std.proofs.Common.{◌∙◌, ◌+◌, ◌/◌, ap, length, sym, subst}
use Rattle.std.proofs.lemmas.List.{length-replicate}
use Rattle.path_glob.specs.States.{AreRows, rows_of}
use Rattle.path_glob.proofs.automaton.Automaton.new.Goals as goal

pub invariant_of-result : goal.invariant_of-result
invariant_of-result c =
    let states = c.as_slice-list.result.now in (
      (
        states,
        subst (AreRows (rows_of c.args.rows)) (sym c.as_slice-list.ensures.value) c.in_ok-states.ensures,
        c.in_ok-tables.ensures,
        ap length c.in_ok-active.ensures ∙ length-replicate (length states / 64 + 1) 0,
      ),
      c.in_ok-known.ensures,
    )
