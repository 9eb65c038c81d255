use Rattle.std.proofs.Common.{◌<◌, Option, subst, sym}
use Rattle.write_shelf.specs.Runs.{runs_of}
use Rattle.redo_log.specs.Count.{steps_left}
use Rattle.redo_log.specs.Steps.{RedoValue}
use Rattle.redo_log.proofs.CountLemmas.{put_few}
use Rattle.redo_log.proofs.redo.Redo.put.Goals as goal

pub returns-clause-count : goal.returns-clause-count
returns-clause-count c =
    subst (λ (o : Option RedoValue). steps_left o < 5000000) (sym c.put_steps.ensures.value) (put_few c.args.patch _ (runs_of c.args.patch) c.steps_are_few.ensures)
