use Rattle.std.proofs.Common.{inl, inr, subst}
use Rattle.std.proofs.lemmas.Result.{on_err_weaker, on_ok_weaker}
use Rattle.write_shelf.specs.declared.run.Run.TheVariants.{Create}
use Rattle.ring_writer.proofs.NextLemmas.{IsNoCreation, TellsNext, create_crashes, next_crashes, next_created, next_failed, next_written, on_err_then}
use Rattle.ring_writer.proofs.run_writing.write_run.Goals as goal

pub returns-in-Create-clause-ok : goal.returns-in-Create-clause-ok
returns-in-Create-clause-ok g c =
    let found : TellsNext c.args.shelf.now c.in-Some.run' = record {
      some = c.requires.some;
      is = c.in-Some.ensures.value;
      sound = c.in-Some.ensures.sound;
      turn = c.in-Some.ensures.turn;
      begun = c.in-Some.ensures.begun;
      lawful = c.patch_is_lawful.ensures;
    } in
    let tells : TellsNext c.args.shelf.now (Create c.in-Create.length) = subst (TellsNext c.args.shelf.now) c.in-Create.is found in
    on_ok_weaker c.create.result (λ made. next_created c.args.shelf.now c.in-Create.length c.args.name.now _ _ tells c.requires.file made) c.create.ensures.ok

pub returns-in-Create-clause-crash : goal.returns-in-Create-clause-crash
returns-in-Create-clause-crash g c =
    let found : TellsNext c.args.shelf.now c.in-Some.run' = record {
      some = c.requires.some;
      is = c.in-Some.ensures.value;
      sound = c.in-Some.ensures.sound;
      turn = c.in-Some.ensures.turn;
      begun = c.in-Some.ensures.begun;
      lawful = c.patch_is_lawful.ensures;
    } in
    let tells : TellsNext c.args.shelf.now (Create c.in-Create.length) = subst (TellsNext c.args.shelf.now) c.in-Create.is found in
    create_crashes g.D.Disk.may_leave g.D.Disk.moment g.D.Disk.left_since c.args.shelf.now c.in-Create.length c.args.name.now _ _ tells c.create.ensures.crash

pub returns-in-Cells : goal.returns-in-Cells
returns-in-Cells g c =
    let tells : TellsNext c.args.shelf.now c.in-Some.run' = record {
      some = c.requires.some;
      is = c.in-Some.ensures.value;
      sound = c.in-Some.ensures.sound;
      turn = c.in-Some.ensures.turn;
      begun = c.in-Some.ensures.begun;
      lawful = c.patch_is_lawful.ensures;
    } in
    let other : IsNoCreation c.in-Some.run' = elim c.in-Cells.is [
      | inl cells ↦ rw cells.3 tt
      | inr head ↦ rw head tt
    ] in
    record {
      ok = on_ok_weaker c.write_at.result (λ put. next_written c.args.shelf.now c.in-Some.run' c.run_bytes-count.result c.run_at.result c.run_bytes-count.new.out c.args.name.now _ _ tells other c.run_bytes-count.ensures c.run_at.ensures c.requires.file put) c.write_at.ensures.ok;
      err = on_err_weaker c.write_at.result (λ torn. next_failed c.args.shelf.now c.in-Some.run' c.run_bytes-count.result c.run_at.result c.run_bytes-count.new.out c.args.name.now _ _ tells other c.run_bytes-count.ensures c.run_at.ensures c.requires.file torn) c.write_at.ensures.err;
      crash = next_crashes g.D.Disk.may_leave g.D.Disk.moment g.D.Disk.left_since c.args.shelf.now c.in-Some.run' c.run_bytes-count.result c.run_at.result c.run_bytes-count.new.out c.args.name.now _ _ tells other c.run_bytes-count.ensures c.run_at.ensures c.write_at.ensures.crash;
      frame = record { later = c.write_at.ensures.later; cause = on_err_then c.write_at.result c.write_at.ensures.cause };
    }
