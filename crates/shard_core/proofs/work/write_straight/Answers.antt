use Rattle.std.proofs.Common.{rules, ◌≡◌, ◌∙◌, None, Some, ap, option_map, refl, string_bytes, sym}
use Rattle.std.specs.Prelude.{IsSome}
use Rattle.shard_core.proofs.WriteLemmas.{still_named, torn_there, written_there}
use Rattle.shard_core.proofs.work.write_straight.Goals as goal

pub returns-in-Err-clause-goes : goal.returns-in-Err-clause-goes
returns-in-Err-clause-goes g c =
    let some : IsSome c.args.shelf.now = search rules in
    record {
      some = some;
      same = refl;
      sound = c.next_run.ensures.sound;
      begun = c.next_run.ensures.begun;
      torn = torn_there c.args.shelf.now c.deref.result.now (g.D.Disk.image c.args.disk.now) (g.D.Disk.image c.write_run.new.disk)
          (ap Some c.deref.ensures ∙ sym (ap (option_map string_bytes) c.in-Some.is) ∙ c.requires.named) c.in-Err.ensures.err;
    }

pub returns-then-is_some-clause-goes : goal.returns-then-is_some-clause-goes
returns-then-is_some-clause-goes g c =
    let some : IsSome c.args.shelf.now = search rules in
    let more : IsSome c.mark_written.new.self = search rules in (
      record {
        some = some;
        begun = c.next_run.ensures.begun;
        marked = c.mark_written.ensures;
        sound = c.next_run-2.ensures.sound;
        written = written_there c.args.shelf.now c.deref.result.now (g.D.Disk.image c.args.disk.now) (g.D.Disk.image c.write_run.new.disk)
            (ap Some c.deref.ensures ∙ sym (ap (option_map string_bytes) c.in-Some.is) ∙ c.requires.named) c.in-Ok.ensures.ok;
      },
      more,
    )

pub returns-then-is_some-clause-named : goal.returns-then-is_some-clause-named
returns-then-is_some-clause-named g c =
    let more : IsSome c.mark_written.new.self = search rules in
    still_named c.args.shelf.now c.mark_written.new.self (option_map string_bytes c.args.held.now) c.requires.named c.mark_written.ensures more

pub returns-clause-goes : goal.returns-clause-goes
returns-clause-goes g c =
    let some : IsSome c.args.shelf.now = search rules in
    let none : c.mark_written.new.self ≡ None = search rules in (
      record {
        some = some;
        begun = c.next_run.ensures.begun;
        marked = c.mark_written.ensures;
        sound = c.next_run-2.ensures.sound;
        written = written_there c.args.shelf.now c.deref.result.now (g.D.Disk.image c.args.disk.now) (g.D.Disk.image c.write_run.new.disk)
            (ap Some c.deref.ensures ∙ sym (ap (option_map string_bytes) c.in-Some.is) ∙ c.requires.named) c.in-Ok.ensures.ok;
      },
      none,
    )
