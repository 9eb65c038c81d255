use Rattle.std.proofs.Common.{◌∙◌, ℕ, List, Option, subst, sym}
use Rattle.metric_path.specs.FileName.{HasFileName}
use Rattle.shard_core.proofs.ReadingLemmas.{on_ok_more}
use Rattle.shard_core.proofs.StartingLemmas.{head_opened, notes_known}
use Rattle.shard_core.proofs.starting.note_file.Goals as goal

pub returns-in-Ok-clause-notes : goal.returns-in-Ok-clause-notes
returns-in-Ok-clause-notes g c =
    let found = subst (λ (path : Option (List ℕ)). HasFileName path c.args.name.now) c.in-Ok-Some.field-0-is c.in-Ok-Some.ensures.found in
    on_ok_more c.note_head.result _ _ c.note_head.ensures.notes (λ notes.
    notes_known c.args.class (g.D.Disk.image c.args.disk.now) c.args.name.now c.in-Ok-Some.path c.in-Ok.head c.args.table.now c.note_head.new.table
    (record { legal = found.0; here = sym c.class.ensures.value ∙ c.if-class.false }) found.1 c.in-Ok.ensures.head notes)

pub returns-in-Ok-clause-opened : goal.returns-in-Ok-clause-opened
returns-in-Ok-clause-opened g c =
    head_opened c.note_head.result c.args.class c.in-Ok-Some.path c.in-Ok.head c.args.table.now c.note_head.new.table
    (sym c.class.ensures.value ∙ c.if-class.false) c.note_head.ensures.notes
