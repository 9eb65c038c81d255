use Rattle.std.proofs.Common.{ℕ, subst}
use Rattle.shard_core.specs.Halves.{FilesInside, both, desk_of, held_by}
use Rattle.shard_core.specs.Plans.{Begins}
use Rattle.shard_core.proofs.files.Files.begin.Goals as goal

pub returns-clause-begins : goal.returns-clause-begins
returns-clause-begins g c =
    subst (λ (now : ℕ). Begins (held_by c.args.desk.now c.args.self.now) (held_by c.begin_at.new.desk c.begin_at.new.self) c.begin_at.result now) c.in_ok-next.ensures.moment
    (subst (λ (f : FilesInside). Begins (both (desk_of c.args.desk.now) f) (held_by c.begin_at.new.desk c.begin_at.new.self) c.begin_at.result c.in_ok-next.next.now) c.in_ok-next.ensures.same c.begin_at.ensures.begins)
