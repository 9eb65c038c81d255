use Rattle.std.proofs.Common.{◌≡◌, ◌+◌, ◌*◌, ◌≤◌, ℕ, get_or, take, ap₂, arith}
use Rattle.std.proofs.Math.Nat.{mul-le-mul_left}
use Rattle.std.proofs.lemmas.Option.{slice_get-get_or}
use Rattle.ring_format.specs.declared.archive.Archive.{Archive}
use Rattle.ring_format.specs.Cell.{cell_size_in}
use Rattle.ring_format.specs.Layout.{point_count}
use Rattle.ring_format.proofs.LawfulLayouts.{points_within}
use Rattle.ring_format.proofs.layout.offset_among.Goals as goal

pub returns-clause-within : goal.returns-clause-within
returns-clause-within c =
    let d : Archive = record { step = 0; points = 0 } in
    let size : ℕ = cell_size_in c.args.version in
    let points : ℕ = (get_or c.args.archives.now c.args.i d).points in
    let before : ℕ = point_count (take c.args.i c.args.archives.now) in
    let same : c.cell_bytes_in.result * c.point_count-points.result ≡ size * before =
    ap₂ (λ (a b : ℕ). a * b) c.cell_bytes_in.ensures c.point_count-points.ensures.value in
    let scaled : size * (before + points) ≤ size * point_count c.args.archives.now =
    mul-le-mul_left size (points_within c.args.archives.now c.args.i d c.requires.place) in
    rw (slice_get-get_or c.args.archives.now c.args.i d c.requires.place) (omega (arith, same, scaled, c.head_size.ensures))
