use Rattle.std.proofs.Common.{◌≡◌, ◌∙◌, ◌-◌, ◌*◌, ℕ, false, ap, arith, refl, sym}
use Rattle.ring_format.specs.Cell.{cell_size_in}
use Rattle.ring_archive.proofs.UnderLemmas.{ok_more, under_both, under_three}
use Rattle.ring_archive.proofs.HeldLemmas.{one_stretch, round_room, two_stretches}
use Rattle.ring_archive.proofs.view.RingView.read_round.Goals as goal

pub returns-then-bytes-before_end-clause-cells : goal.returns-then-bytes-before_end-clause-cells
returns-then-bytes-before_end-clause-cells g c =
    let same : c.cell_bytes_in.result * (c.args.round.points - c.args.round.slot) ≡ cell_size_in c.args.round.version * (c.args.round.points - c.args.round.slot) =
    ap (λ (n : ℕ). n * (c.args.round.points - c.args.round.slot)) c.cell_bytes_in.ensures in
    let room = round_room (cell_size_in c.args.round.version) c.args.round.slot c.args.round.points _ (omega arith) (omega (arith, same, c.if-bytes-before_end.true)) in
    ok_more c.read_slots.result _ _ c.read_slots.ensures.bytes (λ read. under_both false (g.D.Disk.image c.args.disk.now) c.args.self.now.name.now _ _ _ c.requires.file.1 read (λ file there is.
    one_stretch c.args.self.now.layout.archives file c.args.round _ _ (there.0 ∙ sym c.requires.version) room is))

pub returns-clause-cells : goal.returns-clause-cells
returns-clause-cells g c =
    let same : c.cell_bytes_in.result * (c.args.round.points - c.args.round.slot) ≡ cell_size_in c.args.round.version * (c.args.round.points - c.args.round.slot) =
    ap (λ (n : ℕ). n * (c.args.round.points - c.args.round.slot)) c.cell_bytes_in.ensures in
    ok_more c.read_slots-3.result _ _ (rw c.in_ok-read_slots.ensures.frame.kept at c.read_slots-3.ensures.bytes) (λ read. under_three false (g.D.Disk.image c.args.disk.now) c.args.self.now.name.now _ _ _ _
    c.requires.file.1 c.in_ok-read_slots.ensures.bytes read (λ file room first second.
    two_stretches c.args.self.now.layout.archives file c.args.round _ c.read_slots-2.new.bytes c.read_slots-3.new.bytes _ _ (room.0 ∙ sym c.requires.version) refl (omega (arith, same)) c.requires.slot
    (omega (arith, same)) first second))
