-- The place of a bucket in an archive's ring.
use Rattle.std.specs.Prelude.{ℕ, ◌==◌, if◌then◌else◌, pos, ◌-ℤ◌, nat_abs}
use Rattle.std.specs.Int.{int_div_euclid, int_rem_euclid}
use Rattle.ring_format.specs.declared.archive.Archive.{Archive}

-- The slot of a bucket in an archive whose first slot holds the bucket `base`: as many steps behind it as
-- the bucket lies after the base, rounded down, and round the ring. At base 0 the archive is empty.
abbrev pub slot_of : ℕ → ℕ → Archive → ℕ
slot_of base bucket archive =
    if base == 0 then 0 else
    nat_abs (int_rem_euclid (int_div_euclid (pos bucket -ℤ pos base) (pos archive.step)) (pos archive.points))
