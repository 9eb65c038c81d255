-- What a failed write to a disk in memory leaves is a torn range.
use Rattle.std.proofs.Common.{◌≡◌, inl, inr, Bool, true, false, ℕ, ◌+◌, ◌≤◌, List, ◌++◌, length, take, drop, Option, None, Some, IsSomeAnd, IfSome, refl, sym, ◌∙◌, length-append, length-take, arith}
use Rattle.std.specs.Prelude.{option_map, replicate}
use Rattle.std.proofs.lemmas.List.{take-take, take-append-le, length-replicate}
use Rattle.std.proofs.lemmas.Slice.{drop-append-drop}
use Rattle.outside_io.specs.Image.{Image, Writes, Tears, SameImage, IsTorn, put_over}
use Rattle.outside_io.specs.MemDisk.{disk_image, IsTornImage, LeavesTorn}
use Rattle.outside_io.specs.declared.mem_disk.MemDisk.{MemDisk}
use Rattle.outside_io.proofs.Ranges.{length-put_over}

pub front_kept : (file piece : List ℕ) (at : ℕ) → at + length piece ≤ length file → take at (put_over file at piece) ≡ take at file
front_kept file piece at fits =
    take-append-le at (take at file ++ piece) _ (omega (arith, length-append (take at file) piece, length-take at file))
    ∙ take-append-le at (take at file) piece (omega (arith, length-take at file))
    ∙ take-take at at file (omega arith)

pub back_kept : (file piece : List ℕ) (at : ℕ) → at + length piece ≤ length file → drop (at + length piece) (put_over file at piece) ≡ drop (at + length piece) file
back_kept file piece at fits =
    drop-append-drop (at + length piece) file (take at file ++ piece) _ (omega arith) (omega (arith, length-append (take at file) piece, length-take at file))

over_torn : (file now : Option (List ℕ)) (piece : List ℕ) (at : ℕ) → now ≡ option_map (λ bytes. put_over bytes at piece) file
    → IsSomeAnd file (λ bytes. at + length piece ≤ length bytes)
    → IfSome file (λ bytes. IsSomeAnd now (λ torn. IsTorn bytes torn at (length piece)))
over_torn None now piece at is place = tt
over_torn (Some bytes) now piece at is place =
    rw is (length-put_over bytes piece at place, front_kept bytes piece at place, back_kept bytes piece at place)

-- a range that is written
pub written_tears : (before after : Image) (name : List ℕ) (at : ℕ) (piece : List ℕ) → Writes before after name at piece
    → IsSomeAnd (before name) (λ bytes. at + length piece ≤ length bytes) → Tears before after name at (length piece)
written_tears before after name at piece written place = (over_torn (before name) (after name) piece at written.0 place, written.1)

-- a range that is filled with one byte
pub filled_tears : (before after : Image) (name : List ℕ) (at count byte : ℕ) → Writes before after name at (replicate count byte)
    → IsSomeAnd (before name) (λ bytes. at + count ≤ length bytes) → Tears before after name at count
filled_tears before after name at count byte written place =
    let len = length-replicate count byte in
    (rw (sym len) (over_torn (before name) (after name) (replicate count byte) at written.0 (rw len place)), written.1)

kept_torn : (file now : Option (List ℕ)) (at count : ℕ) → now ≡ file → IfSome file (λ bytes. IsSomeAnd now (λ torn. IsTorn bytes torn at count))
kept_torn None now at count is = tt
kept_torn (Some bytes) now at count is = rw is (refl, refl, refl)

-- a range that is as before
pub same_tears : (before after : Image) (name : List ℕ) (at count : ℕ) → SameImage before after → Tears before after name at count
same_tears before after name at count same = (kept_torn (before name) (after name) at count (same name), λ other _. same other)

torn_image : (tears : Bool) (before after : Image) (name : List ℕ) (at count : ℕ) → IsTornImage tears before after name at count
    → IsSomeAnd (before name) (λ bytes. at + count ≤ length bytes) → Tears before after name at count
torn_image true before after name at count (inl written) place = filled_tears before after name at count 255 written place
torn_image true before after name at count (inr same) place = same_tears before after name at count same
torn_image false before after name at count same place = same_tears before after name at count same

-- what a failed write leaves
pub left_tears : (before after : MemDisk) (name : List ℕ) (at count : ℕ) → LeavesTorn before after name at count
    → IsSomeAnd (disk_image before name) (λ bytes. at + count ≤ length bytes) → Tears (disk_image before) (disk_image after) name at count
left_tears before after name at count torn place = torn_image before.state.tears (disk_image before) (disk_image after) name at count torn place
