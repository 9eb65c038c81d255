-- What a crash may leave of a disk in memory, by the log of its changes, the last one first.
use Rattle.std.specs.Prelude.{◌≡◌, ◌≤◌, ◌⊎◌, ℕ, List, [], ◌∷◌, length, Some, option_map, if◌then◌else◌, bytes_eq, string_bytes}
use Rattle.std.proofs.Common.{inl, inr, arith, IfSome, Option, refl, sym, subst}
use Rattle.outside_io.specs.declared.disk_log.DiskChange.{DiskChange}
use Rattle.outside_io.specs.declared.disk_log.DiskChange.TheVariants.{Wrote, Created, Synced}
use Rattle.outside_io.specs.declared.disk_log.OldRange.{OldRange}
use Rattle.outside_io.specs.declared.disk_log.OldFile.{OldFile}
use Rattle.outside_io.specs.Crash.{SameCrashes}
use Rattle.outside_io.specs.Image.{Image, SameImage, ReadsFile, ChangesOnly, Tears, put_over}

-- the files before a change
abbrev pub undone : DiskChange → Image → Image
undone (Wrote range) image =
    λ name. if bytes_eq name (string_bytes range.name) then option_map (λ file. put_over file range.at range.bytes.items) (image name)
    else image name
undone (Created old) image =
    λ name. if bytes_eq name (string_bytes old.name) then option_map (λ file. file.items) old.file else image name
undone Synced image = image

-- what a crash may leave where these are the files, and these were the changes: the files, or any bytes in the range
-- that was written last, or under the name that was created last, of what a crash before might have left
abbrev pub Outcomes : Image → List DiskChange → Image → Type 0
Outcomes image [] left = SameImage image left
Outcomes image (Synced ∷ older) left = SameImage image left
Outcomes image (Wrote range ∷ older) left =
    SameImage image left
    ⊎ ((before : Image) × Outcomes (undone (Wrote range) image) older before
    × Tears before left (string_bytes range.name) range.at (length range.bytes.items))
Outcomes image (Created old ∷ older) left =
    SameImage image left
    ⊎ ((before : Image) × Outcomes (undone (Created old) image) older before × ChangesOnly before left (string_bytes old.name))

-- what a crash at a moment from t on might have left; the moments are the lengths of the log
abbrev pub LeftSince : Image → List DiskChange → ℕ → Image → Type 0
LeftSince image [] t left = Outcomes image [] left
LeftSince image (change ∷ older) t left =
    Outcomes image (change ∷ older) left ⊎ ((t ≤ length older) × LeftSince (undone change image) older t left)

-- the old bytes of a range of a file are the last change of the log
pub record LogsRange (image : Image) (name : List ℕ) (at count : ℕ) (old new : List DiskChange) : Type 0 where
  pub range : OldRange
  pub logged : new ≡ Wrote range ∷ old
  pub named : string_bytes range.name ≡ name
  pub place : range.at ≡ at
  pub long : length range.bytes.items ≡ count
  pub bytes : ReadsFile (Some image) name at range.bytes.items

-- what stood under a name is the last change of the log
pub record LogsFile (image : Image) (name : List ℕ) (old new : List DiskChange) : Type 0 where
  pub made : OldFile
  pub logged : new ≡ Created made ∷ old
  pub named : string_bytes made.name ≡ name
  pub file : option_map (λ file. file.items) made.file ≡ image name

-- what is read is one of the images that a crash may leave
pub as_read : (image : Image) (log : List DiskChange) (left : Image) → SameImage image left → Outcomes image log left
as_read image [] left same = same
as_read image (Synced ∷ older) left same = same
as_read image (Wrote range ∷ older) left same = inl same
as_read image (Created old ∷ older) left same = inl same

pub left_as_read : (image now : Image) (log : List DiskChange) (left : Image) → Some image ≡ Some now → SameImage now left → Outcomes image log left
left_as_read image now log left known same =
    as_read image log left (subst (λ (told : Option Image). IfSome told (λ files. SameImage files left)) (sym known) same)

-- this moment is one of those since an earlier one
pub counted_now : (image : Image) (log : List DiskChange) (t : ℕ) (left : Image) → Outcomes image log left → LeftSince image log t left
counted_now image [] t left now = now
counted_now image (change ∷ older) t left now = inl now

-- since this moment there is no other
pub now_alone : (image : Image) (log : List DiskChange) (left : Image) → LeftSince image log (length log) left → Outcomes image log left
now_alone image [] left since = since
now_alone image (change ∷ older) left (inl now) = now
now_alone image (change ∷ older) left (inr earlier) = absurd (omega (arith, earlier.0))

-- where files and log are as they were, so is what a crash leaves
abbrev SameBy : Image → List DiskChange → Image → List DiskChange → Type 0
SameBy x p y q = SameCrashes (length p) (length q) (Outcomes x p) (Outcomes y q) (LeftSince x p) (LeftSince y q)

pub same_log : (x y : Image) (p q : List DiskChange) → Some y ≡ Some x → q ≡ p → SameBy x p y q
same_log x y p q files logged =
    let still : SameBy x p x p = record { moment = refl; leaves = λ left now. now; since = λ t left was. was; keeps = λ t left was. was } in
    subst (λ (log : List DiskChange). SameBy x p y log) (sym logged)
    (subst (λ (known : Option Image). IfSome known (λ image. SameBy x p image p)) (sym files) still)
