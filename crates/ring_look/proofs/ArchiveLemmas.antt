-- Archives that are read one after the other.
use Rattle.std.proofs.Common.{◌≡◌, ◌∙◌, ℕ, ◌+◌, false, List, [], ◌∷◌, ◌++◌, Option, Some, length, map, sym, ap, ap₂, arith, subst}
use Rattle.std.specs.Prelude.{slice_get, unwrap_or}
use Rattle.std.specs.List.{range_with_len}
use Rattle.std.proofs.lemmas.List.FromFn.{map-range_with_len_more}
use Rattle.outside_io.specs.Image.{Image}
use Rattle.ring_format.specs.Patch.{PatchValue}
use Rattle.ring_format.specs.Layout.{LayoutValue}
use Rattle.ring_format.specs.LayoutFile.{offset_in}
use Rattle.ring_format.specs.declared.archive.Archive.{Archive}
use Rattle.ring_archive.specs.Ring.{OnFile, stale_slots}
use Rattle.ring_archive.proofs.UnderLemmas.{under_both}
use Rattle.ring_look.specs.Archives.{archive_in, no_archive}
use Rattle.ring_look.specs.declared.archives.ArchiveInfo.{ArchiveInfo}

-- the archives before a place
abbrev pub FirstArchives : ℕ → LayoutValue → PatchValue → Option Image → List ℕ → ℕ → List ArchiveInfo → Type 0
FirstArchives version layout patch known name count archives =
    OnFile known name (λ file. archives ≡ map (archive_in version layout patch file) (range_with_len 0 count))

pub one_more : (version : ℕ) (layout : LayoutValue) (patch : PatchValue) (known now : Option Image) (name : List ℕ) (place : ℕ) (archives : List ArchiveInfo) (archive : ArchiveInfo) → now ≡ known
    → FirstArchives version layout patch known name place archives → OnFile now name (λ file. archive ≡ archive_in version layout patch file place)
    → FirstArchives version layout patch known name (place + 1) (archives ++ archive ∷ [])
one_more version layout patch known now name place archives archive same first next =
    under_both false known name (λ file. archives ≡ map (archive_in version layout patch file) (range_with_len 0 place)) (λ file. archive ≡ archive_in version layout patch file place)
    (λ file. archives ++ archive ∷ [] ≡ map (archive_in version layout patch file) (range_with_len 0 (place + 1)))
    first (subst (λ (known : Option Image). OnFile known name (λ file. archive ≡ archive_in version layout patch file place)) same next)
    (λ file so_far this. ap₂ (λ (xs : List ArchiveInfo) (x : ArchiveInfo). xs ++ x ∷ []) so_far this ∙ sym (map-range_with_len_more (archive_in version layout patch file) 0 place place (omega arith)))

abbrev pub made : ℕ → Archive → ℕ → ArchiveInfo
made offset archive stored = record { offset = offset; archive = archive; stored = stored }

pub archive_is : (version : ℕ) (layout : LayoutValue) (patch : PatchValue) (file : List ℕ) (place offset : ℕ) (archive : Archive) (stored : ℕ) → offset ≡ offset_in version layout.archives place
    → slice_get layout.archives place ≡ Some archive → stored ≡ length (stale_slots patch file place) → made offset archive stored ≡ archive_in version layout patch file place
archive_is version layout patch file place offset archive stored begins there count =
    ap (λ (n : ℕ). made n archive stored) begins
    ∙ ap (λ (n : ℕ). made (offset_in version layout.archives place) archive n) count
    ∙ ap (λ (found : Option Archive). made (offset_in version layout.archives place) (unwrap_or found no_archive) (length (stale_slots patch file place))) (sym there)
