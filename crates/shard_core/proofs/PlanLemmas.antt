-- A planned drain: what stands on the shelf, and what the disk under it keeps.
use Rattle.std.proofs.Common.{◌≡◌, ◌⊎◌, inl, inr, ◌∙◌, ℕ, ℤ, ◌+◌, ◌==◌, ◌&&◌, Bool, true, false, List, [], ◌∷◌, ◌++◌, Option, Some, None, IfSome, IsSomeAnd, refl, sym, ap, subst, option_map, if◌then◌else◌}
use Rattle.std.specs.Prelude.{is_some, nat_lt, not, option_and_then, unwrap_or}
use Rattle.std.specs.Map.{keys_of}
use Rattle.std.specs.Str.{bytes_eq}
use Rattle.std.proofs.lemmas.Bool.{true≢false}
use Rattle.std.proofs.lemmas.Option.{none-some}
use Rattle.std.proofs.lemmas.Slice.Eq.{bytes_eq-Decides}
use Rattle.outside_io.specs.Image.{Image}
use Rattle.metric_path.specs.FileName.{file_name_of}
use Rattle.ring_format.specs.Layout.{LayoutValue}
use Rattle.ring_format.specs.LayoutFile.{file_size_of}
use Rattle.ring_format.specs.Patch.{Cells as Laid, PatchValue}
use Rattle.ring_archive.specs.Ring.{IsRingFile, ReadsAs, Rings, UnderPatch, bare}
use Rattle.ring_archive.proofs.AlikeLemmas.{fresh_alike}
use Rattle.archive_update.specs.Batch.{batch}
use Rattle.write_shelf.specs.Runs.{last_runs, runs_in, runs_of, runs_on}
use Rattle.write_shelf.specs.Shelf.{DrainValue, drain_with}
use Rattle.write_shelf.specs.declared.run.Run.{Run}
use Rattle.write_shelf.specs.declared.run.Run.TheVariants.{Create, Cells}
use Rattle.carbon_model.specs.State.{Kept, form_of, layout_or, no_rings, rings_of}
use Rattle.carbon_model.specs.RingFiles.{IsOfClass, SameKept, StandsUnder, is_sound, kept_in, kept_on, kept_through}
use Rattle.carbon_model.specs.Replay.{kept_after, with_drained}
use Rattle.shard_core.specs.Shard.{IsLawfulRing, patch_on}
use Rattle.shard_core.proofs.FileLemmas.{ring_is_kept, ring_is_sound}
use Rattle.shard_core.proofs.ReadingLemmas.{any_path, bare_reads, fresh_is_empty, reads_from_kept}
use Rattle.shard_core.proofs.StandLemmas.{stands_moved}

pub itself : (path : List ℕ) → bytes_eq path path ≡ true
itself path = (bytes_eq-Decides path path).1 refl

-- ---- what comes on the shelf

runs_on_some : (archive slot count : ℕ) (places : List (ℕ × ℕ)) → (r : Run) × ((rest : List Run) × (runs_on archive slot count places ≡ r ∷ rest))
runs_on_some archive slot count [] = (Cells archive slot count, ([], refl))
runs_on_some archive slot count (place ∷ places) = by ((archive == place.0 && slot + count == place.1) && nat_lt count 341) (runs_on_some archive slot (count + 1) places)
  where
    by : (b : Bool) → ((r : Run) × ((rest : List Run) × (runs_on archive slot (count + 1) places ≡ r ∷ rest)))
        → (r : Run) × ((rest : List Run) × ((if b then runs_on archive slot (count + 1) places else Cells archive slot count ∷ runs_on place.0 place.1 1 places) ≡ r ∷ rest))
    by true more = more
    by false more = (Cells archive slot count, (runs_on place.0 place.1 1 places, refl))

drain_some : (patch : PatchValue) (left : List Run) (r : Run) (rest : List Run) → left ≡ r ∷ rest → drain_with patch left ≡ Some (record { patch = patch; left = left })
drain_some patch left r rest e = ap (drain_with patch) e ∙ ap (λ (runs : List Run). Some (record { patch = patch; left = runs })) (sym e)

-- the patch with its runs, unless it lays nothing over its file
abbrev pub LaysNothing : PatchValue → Type 0
LaysNothing patch = (patch.fresh ≡ false) × (patch.cells ≡ [])

pub on_shelf : (patch : PatchValue)
    → ((drain_with patch (runs_of patch) ≡ None) × LaysNothing patch)
    ⊎ ((drain_with patch (runs_of patch) ≡ Some (record { patch = patch; left = runs_of patch })) × (LaysNothing patch → ⊥))
on_shelf patch = by patch.fresh patch.cells refl refl
  where
    by : (b : Bool) (cells : Laid) → patch.fresh ≡ b → patch.cells ≡ cells
        → ((drain_with patch (runs_of patch) ≡ None) × LaysNothing patch)
        ⊎ ((drain_with patch (runs_of patch) ≡ Some (record { patch = patch; left = runs_of patch })) × (LaysNothing patch → ⊥))
    by true cells fresh is =
        let runs : runs_of patch ≡ Create (file_size_of patch.layout.archives) ∷ (runs_in (keys_of patch.cells) ++ last_runs patch) = rw fresh refl in
        inr (drain_some patch (runs_of patch) _ _ runs, λ none. true≢false (sym fresh ∙ none.0))
    by false [] fresh is = let runs : runs_of patch ≡ [] = rw (fresh, is) refl in inl (ap (drain_with patch) runs, (fresh, is))
    by false (cell ∷ cells) fresh is =
        let some = runs_on_some cell.0.0 cell.0.1 1 (keys_of cells) in
        let runs : runs_of patch ≡ runs_on cell.0.0 cell.0.1 1 (keys_of cells) ++ [] = rw (fresh, is) refl in
        let first : runs_of patch ≡ some.0 ∷ (some.1.0 ++ []) = runs ∙ ap (λ (rs : List Run). rs ++ []) some.1.1 in
        inr (drain_some patch (runs_of patch) _ _ first, λ none. absurd cc)

-- ---- what is kept then

same_some : (a b : ℕ × LayoutValue) → Some a ≡ Some b → a ≡ b
same_some a b e = ap (λ (o : Option (ℕ × LayoutValue)). unwrap_or o a) e

-- what was kept before the drain, of a metric with a file of this version or without one
abbrev pub read_before : (version : Option ℕ) (given : LayoutValue) (kept : Option Kept) (layout : LayoutValue) → Type 0
read_before None given kept layout = (kept ≡ None) × (layout ≡ given)
read_before (Some version) given kept layout = option_map form_of kept ≡ Some (version, layout)

-- the patch makes the batch, over whatever its file reads as
abbrev pub PlansOver : Bool → PatchValue → List ℕ → ℕ → List (ℕ × ℤ) → List ℕ → Type 0
PlansOver fresh patch path now points file =
    (rings : Rings) → ReadsAs (record { path = path; layout = patch.layout; fresh = fresh; cells = [] }) file rings → ReadsAs patch file (batch patch.layout now points rings)

planned_over : (held : Option (List ℕ)) (patch : PatchValue) (path : List ℕ) (now : ℕ) (points : List (ℕ × ℤ)) (rings : Rings) → IsSomeAnd held (PlansOver false patch path now points)
    → IsSomeAnd held (λ file. ReadsAs (bare [] patch.layout) file rings) → ReadsAs patch (unwrap_or held []) (batch patch.layout now points rings)
planned_over None patch path now points rings plans reads = absurd plans
planned_over (Some file) patch path now points rings plans reads = plans rings (any_path [] path patch.layout file rings reads)

planned_reads : (version : Option ℕ) (given : LayoutValue) (kept : Option Kept) (image : Image) (path : List ℕ) (patch : PatchValue) (now : ℕ) (points : List (ℕ × ℤ)) → (version ≡ None → patch.fresh ≡ true)
    → read_before version given kept patch.layout → SameKept (kept_on image path) kept
    → UnderPatch (not (is_some version)) (Some image) (file_name_of path) (PlansOver (not (is_some version)) patch path now points)
    → (patch.layout ≡ layout_or given kept) × ReadsAs patch (unwrap_or (image (file_name_of path)) []) (batch patch.layout now points (rings_of kept))
planned_reads None given None image path patch now points f known same plans =
    (known.1, fresh_alike patch [] (unwrap_or (image (file_name_of path)) []) (batch patch.layout now points no_rings) (f refl) (plans no_rings (fresh_is_empty path patch.layout)))
planned_reads None given (Some k) image path patch now points f known same plans = absurd (none-some k (sym known.0))
planned_reads (Some version) given None image path patch now points f known same plans = absurd (none-some (version, patch.layout) known)
planned_reads (Some version) given (Some k) image path patch now points f known same plans =
    let l : patch.layout ≡ k.layout = sym (ap (λ (form : ℕ × LayoutValue). form.1) (same_some (form_of k) (version, patch.layout) known)) in
    let was = subst (λ (m : LayoutValue). IsSomeAnd (image (file_name_of path)) (λ file. ReadsAs (bare [] m) file k.rings)) (sym l) (reads_from_kept (image (file_name_of path)) k same) in
    (l, planned_over (image (file_name_of path)) patch path now points k.rings plans was)

-- the archives of the patch are those after the drain
abbrev ReadsDrained : PatchValue → LayoutValue → Option Kept → ℕ → List (ℕ × ℤ) → List ℕ → Type 0
ReadsDrained patch given kept now points file = ReadsAs patch file (batch patch.layout now points (rings_of kept))

through_is : (patch : PatchValue) (given : LayoutValue) (kept : Option Kept) (now : ℕ) (points : List (ℕ × ℤ)) (held : Option (List ℕ)) → patch.layout ≡ layout_or given kept
    → ReadsDrained patch given kept now points (unwrap_or held []) → SameKept (Some (kept_through patch held)) (Some (kept_after given kept now points))
through_is patch given kept now points held l reads =
    (refl, l, λ i bucket. reads i bucket ∙ ap (λ (m : LayoutValue). batch m now points (rings_of kept) i bucket) l)

alone_is : (patch : PatchValue) (given : LayoutValue) (kept : Option Kept) (now : ℕ) (points : List (ℕ × ℤ)) (held : Option (List ℕ)) → LaysNothing patch → patch.layout ≡ layout_or given kept
    → IsSomeAnd held (IsLawfulRing 2 patch.layout) → ReadsDrained patch given kept now points (unwrap_or held []) → SameKept (option_and_then kept_in held) (Some (kept_after given kept now points))
alone_is patch given kept now points None none l ring reads = absurd ring
alone_is patch given kept now points (Some file) none l ring reads =
    let alone = bare_reads patch patch.layout file (batch patch.layout now points (rings_of kept)) refl none.0 none.1 reads in
    subst (λ (k : Option Kept). SameKept k (Some (kept_after given kept now points))) (sym (ring_is_kept 2 patch.layout file (inr refl) ring.0 ring.1))
    (refl, l, λ i bucket. alone i bucket ∙ ap (λ (m : LayoutValue). batch m now points (rings_of kept) i bucket) l)

sound_held : (held : Option (List ℕ)) (layout : LayoutValue) → IsSomeAnd held (IsLawfulRing 2 layout) → IfSome held (λ file. is_sound file ≡ true)
sound_held None layout ring = absurd ring
sound_held (Some file) layout ring = ring_is_sound 2 layout file (inr refl) ring.0 ring.1

pub whole_held : (held : Option (List ℕ)) (layout : LayoutValue) → IsSomeAnd held (IsLawfulRing 2 layout) → IsSomeAnd held (IsRingFile layout)
whole_held None layout ring = absurd ring
whole_held (Some file) layout ring = ring.1

-- ---- the disk under what is on the shelf

pub plan_stands : (opening image : Image) (shelf : Option DrainValue) (kept : List ℕ → Option Kept) (class : ℕ) (path : List ℕ) (version : Option ℕ) (given : LayoutValue) (patch : PatchValue) (now : ℕ) (points : List (ℕ × ℤ)) → IsOfClass class path
    → patch.path ≡ path → shelf ≡ drain_with patch (runs_of patch) → (version ≡ None → patch.fresh ≡ true) → read_before version given (kept path) patch.layout
    → (patch.fresh ≡ false → IsSomeAnd (image (file_name_of path)) (IsLawfulRing 2 patch.layout))
    → UnderPatch (not (is_some version)) (Some image) (file_name_of path) (PlansOver (not (is_some version)) patch path now points)
    → StandsUnder opening image None kept class → StandsUnder opening image (patch_on shelf) (with_drained kept path given now points) class
plan_stands opening image shelf kept class path version given patch now points one its put fresh before ring plans stands = elim (on_shelf patch) [
  | inl none ↦
      subst (λ (o : Option DrainValue). StandsUnder opening image (patch_on o) (with_drained kept path given now points) class) (sym (put ∙ none.0))
      (stands_moved opening image image None None kept (with_drained kept path given now points) class path one tt tt (λ other _. refl) (λ p e. rw e refl)
      (rw (itself path) (alone_is patch given (kept path) now points (image (file_name_of path)) none.1 reads.0 (ring none.1.0) reads.1))
      (λ _. sound_held (image (file_name_of path)) patch.layout (ring none.1.0)) tt stands)
  | inr some ↦
      subst (λ (o : Option DrainValue). StandsUnder opening image (patch_on o) (with_drained kept path given now points) class) (sym (put ∙ some.0))
      (stands_moved opening image image None (Some patch) kept (with_drained kept path given now points) class path one tt its (λ other _. refl) (λ p e. rw e refl)
      (rw (itself path, own) (through_is patch given (kept path) now points (image (file_name_of path)) reads.0 reads.1))
      (λ apart. absurd (true≢false (sym own ∙ apart)))
      (λ old. subst (λ (p : List ℕ). IsSomeAnd (image (file_name_of p)) (IsRingFile patch.layout)) (sym its) (whole_held (image (file_name_of path)) patch.layout (ring old))) stands)
]
  where
    reads : (patch.layout ≡ layout_or given (kept path)) × ReadsAs patch (unwrap_or (image (file_name_of path)) []) (batch patch.layout now points (rings_of (kept path)))
    reads = planned_reads version given (kept path) image path patch now points fresh before (stands.rings path one) plans

    own : bytes_eq patch.path path ≡ true
    own = ap (λ (p : List ℕ). bytes_eq p path) its ∙ itself path
