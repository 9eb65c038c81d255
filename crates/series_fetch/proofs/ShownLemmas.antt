-- Lists of shown values.
use Rattle.std.proofs.Common.{◌≡◌, ℕ, ℤ, ◌+◌, ◌-◌, ◌*◌, ◌/◌, ◌<◌, Bool, true, false, List, [], ◌∷◌, ◌++◌, length, get_or, take, drop, map, Option, Some, None, refl, sym, ap, ◌∙◌, arith}
use Rattle.std.specs.Prelude.{slice_get}
use Rattle.std.specs.List.{range_with_len}
use Rattle.std.proofs.Math.Nat.{mul-div_cancel}
use Rattle.std.proofs.lemmas.List.{take_at}
use Rattle.std.proofs.lemmas.List.FromFn.{fill_by_all, get_or-map-range_with_len, length-map-range_with_len}
use Rattle.ring_format.specs.declared.archive.Archive.{Archive}
use Rattle.ring_format.specs.Layout.{LayoutValue}
use Rattle.ring_format.specs.Patch.{PatchValue}
use Rattle.ring_archive.specs.Ring.{Rings, ReadsAs, value_of, value_in, ring_cell, values_from, is_bucket}
use Rattle.series_fetch.specs.declared.range.Window.{Window}
use Rattle.series_fetch.specs.declared.range.Window.TheVariants.{Empty, Range}
use Rattle.series_fetch.specs.Shown.{values_in, shown_of, shown_in, shown_from, shown}

-- ---- one bucket

shown_of-same : (layout : LayoutValue) (rings others : Rings) (i bucket : ℕ) (pending : List ℤ) → rings i bucket ≡ others i bucket → shown_of layout rings i bucket pending ≡ shown_of layout others i bucket pending
shown_of-same layout rings others i bucket [] same = same
shown_of-same layout rings others i bucket (v ∷ vs) same = refl

-- archives that hold the same in a bucket show the same
shown_in-same : (layout : LayoutValue) (rings others : Rings) (points : List (ℕ × ℤ)) (i step bucket : ℕ) → rings i bucket ≡ others i bucket → shown_in layout rings points i step bucket ≡ shown_in layout others points i step bucket
unfolding shown_in
shown_in-same layout rings others points i step bucket same = shown_of-same layout rings others i bucket (values_in step points bucket) same

-- and so do points with the same values there
shown_in-points : (layout : LayoutValue) (rings : Rings) (points others : List (ℕ × ℤ)) (i step bucket : ℕ) → values_in step points bucket ≡ values_in step others bucket → shown_in layout rings points i step bucket ≡ shown_in layout rings others i step bucket
unfolding shown_in
shown_in-points layout rings points others i step bucket same = ap (λ (vs : List ℤ). shown_of layout rings i bucket vs) same

-- ---- lists

map_range-same : {X : Type 0} (f g : ℕ → X) (n : ℕ) (d : X) → ((k : ℕ) → k < n → f k ≡ g k) → map f (range_with_len 0 n) ≡ map g (range_with_len 0 n)
map_range-same f g n d same = fill_by_all g (map f (range_with_len 0 n)) n d (length-map-range_with_len f 0 n) (λ k lt. get_or-map-range_with_len f 0 n k k d lt (omega arith) ∙ same k lt)

-- the values of buckets over which points of a stretch are laid
pub all_laid : (layout : LayoutValue) (old now : List (Option ℤ)) (points cached : List (ℕ × ℤ)) (i first step : ℕ) → length now ≡ length old
    → ((k : ℕ) → k < length old → get_or now k None ≡ shown_in layout (λ _ _. get_or old k None) points i step (first + k * step))
    → ((k : ℕ) → k < length old → values_in step points (first + k * step) ≡ values_in step cached (first + k * step))
    → now ≡ map (λ k. shown_in layout (λ _ _. get_or old k None) cached i step (first + k * step)) (range_with_len 0 (length old))
all_laid layout old now points cached i first step many each same =
    fill_by_all (λ k. shown_in layout (λ _ _. get_or old k None) cached i step (first + k * step)) now (length old) None many
    (λ k lt. each k lt ∙ shown_in-points layout (λ _ _. get_or old k None) points cached i step (first + k * step) (same k lt))

-- the values of buckets over which no points are laid
pub none_laid : (layout : LayoutValue) (values : List (Option ℤ)) (points cached : List (ℕ × ℤ)) (i first step : ℕ) → length points ≡ 0
    → ((k : ℕ) → k < length values → values_in step points (first + k * step) ≡ values_in step cached (first + k * step))
    → values ≡ map (λ k. shown_in layout (λ _ _. get_or values k None) cached i step (first + k * step)) (range_with_len 0 (length values))
unfolding shown_in
none_laid layout values [] cached i first step none same = all_laid layout values values [] cached i first step refl (λ k lt. refl) same
none_laid layout values (p ∷ ps) cached i first step none same = absurd (omega (arith, none))

-- a part of a list that was written back
pub written_back : {X : Type 0} (old now : List X) (len : ℕ) → length now ≡ length old → length old ≡ len → take len (now ++ drop (length now) old) ≡ now
written_back old now len many whole = take_at now (drop (length now) old) len (many ∙ whole)

-- the shown values of a window, from those that the archive holds
pub shown_read : (layout : LayoutValue) (patch : PatchValue) (file : List ℕ) (rings : Rings) (archive : Archive) (i first end count : ℕ) (held values : List (Option ℤ)) (cached : List (ℕ × ℤ))
    → patch.layout ≡ layout → slice_get layout.archives i ≡ Some archive → (end - first) / archive.step ≡ count → ReadsAs patch file rings
    → held ≡ values_from patch file i first count
    → values ≡ map (λ k. shown_in layout (λ _ _. get_or held k None) cached i archive.step (first + k * archive.step)) (range_with_len 0 (length held))
    → values ≡ shown layout rings cached (Range i first end)
unfolding values_from shown_from
shown_read layout patch file rings archive i first end count held values cached same there many reads are is =
    let read : ℕ → Option ℤ = λ k. value_of patch file i (first + k * archive.step) in
    let cells : held ≡ map read (range_with_len 0 count) =
    let in_patch : slice_get patch.layout.archives i ≡ Some archive = ap (λ (l : LayoutValue). slice_get l.archives i) same ∙ there in
    rw in_patch at are in
    let length_of : length held ≡ count = ap length cells ∙ length-map-range_with_len read 0 count in
    let one : (k : ℕ) → k < count → get_or held k None ≡ rings i (first + k * archive.step) = λ k lt.
    ap (λ (vs : List (Option ℤ)). get_or vs k None) cells ∙ get_or-map-range_with_len read 0 count k k None lt (omega arith) ∙ reads i (first + k * archive.step) in
    let from_held : ℕ → Option ℤ = λ k. shown_in layout (λ _ _. get_or held k None) cached i archive.step (first + k * archive.step) in
    let from_rings : ℕ → Option ℤ = λ k. shown_in layout rings cached i archive.step (first + k * archive.step) in
    let all : values ≡ map from_rings (range_with_len 0 count) =
    is ∙ ap (λ (n : ℕ). map from_held (range_with_len 0 n)) length_of
    ∙ map_range-same from_held from_rings count None (λ k lt. shown_in-same layout (λ _ _. get_or held k None) rings cached i archive.step (first + k * archive.step) (one k lt)) in
    rw (there, many) all

-- pending points laid over any values show as they do over archives that have these values
pub shown_over : (layout : LayoutValue) (archive : Archive) (i first end : ℕ) (held values : List (Option ℤ)) (cached : List (ℕ × ℤ))
    → slice_get layout.archives i ≡ Some archive → (end - first) / archive.step ≡ length held → 0 < archive.step
    → values ≡ map (λ k. shown_in layout (λ _ _. get_or held k None) cached i archive.step (first + k * archive.step)) (range_with_len 0 (length held))
    → (rings : Rings) × (values ≡ shown layout rings cached (Range i first end))
unfolding shown_from
shown_over layout archive i first end held values cached there many some is =
    let rings : Rings = λ a bucket. get_or held ((bucket - first) / archive.step) None in
    let one : (k : ℕ) → get_or held k None ≡ rings i (first + k * archive.step) = λ k.
    let back : (first + k * archive.step) - first ≡ k * archive.step = omega arith in
    ap (λ (n : ℕ). get_or held n None) (sym (ap (λ (n : ℕ). n / archive.step) back ∙ mul-div_cancel k some)) in
    let from_held : ℕ → Option ℤ = λ k. shown_in layout (λ _ _. get_or held k None) cached i archive.step (first + k * archive.step) in
    let from_rings : ℕ → Option ℤ = λ k. shown_in layout rings cached i archive.step (first + k * archive.step) in
    let all : values ≡ map from_rings (range_with_len 0 (length held)) =
    is ∙ map_range-same from_held from_rings (length held) None (λ k lt. shown_in-same layout (λ _ _. get_or held k None) rings cached i archive.step (first + k * archive.step) (one k)) in
    (rings, rw (there, many) all)

-- ---- for callers

-- archives that hold the same values show the same
pub shown_same : (layout : LayoutValue) (rings others : Rings) (cached : List (ℕ × ℤ)) (window : Window) → ((i bucket : ℕ) → rings i bucket ≡ others i bucket) → shown layout rings cached window ≡ shown layout others cached window
unfolding shown_from
shown_same layout rings others cached Empty same = refl
shown_same layout rings others cached (Range i first end) same = by (slice_get layout.archives i) refl
  where
    by : (found : Option Archive) → slice_get layout.archives i ≡ found → shown layout rings cached (Range i first end) ≡ shown layout others cached (Range i first end)
    by None e = rw e refl
    by (Some archive) e = rw e (map_range-same (λ k. shown_in layout rings cached i archive.step (first + k * archive.step)) (λ k. shown_in layout others cached i archive.step (first + k * archive.step)) ((end - first) / archive.step) None
        (λ k lt. shown_in-same layout rings others cached i archive.step (first + k * archive.step) (same i (first + k * archive.step))))

-- a file that is yet to be created, under a patch without cells, is empty in each bucket
pub fresh_reads : (patch : PatchValue) → patch.fresh ≡ true → patch.cells ≡ [] → ReadsAs patch [] (λ _ _. None)
unfolding value_of value_in ring_cell
fresh_reads patch fresh bare i bucket = by (slice_get patch.layout.archives i) refl
  where
    none : (b : Bool) (archive : Archive) → is_bucket bucket archive ≡ b → value_in patch [] i archive bucket ≡ None
    none false archive e = rw e refl
    none true archive e = rw (e, bare, fresh) refl

    by : (found : Option Archive) → slice_get patch.layout.archives i ≡ found → value_of patch [] i bucket ≡ None
    by None e = rw e refl
    by (Some archive) e = rw e (none (is_bucket bucket archive) archive refl)
