-- What is read of a metric is what the state keeps of it, under its pending points.
use Rattle.std.proofs.Common.{◌≡◌, inl, inr, ◌∙◌, ℕ, ℤ, Bool, true, false, List, [], Option, Some, None, IfSome, IsSomeAnd, refl, sym, ap, subst, option_map, if◌then◌else◌}
use Rattle.std.specs.Prelude.{unwrap_or}
use Rattle.std.specs.Option.{is_none, option_map_or}
use Rattle.std.specs.Str.{bytes_eq}
use Rattle.std.proofs.lemmas.Option.{none-some}
use Rattle.outside_io.specs.Image.{Image, WhereKnown}
use Rattle.metric_path.specs.FileName.{file_name_of}
use Rattle.ring_format.specs.Cell.{IsVersion}
use Rattle.ring_format.specs.Layout.{LayoutValue}
use Rattle.ring_format.specs.Patch.{PatchValue}
use Rattle.ring_archive.specs.Ring.{IsRingFile, IsRingFileIn, OnFile, ReadsAs, Rings, UnderPatch, bare}
use Rattle.metric_index.specs.Index.{entry_of}
use Rattle.metric_table.specs.Table.{kept_version}
use Rattle.metric_table.specs.declared.known.Known.{Known}
use Rattle.series_fetch.specs.Shown.{shown}
use Rattle.write_shelf.specs.Shelf.{DrainValue}
use Rattle.carbon_model.specs.State.{Kept, form_of, no_rings, rings_of}
use Rattle.carbon_model.specs.RingFiles.{IsOfClass, SameKept, StandsUnder, is_patched, kept_on, kept_through, kept_under}
use Rattle.shard_core.specs.Looks.{MayRead}
use Rattle.shard_core.specs.Reads.{Shows, ShowsPending, patch_for}
use Rattle.shard_core.specs.Shard.{HasFiles, HoldsShelf, Inside, IsLawfulRing, IsOfKept, IsUnderWay, KeepsLayouts, patch_on}
use Rattle.shard_core.specs.Table.{Table, kept_form, form_kept}
use Rattle.shard_core.specs.Writes.{OnlyWrites}
use Rattle.shard_core.specs.declared.looked.Looked.{Looked}
use Rattle.shard_core.proofs.FileLemmas.{itself, same_text}
use Rattle.shard_core.proofs.KeptLemmas.{file_at, kept_as, version_or_new}
use Rattle.shard_core.proofs.ReadingLemmas.{any_path, fresh_is_empty, no_cells, reads_from_kept, under_from}

-- the values that the archives of a file under a patch show
abbrev pub Tells : PatchValue → Looked → List (Option ℤ) → List ℕ → Type 0
Tells patch looked values file = (rings : Rings) → ReadsAs patch file rings → values ≡ shown looked.layout rings looked.pending looked.window

-- ---- through the patch that is being written

told_under : (fresh : Bool) (image : Image) (name : List ℕ) (patch : PatchValue) (looked : Looked) (values : List (Option ℤ)) (rings : Rings) → UnderPatch fresh (Some image) name (Tells patch looked values)
    → UnderPatch fresh (Some image) name (λ file. ReadsAs patch file rings) → values ≡ shown looked.layout rings looked.pending looked.window
told_under true image name patch looked values rings told reads = told rings reads
told_under false image name patch looked values rings told reads = by (image name) told reads
  where
    by : (held : Option (List ℕ)) → IsSomeAnd held (Tells patch looked values) → IsSomeAnd held (λ file. ReadsAs patch file rings) → values ≡ shown looked.layout rings looked.pending looked.window
    by None t r = absurd t
    by (Some file) t r = t rings r

is_there : (held : Option (List ℕ)) (layout : LayoutValue) → IsSomeAnd held (IsRingFile layout) → IsSomeAnd held (λ file. Unit {0})
is_there None layout ring = absurd ring
is_there (Some file) layout ring = tt

shown_through : (image : Image) (patch : PatchValue) (looked : Looked) (values : List (Option ℤ)) (kept : Option Kept) → (patch.fresh ≡ false → IsSomeAnd (image (file_name_of looked.path)) (IsRingFile patch.layout))
    → UnderPatch patch.fresh (Some image) (file_name_of looked.path) (Tells patch looked values) → SameKept (Some (kept_through patch (image (file_name_of looked.path)))) kept
    → values ≡ shown looked.layout (rings_of kept) looked.pending looked.window
shown_through image patch looked values None ring told same = absurd same
shown_through image patch looked values (Some k) ring told same =
    told_under patch.fresh image (file_name_of looked.path) patch looked values k.rings told
    (under_from patch (image (file_name_of looked.path)) image (file_name_of looked.path) k.rings refl (λ old. is_there (image (file_name_of looked.path)) patch.layout (ring old)) same.2)

pub shows_through : (shard : Inside) (patch : PatchValue) (looked : Looked) (values : List (Option ℤ)) → patch_on shard.shelf ≡ Some patch → patch.path ≡ looked.path → IsOfClass shard.class looked.path
    → (kept_form shard.table looked.path ≡ None → ⊥)
    → IfSome shard.known (λ image. patch.fresh ≡ false → IsSomeAnd (image (file_name_of patch.path)) (IsRingFile patch.layout))
    → ShowsPending looked.layout looked.pending looked.window values → UnderPatch patch.fresh shard.known (file_name_of looked.path) (Tells patch looked values) → Shows shard looked values
shows_through shard patch looked values on its one is_kept ring pending told_file = record {
  pending = pending;
  bare = λ none. absurd (is_kept none);
  kept = λ told s holds. by told shard.known ring told_file s.kept
      (subst (λ (p : Option PatchValue). WhereKnown told shard.known (λ opening now. StandsUnder opening now p s.kept shard.class)) on holds.kept.files);
}
  where
    by : (t k : Option Image) → IfSome k (λ image. patch.fresh ≡ false → IsSomeAnd (image (file_name_of patch.path)) (IsRingFile patch.layout)) → UnderPatch patch.fresh k (file_name_of looked.path) (Tells patch looked values)
        → (kept : List ℕ → Option Kept) → WhereKnown t k (λ opening now. StandsUnder opening now (Some patch) kept shard.class)
        → IfSome t (λ opening. values ≡ shown looked.layout (rings_of (kept looked.path)) looked.pending looked.window)
    by None k r f kept stands = tt
    by (Some opening) None r f kept stands = absurd stands
    by (Some opening) (Some image) r f kept stands =
        let own : bytes_eq patch.path looked.path ≡ true = ap (λ (p : List ℕ). bytes_eq p looked.path) its ∙ itself looked.path in
        let same = subst (λ (b : Bool). SameKept (if b then Some (kept_through patch (image (file_name_of looked.path))) else kept_on image looked.path) (kept looked.path)) own (stands.rings looked.path one) in
        shown_through image patch looked values (kept looked.path) (subst (λ (p : List ℕ). patch.fresh ≡ false → IsSomeAnd (image (file_name_of p)) (IsRingFile patch.layout)) its r) f same

-- ---- beside it

apart_kept : (patch : Option PatchValue) (image : Image) (path : List ℕ) → is_patched patch path ≡ false → kept_under patch image path ≡ kept_on image path
apart_kept None image path apart = refl
apart_kept (Some patch) image path apart = rw apart refl

told_bare : (held : Option (List ℕ)) (looked : Looked) (values : List (Option ℤ)) (rings : Rings) → IsSomeAnd held (Tells (no_cells looked.path looked.layout false) looked values)
    → IsSomeAnd held (λ file. ReadsAs (bare [] looked.layout) file rings) → values ≡ shown looked.layout rings looked.pending looked.window
told_bare None looked values rings told reads = absurd told
told_bare (Some file) looked values rings told reads = told rings (any_path [] looked.path looked.layout file rings reads)

shown_beside : (version : Option ℕ) (image : Image) (looked : Looked) (values : List (Option ℤ)) (known : Known) (kept : Option Kept) → kept_version known ≡ version → known.layout ≡ looked.layout → form_kept (Some known) ≡ option_map form_of kept
    → UnderPatch (is_none version) (Some image) (file_name_of looked.path) (Tells (no_cells looked.path looked.layout (is_none version)) looked values) → SameKept (kept_on image looked.path) kept
    → values ≡ shown looked.layout (rings_of kept) looked.pending looked.window
shown_beside (Some version) image looked values known None is l index told same = absurd (none-some (version, known.layout) (sym index ∙ kept_as known (Some version) is))
shown_beside (Some version) image looked values known (Some k) is l index told same =
    let layout : k.layout ≡ looked.layout = ap (λ (o : Option (ℕ × LayoutValue)). (unwrap_or o (form_of k)).1) (sym index ∙ kept_as known (Some version) is) ∙ l in
    told_bare (image (file_name_of looked.path)) looked values k.rings told
    (subst (λ (m : LayoutValue). IsSomeAnd (image (file_name_of looked.path)) (λ file. ReadsAs (bare [] m) file k.rings)) layout (reads_from_kept (image (file_name_of looked.path)) k same))
shown_beside None image looked values known None is l index told same = told no_rings (fresh_is_empty looked.path looked.layout)
shown_beside None image looked values known (Some k) is l index told same = absurd (none-some (form_of k) (sym (kept_as known None is) ∙ index))

pub shows_beside : (shard : Inside) (looked : Looked) (values : List (Option ℤ)) (known : Known) → is_patched (patch_on shard.shelf) looked.path ≡ false → IsOfClass shard.class looked.path → entry_of shard.table looked.path ≡ Some known
    → known.layout ≡ looked.layout → ShowsPending looked.layout looked.pending looked.window values
    → UnderPatch (is_none (kept_version known)) shard.known (file_name_of looked.path) (Tells (no_cells looked.path looked.layout (is_none (kept_version known))) looked values) → Shows shard looked values
shows_beside shard looked values known apart one there l pending told_file = record {
  pending = pending;
  bare = λ none. bare_by (kept_version known) refl none told_file;
  kept = λ told s holds. by told shard.known told_file s.kept (sym (ap form_kept there) ∙ holds.kept.layouts looked.path one) holds.kept.files;
}
  where
    bare_by : (version : Option ℕ) → kept_version known ≡ version → kept_form shard.table looked.path ≡ None
        → UnderPatch (is_none version) shard.known (file_name_of looked.path) (Tells (no_cells looked.path looked.layout (is_none version)) looked values) → values ≡ shown looked.layout no_rings looked.pending looked.window
    bare_by (Some version) kept none under = absurd (none-some (version, known.layout) (sym none ∙ ap form_kept there ∙ kept_as known (Some version) kept))
    bare_by None kept none under = under no_rings (fresh_is_empty looked.path looked.layout)

    by : (t k : Option Image) → UnderPatch (is_none (kept_version known)) k (file_name_of looked.path) (Tells (no_cells looked.path looked.layout (is_none (kept_version known))) looked values)
        → (kept : List ℕ → Option Kept) → form_kept (Some known) ≡ option_map form_of (kept looked.path)
        → WhereKnown t k (λ opening now. StandsUnder opening now (patch_on shard.shelf) kept shard.class)
        → IfSome t (λ opening. values ≡ shown looked.layout (rings_of (kept looked.path)) looked.pending looked.window)
    by None k f kept index stands = tt
    by (Some opening) None f kept index stands = absurd stands
    by (Some opening) (Some image) f kept index stands =
        shown_beside (kept_version known) image looked values known (kept looked.path) refl l index f
        (subst (λ (o : Option Kept). SameKept o (kept looked.path)) (apart_kept (patch_on shard.shelf) image looked.path apart) (stands.rings looked.path one))

-- ---- what a fetch needs

-- the patch of a path is the one on the shelf
pub for_shelf : (shelf : Option DrainValue) (path : List ℕ) (patch : PatchValue) → Some patch ≡ patch_for shelf path → (patch_on shelf ≡ Some patch) × (patch.path ≡ path)
for_shelf None path patch is = absurd (none-some patch (sym is))
for_shelf (Some drain) path patch is = elim (same_text drain.patch.path path) [
  | inl same ↦
      let own : Some patch ≡ Some drain.patch = is ∙ rw same.0 refl in (sym own, ap (λ (o : Option PatchValue). option_map_or (λ p. p.path) o path) own ∙ same.1)
  | inr other ↦ absurd (none-some patch (sym (is ∙ rw other.0 refl)))
]

-- and without one it is of another path
pub for_none : (shelf : Option DrainValue) (path : List ℕ) → None ≡ patch_for shelf path → is_patched (patch_on shelf) path ≡ false
for_none None path is = refl
for_none (Some drain) path is = by (bytes_eq drain.patch.path path) refl is
  where
    by : (b : Bool) → bytes_eq drain.patch.path path ≡ b → None ≡ (if b then Some drain.patch else None) → bytes_eq drain.patch.path path ≡ false
    by true e none = absurd (none-some drain.patch none)
    by false e none = e

on_drain : (class : ℕ) (table : Table) (shelf : Option DrainValue) (known : Option Image) (patch : PatchValue) → patch_on shelf ≡ Some patch → HoldsShelf class table shelf known
    → IsOfKept class table patch × IfSome known (λ image. patch.fresh ≡ false → IsSomeAnd (image (file_name_of patch.path)) (IsRingFile patch.layout))
on_drain class table None known patch is on = absurd (none-some patch is)
on_drain class table (Some drain) known patch is on =
    subst (λ (p : PatchValue). IsOfKept class table p × IfSome known (λ image. p.fresh ≡ false → IsSomeAnd (image (file_name_of p.path)) (IsRingFile p.layout)))
    (ap (λ (o : Option PatchValue). unwrap_or o patch) is) (on.0, ring known on.1)
  where
    ring : (k : Option Image) → IfSome k (λ image. IsUnderWay drain (image (file_name_of drain.patch.path))) → IfSome k (λ image. drain.patch.fresh ≡ false → IsSomeAnd (image (file_name_of drain.patch.path)) (IsRingFile drain.patch.layout))
    ring None under = tt
    ring (Some image) under = under.ring

known_layout : (o : Option Known) (layout : LayoutValue) (form : ℕ × LayoutValue) → IsSomeAnd o (λ known. known.layout ≡ layout) → form_kept o ≡ Some form → form.1 ≡ layout
known_layout None layout form known is = absurd known
known_layout (Some known) layout form its is = by (kept_version known) is
  where
    by : (version : Option ℕ) → option_map (λ v. (v, known.layout)) version ≡ Some form → form.1 ≡ layout
    by (Some version) same = ap (λ (o : Option (ℕ × LayoutValue)). (unwrap_or o form).1) (sym same) ∙ its
    by None none = absurd (none-some form none)

-- something is kept of the metric whose patch is on the shelf
pub shelved_is_kept : (shard : Inside) (looked : Looked) (patch : PatchValue) → Some patch ≡ patch_for shard.shelf looked.path → HoldsShelf shard.class shard.table shard.shelf shard.known
    → kept_form shard.table looked.path ≡ None → ⊥
shelved_is_kept shard looked patch is on none =
    let its = for_shelf shard.shelf looked.path patch is in
    let kept = (on_drain shard.class shard.table shard.shelf shard.known patch its.0 on).0.kept in
    absurd (none-some (2, patch.layout) (sym none ∙ ap (kept_form shard.table) (sym its.1) ∙ kept))

-- a metric of which nothing is kept needs no file
pub unkept_is_fresh : (o : Option Known) (kept : Option ℕ) → IsSomeAnd o (λ known. kept_version known ≡ kept) → form_kept o ≡ None → is_none kept ≡ true
unkept_is_fresh None kept its none = absurd its
unkept_is_fresh (Some known) (Some version) its none = absurd (none-some (version, known.layout) (sym none ∙ kept_as known (Some version) its))
unkept_is_fresh (Some known) None its none = refl

-- the version of the view that a metric is read through
pub fetched_version : (o : Option Known) (kept : Option ℕ) → IsSomeAnd o (λ known. kept_version known ≡ kept) → IsVersion (unwrap_or kept 2)
fetched_version None kept its = absurd its
fetched_version (Some known) kept its = subst (λ (k : Option ℕ). IsVersion (unwrap_or k 2)) its (version_or_new known)

-- the patch on the shelf is in the layout that was looked at
pub patch_layout : (shard : Inside) (looked : Looked) (patch : PatchValue) → Some patch ≡ patch_for shard.shelf looked.path → HoldsShelf shard.class shard.table shard.shelf shard.known → MayRead shard looked
    → patch.layout ≡ looked.layout
patch_layout shard looked patch is on may =
    let its = for_shelf shard.shelf looked.path patch is in
    let kept = (on_drain shard.class shard.table shard.shelf shard.known patch its.0 on).0.kept in
    known_layout (entry_of shard.table looked.path) looked.layout (2, patch.layout) may.known (ap (kept_form shard.table) (sym its.1) ∙ kept)

-- and its file is a ring file, unless it is to be created
pub patch_file : (shard : Inside) (looked : Looked) (patch : PatchValue) → Some patch ≡ patch_for shard.shelf looked.path → HoldsShelf shard.class shard.table shard.shelf shard.known → MayRead shard looked
    → patch.fresh ≡ false → OnFile shard.known (file_name_of looked.path) (IsRingFile looked.layout)
patch_file shard looked patch is on may old =
    let its = for_shelf shard.shelf looked.path patch is in
    by shard.known its.1 (patch_layout shard looked patch is on may) (on_drain shard.class shard.table shard.shelf shard.known patch its.0 on).1
  where
    by : (k : Option Image) → patch.path ≡ looked.path → patch.layout ≡ looked.layout → IfSome k (λ image. patch.fresh ≡ false → IsSomeAnd (image (file_name_of patch.path)) (IsRingFile patch.layout))
        → OnFile k (file_name_of looked.path) (IsRingFile looked.layout)
    by None p l ring = tt
    by (Some image) p l ring = subst (λ (path : List ℕ). IsSomeAnd (image (file_name_of path)) (IsRingFile looked.layout)) p
        (subst (λ (layout : LayoutValue). IsSomeAnd (image (file_name_of patch.path)) (IsRingFile layout)) l (ring old))

the_known : (o : Option Known) (layout : LayoutValue) (kept : Option ℕ) → IsSomeAnd o (λ known. known.layout ≡ layout) → IsSomeAnd o (λ known. kept_version known ≡ kept)
    → (known : Known) × ((o ≡ Some known) × ((known.layout ≡ layout) × (kept_version known ≡ kept)))
the_known None layout kept l k = absurd l
the_known (Some known) layout kept l k = (known, (refl, (l, k)))

-- a kept metric that no patch is of has its ring file
pub own_file : (shard : Inside) (looked : Looked) (kept : Option ℕ) (version : ℕ) → IsOfClass shard.class looked.path → None ≡ patch_for shard.shelf looked.path → HasFiles shard.class shard.table (patch_on shard.shelf) shard.known
    → MayRead shard looked → IsSomeAnd (entry_of shard.table looked.path) (λ known. kept_version known ≡ kept) → kept ≡ Some version
    → OnFile shard.known (file_name_of looked.path) (IsRingFileIn version looked.layout)
own_file shard looked kept version one none files may its old =
    let known = the_known (entry_of shard.table looked.path) looked.layout kept may.known its in
    by known.0 shard.known known.1.1.0 (file_at shard.class shard.table (patch_on shard.shelf) shard.known looked.path known.0 version one (for_none shard.shelf looked.path none) known.1.0 files (known.1.1.1 ∙ old))
  where
    held : (known : Known) (h : Option (List ℕ)) → known.layout ≡ looked.layout → IsSomeAnd h (IsLawfulRing version known.layout) → IsSomeAnd h (IsRingFileIn version looked.layout)
    held known None l ring = absurd ring
    held known (Some file) l ring = subst (λ (layout : LayoutValue). IsRingFileIn version layout file) l ring.1

    by : (known : Known) (k : Option Image) → known.layout ≡ looked.layout → IfSome k (λ image. IsSomeAnd (image (file_name_of looked.path)) (IsLawfulRing version known.layout))
        → OnFile k (file_name_of looked.path) (IsRingFileIn version looked.layout)
    by known None l ring = tt
    by known (Some image) l ring = held known (image (file_name_of looked.path)) l ring

-- ---- what a fetch gives

pub fetched_through : (shard : Inside) (patch : PatchValue) (looked : Looked) (values : List (Option ℤ)) → Some patch ≡ patch_for shard.shelf looked.path → IsOfClass shard.class looked.path
    → HoldsShelf shard.class shard.table shard.shelf shard.known → ShowsPending looked.layout looked.pending looked.window values
    → UnderPatch patch.fresh shard.known (file_name_of looked.path) (Tells patch looked values) → Shows shard looked values
fetched_through shard patch looked values is one on pending told =
    let its = for_shelf shard.shelf looked.path patch is in
    shows_through shard patch looked values its.0 its.1 one (shelved_is_kept shard looked patch is on) (on_drain shard.class shard.table shard.shelf shard.known patch its.0 on).1 pending told

pub fetched_beside : (shard : Inside) (looked : Looked) (values : List (Option ℤ)) (kept : Option ℕ) (patch : PatchValue) → None ≡ patch_for shard.shelf looked.path → IsOfClass shard.class looked.path → MayRead shard looked
    → IsSomeAnd (entry_of shard.table looked.path) (λ known. kept_version known ≡ kept) → patch ≡ no_cells looked.path looked.layout (is_none kept)
    → ShowsPending looked.layout looked.pending looked.window values → UnderPatch patch.fresh shard.known (file_name_of looked.path) (Tells patch looked values) → Shows shard looked values
fetched_beside shard looked values kept patch none one may its is pending told =
    let known = the_known (entry_of shard.table looked.path) looked.layout kept may.known its in
    shows_beside shard looked values known.0 (for_none shard.shelf looked.path none) one known.1.0 known.1.1.0 pending
    (subst (λ (k : Option ℕ). UnderPatch (is_none k) shard.known (file_name_of looked.path) (Tells (no_cells looked.path looked.layout (is_none k)) looked values)) (sym known.1.1.1)
    (subst (λ (p : PatchValue). UnderPatch p.fresh shard.known (file_name_of looked.path) (Tells p looked values)) is told))

-- ---- later

-- what may be read may be read later, since metrics keep their layouts
pub may_read_later : (old new : Inside) (looked : Looked) → new.class ≡ old.class → KeepsLayouts old new → MayRead old looked → MayRead new looked
may_read_later old new looked class keeps may = record {
  here = may.here ∙ sym class;
  known = keeps looked.path looked.layout may.known;
  window = may.window;
  rising = may.rising;
  moments = may.moments;
}

-- and after a write, which changes neither the class nor the table
pub may_read_after_writes : (old new : Inside) (looked : Looked) → OnlyWrites old new → MayRead old looked → MayRead new looked
may_read_after_writes old new looked others =
    may_read_later old new looked others.class
    (λ path layout known. subst (λ (table : Table). IsSomeAnd (entry_of table path) (λ known. known.layout ≡ layout)) (sym others.table) known)
