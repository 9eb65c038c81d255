-- What a file reads as under a patch.
use Rattle.std.proofs.Common.{◌≡◌, ℕ, ℤ, Bool, true, false, List, [], Option, Some, None, Result, Ok, Err, IfOk, IfSome, IsSomeAnd, OnOk, refl, subst, if◌then◌else◌}
use Rattle.std.specs.Prelude.{option_and_then, slice_get, unwrap_or}
use Rattle.outside_io.specs.Image.{Image}
use Rattle.ring_format.specs.declared.archive.Archive.{Archive}
use Rattle.ring_format.specs.declared.fault.HeadFault.{HeadFault}
use Rattle.ring_format.specs.Cell.{IsVersion}
use Rattle.ring_format.specs.Layout.{LayoutValue}
use Rattle.ring_format.specs.Patch.{Cells, PatchValue}
use Rattle.ring_archive.specs.declared.view.RingView.{RingView}
use Rattle.ring_archive.specs.View.{IsThere}
use Rattle.ring_archive.specs.Ring.{HoldsRing, ReadsAs, Rings, UnderPatch, bare, is_bucket, ring_cell, value_in, value_of}
use Rattle.ring_archive.proofs.AlikeLemmas.{fresh_alike}
use Rattle.carbon_model.specs.State.{Kept}
use Rattle.carbon_model.specs.RingFiles.{SameKept, head_of, kept_in, kept_with}

-- what a patch of no cells lays over a file
abbrev pub no_cells : List ℕ → LayoutValue → Bool → PatchValue
no_cells path layout fresh = record { path = path; layout = layout; fresh = fresh; cells = [] }

either_none : (b : Bool) (x : Option ℤ) → x ≡ None → (if b then x else None) ≡ None
either_none true x e = e
either_none false x e = refl

fresh_value : (archive : Option Archive) (path : List ℕ) (layout : LayoutValue) (i bucket : ℕ) → slice_get layout.archives i ≡ archive → value_of (no_cells path layout true) [] i bucket ≡ None
unfolding value_of value_in ring_cell
fresh_value None path layout i bucket e = rw e refl
fresh_value (Some archive) path layout i bucket e = rw e (either_none (is_bucket bucket archive) None refl)

-- a fresh patch without cells reads as archives without values
pub fresh_is_empty : (path : List ℕ) (layout : LayoutValue) (i bucket : ℕ) → value_of (no_cells path layout true) [] i bucket ≡ None
fresh_is_empty path layout i bucket = fresh_value (slice_get layout.archives i) path layout i bucket refl

-- the path of a patch is nothing to what a file reads as
pub any_path : (path other : List ℕ) (layout : LayoutValue) (file : List ℕ) (rings : Rings) → ReadsAs (bare path layout) file rings → ReadsAs (bare other layout) file rings
unfolding value_of value_in ring_cell
any_path path other layout file rings reads = reads

-- a patch that lays nothing over its file
pub bare_reads : (patch : PatchValue) (layout : LayoutValue) (file : List ℕ) (rings : Rings) → patch.layout ≡ layout → patch.fresh ≡ false → patch.cells ≡ [] → ReadsAs patch file rings → ReadsAs (bare [] layout) file rings
bare_reads patch layout file rings l fresh cells reads =
    any_path patch.path [] layout file rings
    (subst (λ (m : LayoutValue). ReadsAs (record { path = patch.path; layout = m; fresh = false; cells = [] }) file rings) l
    (subst (λ (b : Bool). ReadsAs (record { path = patch.path; layout = patch.layout; fresh = b; cells = [] }) file rings) fresh
    (subst (λ (cs : Cells). ReadsAs (record { path = patch.path; layout = patch.layout; fresh = patch.fresh; cells = cs }) file rings) cells reads)))

-- two kept metrics of one layout read alike
same_from_head : (r : Result (LayoutValue × ℕ) HeadFault) (file : List ℕ) (k : Kept) → SameKept (kept_with file r) (Some k) → ReadsAs (bare [] k.layout) file k.rings
same_from_head (Err fault) file k same = absurd same
same_from_head (Ok told) file k same = subst (λ (l : LayoutValue). ReadsAs (bare [] l) file k.rings) same.1 same.2

pub reads_from_kept : (held : Option (List ℕ)) (k : Kept) → SameKept (option_and_then kept_in held) (Some k) → IsSomeAnd held (λ file. ReadsAs (bare [] k.layout) file k.rings)
reads_from_kept None k same = absurd same
reads_from_kept (Some file) k same = same_from_head (head_of file) file k same

-- ---- under the patch that is being written

-- from the bytes of a file, or none, to the file under the patch
pub under_from : (patch : PatchValue) (held : Option (List ℕ)) (image : Image) (name : List ℕ) (rings : Rings) → image name ≡ held → (patch.fresh ≡ false → IsSomeAnd held (λ file. Unit {0}))
    → ReadsAs patch (unwrap_or held []) rings → UnderPatch patch.fresh (Some image) name (λ file. ReadsAs patch file rings)
under_from patch held image name rings is there reads = by patch.fresh refl
  where
    over : (h : Option (List ℕ)) → IsSomeAnd h (λ file. Unit {0}) → ReadsAs patch (unwrap_or h []) rings → IsSomeAnd h (λ file. ReadsAs patch file rings)
    over None none reads = absurd none
    over (Some file) some reads = reads

    by : (b : Bool) → patch.fresh ≡ b → UnderPatch b (Some image) name (λ file. ReadsAs patch file rings)
    by true fresh = fresh_alike patch (unwrap_or held []) [] rings fresh reads
    by false old = rw is (over held (there old) reads)

-- and back
pub from_under : (patch : PatchValue) (image : Image) (name : List ℕ) (rings : Rings) → UnderPatch patch.fresh (Some image) name (λ file. ReadsAs patch file rings) → ReadsAs patch (unwrap_or (image name) []) rings
from_under patch image name rings under = by patch.fresh refl under
  where
    over : (h : Option (List ℕ)) → IsSomeAnd h (λ file. ReadsAs patch file rings) → ReadsAs patch (unwrap_or h []) rings
    over None reads = absurd reads
    over (Some file) reads = reads

    by : (b : Bool) → patch.fresh ≡ b → UnderPatch b (Some image) name (λ file. ReadsAs patch file rings) → ReadsAs patch (unwrap_or (image name) []) rings
    by true fresh reads = fresh_alike patch [] (unwrap_or (image name) []) rings fresh reads
    by false old reads = over (image name) reads

-- the file of a view that was made for a file of this name, version and layout
pub view_is_there : (view : RingView) (fresh : Bool) (image : Option Image) (name : List ℕ) (version : ℕ) (layout : LayoutValue) → view.name.now ≡ name → view.version ≡ version → view.layout ≡ layout
    → IsVersion version → HoldsRing fresh image name version layout.archives → IsThere view fresh image
view_is_there view fresh image name version layout named in_version laid one holds = rw (named, in_version, laid) (one, holds)

-- ---- results

-- a result whose Ok has more to say
pub on_ok_more : {X E : Type 0} (r : Result X E) (P Q : Type 0) → OnOk r P → (P → Q) → OnOk r Q
on_ok_more (Ok x) P Q holds more = more holds
on_ok_more (Err e) P Q holds more = tt

pub if_ok_more : {X E : Type 0} (r : Result X E) (P Q : X → Type 0) → IfOk r P → ((x : X) → P x → Q x) → IfOk r Q
if_ok_more (Ok x) P Q holds more = more x holds
if_ok_more (Err e) P Q holds more = tt

pub if_ok_both : {X E : Type 0} (r : Result X E) (P Q R : X → Type 0) → IfOk r P → IfOk r Q → ((x : X) → P x → Q x → R x) → IfOk r R
if_ok_both (Ok x) P Q R holds more both = both x holds more
if_ok_both (Err e) P Q R holds more both = tt

-- an option whose value has more to say
pub if_some_more : {X : Type 0} (o : Option X) (P Q : X → Type 0) → IfSome o P → ((x : X) → P x → Q x) → IfSome o Q
if_some_more None P Q holds more = tt
if_some_more (Some x) P Q holds more = more x holds
