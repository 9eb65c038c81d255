-- The file of a patch changed, and the log or the gate.
use Rattle.std.proofs.Common.{◌≡◌, ◌≢◌, inl, inr, ◌∙◌, ℕ, Bool, true, false, List, [], Option, Some, None, IfSome, IsSomeAnd, refl, sym, ap, subst, if◌then◌else◌}
use Rattle.std.specs.Prelude.{option_and_then}
use Rattle.std.specs.Str.{bytes_eq}
use Rattle.std.proofs.lemmas.Bool.{true≢false}
use Rattle.outside_io.specs.Image.{Image, ChangesOnly}
use Rattle.metric_path.specs.FileName.{file_name_of}
use Rattle.ring_format.specs.Layout.{layout_fault}
use Rattle.ring_format.specs.Patch.{PatchValue}
use Rattle.ring_archive.specs.Ring.{IsRingFile, ReadsAs, Rings, UnderPatch, bare}
use Rattle.redo_log.specs.Recovery.{IsLaid}
use Rattle.redo_log.specs.Rows.{KeepsRings}
use Rattle.redo_log.specs.Steps.{gate_name, log_name}
use Rattle.carbon_model.specs.RingFiles.{IsOfClass, SameKept, StandsUnder, is_patched, is_sound, kept_in, kept_on, kept_through, kept_under}
use Rattle.carbon_model.specs.State.{Kept}
use Rattle.shard_core.proofs.FileLemmas.{itself, ring_is_kept, ring_is_sound, same_text}
use Rattle.shard_core.proofs.LogLemmas.{rings_stand}
use Rattle.shard_core.proofs.ReadingLemmas.{any_path, from_under, under_from}
use Rattle.shard_core.proofs.StandLemmas.{IsPatchOf, stands_moved}

-- all other rings are as before
abbrev pub MovesFile : PatchValue → Image → Image → Type 0
MovesFile patch x y = (name : List ℕ) → name ≢ log_name → name ≢ gate_name → name ≢ file_name_of patch.path → y name ≡ x name

-- ---- first the log and the gate change, and then the file

abbrev between : Image → Image → Image
between x y = λ name. if bytes_eq name log_name then y name else (if bytes_eq name gate_name then y name else x name)

between_keeps : (x y : Image) → KeepsRings x (between x y)
between_keeps x y = λ name no_log no_gate. elim (same_text name log_name) [
  | inl same ↦ absurd (no_log same.1)
  | inr other ↦ elim (same_text name gate_name) [
    | inl same ↦ absurd (no_gate same.1)
    | inr apart ↦
        ap (λ (b : Bool). if b then y name else (if bytes_eq name gate_name then y name else x name)) other.0
        ∙ ap (λ (b : Bool). if b then y name else x name) apart.0
  ]
]

between_moves : (patch : PatchValue) (x y : Image) → MovesFile patch x y → ChangesOnly (between x y) y (file_name_of patch.path)
between_moves patch x y moves = λ name no_file. elim (same_text name log_name) [
  | inl same ↦ sym (ap (λ (b : Bool). if b then y name else (if bytes_eq name gate_name then y name else x name)) same.0)
  | inr other ↦ elim (same_text name gate_name) [
    | inl same ↦
        sym (ap (λ (b : Bool). if b then y name else (if bytes_eq name gate_name then y name else x name)) other.0
        ∙ ap (λ (b : Bool). if b then y name else x name) same.0)
    | inr apart ↦
        moves name other.1 apart.1 no_file
        ∙ sym (ap (λ (b : Bool). if b then y name else (if bytes_eq name gate_name then y name else x name)) other.0
        ∙ ap (λ (b : Bool). if b then y name else x name) apart.0)
  ]
]

moved : (told x y : Image) (patch : PatchValue) (patch' : Option PatchValue) (kept : List ℕ → Option Kept) (class : ℕ) → IsOfClass class patch.path → IsPatchOf patch.path patch' → MovesFile patch x y
    → SameKept (kept_under patch' y patch.path) (kept patch.path)
    → (is_patched patch' patch.path ≡ false → IfSome (y (file_name_of patch.path)) (λ file. is_sound file ≡ true))
    → IfSome patch' (λ p. p.fresh ≡ false → IsSomeAnd (y (file_name_of p.path)) (IsRingFile p.layout))
    → StandsUnder told x (Some patch) kept class → StandsUnder told y patch' kept class
moved told x y patch patch' kept class one its moves here sound ring stands =
    stands_moved told (between x y) y (Some patch) patch' kept kept class patch.path one refl its (between_moves patch x y moves) (λ p e. refl) here sound ring
    (rings_stand told x (between x y) (Some patch) kept class (between_keeps x y) stands)

-- ---- what the file reads as

is_there : (held : Option (List ℕ)) (patch : PatchValue) → IsSomeAnd held (IsRingFile patch.layout) → IsSomeAnd held (λ file. Unit {0})
is_there None patch ring = absurd ring
is_there (Some file) patch ring = tt

-- what is kept of the path of the patch, where its file stands under it
pub record ReadsKept (image : Image) (patch : PatchValue) (kept : Option Kept) : Type 0 where
  pub k : Kept
  pub is : kept ≡ Some k
  pub version : 2 ≡ k.version
  pub layout : patch.layout ≡ k.layout
  pub reads : UnderPatch patch.fresh (Some image) (file_name_of patch.path) (λ file. ReadsAs patch file k.rings)

pub reads_kept : (told x : Image) (patch : PatchValue) (kept : List ℕ → Option Kept) (class : ℕ) → IsOfClass class patch.path → StandsUnder told x (Some patch) kept class → ReadsKept x patch (kept patch.path)
reads_kept told x patch kept class one stands =
    by (kept patch.path) refl (subst (λ (b : Bool). SameKept (if b then Some (kept_through patch (x (file_name_of patch.path))) else kept_on x patch.path) (kept patch.path)) (itself patch.path) (stands.rings patch.path one))
  where
    by : (o : Option Kept) → kept patch.path ≡ o → SameKept (Some (kept_through patch (x (file_name_of patch.path)))) (kept patch.path) → ReadsKept x patch (kept patch.path)
    by None is same = absurd (rw is at same)
    by (Some k) is same =
        let it : SameKept (Some (kept_through patch (x (file_name_of patch.path)))) (Some k) = rw is at same in
        record {
          k = k;
          is = is;
          version = it.0;
          layout = it.1;
          reads = under_from patch (x (file_name_of patch.path)) x (file_name_of patch.path) k.rings refl (λ over. is_there (x (file_name_of patch.path)) patch (stands.patched over)) it.2;
        }

-- ---- the patch is laid

alone : (held : Option (List ℕ)) (patch : PatchValue) (k : Kept) → layout_fault patch.layout.archives patch.layout.factor ≡ None → 2 ≡ k.version → patch.layout ≡ k.layout → IsSomeAnd held (IsRingFile patch.layout)
    → IsSomeAnd held (λ file. ReadsAs (bare patch.path patch.layout) file k.rings) → SameKept (option_and_then kept_in held) (Some k) × IfSome held (λ file. is_sound file ≡ true)
alone None patch k lawful v l whole reads = absurd whole
alone (Some file) patch k lawful v l whole reads = (
  subst (λ (o : Option Kept). SameKept o (Some k)) (sym (ring_is_kept 2 patch.layout file (inr refl) lawful whole)) (v, l, any_path patch.path [] patch.layout file k.rings reads),
  ring_is_sound 2 patch.layout file (inr refl) lawful whole,
)

-- its file stands alone then
pub laid_stands : (told x y : Image) (patch : PatchValue) (kept : List ℕ → Option Kept) (class : ℕ) → IsOfClass class patch.path → layout_fault patch.layout.archives patch.layout.factor ≡ None → IsLaid patch x y
    → StandsUnder told x (Some patch) kept class → StandsUnder told y None kept class
laid_stands told x y patch kept class one lawful laid stands =
    let was = reads_kept told x patch kept class one stands in
    let here = alone (y (file_name_of patch.path)) patch was.k lawful was.version was.layout laid.whole (laid.reads was.k.rings was.reads) in
    moved told x y patch None kept class one tt laid.others (subst (λ (o : Option Kept). SameKept (option_and_then kept_in (y (file_name_of patch.path))) o) (sym was.is) here.0) (λ _. here.1) tt stands

-- ---- a run may be half written

-- the file reads under the patch as before
pub torn_stands : (told x y : Image) (patch : PatchValue) (kept : List ℕ → Option Kept) (class : ℕ) → IsOfClass class patch.path → MovesFile patch x y
    → ((rings : Rings) → UnderPatch patch.fresh (Some x) (file_name_of patch.path) (λ file. ReadsAs patch file rings) → UnderPatch patch.fresh (Some y) (file_name_of patch.path) (λ file. ReadsAs patch file rings))
    → (patch.fresh ≡ false → IsSomeAnd (y (file_name_of patch.path)) (IsRingFile patch.layout)) → StandsUnder told x (Some patch) kept class → StandsUnder told y (Some patch) kept class
torn_stands told x y patch kept class one moves more ring stands =
    let was = reads_kept told x patch kept class one stands in
    let same : SameKept (Some (kept_through patch (y (file_name_of patch.path)))) (Some was.k) = (was.version, was.layout, from_under patch y (file_name_of patch.path) was.k.rings (more was.k.rings was.reads)) in
    let here : SameKept (kept_under (Some patch) y patch.path) (kept patch.path) =
    subst (λ (b : Bool). SameKept (if b then Some (kept_through patch (y (file_name_of patch.path))) else kept_on y patch.path) (kept patch.path)) (sym (itself patch.path))
    (subst (λ (o : Option Kept). SameKept (Some (kept_through patch (y (file_name_of patch.path)))) o) (sym was.is) same) in
    moved told x y patch (Some patch) kept class one refl moves here (λ apart. absurd (true≢false (sym (itself patch.path) ∙ apart))) ring stands
