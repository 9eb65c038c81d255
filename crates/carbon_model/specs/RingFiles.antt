-- What the files of a disk mean.
use Rattle.std.specs.Prelude.{◌≡◌, ◌≢◌, ℕ, Bool, true, false, List, [], length, take, option_and_then, unwrap_or, Option, Some, None, Result, Ok, Err, IfSome, IsSomeAnd, if◌then◌else◌}
use Rattle.std.specs.Str.{bytes_eq}
use Rattle.outside_io.specs.Image.{Image}
use Rattle.metric_path.specs.Path.{path_fault}
use Rattle.metric_path.specs.declared.path.PathFault.{PathFault}
use Rattle.drain_order.specs.declared.strategy.Strategy.{Strategy}
use Rattle.metric_path.specs.Class.{class_of}
use Rattle.metric_path.specs.FileName.{file_name_of}
use Rattle.ring_format.specs.Layout.{LayoutValue}
use Rattle.ring_format.specs.declared.fault.HeadFault.{HeadFault}
use Rattle.ring_format.specs.declared.fault.HeadFault.TheVariants as faults
use Rattle.ring_format.specs.Head.{head_result}
use Rattle.ring_format.specs.Patch.{PatchValue}
use Rattle.ring_archive.specs.Ring.{IsRingFile, bare, value_of}
use Rattle.redo_log.specs.Steps.{gate_name, log_name}
use Rattle.carbon_model.specs.State.{Kept, State}

-- a path that may have a file on the disk of a class
pub record IsOfClass (class : ℕ) (path : List ℕ) : Type 0 where
  pub legal : path_fault path ≡ None
  pub here : class_of path ≡ class

-- what the head of a file says: its first bytes, of which no head has more than 316, and the length of the file
unfoldable pub head_of : List ℕ → Result (LayoutValue × ℕ) HeadFault
head_of file = head_result (take 316 file) (length file)

-- A file with a head of zero counts as none; one with another fault is damaged.
abbrev pub is_sound_head : Result (LayoutValue × ℕ) HeadFault → Bool
is_sound_head (Ok told) = true
is_sound_head (Err faults.Zero) = true
is_sound_head (Err fault) = false

abbrev pub is_sound : List ℕ → Bool
is_sound file = is_sound_head (head_of file)

-- what is kept in a file with this head
abbrev pub kept_with : List ℕ → Result (LayoutValue × ℕ) HeadFault → Option Kept
kept_with file (Ok told) =
    Some (record { version = told.1; layout = told.0; rings = value_of (bare [] told.0) file })
kept_with file (Err fault) = None

abbrev pub kept_in : List ℕ → Option Kept
kept_in file = kept_with file (head_of file)

-- what is kept of a path on a disk
abbrev pub kept_on : Image → List ℕ → Option Kept
kept_on image path = option_and_then kept_in (image (file_name_of path))

-- two metrics of one version and layout, whose archives have the same values
abbrev pub SameKept : Option Kept → Option Kept → Type 0
SameKept None None = Unit {0}
SameKept None (Some b) = ⊥
SameKept (Some a) None = ⊥
SameKept (Some a) (Some b) =
    (a.version ≡ b.version) × (a.layout ≡ b.layout)
    × ((i bucket : ℕ) → a.rings i bucket ≡ b.rings i bucket)

-- The disk of a class stands for what is kept: each path of the class has there what is kept of it, no file of the class is damaged, and
-- every other file, but the log of drains and its gate, is as it was at the opening.
pub record Stands (opening now : Image) (kept : List ℕ → Option Kept) (class : ℕ) : Type 0 where
  pub rings : (path : List ℕ) → IsOfClass class path → SameKept (kept_on now path) (kept path)
  pub sound : (path : List ℕ) → IsOfClass class path → IfSome (now (file_name_of path)) (λ file. is_sound file ≡ true)
  pub others : (name : List ℕ) → name ≢ log_name → name ≢ gate_name
      → ((path : List ℕ) → IsOfClass class path → file_name_of path ≢ name) → now name ≡ opening name

-- ---- under a patch

-- whether the patch is of this path
abbrev pub is_patched : Option PatchValue → List ℕ → Bool
is_patched None path = false
is_patched (Some patch) path = bytes_eq patch.path path

-- what is kept of the path of a patch, in version 2: a fresh patch needs no file, and the file of
-- another one has that version
abbrev pub kept_through : PatchValue → Option (List ℕ) → Kept
kept_through patch held =
    record { version = 2; layout = patch.layout; rings = value_of patch (unwrap_or held []) }

-- what is kept of a path on a disk under a patch, where that is of this path
abbrev pub kept_under : Option PatchValue → Image → List ℕ → Option Kept
kept_under None image path = kept_on image path
kept_under (Some patch) image path =
    if bytes_eq patch.path path then Some (kept_through patch (image (file_name_of path))) else kept_on image path

-- The disk of a class and a patch over it stand for what is kept. The file of a patch that is not fresh is a ring file of its layout;
-- that of a fresh one may be damaged, since it is being written.
pub record StandsUnder (opening now : Image) (shelf : Option PatchValue) (kept : List ℕ → Option Kept) (class : ℕ) : Type 0 where
  pub rings : (path : List ℕ) → IsOfClass class path → SameKept (kept_under shelf now path) (kept path)
  pub sound : (path : List ℕ) → IsOfClass class path → is_patched shelf path ≡ false
      → IfSome (now (file_name_of path)) (λ file. is_sound file ≡ true)
  pub patched : IfSome shelf (λ patch. patch.fresh ≡ false → IsSomeAnd (now (file_name_of patch.path)) (IsRingFile patch.layout))
  pub others : (name : List ℕ) → name ≢ log_name → name ≢ gate_name
      → ((path : List ℕ) → IsOfClass class path → file_name_of path ≢ name) → now name ≡ opening name

-- ---- the opening

-- what is kept of a text under what is kept on the disk of its class: a text that is no path has no file
abbrev pub of_legal : Option PathFault → Option Kept → Option Kept
of_legal None kept = kept
of_legal (Some fault) kept = None

abbrev pub kept_at : Image → List ℕ → Option Kept
kept_at image path = of_legal (path_fault path) (kept_on image path)

-- what is fixed for a run
pub record Settings : Type 0 where
  pub rules : List ℕ → LayoutValue
  pub limit : ℕ
  pub strategy : Strategy

-- A state in which a run may begin over disks of which each tells its image, or none: nothing is pending and nothing was drained, and what
-- is kept is what the files mean, of each class whose disk tells them.
pub record Opens (settings : Settings) (told : ℕ → Option Image) (s : State) : Type 0 where
  pub pending : (class : ℕ) → s.pending class ≡ []
  pub queue : (class : ℕ) → s.queue class ≡ []
  pub drains : (path : List ℕ) → s.drains path ≡ 0
  pub kept : (path : List ℕ) → IfSome (told (class_of path)) (λ image. s.kept path ≡ kept_at image path)
  pub legal : (path : List ℕ) → IfSome (path_fault path) (λ fault. s.kept path ≡ None)
  pub rules : (path : List ℕ) → s.rules path ≡ settings.rules path
  pub limit : s.limit ≡ settings.limit
  pub strategy : s.strategy ≡ settings.strategy
