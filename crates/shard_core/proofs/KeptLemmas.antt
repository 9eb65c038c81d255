-- What the table says of a metric of which something is kept.
use Rattle.std.proofs.Common.{◌≡◌, ◌∙◌, Bool, true, false, ℕ, List, Option, Some, None, IfSome, IsSomeAnd, inl, inr, refl, sym, ap, subst, option_map, if◌then◌else◌}
use Rattle.std.specs.Prelude.{◌&&◌, not, unwrap_or}
use Rattle.std.proofs.lemmas.Bool.{true≢false}
use Rattle.std.proofs.lemmas.Option.{none-some, same_Some}
use Rattle.outside_io.specs.Image.{Image}
use Rattle.metric_path.specs.FileName.{file_name_of}
use Rattle.ring_format.specs.Cell.{IsVersion}
use Rattle.ring_format.specs.Layout.{LayoutValue}
use Rattle.ring_format.specs.Patch.{PatchValue}
use Rattle.metric_index.specs.Index.{entry_of}
use Rattle.metric_table.specs.Table.{kept_version}
use Rattle.metric_table.specs.declared.known.Known.{Known}
use Rattle.carbon_model.specs.State.{Kept, form_of}
use Rattle.carbon_model.specs.RingFiles.{IsOfClass, is_patched}
use Rattle.shard_core.specs.Shard.{HasFiles, IsLawfulRing}
use Rattle.shard_core.specs.Table.{Table, form_kept}

-- the version by what is known of a metric
abbrev pub version_by : Bool → Bool → Option ℕ
version_by kept old = if kept then Some (if old then 1 else 2) else None

-- a metric of which no version is kept is not kept
pub none_is : (known : Known) → kept_version known ≡ None → known.is_kept ≡ false
none_is known none = by known.is_kept known.is_old none
  where
    by : (kept old : Bool) → version_by kept old ≡ None → kept ≡ false
    by true true e = absurd (none-some 1 (sym e))
    by true false e = absurd (none-some 2 (sym e))
    by false old e = refl

pub version_some : (known : Known) → known.is_kept ≡ true → kept_version known ≡ Some (if known.is_old then 1 else 2)
version_some known kept = rw kept refl

pub version_none : (known : Known) → known.is_kept ≡ false → kept_version known ≡ None
version_none known none = rw none refl

-- a version that is kept is one
pub version_kept : (known : Known) (version : ℕ) → kept_version known ≡ Some version → IsVersion version
version_kept known version is = by known.is_kept known.is_old is
  where
    by : (kept old : Bool) → version_by kept old ≡ Some version → IsVersion version
    by true true e = inl (sym (same_Some 1 version e))
    by true false e = inr (sym (same_Some 2 version e))
    by false old e = absurd (none-some version e)

-- a metric whose file is not written anew has a file of version 2
pub two_where_old : (known : Known) (fresh : Bool) → fresh ≡ not (known.is_kept && not known.is_old) → fresh ≡ false → kept_version known ≡ Some 2
two_where_old known fresh is old = by known.is_kept known.is_old (sym is ∙ old)
  where
    by : (kept older : Bool) → not (kept && not older) ≡ false → version_by kept older ≡ Some 2
    by true true e = absurd (true≢false e)
    by true false e = refl
    by false older e = absurd (true≢false e)

-- the version of the view under which a metric is read
pub version_or_new : (known : Known) → IsVersion (unwrap_or (kept_version known) 2)
version_or_new known = by (kept_version known) refl
  where
    by : (version : Option ℕ) → kept_version known ≡ version → IsVersion (unwrap_or version 2)
    by None e = inr refl
    by (Some version) e = version_kept known version e

pub kept_as : (known : Known) (version : Option ℕ) → kept_version known ≡ version → form_kept (Some known) ≡ option_map (λ v. (v, known.layout)) version
kept_as known version is = ap (option_map (λ (v : ℕ). (v, known.layout))) is

-- what is kept has a version
pub form_version : (o : Option Known) → IfSome (form_kept o) (λ form. IsVersion form.0)
form_version None = tt
form_version (Some known) = by (kept_version known) refl
  where
    by : (version : Option ℕ) → kept_version known ≡ version → IfSome {T = ℕ × LayoutValue} (option_map (λ v. (v, known.layout)) version) (λ form. IsVersion form.0)
    by None e = tt
    by (Some version) e = version_kept known version e

pub no_layout : (kept : Option Kept) → None ≡ option_map form_of kept → kept ≡ None
no_layout None e = refl
no_layout (Some k) e = absurd (none-some (form_of k) e)

-- a kept metric that no patch is of has its ring file
pub file_at : (class : ℕ) (table : Table) (patch : Option PatchValue) (image : Option Image) (path : List ℕ) (known : Known) (version : ℕ) → IsOfClass class path → is_patched patch path ≡ false
    → entry_of table path ≡ Some known → HasFiles class table patch image → kept_version known ≡ Some version
    → IfSome image (λ i. IsSomeAnd (i (file_name_of path)) (IsLawfulRing version known.layout))
file_at class table patch None path known version one apart there files kept = tt
file_at class table patch (Some image) path known version one apart there files kept =
    subst (λ (o : Option (ℕ × LayoutValue)). IfSome o (λ form. IsSomeAnd (image (file_name_of path)) (IsLawfulRing form.0 form.1)))
    (ap form_kept there ∙ kept_as known (Some version) kept) (files path one.legal one.here apart)
