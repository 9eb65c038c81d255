-- Where one file alone changes, or the patch over it.
use Rattle.std.proofs.Common.{◌≡◌, inl, inr, ◌∙◌, ℕ, true, false, List, Option, Some, None, IfSome, IsSomeAnd, refl, sym, ap, subst}
use Rattle.std.specs.Prelude.{option_and_then}
use Rattle.std.specs.Str.{bytes_eq}
use Rattle.outside_io.specs.Image.{ChangesOnly, Image}
use Rattle.metric_path.specs.FileName.{file_name_of}
use Rattle.metric_path.proofs.FileNameLemmas.{file_names_differ}
use Rattle.ring_format.specs.Patch.{PatchValue}
use Rattle.ring_archive.specs.Ring.{IsRingFile}
use Rattle.carbon_model.specs.State.{Kept}
use Rattle.carbon_model.specs.RingFiles.{IsOfClass, SameKept, StandsUnder, is_patched, is_sound, kept_in, kept_on, kept_under}
use Rattle.shard_core.proofs.FileLemmas.{same_text}

-- the patch, if there is one, is of this path
abbrev pub IsPatchOf : List ℕ → Option PatchValue → Type 0
IsPatchOf path patch = IfSome patch (λ p. p.path ≡ path)

pub other_patch : (path p : List ℕ) (patch : Option PatchValue) → IsPatchOf path patch → (p ≡ path → ⊥) → is_patched patch p ≡ false
other_patch path p None its other = refl
other_patch path p (Some patch) its other = elim (same_text patch.path p) [
  | inl same ↦ absurd (other (sym same.1 ∙ its))
  | inr differs ↦ differs.0
]

-- the patch of one path is nothing to another
pub other_kept : (path p : List ℕ) (patch : Option PatchValue) (image : Image) → IsPatchOf path patch → (p ≡ path → ⊥) → kept_under patch image p ≡ kept_on image p
other_kept path p None image its other = refl
other_kept path p (Some patch) image its other = rw (other_patch path p (Some patch) its other) refl

-- the disk after the file of one path changed, and what is kept of it
pub stands_moved : (opening before after : Image) (patch patch' : Option PatchValue) (kept kept' : List ℕ → Option Kept) (class : ℕ) (path : List ℕ) → IsOfClass class path
    → IsPatchOf path patch → IsPatchOf path patch' → ChangesOnly before after (file_name_of path)
    → ((p : List ℕ) → bytes_eq p path ≡ false → kept' p ≡ kept p)
    → SameKept (kept_under patch' after path) (kept' path)
    → (is_patched patch' path ≡ false → IfSome (after (file_name_of path)) (λ file. is_sound file ≡ true))
    → IfSome patch' (λ p. p.fresh ≡ false → IsSomeAnd (after (file_name_of p.path)) (IsRingFile p.layout))
    → StandsUnder opening before patch kept class → StandsUnder opening after patch' kept' class
stands_moved opening before after patch patch' kept kept' class path one its its' changes others here sound ring stands = record {
  rings = λ p of_class. elim (same_text p path) [
    | inl same ↦ subst (λ (q : List ℕ). SameKept (kept_under patch' after q) (kept' q)) (sym same.1) here
    | inr other ↦
        let file : after (file_name_of p) ≡ before (file_name_of p) = changes (file_name_of p) (λ e. other.1 (file_names_differ p path of_class.legal one.legal e)) in
        let same : kept_under patch before p ≡ kept_under patch' after p =
        other_kept path p patch before its other.1 ∙ ap (λ (held : Option (List ℕ)). option_and_then kept_in held) (sym file) ∙ sym (other_kept path p patch' after its' other.1) in
        subst (λ (k : Option Kept). SameKept k (kept' p)) same
        (subst (λ (k : Option Kept). SameKept (kept_under patch before p) k) (sym (others p other.0)) (stands.rings p of_class))
  ];
  sound = λ p of_class apart. elim (same_text p path) [
    | inl same ↦ subst (λ (q : List ℕ). IfSome (after (file_name_of q)) (λ file. is_sound file ≡ true)) (sym same.1)
        (sound (subst (λ (q : List ℕ). is_patched patch' q ≡ false) same.1 apart))
    | inr other ↦ subst (λ (held : Option (List ℕ)). IfSome held (λ file. is_sound file ≡ true))
        (sym (changes (file_name_of p) (λ e. other.1 (file_names_differ p path of_class.legal one.legal e))))
        (stands.sound p of_class (other_patch path p patch its other.1))
  ];
  patched = ring;
  others = λ name no_log no_gate far. changes name (λ e. far path one (sym e)) ∙ stands.others name no_log no_gate far;
}
