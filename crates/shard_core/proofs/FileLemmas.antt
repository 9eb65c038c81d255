-- What a ring file keeps.
use Rattle.std.proofs.Common.{◌≡◌, ◌⊎◌, inl, inr, ◌∙◌, ℕ, ◌≤◌, Bool, true, false, List, [], length, take, Some, None, Ok, refl, ap, arith}
use Rattle.std.specs.Bool.{Decides}
use Rattle.std.specs.Str.{bytes_eq}
use Rattle.std.proofs.lemmas.Bool.Decides.{not_from_Decides}
use Rattle.std.proofs.lemmas.Slice.Eq.{bytes_eq-Decides}
use Rattle.std.proofs.lemmas.List.{take-take, length-append}
use Rattle.ring_format.specs.Layout.{LayoutValue, layout_fault}
use Rattle.ring_format.specs.Cell.{IsVersion}
use Rattle.ring_format.specs.Head.{head_bytes_in, front_bytes, rows_bytes, rows_of}
use Rattle.ring_format.proofs.LawfulLayouts.{lawful_count}
use Rattle.ring_format.proofs.RowLemmas.{length-rows_of}
use Rattle.ring_format.proofs.WrittenHeads.{length-front_bytes, length-rows_bytes, written_head}
use Rattle.ring_archive.specs.Ring.{IsRingFileIn, bare, value_of}
use Rattle.carbon_model.specs.RingFiles.{head_of, is_sound, is_sound_head, kept_in, kept_with}

tells_by : (b : Bool) (P : Type 0) → Decides b P → ((b ≡ true) × P) ⊎ ((b ≡ false) × (P → ⊥))
tells_by true P d = inl (refl, d.0 refl)
tells_by false P d = inr (refl, not_from_Decides false d refl)

-- two texts are the same or not, and the test tells which
pub same_text : (a b : List ℕ) → ((bytes_eq a b ≡ true) × (a ≡ b)) ⊎ ((bytes_eq a b ≡ false) × (a ≡ b → ⊥))
same_text a b = tells_by (bytes_eq a b) (a ≡ b) (bytes_eq-Decides a b)

-- a text is the same as itself
pub itself : (a : List ℕ) → bytes_eq a a ≡ true
itself a = (bytes_eq-Decides a a).1 refl

-- a head has at most 316 bytes
pub head_is_short : (version : ℕ) (layout : LayoutValue) → layout_fault layout.archives layout.factor ≡ None → length (head_bytes_in version layout) ≤ 316
head_is_short version layout lawful =
    omega (arith, length-append (front_bytes version layout) (rows_bytes (rows_of version layout.archives)), length-front_bytes version layout, length-rows_bytes (rows_of version layout.archives), length-rows_of version layout.archives, lawful_count layout.archives layout.factor lawful)

-- a ring file has its layout's head in its version
pub head_is_read : (version : ℕ) (layout : LayoutValue) (file : List ℕ) → IsVersion version → layout_fault layout.archives layout.factor ≡ None → IsRingFileIn version layout file
    → head_of file ≡ Ok (layout, version)
unfolding head_of
head_is_read version layout file is lawful ring =
    written_head version layout (take 316 file) (length file) is lawful
    (take-take (length (head_bytes_in version layout)) 316 file (head_is_short version layout lawful) ∙ ring.0) ring.1

-- what it keeps
pub ring_is_kept : (version : ℕ) (layout : LayoutValue) (file : List ℕ) → IsVersion version → layout_fault layout.archives layout.factor ≡ None → IsRingFileIn version layout file
    → kept_in file ≡ Some (record { version = version; layout = layout; rings = value_of (bare [] layout) file })
ring_is_kept version layout file is lawful ring = ap (kept_with file) (head_is_read version layout file is lawful ring)

pub ring_is_sound : (version : ℕ) (layout : LayoutValue) (file : List ℕ) → IsVersion version → layout_fault layout.archives layout.factor ≡ None → IsRingFileIn version layout file
    → is_sound file ≡ true
ring_is_sound version layout file is lawful ring = ap is_sound_head (head_is_read version layout file is lawful ring)
