-- What an image starts as, by its gate and its log, and what one starts as that a start was stopped over.
use Rattle.std.proofs.Common.{◌≡◌, ◌≢◌, inl, inr, ⊎_elim, ◌∙◌, ℕ, ◌==◌, Bool, true, false, List, [], ◌∷◌, replicate, Option, Some, None, IfSome, IsSomeAnd, refl, sym, ap, subst, arith, if◌then◌else◌}
use Rattle.std.specs.Option.{option_map_or}
use Rattle.std.specs.Str.{bytes_eq}
use Rattle.std.proofs.lemmas.Bool.{true≢false, eqb-true}
use Rattle.outside_io.specs.Image.{Image, SameImage}
use Rattle.metric_path.specs.FileName.{file_name_of}
use Rattle.ring_format.specs.Layout.{layout_fault}
use Rattle.ring_format.specs.Patch.{PatchValue}
use Rattle.ring_archive.specs.Ring.{IsRingFile, ReadsAs, Rings, UnderPatch, bare}
use Rattle.redo_log.specs.Arm.{IsShut, LeavesNothing}
use Rattle.redo_log.specs.Body.{IsBody, numbers_size}
use Rattle.redo_log.specs.Recovery.{HasLaid, Holds, IsDamaged as IsDamagedLog, IsLaid, Lays, Recovers, StandsWithin, StillHolds, is_open}
use Rattle.redo_log.specs.Rows.{KeepsRings}
use Rattle.redo_log.specs.Steps.{IsClosed, IsOpen, gate_name, log_name}
use Rattle.redo_log.proofs.BodyLaws.{one_patch}
use Rattle.redo_log.proofs.RunRows.{over_under}
use Rattle.redo_log.proofs.StepLemmas.{file_is_no_gate, file_is_no_log}
use Rattle.carbon_model.specs.RingFiles.{IsOfClass, SameKept, Stands, StandsUnder, is_sound, kept_on}
use Rattle.carbon_model.specs.State.{Kept}
use Rattle.shard_core.specs.Opened.{FirstDamaged, IsOpening, IsSoundDisk, StillOpens}
use Rattle.shard_core.proofs.FileLemmas.{itself, same_text}
use Rattle.shard_core.proofs.LogLemmas.{rings_stand}
use Rattle.crash_law.specs.StartsAs.{StartsAs}
use Rattle.crash_law.proofs.MoveLemmas.{laid_stands}

-- ---- the gate

-- it is open or not, and not both
one_told : (byte : ℕ) → Some byte ≡ Some 1 → (byte == 1) ≡ true
one_told byte is = ap (λ (o : Option ℕ). option_map_or (λ b. b == 1) o false) is

open_told : (held : Option (List ℕ)) → IsOpen held → is_open held ≡ true
open_told None opened = absurd opened
open_told (Some []) opened = absurd cc
open_told (Some (byte ∷ file)) opened = one_told byte opened

pub not_open : (held : Option (List ℕ)) → is_open held ≡ false → IsOpen held → ⊥
not_open held shut opened = true≢false (sym (open_told held opened) ∙ shut)

pub is_opened : (held : Option (List ℕ)) → is_open held ≡ true → IsOpen held
is_opened None is = absurd cc
is_opened (Some []) is = absurd cc
is_opened (Some (byte ∷ file)) is = ap (λ (n : ℕ). Some n) (eqb-true byte 1 is)

pub closed_unopened : (held : Option (List ℕ)) → IsClosed held → is_open held ≡ false
closed_unopened None closed = absurd closed
closed_unopened (Some []) closed = absurd closed
closed_unopened (Some (byte ∷ file)) closed = by (byte == 1) refl
  where
    by : (b : Bool) → (byte == 1) ≡ b → (byte == 1) ≡ false
    by true is = absurd (closed (eqb-true byte 1 is))
    by false is = is

closed_not_open : (held : Option (List ℕ)) → IsClosed held → IsOpen held → ⊥
closed_not_open held closed opened = not_open held (closed_unopened held closed) opened

shut_not_open : (held : Option (List ℕ)) → IsShut held → IsOpen held → ⊥
shut_not_open None shut opened = opened
shut_not_open (Some []) shut opened = absurd cc
shut_not_open (Some (byte ∷ file)) shut opened = shut (eqb-true byte 1 (open_told (Some (byte ∷ file)) opened))

-- ---- rings

rings_both : (x y z : Image) → KeepsRings x y → KeepsRings y z → KeepsRings x z
rings_both x y z first second = λ name no_log no_gate. second name no_log no_gate ∙ first name no_log no_gate

same_rings : (x y : Image) → SameImage x y → KeepsRings x y
same_rings x y same = λ name no_log no_gate. same name

-- ---- what an image starts as

stands_so : (told now : Image) (kept : List ℕ → Option Kept) (class : ℕ) → StandsUnder told now None kept class → Stands told now kept class
stands_so told now kept class stands = record { rings = stands.rings; sound = λ path one. stands.sound path one refl; others = stands.others }

sound_not_damaged : (held : Option (List ℕ)) → IfSome held (λ file. is_sound file ≡ true) → IsSomeAnd held (λ file. is_sound file ≡ false) → ⊥
sound_not_damaged None sound damaged = damaged
sound_not_damaged (Some file) sound damaged = true≢false (sym sound ∙ damaged)

none_damaged : (class : ℕ) (told laid : Image) (kept : List ℕ → Option Kept) (name : List ℕ) → Stands told laid kept class → FirstDamaged class laid name → ⊥
none_damaged class told laid kept name stands first = sound_not_damaged (laid (file_name_of first.path)) (stands.sound first.path first.one) first.damaged

-- each image that its recovery may give stands for what is kept
pub starts_by : (told left : Image) (kept : List ℕ → Option Kept) (class : ℕ) → ((laid : Image) → Recovers left laid → StandsUnder told laid None kept class) → (IsDamagedLog left → ⊥) → StartsAs class told kept left
starts_by told left kept class stands whole = record {
  opens = λ opened is. stands_so told opened kept class (rings_stand told is.laid opened None kept class is.rings (stands is.laid is.recovers));
  sound = λ name damaged. ⊎_elim (λ log. whole log.1) (λ ring. none_damaged class told ring.0 kept name (stands_so told ring.0 kept class (stands ring.0 ring.1.0)) ring.1.1) damaged;
}

-- with a gate that is not open
pub starts_shut : (told left : Image) (kept : List ℕ → Option Kept) (class : ℕ) → is_open (left gate_name) ≡ false → StandsUnder told left None kept class → StartsAs class told kept left
starts_shut told left kept class shut stands =
    starts_by told left kept class
    (λ laid recovers. ⊎_elim (λ same. rings_stand told left laid None kept class (same_rings left laid same.1) stands) (λ all. absurd (not_open (left gate_name) shut all.gate)) recovers)
    (λ damaged. not_open (left gate_name) shut damaged.gate)

pub starts_left : (class : ℕ) (told left : Image) (kept : List ℕ → Option Kept) → StandsUnder told left None kept class → is_open (left gate_name) ≡ false → StartsAs class told kept left
starts_left class told left kept stands shut = starts_shut told left kept class shut stands

-- without damage
kept_itself : (kept : Option Kept) → SameKept kept kept
kept_itself None = tt
kept_itself (Some kept) = (refl, refl, λ i bucket. refl)

pub starts_itself : (class : ℕ) (image : Image) → is_open (image gate_name) ≡ false → IsSoundDisk class image → StartsAs class image (kept_on image) image
starts_itself class image shut sound = starts_shut image image (kept_on image) class shut (record {
  rings = λ path one. kept_itself (kept_on image path);
  sound = λ path one apart. sound path one;
  patched = tt;
  others = λ name no_log no_gate far. refl;
})

-- the log holds one patch at most
bodies_same : (held : Option (List ℕ)) (p q : Option PatchValue) → IsSomeAnd held (λ bytes. IsBody bytes p) → IsSomeAnd held (λ bytes. IsBody bytes q) → p ≡ q
bodies_same None p q one other = absurd one
bodies_same (Some bytes) p q one other = one_patch bytes p q one other

held_same : (held held' : Option (List ℕ)) (p q : Option PatchValue) → held' ≡ held → IsSomeAnd held (λ bytes. IsBody bytes p) → IsSomeAnd held' (λ bytes. IsBody bytes q) → q ≡ p
held_same held held' p q same one other = bodies_same held q p (subst (λ (h : Option (List ℕ)). IsSomeAnd h (λ bytes. IsBody bytes q)) same other) one

-- with an open one, behind which a patch stands
pub starts_open : (told left : Image) (patch : PatchValue) (kept : List ℕ → Option Kept) (class : ℕ) → IsOfClass class patch.path → layout_fault patch.layout.archives patch.layout.factor ≡ None → IsOpen (left gate_name)
    → Holds (Some patch) left → StandsUnder told left (Some patch) kept class → StartsAs class told kept left
starts_open told left patch kept class one lawful gate holds stands =
    starts_by told left kept class
    (λ laid recovers. ⊎_elim (λ same. absurd (not_open (left gate_name) same.0 gate)) (λ all.
    laid_stands told left laid patch kept class one lawful
    (subst (λ (p : Option PatchValue). Lays p left laid) (held_same (left log_name) (left log_name) (Some patch) all.patch refl holds.body all.holds.body) all.rings) stands) recovers)
    (λ damaged. damaged.none (Some patch) holds)

-- ---- rings that are laid

lays_rings : (patch : Option PatchValue) (x y z : Image) → Lays patch x y → KeepsRings y z → Lays patch x z
lays_rings None x y z lays keeps = λ name no_log no_gate. keeps name no_log no_gate ∙ lays name no_log no_gate
lays_rings (Some patch) x y z laid keeps =
    let same : z (file_name_of patch.path) ≡ y (file_name_of patch.path) = keeps (file_name_of patch.path) (file_is_no_log patch.path) (file_is_no_gate patch.path) in record {
      others = λ name no_log no_gate no_file. keeps name no_log no_gate ∙ laid.others name no_log no_gate no_file;
      whole = subst (λ (held : Option (List ℕ)). IsSomeAnd held (IsRingFile patch.layout)) (sym same) laid.whole;
      reads = λ rings reads. subst (λ (held : Option (List ℕ)). IsSomeAnd held (λ file. ReadsAs (bare patch.path patch.layout) file rings)) (sym same) (laid.reads rings reads);
      again = λ rings reads. subst (λ (held : Option (List ℕ)). IsSomeAnd held (λ file. ReadsAs patch file rings)) (sym same) (laid.again rings reads);
    }

-- a patch that is laid, and laid again, is laid
again_under : (patch : PatchValue) (fresh : Bool) (x y : Image) (rings : Rings) → (fresh ≡ false → IsSomeAnd (y (file_name_of patch.path)) (λ file. ReadsAs patch file rings))
    → UnderPatch fresh (Some x) (file_name_of patch.path) (λ file. ReadsAs patch file rings) → UnderPatch fresh (Some y) (file_name_of patch.path) (λ file. ReadsAs patch file rings)
again_under patch true x y rings over reads = reads
again_under patch false x y rings over reads = over refl

laid_over : (patch : PatchValue) (x y z : Image) → ((name : List ℕ) → name ≢ log_name → name ≢ gate_name → name ≢ file_name_of patch.path → y name ≡ x name)
    → ((rings : Rings) → UnderPatch patch.fresh (Some x) (file_name_of patch.path) (λ file. ReadsAs patch file rings) → UnderPatch patch.fresh (Some y) (file_name_of patch.path) (λ file. ReadsAs patch file rings))
    → IsLaid patch y z → IsLaid patch x z
laid_over patch x y z others more laid = record {
  others = λ name no_log no_gate no_file. laid.others name no_log no_gate no_file ∙ others name no_log no_gate no_file;
  whole = laid.whole;
  reads = λ rings reads. laid.reads rings (more rings reads);
  again = λ rings reads. laid.again rings (more rings reads);
}

lays_twice : (patch : Option PatchValue) (x y z : Image) → Lays patch x y → Lays patch y z → Lays patch x z
lays_twice None x y z first second = λ name no_log no_gate. second name no_log no_gate ∙ first name no_log no_gate
lays_twice (Some patch) x y z first second =
    laid_over patch x y z first.others (λ rings reads. again_under patch patch.fresh x y rings (λ over. first.again rings reads) reads) second

-- ---- an image over which a start was stopped

-- the same image with a closed gate
abbrev shut_gate : Image → Image
shut_gate image = λ name. if bytes_eq name gate_name then Some (0 ∷ []) else image name

shut_closed : (image : Image) → IsClosed (shut_gate image gate_name)
shut_closed image = subst IsClosed (sym (ap (λ (b : Bool). if b then Some (0 ∷ []) else image gate_name) (itself gate_name))) (λ e. absurd (omega (arith, e)))

shut_keeps : (image : Image) (name : List ℕ) → name ≢ gate_name → shut_gate image name ≡ image name
shut_keeps image name no_gate = elim (same_text name gate_name) [
  | inl same ↦ absurd (no_gate same.1)
  | inr other ↦ ap (λ (b : Bool). if b then Some (0 ∷ []) else image name) other.0
]

-- the patch of the image before is laid, so what opened is an opening of that
opened_laid : (before laid opened : Image) (patch : Option PatchValue) → IsOpen (before gate_name) → Holds patch before → Lays patch before laid → KeepsRings laid opened → IsOpening before opened
opened_laid before laid opened patch gate holds lays rings = record {
  laid = shut_gate laid;
  recovers = inr (record {
    gate = gate;
    patch = patch;
    holds = holds;
    rings = lays_rings patch before laid (shut_gate laid) lays (λ name no_log no_gate. shut_keeps laid name no_gate);
    closed = shut_closed laid;
  });
  rings = λ name no_log no_gate. rings name no_log no_gate ∙ sym (shut_keeps laid name no_gate);
}

-- it was laid there
laid_before : (patch : Option PatchValue) (before left laid : Image) → Holds patch before → HasLaid patch before left → Recovers left laid → Lays patch before laid
laid_before patch before left laid holds has recovers =
    ⊎_elim (λ same. lays_rings patch before left laid has.rings (same_rings left laid same.1))
    (λ all. ⊎_elim (λ closed. absurd (closed_not_open (left gate_name) closed all.gate))
    (λ log. lays_twice patch before left laid has.rings
    (subst (λ (p : Option PatchValue). Lays p left laid) (held_same (before log_name) (left log_name) patch all.patch log holds.body all.holds.body) all.rings)) has.gate) recovers

-- or it can still be laid
still_before : (patch : PatchValue) (before left laid : Image) → Holds (Some patch) before → StillHolds patch before left → Recovers left laid → IsLaid patch before laid
still_before patch before left laid holds still recovers =
    ⊎_elim (λ same. absurd (not_open (left gate_name) same.0 still.gate))
    (λ all. laid_over patch before left laid still.others
    (λ rings reads. still_under patch.fresh refl rings reads)
    (subst (λ (p : Option PatchValue). Lays p left laid) (held_same (before log_name) (left log_name) (Some patch) all.patch still.log holds.body all.holds.body) all.rings)) recovers
  where
    still_under : (fresh : Bool) → patch.fresh ≡ fresh → (rings : Rings) → UnderPatch patch.fresh (Some before) (file_name_of patch.path) (λ file. ReadsAs patch file rings) → UnderPatch patch.fresh (Some left) (file_name_of patch.path) (λ file. ReadsAs patch file rings)
    still_under true is rings reads = subst (λ (b : Bool). UnderPatch b (Some left) (file_name_of patch.path) (λ file. ReadsAs patch file rings)) (sym is)
        (subst (λ (b : Bool). UnderPatch b (Some before) (file_name_of patch.path) (λ file. ReadsAs patch file rings)) is reads)
    still_under false is rings reads = over_under patch.fresh left (file_name_of patch.path) (λ file. ReadsAs patch file rings) is
        ((still.ring is).reads rings (subst (λ (b : Bool). UnderPatch b (Some before) (file_name_of patch.path) (λ file. ReadsAs patch file rings)) is reads))

within_before : (patch : Option PatchValue) (before left laid : Image) → Holds patch before → StandsWithin patch before left → Recovers left laid → Lays patch before laid
within_before None before left laid holds stands recovers = laid_before None before left laid holds stands recovers
within_before (Some patch) before left laid holds stands recovers =
    ⊎_elim (λ still. still_before patch before left laid holds still recovers) (λ has. laid_before (Some patch) before left laid holds has recovers) stands

-- the log was being made
zeros_nothing : (patch : Option PatchValue) (held : Option (List ℕ)) → held ≡ Some (replicate numbers_size 0) → IsSomeAnd held (λ bytes. IsBody bytes patch) → patch ≡ None
zeros_nothing patch held is body = bodies_same (Some (replicate numbers_size 0)) patch None (subst (λ (h : Option (List ℕ)). IsSomeAnd h (λ bytes. IsBody bytes patch)) is body) refl

nothing_keeps : (laid left again : Image) → LeavesNothing laid left → Recovers left again → KeepsRings laid again
nothing_keeps laid left again nothing recovers =
    rings_both laid left again nothing.rings
    (⊎_elim (λ same. same_rings left again same.1)
    (λ all. ⊎_elim (λ shut. absurd (shut_not_open (left gate_name) shut all.gate))
    (λ zeros. subst (λ (p : Option PatchValue). Lays p left again) (zeros_nothing all.patch (left log_name) zeros all.holds.body) all.rings) nothing.nothing) recovers)

-- so each opening of it is one of the image before
image_same : (before left : Image) → SameImage before left → left ≡ before
image_same before left same = λ i name. same name i

opens_same : (before left opened : Image) → SameImage before left → IsOpening left opened → IsOpening before opened
opens_same before left opened same is = subst (λ (image : Image). IsOpening image opened) (image_same before left same) is

pub opens_before : (before left opened : Image) → StillOpens before left → IsOpening left opened → IsOpening before opened
opens_before before left opened leaves is =
    ⊎_elim
    (λ opens. ⊎_elim (λ same. opens_same before left opened same is)
    (λ stops. opened_laid before is.laid opened stops.patch stops.gate stops.holds (within_before stops.patch before left is.laid stops.holds stops.stands is.recovers) is.rings) opens)
    (λ made. record {
      laid = made.0;
      recovers = made.1.0;
      rings = λ name no_log no_gate. is.rings name no_log no_gate ∙ nothing_keeps made.0 left is.laid made.1.1 is.recovers name no_log no_gate;
    }) leaves

-- ---- its log is not damaged

held_still : (patch : Option PatchValue) (held held' : Option (List ℕ)) → held' ≡ held → IsSomeAnd held (λ bytes. IsBody bytes patch) → IsSomeAnd held' (λ bytes. IsBody bytes patch)
held_still patch held held' same body = subst (λ (h : Option (List ℕ)). IsSomeAnd h (λ bytes. IsBody bytes patch)) (sym same) body

laid_whole : (patch : Option PatchValue) (before left : Image) → Holds patch before → HasLaid patch before left → IsDamagedLog left → ⊥
laid_whole patch before left holds has damaged =
    ⊎_elim (λ closed. closed_not_open (left gate_name) closed damaged.gate) (λ log. damaged.none patch (held patch holds has.rings log)) has.gate
  where
    held : (p : Option PatchValue) → Holds p before → Lays p before left → left log_name ≡ before log_name → Holds p left
    held None holds lays log = record { body = held_still None (before log_name) (left log_name) log holds.body; ring = tt }
    held (Some p) holds laid log = record { body = held_still (Some p) (before log_name) (left log_name) log holds.body; ring = λ over. laid.whole }

within_whole : (patch : Option PatchValue) (before left : Image) → Holds patch before → StandsWithin patch before left → IsDamagedLog left → ⊥
within_whole None before left holds stands damaged = laid_whole None before left holds stands damaged
within_whole (Some patch) before left holds stands damaged =
    ⊎_elim
    (λ still. damaged.none (Some patch) (record { body = held_still (Some patch) (before log_name) (left log_name) still.log holds.body; ring = λ over. (still.ring over).whole }))
    (λ has. laid_whole (Some patch) before left holds has damaged) stands

nothing_whole : (laid left : Image) → LeavesNothing laid left → IsDamagedLog left → ⊥
nothing_whole laid left nothing damaged =
    ⊎_elim (λ shut. shut_not_open (left gate_name) shut damaged.gate)
    (λ zeros. damaged.none None (record { body = subst (λ (h : Option (List ℕ)). IsSomeAnd h (λ bytes. IsBody bytes None)) (sym zeros) refl; ring = tt })) nothing.nothing

same_whole : (before left : Image) → SameImage before left → IsDamagedLog left → IsDamagedLog before
same_whole before left same damaged = subst IsDamagedLog (image_same before left same) damaged

log_whole : (before left : Image) → (IsDamagedLog before → ⊥) → StillOpens before left → IsDamagedLog left → ⊥
log_whole before left whole leaves damaged =
    ⊎_elim (λ opens. ⊎_elim (λ same. whole (same_whole before left same damaged)) (λ stops. within_whole stops.patch before left stops.holds stops.stands damaged) opens)
    (λ made. nothing_whole made.0 left made.1.1 damaged) leaves

-- ---- so it starts as the image before

itself_rings : (image : Image) → KeepsRings image image
itself_rings image = λ name no_log no_gate. refl

pub starts_before : (class : ℕ) (told : Image) (kept : List ℕ → Option Kept) (before left : Image) → StartsAs class told kept before → StillOpens before left → StartsAs class told kept left
starts_before class told kept before left starts leaves = record {
  opens = λ opened is. starts.opens opened (opens_before before left opened leaves is);
  sound = λ name damaged. ⊎_elim
      (λ log. log_whole before left (λ was. starts.sound log_name (inl (refl, was))) leaves log.1)
      (λ ring. none_damaged class told ring.0 kept name (starts.opens ring.0 (opens_before before left ring.0 leaves (record { laid = ring.0; recovers = ring.1.0; rings = itself_rings ring.0 }))) ring.1.1) damaged;
}
