-- What a start finds, and what it makes of a gate before which there is nothing to lay.
use Rattle.std.proofs.Common.{◌≡◌, ◌∙◌, ◌↔◌, ℕ, ◌≤◌, Bool, true, false, IsTrue, List, [], ◌∷◌, length, Option, None, Some, IfSome, IsSomeAnd, sym, subst, arith}
use Rattle.outside_io.specs.Crash.{Follows, LeavesOnly, OnlyKnown}
use Rattle.outside_io.specs.Image.{Image, ChangesOnly, SameImage, Tears, WhereKnown, Writes}
use Rattle.outside_io.specs.declared.disk.Disk.{Ghosts as DiskGhosts}
use Rattle.ring_format.specs.Head.{head_bytes}
use Rattle.ring_format.specs.Layout.{LayoutValue}
use Rattle.ring_format.specs.LayoutFile.{file_size_of}
use Rattle.ring_format.specs.Patch.{PatchValue}
use Rattle.ring_archive.specs.Ring.{IsRingFile}
use Rattle.ring_writer.proofs.CreatedLemmas.{length-head}
use Rattle.redo_log.specs.Body.{IsBody}
use Rattle.redo_log.specs.Frame.{GoesOn}
use Rattle.redo_log.specs.Recovery.{HasRing, Holds, IsBehindGate, IsHeldBy, LaysAll, OpensAs, is_open}
use Rattle.redo_log.specs.Steps.{RedoValue, gate_name, log_name}
use Rattle.redo_log.proofs.BodyLaws.{one_patch}
use Rattle.redo_log.proofs.LayLemmas.{gate_opens, nothing_laid, open_is}
use Rattle.redo_log.proofs.MomentLemmas.{leaves_both, leaves_more, within}
use Rattle.redo_log.proofs.StepLemmas.{closed_by, gate_put, open_is_gate}
use Rattle.redo_log.proofs.UnderwayLemmas.{Opens, only_at}

-- ---- the gate

-- ---- the ring file

pub head_room : (known : Option Image) (name : List ℕ) (layout : LayoutValue) (b : Bool) (len : ℕ) → IfSome known (λ image. IsTrue b ↔ IsSomeAnd (image name) (λ file. length file ≡ len)) → b ≡ true → len ≡ file_size_of layout.archives
    → IfSome known (λ image. IsSomeAnd (image name) (λ file. length (head_bytes layout) ≤ length file))
head_room None name layout b len long is size = tt
head_room (Some image) name layout b len long is size = by (image name) (long.0 is)
  where
    by : (held : Option (List ℕ)) → IsSomeAnd held (λ file. length file ≡ len) → IsSomeAnd held (λ file. length (head_bytes layout) ≤ length file)
    by None long = absurd long
    by (Some file) long = omega (arith, long, size, length-head layout)

pub no_ring : (known : Option Image) (name : List ℕ) (layout : LayoutValue) → IfSome known (λ image. IsTrue false ↔ IsSomeAnd (image name) (λ file. length file ≡ file_size_of layout.archives))
    → IfSome known (λ image. IsTrue false ↔ IsSomeAnd (image name) (IsRingFile layout))
no_ring None name layout other = tt
no_ring (Some image) name layout other = by (image name) other
  where
    by : (found : Option (List ℕ)) → (IsTrue false ↔ IsSomeAnd found (λ file. length file ≡ file_size_of layout.archives)) → IsTrue false ↔ IsSomeAnd found (IsRingFile layout)
    by None other = (λ is. absurd cc, λ is. absurd is)
    by (Some file) other = (λ is. absurd cc, λ whole. other.1 whole.1)

-- ---- what the log holds

held_one : (patch other : Option PatchValue) (bytes : List ℕ) (held : Option (List ℕ)) → held ≡ Some bytes → IsBody bytes patch → IsSomeAnd held (λ found. IsBody found other) → other ≡ patch
held_one patch other bytes held is body found = one_patch bytes other patch (subst (λ (o : Option (List ℕ)). IsSomeAnd o (λ b. IsBody b other)) is found) body

pub no_other : (known : Option Image) (patch : PatchValue) (bytes : List ℕ) → IfSome known (λ image. image log_name ≡ Some bytes) → IsBody bytes (Some patch) → IfSome known (λ image. HasRing patch image → ⊥) → IfSome known (λ image. (other : Option PatchValue) → Holds other image → ⊥)
no_other None patch bytes is body none = tt
no_other (Some image) patch bytes is body none = λ other holds.
    none (subst (λ (o : Option PatchValue). IfSome o (λ p. HasRing p image)) (held_one (Some patch) other bytes (image log_name) is body holds.body) holds.ring)

-- ---- a gate before which there is nothing to lay

pub close_opens : (a b : Option Image) (P : Image → Image → Type 0) → IsBehindGate a None → ((x y : Image) → P x y → ChangesOnly x y gate_name) → WhereKnown a b P → WhereKnown a b OpensAs
close_opens None None P behind only call = tt
close_opens None (Some y) P behind only call = call
close_opens (Some x) None P behind only call = call
close_opens (Some x) (Some y) P behind only call = gate_opens behind.held.patch x y behind.gate behind.held.is behind.held.holds (only x y call)

pub close_lays : (a b : Option Image) → IsBehindGate a None → WhereKnown a b (λ x y. Writes x y gate_name 0 (0 ∷ [])) → WhereKnown a b LaysAll
close_lays None None behind call = tt
close_lays None (Some y) behind call = call
close_lays (Some x) None behind call = call
close_lays (Some x) (Some y) behind call = record {
  gate = open_is (x gate_name) behind.gate;
  patch = behind.held.patch;
  holds = behind.held.holds;
  rings = nothing_laid behind.held.patch x y behind.held.is behind.held.holds call.1;
  closed = closed_by (y gate_name) (gate_put 0 (x gate_name) (y gate_name) (open_is_gate (x gate_name) (open_is (x gate_name) behind.gate)) call.0);
}

abbrev GateOnly : Option Image → Image → Type 0
GateOnly known left = IfSome known (λ image. ChangesOnly image left gate_name)

gate_only : (known : Option Image) (left : Image) → IfSome known (λ image. SameImage image left) → GateOnly known left
gate_only None left same = tt
gate_only (Some image) left same = λ name other. same name

torn_gate : (known : Option Image) (before left : Image) → IfSome known (λ image. SameImage image before) → Tears before left gate_name 0 1 → GateOnly known left
torn_gate None before left same torn = tt
torn_gate (Some image) before left same torn = λ name other. torn.1 name other ∙ same name

same_gate : (known : Option Image) (before left : Image) → GateOnly known before → SameImage before left → GateOnly known left
same_gate None before left only same = tt
same_gate (Some image) before left only same = λ name other. same name ∙ only name other

only_opens : (known : Option Image) (left : Image) → IsBehindGate known None → GateOnly known left → Opens known left
only_opens None left behind only = tt
only_opens (Some image) left behind only = gate_opens behind.held.patch image left behind.gate behind.held.is behind.held.holds only

pub gate_mid : (known : Option Image) (before mid : Image → Type 0) → OnlyKnown known before → Follows (λ x y. Tears x y gate_name 0 1) before mid → (left : Image) → mid left → GateOnly known left
gate_mid known before mid only follows left may = let step = follows left may in torn_gate known step.0 left (only_at known before step.0 only step.1) step.2

close_first : {D : Type 0} (d : DiskGhosts D) (start mid : D) {failed : Type 0} → OnlyKnown (d.image start) (d.may_leave start) → Follows (λ x y. Tears x y gate_name 0 1) (d.may_leave start) (d.may_leave mid) → GoesOn d start mid failed
    → LeavesOnly d.moment d.left_since start mid (GateOnly (d.image start))
close_first d start mid only follows goes =
    within d.moment d.left_since start mid (GateOnly (d.image start)) (d.may_leave start) (d.may_leave mid) (d.only_now start) goes.time (λ left was. gate_only (d.image start) left (only_at (d.image start) (d.may_leave start) left only was))
    (gate_mid (d.image start) (d.may_leave start) (d.may_leave mid) only follows)

pub close_leaves : {D : Type 0} (d : DiskGhosts D) (start mid : D) {failed : Type 0} → IsBehindGate (d.image start) None → OnlyKnown (d.image start) (d.may_leave start) → Follows (λ x y. Tears x y gate_name 0 1) (d.may_leave start) (d.may_leave mid) → GoesOn d start mid failed
    → LeavesOnly d.moment d.left_since start mid (Opens (d.image start))
close_leaves d start mid behind only follows goes = leaves_more d.moment d.left_since start mid (GateOnly (d.image start)) (Opens (d.image start)) (λ left gate. only_opens (d.image start) left behind gate) (close_first d start mid only follows goes)

pub close_synced : {D : Type 0} (d : DiskGhosts D) (start mid end : D) {failed later : Type 0} → IsBehindGate (d.image start) None → OnlyKnown (d.image start) (d.may_leave start) → Follows (λ x y. Tears x y gate_name 0 1) (d.may_leave start) (d.may_leave mid) → GoesOn d start mid failed
    → Follows SameImage (d.may_leave mid) (d.may_leave end) → GoesOn d mid end later → LeavesOnly d.moment d.left_since start end (Opens (d.image start))
close_synced d start mid end behind only follows goes synced more =
    leaves_more d.moment d.left_since start end (GateOnly (d.image start)) (Opens (d.image start)) (λ left gate. only_opens (d.image start) left behind gate)
    (leaves_both d.moment d.left_since start mid end (GateOnly (d.image start)) (close_first d start mid only follows goes)
    (within d.moment d.left_since mid end (GateOnly (d.image start)) (d.may_leave mid) (d.may_leave end) (d.only_now mid) more.time (gate_mid (d.image start) (d.may_leave start) (d.may_leave mid) only follows)
    (λ left may. let step = synced left may in same_gate (d.image start) step.0 left (gate_mid (d.image start) (d.may_leave start) (d.may_leave mid) only follows step.0 step.1) step.2)))

-- ---- the whole recovery

pub behind_gate : (known : Option Image) (redo : Option RedoValue) → IfSome known (λ image. true ≡ is_open (image gate_name)) → IsHeldBy known redo → IsBehindGate known redo
behind_gate known redo gate held = record { gate = turn known gate; held = held }
  where
    turn : (known : Option Image) → IfSome known (λ image. true ≡ is_open (image gate_name)) → IfSome known (λ image. is_open (image gate_name) ≡ true)
    turn None gate = tt
    turn (Some image) gate = sym gate
