-- What arming makes, and what a crash leaves at its moments.
use Rattle.std.proofs.Common.{◌≡◌, ◌∙◌, inl, inr, ℕ, List, Option, None, Some, IfSome, refl, sym, subst, arith}
use Rattle.outside_io.specs.Crash.{Crashes, LeavesOnly, OnlyKnown}
use Rattle.outside_io.specs.Image.{Image, ChangesOnly, Creates, SameImage, WhereKnown}
use Rattle.outside_io.specs.declared.disk.Disk.{Ghosts as DiskGhosts}
use Rattle.redo_log.specs.Arm.{HasNothing, IsShut, LeavesNothing, LeavesWithin, MayChange}
use Rattle.redo_log.specs.Rows.{InRow}
use Rattle.redo_log.specs.Steps.{IsClosed, gate_name, log_name}
use Rattle.redo_log.proofs.MomentLemmas.{leaves_both, leaves_more, within}
use Rattle.redo_log.proofs.StepLemmas.{gate_is_no_log, log_is_no_gate}

-- ---- one file

-- it is created
pub made_first : {D : Type 0} (d : DiskGhosts D) (a b : D) (name : List ℕ) → Crashes d.may_leave d.moment d.left_since (λ x y. ChangesOnly x y name) a b → LeavesOnly d.moment d.left_since a b (MayChange (d.may_leave a) name)
made_first d a b name crash =
    within d.moment d.left_since a b (MayChange (d.may_leave a) name) (d.may_leave a) (d.may_leave b) (d.only_now a) crash.time (λ left was. (left, was, λ other apart. refl)) crash.follows

-- and brought to the device
pub made_synced : {D : Type 0} (d : DiskGhosts D) (a b c : D) (name : List ℕ) → Crashes d.may_leave d.moment d.left_since (λ x y. ChangesOnly x y name) a b → Crashes d.may_leave d.moment d.left_since SameImage b c
    → LeavesOnly d.moment d.left_since a c (MayChange (d.may_leave a) name)
made_synced d a b c name crash synced =
    leaves_both d.moment d.left_since a b c (MayChange (d.may_leave a) name) (made_first d a b name crash)
    (within d.moment d.left_since b c (MayChange (d.may_leave a) name) (d.may_leave b) (d.may_leave c) (d.only_now b) synced.time crash.follows
    (λ left may. let step = synced.follows left may in let before = crash.follows step.0 step.1 in (before.0, before.1, λ other apart. step.2 other ∙ before.2 other apart)))

-- ---- both files

shut_by : (held now : Option (List ℕ)) → now ≡ held → IsShut held → IsShut now
shut_by held now same shut = subst IsShut (sym same) shut

-- the log is being made
log_within : (image before left : Image) → IsShut (image gate_name) → SameImage image before → ChangesOnly before left log_name → LeavesNothing image left
log_within image before left shut same only = record {
  nothing = inl (shut_by (image gate_name) (left gate_name) (only gate_name gate_is_no_log ∙ same gate_name) shut);
  rings = λ name no_log no_gate. only name no_log ∙ same name;
}

-- the gate is being made
gate_within : (image mid before left : Image) → Creates image mid log_name 16 → SameImage mid before → ChangesOnly before left gate_name → LeavesNothing image left
gate_within image mid before left made same only = record {
  nothing = inr (only log_name log_is_no_gate ∙ same log_name ∙ made.0);
  rings = λ name no_log no_gate. only name no_gate ∙ same name ∙ made.1 name no_log;
}

log_known : (a : Option Image) (may_leave : Image → Type 0) (left : Image) → IfSome a (λ image. IsShut (image gate_name)) → OnlyKnown a may_leave → MayChange may_leave log_name left → LeavesWithin a left
log_known None may_leave left shut only change = tt
log_known (Some image) may_leave left shut only change = log_within image change.0 left shut (only change.0 change.1) change.2

gate_known : (a b : Option Image) (may_leave : Image → Type 0) (left : Image) → WhereKnown a b (λ x y. Creates x y log_name 16) → OnlyKnown b may_leave → MayChange may_leave gate_name left → LeavesWithin a left
gate_known None b may_leave left made only change = tt
gate_known (Some image) None may_leave left made only change = absurd made
gate_known (Some image) (Some mid) may_leave left made only change = gate_within image mid change.0 left made (only change.0 change.1) change.2

pub files_first : {D : Type 0} (d : DiskGhosts D) (a b : D) → IfSome (d.image a) (λ image. IsShut (image gate_name)) → OnlyKnown (d.image a) (d.may_leave a) → LeavesOnly d.moment d.left_since a b (MayChange (d.may_leave a) log_name)
    → LeavesOnly d.moment d.left_since a b (LeavesWithin (d.image a))
files_first d a b shut only leaves = leaves_more d.moment d.left_since a b (MayChange (d.may_leave a) log_name) (LeavesWithin (d.image a)) (λ left change. log_known (d.image a) (d.may_leave a) left shut only change) leaves

pub files_both : {D : Type 0} (d : DiskGhosts D) (a b c : D) → IfSome (d.image a) (λ image. IsShut (image gate_name)) → OnlyKnown (d.image a) (d.may_leave a) → LeavesOnly d.moment d.left_since a b (MayChange (d.may_leave a) log_name)
    → WhereKnown (d.image a) (d.image b) (λ x y. Creates x y log_name 16) → OnlyKnown (d.image b) (d.may_leave b) → LeavesOnly d.moment d.left_since b c (MayChange (d.may_leave b) gate_name)
    → LeavesOnly d.moment d.left_since a c (LeavesWithin (d.image a))
files_both d a b c shut only first made durable second =
    leaves_both d.moment d.left_since a b c (LeavesWithin (d.image a)) (files_first d a b shut only first)
    (leaves_more d.moment d.left_since b c (MayChange (d.may_leave b) gate_name) (LeavesWithin (d.image a)) (λ left change. gate_known (d.image a) (d.image b) (d.may_leave b) left made durable change) second)

-- ---- what stands there then

pub both_made : (a b c : Option Image) → WhereKnown a b (λ x y. Creates x y log_name 16) → WhereKnown b c (λ x y. Creates x y gate_name 1) → WhereKnown a c (λ before after. HasNothing after)
both_made None None None log gate = tt
both_made None None (Some z) log gate = gate
both_made None (Some y) c log gate = absurd log
both_made (Some x) None c log gate = absurd log
both_made (Some x) (Some y) None log gate = gate
both_made (Some x) (Some y) (Some z) log gate = (gate.1 log_name log_is_no_gate ∙ log.0, gate.0)

-- all of it is on the device
pub both_durable : (b c : Option Image) (may_leave : Image → Type 0) → WhereKnown b c (λ x y. Creates x y gate_name 1) → OnlyKnown c may_leave → InRow None c may_leave
both_durable b None may_leave made only = tt
both_durable None (Some z) may_leave made only = absurd made
both_durable (Some y) (Some z) may_leave made only = λ left may. record {
  gate = subst IsClosed (sym (only left may gate_name ∙ made.0)) (λ e. absurd (omega (arith, e)));
  rings = λ name no_log no_gate. only left may name;
}

-- ---- what a call that fails leaves

nothing_itself : (a : Option Image) → IfSome a (λ image. IsShut (image gate_name)) → WhereKnown a a LeavesNothing
nothing_itself None shut = tt
nothing_itself (Some image) shut = record { nothing = inl shut; rings = λ name no_log no_gate. refl }

pub left_itself : (a b : Option Image) → b ≡ a → IfSome a (λ image. IsShut (image gate_name)) → WhereKnown a b LeavesNothing
left_itself a b same shut = subst (λ (o : Option Image). WhereKnown a o LeavesNothing) (sym same) (nothing_itself a shut)

pub log_left : (a b : Option Image) → IfSome a (λ image. IsShut (image gate_name)) → WhereKnown a b (λ x y. ChangesOnly x y log_name) → WhereKnown a b LeavesNothing
log_left None None shut changes = tt
log_left None (Some y) shut changes = changes
log_left (Some x) None shut changes = changes
log_left (Some x) (Some y) shut changes = log_within x x y shut (λ name. refl) changes

pub gate_left : (a b c : Option Image) → WhereKnown a b (λ x y. Creates x y log_name 16) → WhereKnown b c (λ x y. ChangesOnly x y gate_name) → WhereKnown a c LeavesNothing
gate_left None None None made changes = tt
gate_left None None (Some z) made changes = changes
gate_left None (Some y) c made changes = absurd made
gate_left (Some x) None c made changes = absurd made
gate_left (Some x) (Some y) None made changes = changes
gate_left (Some x) (Some y) (Some z) made changes = gate_within x y y z made (λ name. refl) changes
