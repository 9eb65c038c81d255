-- What a crash may leave at the moments of a call.
use Rattle.std.proofs.Common.{inl, inr, ⊎_elim, ℕ, Option, None, Some, IfSome, arith}
use Rattle.outside_io.specs.Crash.{Elapses, LeavesOnly}
use Rattle.outside_io.specs.Image.{Image}
use Rattle.redo_log.specs.Frame.{InEither}
use Rattle.redo_log.specs.Rows.{InRow, MayLeave}
use Rattle.redo_log.specs.Steps.{RedoValue}

module _ {D : Type 0} (moment : D → ℕ) (left_since : D → ℕ → Image → Type 0) where
  -- a call that took time, where a crash before it left what has P, and one behind it does
  pub within : (old new : D) (P before may_leave : Image → Type 0) → ((left : Image) → left_since old (moment old) left → before left) → Elapses (moment old) (moment new) (left_since old) (left_since new) may_leave
      → ((left : Image) → before left → P left) → ((left : Image) → may_leave left → P left) → LeavesOnly moment left_since old new P
  within old new P before may_leave alone time first last = record {
    later = time.later;
    each = λ left since. ⊎_elim (λ past. first left (alone left past)) (last left) (time.nothing_else (moment old) left (omega arith) since);
    before = λ t left le since. ⊎_elim (λ past. inl past) (λ now. inr (last left now)) (time.nothing_else t left le since);
  }

  -- two runs of calls, one behind the other
  pub leaves_both : (old mid new : D) (P : Image → Type 0) → LeavesOnly moment left_since old mid P → LeavesOnly moment left_since mid new P → LeavesOnly moment left_since old new P
  leaves_both old mid new P p q = record {
    later = omega (arith, p.later, q.later);
    each = λ left since. ⊎_elim (p.each left) (λ has. has) (q.before (moment old) left p.later since);
    before = λ t left le since. ⊎_elim (p.before t left le) (λ has. inr has) (q.before t left (omega (arith, le, p.later)) since);
  }

  -- what has P has Q
  pub leaves_more : (old new : D) (P Q : Image → Type 0) → ((left : Image) → P left → Q left) → LeavesOnly moment left_since old new P → LeavesOnly moment left_since old new Q
  leaves_more old new P Q more p = record {
    later = p.later;
    each = λ left since. more left (p.each left since);
    before = λ t left le since. ⊎_elim (λ past. inl past) (λ has. inr (more left has)) (p.before t left le since);
  }

at_row : (redo : Option RedoValue) (known : Option Image) (may_leave : Image → Type 0) → InRow redo known may_leave → (left : Image) → may_leave left → IfSome known (λ now. MayLeave redo now left)
at_row redo None may_leave row left may = tt
at_row redo (Some now) may_leave row left may = row left may

-- a step between two rows
pub between : {D : Type 0} (moment : D → ℕ) (left_since : D → ℕ → Image → Type 0) (old new : D) (redo behind : Option RedoValue) (a b : Option Image) (before after : Image → Type 0)
    → ((left : Image) → left_since old (moment old) left → before left) → Elapses (moment old) (moment new) (left_since old) (left_since new) after → InRow redo a before → InRow behind b after
    → LeavesOnly moment left_since old new (InEither redo behind a b)
between moment left_since old new redo behind a b before after alone time first last =
    within moment left_since old new (InEither redo behind a b) before after alone time (λ left was. inl (at_row redo a before first left was)) (λ left may. inr (at_row behind b after last left may))
