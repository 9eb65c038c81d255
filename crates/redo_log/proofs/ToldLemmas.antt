-- Cells that bytes tell, one after the other.
use Rattle.std.proofs.Common.{◌≡◌, ◌∙◌, ℕ, suc, ◌+◌, ◌-◌, ◌*◌, ◌<◌, ◌≤◌, List, take, drop, None, Some, sym, ap, arith}
use Rattle.std.specs.Prelude.{option_and_then}
use Rattle.std.proofs.lemmas.List.{drop-drop}
use Rattle.ring_format.specs.Layout.{LayoutValue}
use Rattle.ring_format.specs.Patch.{Cells as Laid}
use Rattle.redo_log.specs.Body.{entry_size}
use Rattle.redo_log.specs.Told.{cells_told, cells_with}

told_next : (layout : LayoutValue) (cells more : Laid) (n at : ℕ) (bytes : List ℕ) → cells_with layout cells (take entry_size (drop at bytes)) ≡ Some more
    → cells_told layout cells (suc n) (drop at bytes) ≡ cells_told layout more n (drop (at + entry_size) bytes)
told_next layout cells more n at bytes is =
    ap (option_and_then (λ later. cells_told layout later n (drop entry_size (drop at bytes)))) is ∙ ap (cells_told layout more n) (drop-drop entry_size at bytes)

none_next : (layout : LayoutValue) (cells : Laid) (n at : ℕ) (bytes : List ℕ) → cells_with layout cells (take entry_size (drop at bytes)) ≡ None → cells_told layout cells (suc n) (drop at bytes) ≡ None
none_next layout cells n at bytes is = ap (option_and_then (λ later. cells_told layout later n (drop entry_size (drop at bytes)))) is

counted : (count k : ℕ) → k < count → count - k ≡ suc (count - (k + 1))
counted count k below = omega arith

-- one cell more
pub told_more : (layout : LayoutValue) (cells more : Laid) (count k len : ℕ) (bytes : List ℕ) → k < count → len ≡ entry_size → cells_with layout cells (take len (drop (entry_size * k) bytes)) ≡ Some more
    → cells_told layout cells (count - k) (drop (entry_size * k) bytes) ≡ cells_told layout more (count - (k + 1)) (drop (entry_size * (k + 1)) bytes)
told_more layout cells more count k len bytes below long is =
    let next : entry_size * k + entry_size ≡ entry_size * (k + 1) = omega arith in
    ap (λ (n : ℕ). cells_told layout cells n (drop (entry_size * k) bytes)) (counted count k below) ∙ told_next layout cells more (count - (k + 1)) (entry_size * k) bytes (ap (λ (n : ℕ). cells_with layout cells (take n (drop (entry_size * k) bytes))) (sym long) ∙ is)
    ∙ ap (λ (n : ℕ). cells_told layout more (count - (k + 1)) (drop n bytes)) next

pub told_no_more : (layout : LayoutValue) (cells : Laid) (count k len : ℕ) (bytes : List ℕ) → k < count → len ≡ entry_size → cells_with layout cells (take len (drop (entry_size * k) bytes)) ≡ None
    → cells_told layout cells (count - k) (drop (entry_size * k) bytes) ≡ None
told_no_more layout cells count k len bytes below long is =
    ap (λ (n : ℕ). cells_told layout cells n (drop (entry_size * k) bytes)) (counted count k below) ∙ none_next layout cells (count - (k + 1)) (entry_size * k) bytes (ap (λ (n : ℕ). cells_with layout cells (take n (drop (entry_size * k) bytes))) (sym long) ∙ is)

pub told_all : (layout : LayoutValue) (cells : Laid) (count k : ℕ) (bytes : List ℕ) → count ≤ k → cells_told layout cells (count - k) (drop (entry_size * k) bytes) ≡ Some cells
told_all layout cells count k bytes all =
    let none : count - k ≡ 0 = omega arith in
    ap (λ (n : ℕ). cells_told layout cells n (drop (entry_size * k) bytes)) none
