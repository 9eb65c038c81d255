-- The buffer begins with the next bytes of what was left.
use Rattle.std.proofs.Common.{◌≡◌, ℕ, ◌+◌, ◌-◌, ◌≤◌, List, ◌++◌, length, take, drop, sym, ap, ◌∙◌, take-append-drop, arith}
use Rattle.std.proofs.lemmas.List.{take_at, take_rest, drop-drop, length-take-le}
use Rattle.outside_io.specs.Memory.{SourceState}
use Rattle.outside_io.proofs.mem_source.MemSourceSource.read.Goals as goal

-- what is left, as the bytes that were copied and those behind them
next_piece : (held bytes buf copied : List ℕ) (at count : ℕ) → held ≡ bytes
    → copied ≡ take count (take (length held - at) (drop at held)) → count ≤ length (take (length held - at) (drop at held))
    → drop at bytes ≡ take count (copied ++ drop count buf) ++ drop (at + count) bytes
next_piece held bytes buf copied at count same copies within =
    let is : copied ≡ take count (drop at held) = rw take_rest at copies in
    let enough : count ≤ length (drop at held) = rw take_rest at within in
    let size : length copied ≡ count = ap length is ∙ length-take-le count (drop at held) enough in
    rw (← same, take_at copied (drop count buf) count size, is, ← drop-drop count at held) (sym (take-append-drop count (drop at held)))

pub returns-clause-bytes : goal.returns-clause-bytes
returns-clause-bytes c =
    ap (λ (source : SourceState). source.left) (sym c.self.view_is)
    ∙ next_piece _ _ _ _ _ _ c.deref.ensures.value c.copy_from_slice.ensures.after (omega (arith, c.min.ensures, c.min-count.ensures))
