-- Whether a pass has room for a call.
use Rattle.std.proofs.Common.{◌≡◌, ℕ, ◌<◌, ◌≤◌, ◌+◌, ◌^◌, length, arith}
use Rattle.shared_history.specs.Parts.{PassValue, own_entries}
use Rattle.shared_store.specs.Passes.{HasRoom, IsSpent}

pub enough : (left : ℕ) (pass : PassValue) → left + length (own_entries pass) ≡ 2 ^ 48 → 4 ≤ left → HasRoom pass
enough left pass all some = omega (arith, all, some)

pub too_few : (left : ℕ) (pass : PassValue) → left + length (own_entries pass) ≡ 2 ^ 48 → left < 4 → IsSpent pass
too_few left pass all few = omega (arith, all, few)
