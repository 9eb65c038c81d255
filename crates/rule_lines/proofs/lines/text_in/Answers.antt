use Rattle.std.proofs.Common.{rules, Bool, true, false, ◌≡◌, refl, List, ℕ, Some, None, if◌then◌else◌}
use Rattle.std.specs.Str.{is_utf8, IsUtf8}
use Rattle.std.proofs.lemmas.Str.{IsUtf8-from_is_utf8, is_utf8-from_IsUtf8}
use Rattle.rule_lines.proofs.lines.text_in.Goals as goal

pub returns-in-Ok : goal.returns-in-Ok
returns-in-Ok c = rw (is_utf8-from_IsUtf8 c.args.line.now c.in-Ok.ensures.cases.1) (search rules)

none_of : (bs : List ℕ) (t : Bool) → is_utf8 bs ≡ t → (IsUtf8 bs → ⊥) → None ≡ (if t then Some bs else None)
none_of bs true e not_text = absurd (not_text (IsUtf8-from_is_utf8 bs e))
none_of bs false e not_text = refl

pub returns-in-Err : goal.returns-in-Err
returns-in-Err c = none_of c.args.line.now (is_utf8 c.args.line.now) refl c.in-Err.ensures.cases.0
