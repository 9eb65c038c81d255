use Rattle.std.proofs.Common.{◌≡◌, ◌-◌, ◌^◌, min, take}
use Rattle.std.specs.Str.Parse.{digits_value_after}
use Rattle.fixed_num.proofs.digits.capped_number_after.Given as goal

abbrev pub invariant-loop-digit : goal.invariant-loop-digit
invariant-loop-digit l = l.number ≡ min (digits_value_after 10 l.start (take l.digit-index l.digits)) (2 ^ 128 - 1)
