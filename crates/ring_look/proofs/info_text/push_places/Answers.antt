use Rattle.std.proofs.Common.{◌≡◌, ◌+◌, ap, arith, decimal, length, rules}
use Rattle.std.proofs.lemmas.Fmt.{decimal_nonempty}
use Rattle.ring_look.proofs.info_text.push_places.Goals as goal

pub without_first-requires : goal.without_first-requires
without_first-requires c =
    let text : c.as_bytes-digits.result.now ≡ decimal (1000000 + c.args.millionths) = search rules in
    omega (arith, ap length text, decimal_nonempty (1000000 + c.args.millionths) (omega (arith, c.requires)))
