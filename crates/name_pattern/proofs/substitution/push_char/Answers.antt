use Rattle.std.proofs.Common.{rules, ◌≢◌, string_bytes}
use Rattle.name_pattern.proofs.SubstitutionLemmas.{writes_plain}
use Rattle.name_pattern.proofs.substitution.push_char.Goals as goal

pub returns : goal.returns
returns c =
    let other : c.args.c ≢ 92 = search rules in
    λ group. writes_plain group c.args.c (string_bytes c.args.out.now) (string_bytes c.push.new.self) other c.in_ok-push.ensures.bytes
