use Rattle.std.proofs.Common.{◌≡◌, ◌++◌, string_bytes}
use Rattle.std.specs.Str.Iter.{chars_rest}
use Rattle.regex.specs.Replace.{bytes_of}
use Rattle.regex.specs.Strings.{captures_haystack, captures_span}
use Rattle.name_pattern.specs.Substitution.{opened, written}
use Rattle.name_pattern.proofs.substitution.written.Given as goal

abbrev pub invariant-loop-c : goal.invariant-loop-c
invariant-loop-c l =
    string_bytes l.out ++ written (λ n. bytes_of (captures_haystack l.captures) (captures_span l.captures n)) (opened l.is_open ++ chars_rest l.c-iterator)
    ≡ written (λ n. bytes_of (captures_haystack l.captures) (captures_span l.captures n)) l.replacement
