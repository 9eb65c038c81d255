use Rattle.std.proofs.Common.{◌≡◌, ◌+◌, drop, length, map}
use Rattle.std.specs.Cow.{cow_str_bytes}
use Rattle.find_api.specs.Queries.{globs_from}
use Rattle.find_api.proofs.QueryLemmas.{onto}
use Rattle.find_api.proofs.query.read_globs.Given as goal

abbrev pub invariant-loop-text : goal.invariant-loop-text
invariant-loop-text l =
    (l.number ≡ l.text-index + 1) × (length l.globs.items ≡ l.text-index)
    × (globs_from 1 (map cow_str_bytes l.texts) ≡ onto l.globs.items (globs_from (l.text-index + 1) (map cow_str_bytes (drop l.text-index l.texts))))
