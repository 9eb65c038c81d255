use Rattle.std.proofs.Common.{◌≡◌, ◌++◌, map}
use Rattle.std.specs.Cow.{cow_str_bytes}
use Rattle.form_urlencoded.specs.Form.{raw_pairs}
use Rattle.form_urlencoded.specs.Parse.{pairs_left}
use Rattle.find_api.specs.Queries.{queries_of}
use Rattle.find_api.proofs.query.push_queries.Given as goal

abbrev pub invariant-loop-pair : goal.invariant-loop-pair
invariant-loop-pair l =
    map cow_str_bytes l.texts.items ++ queries_of (pairs_left l.pair-iterator)
    ≡ map cow_str_bytes l.fn.texts.items ++ queries_of (raw_pairs l.form)
