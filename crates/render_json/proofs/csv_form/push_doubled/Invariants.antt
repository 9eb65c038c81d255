use Rattle.std.proofs.Common.{◌≡◌, ◌++◌, drop, flat_map}
use Rattle.render_json.specs.Csv.{doubled}
use Rattle.render_json.proofs.csv_form.push_doubled.Given as goal

abbrev pub invariant-loop-byte : goal.invariant-loop-byte
invariant-loop-byte l = l.out.items ++ flat_map doubled (drop l.byte-index l.name) ≡ l.fn.out.items ++ flat_map doubled l.name
