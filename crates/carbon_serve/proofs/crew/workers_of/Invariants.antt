use Rattle.std.proofs.Common.{◌≡◌, ◌≤◌, ◌+◌, ◌++◌, vec_len, vec_capacity}
use Rattle.std.specs.Prelude.{All, reverse}
use Rattle.carbon_serve.specs.Crews.{HasRole, passes_of}
use Rattle.carbon_serve.proofs.crew.workers_of.Given as goal

abbrev pub invariant-loop-pass : goal.invariant-loop-pass
invariant-loop-pass l = record {
  all : l.passes.items ++ reverse (passes_of l.workers.items) ≡ l.fn.passes.items;
  count : vec_len l.passes + vec_len l.workers ≡ vec_len l.fn.passes;
  roles : All (HasRole l.duties) l.workers.items;
  room : vec_capacity l.fn.passes ≤ vec_capacity l.passes;
}

abbrev pub decreases-loop-pass : goal.decreases-loop-pass
decreases-loop-pass l = vec_len l.passes
