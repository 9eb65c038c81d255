use Rattle.std.proofs.Common.{◌≡◌, ◌+◌, ◌/◌, length}
use Rattle.path_glob.specs.Positions.{bit_of}
use Rattle.path_glob.specs.States.{mark_at, mark_of}
use Rattle.path_glob.proofs.BitLemmas.{AreDone}
use Rattle.path_glob.proofs.tables.states_of_kind.Given as goal

abbrev pub invariant-loop-place : goal.invariant-loop-place
invariant-loop-place l = record {
  room : length l.bits ≡ length l.states / 64 + 1;
  done : AreDone (mark_at (mark_of l.kind) l.states) (bit_of l.bits) l.place;
}
