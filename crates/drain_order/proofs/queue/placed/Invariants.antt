use Rattle.std.proofs.Common.{◌≡◌, map, take}
use Rattle.drain_order.specs.Queue.{waiting_of}
use Rattle.drain_order.specs.Rank.{by_place}
use Rattle.drain_order.proofs.queue.placed.Given as goal

-- those before the place
abbrev pub invariant-loop-place : goal.invariant-loop-place
invariant-loop-place l = l.all.items ≡ map waiting_of (take l.place (by_place l.cache))
