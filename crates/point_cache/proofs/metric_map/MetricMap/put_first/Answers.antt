use Rattle.std.proofs.Common.{◌≡◌, ◌+◌, ap, arith, refl, sym}
use Rattle.point_cache.specs.Kept.{placed_of}
use Rattle.point_cache.specs.declared.numbered.Numbered.{Numbered}
use Rattle.point_cache.proofs.KeptLemmas.{new_last}
use Rattle.point_cache.proofs.PutLemmas.{no_time, puts_first}
use Rattle.point_cache.proofs.metric_map.MetricMap.put_first.Goals as goal

pub returns-in_default-clause-put : goal.returns-in_default-clause-put
returns-in_default-clause-put c =
    let none = rw (sym c.self.view_is) at c.requires.absent in
    rw (sym c.self.view_is) (no_time c.self.inside.next c.self.inside.entries.entries c.args.path.now c.args.time c.self.invariant none, refl)

pub returns-in_default-copy-clause-put : goal.returns-in_default-copy-clause-put
returns-in_default-copy-clause-put c =
    let none = rw (sym c.self.view_is) at c.requires.absent in
    rw (sym c.self.view_is) (no_time c.self.inside.next c.self.inside.entries.entries c.args.path.now c.args.time c.self.invariant none, refl)

pub returns-in_default-put : goal.returns-in_default-put
returns-in_default-put c =
    let none = rw (sym c.self.view_is) at c.requires.absent in
    rw (sym c.self.view_is) (record {
      put = (no_time c.self.inside.next c.self.inside.entries.entries c.args.path.now c.args.time c.self.invariant none, refl);
      counts = record { count = omega arith; each = λ each. each };
    })

pub returns-in_default-insert-clause-put : goal.returns-in_default-insert-clause-put
returns-in_default-insert-clause-put c =
    let none = rw (sym c.self.view_is) at c.requires.absent in
    rw (sym c.self.view_is) (no_time c.self.inside.next c.self.inside.entries.entries c.args.path.now c.args.time c.self.invariant none, ap placed_of c.in_default-insert.ensures.err)

pub invariant_of-self-2 : goal.invariant_of-self-2
invariant_of-self-2 c =
    let none = rw (sym c.self.view_is) at c.requires.absent in
    let same : c.in-Ok.path ≡ c.args.path.now = c.in-Ok.ensures in
    let entries = rw same at c.in-Ok-insert.ensures.entries in
    let once = rw entries at c.insert.ensures.unique in
    let next : c.in-Some.next ≡ c.self.inside.next + 1 = c.in-Some.ensures.1 in
    rw (next, entries) (new_last c.self.inside.entries.entries c.args.path.now (record { number = c.self.inside.next; points = c.put.new.self }) c.self.invariant none once).kept

pub returns : goal.returns
returns c =
    let put = c.in-Stored.ensures.put in
    let points = rw c.requires.empty at put.1 in
    let count = rw c.requires.empty at c.in-Stored.ensures.count in
    let none = rw (sym c.self.view_is) at c.requires.absent in
    let same : c.in-Ok.path ≡ c.args.path.now = c.in-Ok.ensures in
    let entries = rw same at c.in-Ok-insert.ensures.entries in
    let once = rw entries at c.insert.ensures.unique in
    let new : Numbered = record { number = c.self.inside.next; points = c.put.new.self } in
    let p = puts_first c.self.inside.entries.entries c.args.path.now new c.args.time c.args.value c.self.invariant none
    (new_last c.self.inside.entries.entries c.args.path.now new c.self.invariant none once) points count in
    rw (sym c.self.view_is, entries) (record { put = p.put; counts = p.counts })
