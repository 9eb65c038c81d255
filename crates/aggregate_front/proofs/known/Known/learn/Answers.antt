use Rattle.std.proofs.Common.{sym}
use Rattle.aggregate_front.proofs.KnownLemmas.{learns}
use Rattle.aggregate_front.proofs.known.Known.learn.Goals as goal

pub invariant_of-self-2 : goal.invariant_of-self-2
invariant_of-self-2 c =
    let knows = rw (sym c.self.view_is) at c.requires.knows in
    let absent = rw (sym c.self.view_is) at c.requires.absent in
    let room = rw (c.len.ensures, c.in_ok-hits.ensures) at c.make_room-room.ensures in
    let l = learns c.args.rules.now c.self.inside.paths.entries c.make_room-room.new.paths.entries c.args.path.now c.self.inside.room c.make_room-room.result knows c.self.invariant absent room in
    rw (rw (c.in_ok-path.ensures, c.in_ok-hits.ensures) at c.in_ok-insert.ensures.entries) l.few

pub returns-clause-knows : goal.returns-clause-knows
returns-clause-knows c =
    let knows = rw (sym c.self.view_is) at c.requires.knows in
    let absent = rw (sym c.self.view_is) at c.requires.absent in
    let room = rw (c.len.ensures, c.in_ok-hits.ensures) at c.make_room-room.ensures in
    let l = learns c.args.rules.now c.self.inside.paths.entries c.make_room-room.new.paths.entries c.args.path.now c.self.inside.room c.make_room-room.result knows c.self.invariant absent room in
    rw (rw (c.in_ok-path.ensures, c.in_ok-hits.ensures) at c.in_ok-insert.ensures.entries) l.knows

pub returns-clause-place : goal.returns-clause-place
returns-clause-place c =
    let knows = rw (sym c.self.view_is) at c.requires.knows in
    let absent = rw (sym c.self.view_is) at c.requires.absent in
    let room = rw (c.len.ensures, c.in_ok-hits.ensures) at c.make_room-room.ensures in
    let l = learns c.args.rules.now c.self.inside.paths.entries c.make_room-room.new.paths.entries c.args.path.now c.self.inside.room c.make_room-room.result knows c.self.invariant absent room in
    rw (rw (c.in_ok-path.ensures, c.in_ok-hits.ensures) at c.in_ok-insert.ensures.entries, c.len-place.ensures.len) l.place
