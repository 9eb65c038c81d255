use Rattle.std.proofs.Common.{rules, ◌≡◌, ℕ, Bool, true, false, List, length, Some, slice_get, sym, subst, arith}
use Rattle.std.specs.Prelude.{slice_index_or}
use Rattle.metric_line.specs.declared.datum.Datum.{Datum}
use Rattle.shared_store.specs.Pieces.{CountsPut}
use Rattle.shared_store.proofs.PieceLemmas.{few_so_far, get_there, puts_short, puts_whole, room_so_far, same_both, so_far_more, stands_among}
use Rattle.shared_store.proofs.putting.put_each.Goals as goal

pub put_held-put-requires-clause-desks : goal.put_held-put-requires-clause-desks
put_held-put-requires-clause-desks g c =
    let classes : List ℕ = c.args.classes.now in
    let i : ℕ = c.loop-i.i in
    (c.loop-i.invariant.sixteen, λ d within. c.loop-i.invariant.held (slice_index_or classes i 0) d within (stands_among c.args.points.now classes i c.requires.classes c.loop-i-test.true))

pub put_held-put-requires-clause-room : goal.put_held-put-requires-clause-room
put_held-put-requires-clause-room g c =
    let n = g.N.Named in
    room_so_far n.start n.passes c.args.points.now c.args.pass.now c.loop-i.i c.loop-i.counts c.loop-i.pass c.requires.room c.loop-i-test.true c.loop-i.invariant.puts

pub count-requires : goal.count-requires
count-requires g c =
    let n = g.N.Named in
    few_so_far n.start n.passes c.args.points.now c.args.pass.now c.loop-i.i c.loop-i.counts c.loop-i.pass c.requires.room c.loop-i-test.true c.loop-i.invariant.puts

pub loop-i-preserved : goal.loop-i-preserved
loop-i-preserved g c =
    let n = g.N.Named in
    let v = c.loop-i.invariant in
    let points : List Datum = c.args.points.now in
    let i : ℕ = c.loop-i.i in
    let datum : Datum = c.index-points-i.result in
    let there : slice_get points i ≡ Some datum = get_there points i datum c.loop-i-test.true (sym c.index-points-i.is) in
    let more : c.count.result ≡ true = search rules in
    let put = c.put_held-put.result in
    record {
      sixteen = c.put_held-put.ensures.desks.0;
      held = λ k d less among. c.put_held-put.ensures.desks.1 k (λ e within. v.held k e within among) d less;
      puts = so_far_more n.start n.passes points c.args.pass.now i c.loop-i.counts c.count.new.self datum c.loop-i.pass c.put_held-put.new.pass v.puts there put
          c.put_held-put.ensures.enters (subst (λ (b : Bool). CountsPut put b c.loop-i.counts c.count.new.self) more c.count.ensures);
      looks = same_both c.args.pass.now c.loop-i.pass c.put_held-put.new.pass v.looks c.put_held-put.ensures.looks;
    }

pub returns-then-not-count-clause-puts : goal.returns-then-not-count-clause-puts
returns-then-not-count-clause-puts g c =
    let n = g.N.Named in
    let v = c.loop-i.invariant in
    let points : List Datum = c.args.points.now in
    let i : ℕ = c.loop-i.i in
    let datum : Datum = c.index-points-i.result in
    let there : slice_get points i ≡ Some datum = get_there points i datum c.loop-i-test.true (sym c.index-points-i.is) in
    let none : c.count.result ≡ false = search rules in
    let put = c.put_held-put.result in
    puts_short n.start n.passes points c.args.pass.now i c.loop-i.counts c.count.new.self datum c.loop-i.pass c.put_held-put.new.pass v.puts there put
    c.put_held-put.ensures.enters c.put_held-put.ensures.after (subst (λ (b : Bool). CountsPut put b c.loop-i.counts c.count.new.self) none c.count.ensures) c.loop-i-test.true

pub returns-clause-puts : goal.returns-clause-puts
returns-clause-puts g c =
    let n = g.N.Named in
    let all : c.loop-i.i ≡ length c.args.points.now = omega (arith, c.loop-i-test.false, c.loop-i.auto.i-end) in
    puts_whole n.start n.passes c.args.points.now c.args.pass.now c.loop-i.i c.loop-i.counts c.loop-i.pass c.loop-i.invariant.puts all
