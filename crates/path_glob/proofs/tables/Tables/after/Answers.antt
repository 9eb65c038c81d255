use Rattle.std.proofs.Common.{◌≡◌, ◌∙◌, ◌<◌, ℕ, [], ap, sym, subst, arith, get_or, length}
use Rattle.path_glob.specs.Positions.{bit_of, held}
use Rattle.path_glob.specs.Tables.{AreSized}
use Rattle.path_glob.proofs.PlaceLemmas.{any_default}
use Rattle.path_glob.proofs.RunLemmas.{Goes, all_reached, goes_start}
use Rattle.path_glob.proofs.TableLemmas.{step_on, visit_is}
use Rattle.path_glob.proofs.tables.Tables.after.Goals as goal

pub loop-i-init : goal.loop-i-init
loop-i-init c = record {
  room = c.clear.ensures.room;
  unseen = λ j from. c.none-reached.ensures j;
  goes = λ states are. goes_start states c.args.node.now (held c.args.start) (held c.none-reached.result) (bit_of c.clear.new.self) c.clear.ensures.none;
}

pub loop-i-preserved : goal.loop-i-preserved
loop-i-preserved c =
    let tables = c.args.self.now in
    let node = c.args.node.now in
    let i = c.loop-i.i in
    let begun = c.visit-reached.new.active in
    let within : i < length node = omega arith in
    let small : get_or node i 0 < 256 = omega (arith, c.type_inv.node i) in
    let over = c.index-over.result.now in
    let near : c.from.result < length tables.over.items = omega (arith, c.requires.sized.count, c.from.ensures, small) in
    let is : over ≡ get_or tables.over.items (get_or node i 0) [] =
    c.index-over.ensures ∙ any_default tables.over.items c.from.result over [] near ∙ ap (λ (n : ℕ). get_or tables.over.items n []) c.from.ensures in
    let room : length begun ≡ length c.args.active.now = c.visit-reached.ensures.room ∙ c.loop-i.invariant.room in
    let fit : AreSized tables (length begun) = subst (AreSized tables) (sym room) c.requires.sized in
    record {
      room = c.step.ensures.room ∙ room;
      unseen = λ j from. c.visit-reached.ensures.others j (λ e. absurd (omega (arith, from, e))) ∙ c.loop-i.invariant.unseen j (omega (arith, from));
      goes = λ states are.
          step_on states tables node (held c.args.start) (held c.visit-reached.result) over begun c.step.new.self i are fit within small is
          (visit_is states tables node (held c.args.start) (held c.loop-i.reached) (held c.visit-reached.result) c.loop-i.active begun i are (omega (arith, within)) (c.loop-i.invariant.goes states are)
          c.visit-reached.ensures.begun c.visit-reached.ensures.ended c.visit-reached.ensures.others)
          c.step.ensures.moved;
    }

pub returns-clause-leads : goal.returns-clause-leads
returns-clause-leads c = λ states are.
    let tables = c.args.self.now in
    let node = c.args.node.now in
    let i = c.loop-i.i in
    let last : i ≡ length node = omega arith in
    all_reached states node (held c.args.start) (held c.visit.result) (bit_of c.visit.new.active) (length node) (omega arith)
    (visit_is states tables node (held c.args.start) (held c.loop-i.reached) (held c.visit.result) c.loop-i.active c.visit.new.active (length node) are (omega arith)
    (subst (λ (n : ℕ). Goes states node (held c.args.start) (held c.loop-i.reached) (bit_of c.loop-i.active) n n) last (c.loop-i.invariant.goes states are))
    c.visit.ensures.begun c.visit.ensures.ended c.visit.ensures.others)

pub visit-reached-requires-clause-sized : goal.visit-reached-requires-clause-sized
visit-reached-requires-clause-sized c = subst (AreSized c.args.self.now) (sym c.loop-i.invariant.room) c.requires.sized

pub visit-reached-requires-clause-unseen : goal.visit-reached-requires-clause-unseen
visit-reached-requires-clause-unseen c = c.loop-i.invariant.unseen c.loop-i.i (omega arith)

pub visit-requires-clause-sized : goal.visit-requires-clause-sized
visit-requires-clause-sized c = subst (AreSized c.args.self.now) (sym c.loop-i.invariant.room) c.requires.sized

pub visit-requires-clause-unseen : goal.visit-requires-clause-unseen
visit-requires-clause-unseen c = c.loop-i.invariant.unseen (length c.args.node.now) (omega arith)
