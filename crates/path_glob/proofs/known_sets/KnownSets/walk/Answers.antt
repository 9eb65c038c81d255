use Rattle.std.proofs.Common.{◌≡◌, ◌<◌, ◌∙◌, ℕ, Bool, subst, arith, get_or, length}
use Rattle.path_glob.specs.Known.{Begins, states_at}
use Rattle.path_glob.specs.Positions.{bit_of, held}
use Rattle.path_glob.proofs.KnownLemmas.{lead_set, visit_set}
use Rattle.path_glob.proofs.RunLemmas.{Goes, all_reached}
use Rattle.path_glob.proofs.known_sets.KnownSets.walk.Goals as goal

pub loop-i-preserved : goal.loop-i-preserved
loop-i-preserved c =
    let tables = c.args.tables.now in
    let node = c.args.node.now in
    let i = c.loop-i.i in
    let within : i < length node = omega arith in
    let small : get_or node i 0 < 256 = omega (arith, c.type_inv.node i) in
    let from = states_at c.loop-i.self c.loop-i.at in
    let begun : Begins tables (held c.args.start i) from c.begin.new.self c.in_ok-at.at = subst (λ (b : Bool). Begins tables b from c.begin.new.self c.in_ok-at.at) c.has.ensures c.in_ok-at.ensures.begun in
    record {
      known = c.in_ok-at-2.ensures.known;
      within = c.in_ok-at-2.ensures.led.within;
      unseen = λ j from. c.reach-reached.ensures.others j (λ e. absurd (omega (arith, from, e))) ∙ c.loop-i.invariant.unseen j (omega (arith, from));
      goes = λ states are.
          lead_set states tables node (held c.args.start) (held c.reach-reached.result) c.begin.new.self c.lead.new.self c.in_ok-at.at c.in_ok-at-2.at c.from.result i are c.in_ok-at.ensures.known begun.within within small c.from.ensures
          (visit_set states tables node (held c.args.start) (held c.loop-i.reached) (held c.reach-reached.result) from c.begin.new.self c.in_ok-at.at i are (omega (arith, within)) c.in_ok-at.ensures.known (c.loop-i.invariant.goes states are) begun
          c.reach-reached.ensures.ended c.reach-reached.ensures.others)
          c.in_ok-at-2.ensures.led;
    }

pub returns-clause-leads : goal.returns-clause-leads
returns-clause-leads c = λ states are.
    let tables = c.args.tables.now in
    let node = c.args.node.now in
    let last : c.loop-i.i ≡ length node = omega arith in
    let from = states_at c.loop-i.self c.loop-i.at in
    let begun : Begins tables (held c.args.start (length node)) from c.begin-2.new.self c.in_ok-at-3.at =
    subst (λ (b : Bool). Begins tables b from c.begin-2.new.self c.in_ok-at-3.at) c.has-2.ensures c.in_ok-at-3.ensures.begun in
    let goes : Goes states node (held c.args.start) (held c.loop-i.reached) (bit_of from) (length node) (length node) =
    subst (λ (n : ℕ). Goes states node (held c.args.start) (held c.loop-i.reached) (bit_of from) n n) last (c.loop-i.invariant.goes states are) in
    all_reached states node (held c.args.start) (held c.reach.result) (bit_of (states_at c.begin-2.new.self c.in_ok-at-3.at)) (length node) (omega arith)
    (visit_set states tables node (held c.args.start) (held c.loop-i.reached) (held c.reach.result) from c.begin-2.new.self c.in_ok-at-3.at (length node) are (omega arith) c.in_ok-at-3.ensures.known goes begun
    c.reach.ensures.ended c.reach.ensures.others)
