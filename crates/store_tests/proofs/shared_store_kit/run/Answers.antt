use Rattle.std.proofs.Common.{◌≡◌, ℕ, refl, sym, subst, arith}
use Rattle.shared_store.proofs.StartLemmas.{picked}
use Rattle.shared_history.specs.Parts.{IsNewOrder}
use Rattle.store_tests.proofs.shared_store_kit.run.Goals as goal

pub run_store-requires-clause-fresh : goal.run_store-requires-clause-fresh
run_store-requires-clause-fresh g c κs within =
    let started = c.in_ok-shards.field-0 in record {
      same = refl;
      new = subst (λ (n : ℕ). IsNewOrder n 16 c.in_ok-order.order) (sym c.in_ok-order.ensures.passes.0) c.in_ok-order.ensures.order;
      sixteen_tails = omega (arith, c.in_ok-order.ensures.tails.0, c.in_ok-order.tails.ok.0);
      new_tails = c.in_ok-order.ensures.tails.1;
      sixteen_pairs = omega (arith, c.in_ok-make_pairs.ensures, c.in_ok-make_pairs.field-0.ok.0);
      pairs = picked c.in_ok-make_pairs.field-0.items;
      sixteen_shards = started.all;
      fresh_shards = c.in_ok-shards.ensures;
    }

pub run_store-requires-clause-one : goal.run_store-requires-clause-one
run_store-requires-clause-one g c κs within = λ k pass there. (c.in_ok-order.ensures.passes.1 k pass there).same
