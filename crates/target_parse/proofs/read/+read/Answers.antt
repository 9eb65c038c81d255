use Rattle.std.proofs.Common.{◌≡◌, ◌≢◌, suc, List, Ok, Err, sym, ap, subst, ◌∙◌}
use Rattle.std.proofs.lemmas.Result.{MatchResult-weaker, err_from_is_err_and}
use Rattle.target_parse.specs.Reading.{read_inside, seen}
use Rattle.target_parse.specs.Tree.{trees_of}
use Rattle.target_parse.specs.declared.expr.Expr.{Expr}
use Rattle.target_parse.specs.declared.fault.Stop.TheVariants.{NoMemory}
use Rattle.target_parse.proofs.LoopLemmas.{Reached, argument_call, argument_quoted, loop_fails, loop_last, loop_more, loop_start}
use Rattle.target_parse.proofs.read.+read.Goals as goal

pub read_argument-returns-in-Some-clause-err : goal.read_argument-returns-in-Some-clause-err
read_argument-returns-in-Some-clause-err t c =
    MatchResult-weaker c.read_quoted.result c.read_quoted.ensures.err (λ taken any. any)
    (λ stop told other. argument_quoted c.args.levels c.args.text.now c.skip_blanks-text.result.now c.in-Some.quote.byte c.in-Some.quote.rest.now (Err stop) c.skip_blanks-text.ensures (sym c.in-Some.ensures) (told other))

pub read_argument-returns-in-Some-in_call-clause-ok : goal.read_argument-returns-in-Some-in_call-clause-ok
read_argument-returns-in-Some-in_call-clause-ok t c =
    let stretch = c.cut_stretch-stretch in
    MatchResult-weaker c.read_call.result c.read_call.ensures.ok
    (λ taken read. argument_call c.args.levels c.args.text.now c.skip_blanks-text.result.now stretch.result.text.now stretch.result.rest.now c.in-Some-in_call.inside.now (Ok (seen taken))
    c.skip_blanks-text.ensures (sym c.in_default.ensures) stretch.ensures.text stretch.ensures.rest (sym c.in-Some-in_call.ensures) read)
    (λ stop any. any)

pub read_argument-returns-in-Some-in_call-clause-err : goal.read_argument-returns-in-Some-in_call-clause-err
read_argument-returns-in-Some-in_call-clause-err t c =
    let stretch = c.cut_stretch-stretch in
    MatchResult-weaker c.read_call.result c.read_call.ensures.err (λ taken any. any)
    (λ stop told other. argument_call c.args.levels c.args.text.now c.skip_blanks-text.result.now stretch.result.text.now stretch.result.rest.now c.in-Some-in_call.inside.now (Err stop)
    c.skip_blanks-text.ensures (sym c.in_default.ensures) stretch.ensures.text stretch.ensures.rest (sym c.in-Some-in_call.ensures) (told other))

pub read_arguments-loop-items-init : goal.read_arguments-loop-items-init
read_arguments-loop-items-init t c =
    subst (λ (exprs : List Expr). Reached c.args.levels c.args.text.now exprs c.args.text.now) (sym c.new-items.ensures.items) (loop_start c.args.levels c.args.text.now)

pub read_arguments-returns-in_err-next-clause-err : goal.read_arguments-returns-in_err-next-clause-err
read_arguments-returns-in_err-next-clause-err t c =
    let p = err_from_is_err_and c.from_residual.result c.from_residual.ensures.1 in
    let stop = c.in_err-next.field-0.0 in
    let fails : stop ≢ NoMemory → read_inside (suc c.args.levels) c.args.text.now ≡ Err stop =
    λ other. loop_fails c.args.levels c.args.text.now c.loop-items.items.items c.loop-items.rest.now stop c.loop-items.invariant (c.in_err-next.ensures.err other) in
    rw (p.1, p.2) fails

pub read_arguments-returns-then-next-clause-ok : goal.read_arguments-returns-then-next-clause-ok
read_arguments-returns-then-next-clause-ok t c =
    let next = c.in_ok-next.next in
    loop_last c.args.levels c.args.text.now c.loop-items.items.items next.expr c.loop-items.rest.now next.rest.now next.is_last c.loop-items.invariant c.in_ok-next.ensures.ok c.if-next.true
    ∙ ap (λ (exprs : List Expr). Ok (trees_of exprs, next.rest.now)) (sym c.in_ok-push.ensures)

pub read_arguments-loop-items-preserved : goal.read_arguments-loop-items-preserved
read_arguments-loop-items-preserved t c =
    let next = c.in_ok-next.next in
    subst (λ (exprs : List Expr). Reached c.args.levels c.args.text.now exprs next.rest.now) (sym c.in_ok-push.ensures)
    (loop_more c.args.levels c.args.text.now c.loop-items.items.items next.expr c.loop-items.rest.now next.rest.now next.is_last c.loop-items.invariant c.in_ok-next.ensures.ok c.in_ok-next.ensures.shorter c.if-next.false)
