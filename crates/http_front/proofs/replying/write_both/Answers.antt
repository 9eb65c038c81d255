use Rattle.http_front.proofs.AskLemmas.{err_so}
use Rattle.http_front.proofs.ReplyLemmas.{err_anyhow, front_first, front_next}
use Rattle.http_front.proofs.replying.write_both.Goals as goal

pub returns-in_err-write_all-clause-prefix : goal.returns-in_err-write_all-clause-prefix
returns-in_err-write_all-clause-prefix g c =
    err_anyhow c.from_residual.result _ (front_first (g.K.Sink.written c.args.out.now) (g.K.Sink.written c.write_all.new.out) c.args.first.now c.args.second.now c.in_err-write_all.ensures.prefix)

pub returns-clause-prefix : goal.returns-clause-prefix
returns-clause-prefix g c =
    let mid = g.K.Sink.written c.write_all.new.out in
    err_so c.write_all-2.result _ _ (front_next (g.K.Sink.written c.args.out.now) mid (g.K.Sink.written c.write_all-2.new.out) c.args.first.now c.args.second.now c.in_ok-write_all.ensures.written)
    c.write_all-2.ensures.prefix
