use Rattle.std.proofs.Common.{◌≡◌, subst}
use Rattle.std.specs.Io.KnownBytes.{Appends}
use Rattle.outside_io.specs.Sink.{AppendsFront}
use Rattle.http_wire.specs.Answers.{item_of, response_of}
use Rattle.http_front.proofs.ReplyLemmas.{written_as}
use Rattle.http_front.proofs.replying.reply_in_one.Goals as goal

pub returns-in-Ok-write_all-clause-replies : goal.returns-in-Ok-write_all-clause-replies
returns-in-Ok-write_all-clause-replies g c =
    subst (Appends (g.K.Sink.written c.args.out.now) (g.K.Sink.written c.write_all.new.out))
    (written_as c.as_slice.result.now c.push_answer.new.out.items c.new-bytes.result.items (response_of (item_of c.args.item.now) c.args.answer.now) c.as_slice.ensures.value c.in-Ok.ensures.ok c.new-bytes.ensures.items)
    c.in-Ok-write_all.ensures.written

pub returns-in-Ok-clause-fails : goal.returns-in-Ok-clause-fails
returns-in-Ok-clause-fails g c =
    subst (AppendsFront (g.K.Sink.written c.args.out.now) (g.K.Sink.written c.write_all.new.out))
    (written_as c.as_slice.result.now c.push_answer.new.out.items c.new-bytes.result.items (response_of (item_of c.args.item.now) c.args.answer.now) c.as_slice.ensures.value c.in-Ok.ensures.ok c.new-bytes.ensures.items)
    c.in-Err-write_all.ensures.prefix
