use Rattle.std.proofs.Common.{◌≡◌, subst}
use Rattle.std.specs.Io.KnownBytes.{Appends}
use Rattle.outside_io.specs.Sink.{AppendsFront}
use Rattle.http_wire.specs.Answers.{head_to, item_of}
use Rattle.http_front.proofs.ReplyLemmas.{both_as, written_as}
use Rattle.http_front.proofs.replying.reply_in_two.Goals as goal

pub returns-in-Ok-write_both-clause-replies : goal.returns-in-Ok-write_both-clause-replies
returns-in-Ok-write_both-clause-replies g c =
    let item = item_of c.args.item.now in
    subst (Appends (g.K.Sink.written c.args.out.now) (g.K.Sink.written c.write_both.new.out))
    (both_as item c.args.answer.now c.as_slice.result.now c.args.body.now
    (written_as c.as_slice.result.now c.push_head.new.out.items c.new-head.result.items (head_to item c.args.answer.now) c.as_slice.ensures.value c.in-Ok.ensures.ok c.new-head.ensures.items) c.requires)
    c.in-Ok-write_both.ensures.written

pub returns-in-Ok-clause-fails : goal.returns-in-Ok-clause-fails
returns-in-Ok-clause-fails g c =
    let item = item_of c.args.item.now in
    subst (AppendsFront (g.K.Sink.written c.args.out.now) (g.K.Sink.written c.write_both.new.out))
    (both_as item c.args.answer.now c.as_slice.result.now c.args.body.now
    (written_as c.as_slice.result.now c.push_head.new.out.items c.new-head.result.items (head_to item c.args.answer.now) c.as_slice.ensures.value c.in-Ok.ensures.ok c.new-head.ensures.items) c.requires)
    c.in-Err-write_both.ensures.prefix
