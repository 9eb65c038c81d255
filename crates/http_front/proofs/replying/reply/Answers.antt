use Rattle.http_wire.specs.Answers.{item_of}
use Rattle.http_front.proofs.ReplyLemmas.{ends_as, fails_as, replies_as}
use Rattle.http_front.proofs.replying.reply.Goals as goal

pub returns-in-Some-clause-ends : goal.returns-in-Some-clause-ends
returns-in-Some-clause-ends g c =
    ends_as (item_of c.args.item.now) c.args.outcome c.as_answer-answer.result c.reply_in_two.result c.as_answer-answer.ensures c.reply_in_two.ensures.ends

pub returns-in-Some-clause-replies : goal.returns-in-Some-clause-replies
returns-in-Some-clause-replies g c =
    replies_as (item_of c.args.item.now) c.args.outcome c.as_answer-answer.result c.reply_in_two.result _ _ c.as_answer-answer.ensures c.reply_in_two.ensures.replies

pub returns-in-Some-clause-fails : goal.returns-in-Some-clause-fails
returns-in-Some-clause-fails g c =
    fails_as (item_of c.args.item.now) c.args.outcome c.as_answer-answer.result c.reply_in_two.result _ _ c.as_answer-answer.ensures c.reply_in_two.ensures.fails

pub returns-clause-ends : goal.returns-clause-ends
returns-clause-ends g c =
    ends_as (item_of c.args.item.now) c.args.outcome c.as_answer-answer.result c.reply_in_one.result c.as_answer-answer.ensures c.reply_in_one.ensures.ends

pub returns-clause-replies : goal.returns-clause-replies
returns-clause-replies g c =
    replies_as (item_of c.args.item.now) c.args.outcome c.as_answer-answer.result c.reply_in_one.result _ _ c.as_answer-answer.ensures c.reply_in_one.ensures.replies

pub returns-clause-fails : goal.returns-clause-fails
returns-clause-fails g c =
    fails_as (item_of c.args.item.now) c.args.outcome c.as_answer-answer.result c.reply_in_one.result _ _ c.as_answer-answer.ensures c.reply_in_one.ensures.fails
