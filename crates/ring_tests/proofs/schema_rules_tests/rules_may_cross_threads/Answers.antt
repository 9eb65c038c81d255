use denote.Param.Send.{sendable}
use Rattle.schema_rules.proofs.RulesCross.{rules-send, rules-sync}
use Rattle.ring_tests.proofs.schema_rules_tests.rules_may_cross_threads.Goals as goal

pub crosses-requires-send-T : goal.crosses-requires-send-T
crosses-requires-send-T c κs = search (rules-send, sendable) depth 10

pub crosses-requires-sync-T : goal.crosses-requires-sync-T
crosses-requires-sync-T c κs = search (rules-sync, sendable) depth 10
