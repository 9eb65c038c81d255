-- Aggregation rules may be shared between threads.
use Rattle.std.proofs.Crossing as own
use denote.Param.Send.{IsSync, sendable}
use denote.Param.SendFields.{declared_sync}
use Rattle.aggregate_rules.specs.contracts.bytes.Bytes as Bytes
use Rattle.aggregate_rules.specs.contracts.bytes.Bytes.TheInside as BytesInside
use Rattle.aggregate_rules.specs.contracts.node.PatternNode as PatternNode
use Rattle.aggregate_rules.specs.contracts.pattern.Nodes as Nodes
use Rattle.aggregate_rules.specs.contracts.pattern.Nodes.TheInside as NodesInside
use Rattle.aggregate_rules.specs.contracts.output.OutputPart as OutputPart
use Rattle.aggregate_rules.specs.contracts.output.OutputParts as OutputParts
use Rattle.aggregate_rules.specs.contracts.output.OutputParts.TheInside as OutputPartsInside
use Rattle.aggregate_rules.specs.contracts.output.Output as Output
use Rattle.aggregate_rules.specs.contracts.rule.Rule as Rule
use Rattle.aggregate_rules.specs.contracts.rule.Rule.TheInside as RuleInside
use Rattle.aggregate_rules.specs.contracts.rule_list.RuleList as RuleList
use Rattle.aggregate_rules.specs.contracts.rule_list.RuleList.TheInside as RuleListInside
use Rattle.aggregate_rules.specs.contracts.rule_index.RuleIndex as RuleIndex
use Rattle.aggregate_rules.specs.contracts.rule_index.RuleIndex.TheInside as RuleIndexInside
use Rattle.aggregate_rules.specs.contracts.rules.AggRules as AggRules
use Rattle.aggregate_rules.specs.contracts.rules.AggRules.TheInside as AggRulesInside

bytes-sync : IsSync Bytes.the_row
bytes-sync = let inside : IsSync BytesInside.the_row = declared_sync BytesInside.the_type (search (own.crosses, sendable) depth 30, tt) in search (inside, sendable) depth 10

-- ---- patterns

node-sync : IsSync PatternNode.the_row
node-sync = declared_sync PatternNode.the_type (bytes-sync, (search (own.crosses, sendable) depth 30, (bytes-sync, tt)))

nodes-sync : IsSync Nodes.the_row
nodes-sync = let inside : IsSync NodesInside.the_row = declared_sync NodesInside.the_type (search (node-sync, own.crosses, sendable) depth 30, tt) in search (inside, sendable) depth 10

-- ---- outputs

part-sync : IsSync OutputPart.the_row
part-sync = declared_sync OutputPart.the_type (search (own.crosses, sendable) depth 30, (bytes-sync, tt))

parts-sync : IsSync OutputParts.the_row
parts-sync =
    let inside : IsSync OutputPartsInside.the_row = declared_sync OutputPartsInside.the_type (search (part-sync, own.crosses, sendable) depth 30, tt) in
    search (inside, sendable) depth 10

output-sync : IsSync Output.the_row
output-sync = declared_sync Output.the_type (bytes-sync, (parts-sync, tt))

-- ---- rules

rule-sync : IsSync Rule.the_row
rule-sync =
    let inside : IsSync RuleInside.the_row =
    declared_sync RuleInside.the_type (output-sync, (search (own.crosses, sendable) depth 30, (search (own.crosses, sendable) depth 30, (nodes-sync, tt)))) in
    search (inside, sendable) depth 10

list-sync : IsSync RuleList.the_row
list-sync = let inside : IsSync RuleListInside.the_row = declared_sync RuleListInside.the_type (search (rule-sync, own.crosses, sendable) depth 30, tt) in search (inside, sendable) depth 10

index-sync : IsSync RuleIndex.the_row
index-sync =
    let inside : IsSync RuleIndexInside.the_row = declared_sync RuleIndexInside.the_type (search (own.crosses, sendable) depth 30, (search (own.crosses, sendable) depth 30, tt)) in
    search (inside, sendable) depth 10

pub rules-sync : IsSync AggRules.the_row
rules-sync = let inside : IsSync AggRulesInside.the_row = declared_sync AggRulesInside.the_type (list-sync, (index-sync, tt)) in search (inside, sendable) depth 10
