-- Rules may cross threads, and be shared between them.
use Rattle.std.proofs.Crossing as own
use denote.Param.Send.{IsSync, IsSend, sendable}
use denote.Param.SendFields.{declared_sync, declared_send}
use Rattle.name_pattern.proofs.Cross.{name_test-send, name_test-sync}
use Rattle.schema_rules.specs.contracts.schema.Schema as Schema
use Rattle.schema_rules.specs.contracts.schema.Schema.TheInside as SchemaInside
use Rattle.schema_rules.specs.contracts.aggregation.Aggregation as Aggregation
use Rattle.schema_rules.specs.contracts.aggregation.Aggregation.TheInside as AggregationInside
use Rattle.schema_rules.specs.contracts.lists.Lists as Lists
use Rattle.schema_rules.specs.contracts.lists.Lists.TheInside as ListsInside
use Rattle.schema_rules.specs.contracts.rules.Rules as Rules
use Rattle.schema_rules.specs.contracts.rules.Rules.TheInside as RulesInside

schema-send : IsSend Schema.the_row
schema-send = let inside : IsSend SchemaInside.the_row = declared_send SchemaInside.the_type (name_test-send, (search (own.crosses, sendable) depth 30, tt)) in search (inside, sendable) depth 10

schema-sync : IsSync Schema.the_row
schema-sync = let inside : IsSync SchemaInside.the_row = declared_sync SchemaInside.the_type (name_test-sync, (search (own.crosses, sendable) depth 30, tt)) in search (inside, sendable) depth 10

aggregation-send : IsSend Aggregation.the_row
aggregation-send =
    let inside : IsSend AggregationInside.the_row = declared_send AggregationInside.the_type (name_test-send, (search sendable, (search (own.crosses, sendable) depth 30, tt))) in search (inside, sendable) depth 10

aggregation-sync : IsSync Aggregation.the_row
aggregation-sync =
    let inside : IsSync AggregationInside.the_row = declared_sync AggregationInside.the_type (name_test-sync, (search sendable, (search (own.crosses, sendable) depth 30, tt))) in search (inside, sendable) depth 10

lists-send : IsSend Lists.the_row
lists-send =
    let inside : IsSend ListsInside.the_row = declared_send ListsInside.the_type (search (schema-send, schema-sync, own.crosses, sendable) depth 30, (search (aggregation-send, aggregation-sync, own.crosses, sendable) depth 30, tt)) in
    search (inside, sendable) depth 10

lists-sync : IsSync Lists.the_row
lists-sync =
    let inside : IsSync ListsInside.the_row = declared_sync ListsInside.the_type (search (schema-send, schema-sync, own.crosses, sendable) depth 30, (search (aggregation-send, aggregation-sync, own.crosses, sendable) depth 30, tt)) in
    search (inside, sendable) depth 10

pub rules-send : IsSend Rules.the_row
rules-send = let inside : IsSend RulesInside.the_row = declared_send RulesInside.the_type (search (lists-send, lists-sync, own.crosses, sendable) depth 30, tt) in search (inside, sendable) depth 10

pub rules-sync : IsSync Rules.the_row
rules-sync = let inside : IsSync RulesInside.the_row = declared_sync RulesInside.the_type (search (lists-send, lists-sync, own.crosses, sendable) depth 30, tt) in search (inside, sendable) depth 10
