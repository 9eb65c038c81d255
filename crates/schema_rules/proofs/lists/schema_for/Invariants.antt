use Rattle.std.proofs.Common.{◌≡◌, drop}
use Rattle.schema_rules.specs.LayoutBy.{schema_for}
use Rattle.schema_rules.proofs.lists.schema_for.Given as goal

abbrev pub invariant-loop-schema : goal.invariant-loop-schema
invariant-loop-schema l = schema_for l.schemas l.path ≡ schema_for (drop l.schema-index l.schemas) l.path
