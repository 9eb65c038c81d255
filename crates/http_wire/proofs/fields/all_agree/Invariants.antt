use Rattle.std.proofs.Common.{◌≡◌, drop, map}
use Rattle.std.specs.List.{list_all}
use Rattle.httparse.specs.Spans.{header_bytes}
use Rattle.http_wire.specs.Fields.{agrees}
use Rattle.http_wire.proofs.fields.all_agree.Given as goal

abbrev pub invariant-loop-header : goal.invariant-loop-header
invariant-loop-header l =
    list_all (agrees l.said) (map (header_bytes l.bytes) (drop l.header-index l.headers)) ≡ list_all (agrees l.said) (map (header_bytes l.bytes) l.headers)
