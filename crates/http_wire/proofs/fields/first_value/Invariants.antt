use Rattle.std.proofs.Common.{◌≡◌, drop, map}
use Rattle.std.specs.List.{find}
use Rattle.httparse.specs.Spans.{header_bytes}
use Rattle.http_wire.specs.Fields.{is_named}
use Rattle.http_wire.proofs.fields.first_value.Given as goal

abbrev pub invariant-loop-header : goal.invariant-loop-header
invariant-loop-header l =
    find (is_named l.name) (map (header_bytes l.bytes) (drop l.header-index l.headers)) ≡ find (is_named l.name) (map (header_bytes l.bytes) l.headers)
