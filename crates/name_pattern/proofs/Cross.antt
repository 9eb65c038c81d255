-- Patterns may cross threads, and be shared between them.
use Rattle.std.proofs.Crossing as own
use Rattle.std.proofs.MapsCrossing as maps
use denote.Param.Send.{IsSync, IsSend, sendable}
use denote.Param.SendFields.{declared_sync, declared_send}
use Rattle.regex.below.regex_hir.proofs.hir.Hir.TheLaws.TheKnot as hir
use Rattle.regex.below.regex_extract.proofs.frames.Frame.TheSendSync as frame
use Rattle.regex.below.regex_literal.proofs.prefilter.Prefilter.TheSendSync as prefilter
use Rattle.regex.below.regex_literal.proofs.ladder.Ladder.TheSendSync as ladder
use Rattle.regex.below.regex_literal.proofs.caseless.Caseless.TheSendSync as caseless
use Rattle.regex.below.regex_meta.proofs.plan.Role.TheSendSync as role
use Rattle.regex.below.regex_meta.specs.contracts.program.Program as Program
use Rattle.regex.specs.contracts.pattern.Pattern as Compiled
use Rattle.regex.specs.contracts.string.regex.Regex as Regex
use Rattle.name_pattern.specs.contracts.pattern.Pattern as Pattern
use Rattle.name_pattern.specs.contracts.pattern.Pattern.TheInside as PatternInside
use Rattle.name_pattern.specs.contracts.plain.Plain as Plain
use Rattle.name_pattern.specs.contracts.name_test.Steps as Steps
use Rattle.name_pattern.specs.contracts.name_test.NameTest as NameTest
use Rattle.name_pattern.specs.contracts.name_test.NameTest.TheInside as NameTestInside

ruleset parts = (frame.the_send, frame.the_sync, prefilter.the_send, prefilter.the_sync, ladder.the_send, ladder.the_sync, caseless.the_send, caseless.the_sync, role.the_send, role.the_sync, own.crosses, maps.crosses, hir.crosses, sendable)

program-sync : IsSync Program.the_row
program-sync =
    declared_sync Program.the_type (search parts depth 60 fits 20000, (search parts depth 60 fits 20000, (search parts depth 60 fits 20000, (search parts depth 60 fits 20000, (search parts depth 60 fits 20000, (search parts depth 60 fits 20000, (search parts depth 60 fits 20000, (search parts depth 60 fits 20000, tt))))))))

program-send : IsSend Program.the_row
program-send =
    declared_send Program.the_type (search parts depth 60 fits 20000, (search parts depth 60 fits 20000, (search parts depth 60 fits 20000, (search parts depth 60 fits 20000, (search parts depth 60 fits 20000, (search parts depth 60 fits 20000, (search parts depth 60 fits 20000, (search parts depth 60 fits 20000, tt))))))))

compiled-sync : IsSync Compiled.the_row
compiled-sync = declared_sync Compiled.the_type (search parts depth 60 fits 20000, (search parts depth 60 fits 20000, (search parts depth 60 fits 20000, (program-sync, tt))))

compiled-send : IsSend Compiled.the_row
compiled-send = declared_send Compiled.the_type (search parts depth 60 fits 20000, (search parts depth 60 fits 20000, (search parts depth 60 fits 20000, (program-send, tt))))

regex-sync : IsSync Regex.the_row
regex-sync = declared_sync Regex.the_type (compiled-sync, tt)

regex-send : IsSend Regex.the_row
regex-send = declared_send Regex.the_type (compiled-send, tt)

pub pattern-send : IsSend Pattern.the_row
pattern-send = let inside : IsSend PatternInside.the_row = declared_send PatternInside.the_type (regex-send, tt) in search (inside, sendable) depth 10

pub pattern-sync : IsSync Pattern.the_row
pattern-sync = let inside : IsSync PatternInside.the_row = declared_sync PatternInside.the_type (regex-sync, tt) in search (inside, sendable) depth 10

plain-send : IsSend Plain.the_row
plain-send = declared_send Plain.the_type (search parts depth 60 fits 20000, (search parts depth 60 fits 20000, (search parts depth 60 fits 20000, tt)))

plain-sync : IsSync Plain.the_row
plain-sync = declared_sync Plain.the_type (search parts depth 60 fits 20000, (search parts depth 60 fits 20000, (search parts depth 60 fits 20000, tt)))

steps-send : IsSend Steps.the_row
steps-send = declared_send Steps.the_type (search parts depth 60 fits 20000, (search parts depth 60 fits 20000, (search (plain-send, parts) depth 60 fits 20000, tt)))

steps-sync : IsSync Steps.the_row
steps-sync = declared_sync Steps.the_type (search parts depth 60 fits 20000, (search parts depth 60 fits 20000, (search (plain-sync, parts) depth 60 fits 20000, tt)))

pub name_test-send : IsSend NameTest.the_row
name_test-send = let inside : IsSend NameTestInside.the_row = declared_send NameTestInside.the_type (pattern-send, (steps-send, tt)) in search (inside, sendable) depth 10

pub name_test-sync : IsSync NameTest.the_row
name_test-sync = let inside : IsSync NameTestInside.the_row = declared_sync NameTestInside.the_type (pattern-sync, (steps-sync, tt)) in search (inside, sendable) depth 10
