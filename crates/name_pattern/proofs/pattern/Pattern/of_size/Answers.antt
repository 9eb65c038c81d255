use Rattle.std.proofs.Common.{◌≡◌, ◌≢◌, true, false, ℕ, List, Some, ap, rules, refl}
use Rattle.regex.specs.Patterns.{default_config, Reads}
use Rattle.regex.specs.Names.{names_of}
use Rattle.regex.specs.Strings.{regex_source, regex_config, IsReadFromSource}
use Rattle.regex.specs.declared.string.regex.Regex.{Regex}
use Rattle.regex_syntax.specs.declared.error.ErrorKind.TheVariants.{OutOfMemory}
use Rattle.name_pattern.specs.Patterns.{is_readable}
use Rattle.name_pattern.proofs.PatternLemmas.{readable, not_readable}
use Rattle.name_pattern.proofs.pattern.Pattern.of_size.Goals as goal

read_by : (r : Regex) (text : List ℕ) → IsReadFromSource r → regex_config r ≡ default_config → regex_source r ≡ text → is_readable text ≡ true
read_by r text reads config same =
    let read : Reads default_config (regex_source r) r.pattern.program.hir (names_of r.pattern.names.items) = rw config at reads in
    rw (← same) (readable (regex_source r) r.pattern.program.hir (names_of r.pattern.names.items) read)

pub returns-in-Ok : goal.returns-in-Ok
returns-in-Ok c =
    rw (read_by c.in-Ok.regex c.args.text.now c.in-Ok.ensures.read c.in-Ok.ensures.config c.in-Ok.ensures.source) (ap Some c.in-Ok.ensures.source)

pub returns-in-Err-Syntax : goal.returns-in-Err-Syntax
returns-in-Err-Syntax c =
    let other : c.in-Err-Syntax.field-0-0.kind ≢ OutOfMemory = search rules in
    let unreadable : is_readable c.args.text.now ≡ false = not_readable c.args.text.now c.in-Err-Syntax.field-0-0.kind other (c.in-Err-Syntax.ensures.by_grammar c.in-Err-Syntax.field-0-0 c.in-Err-Syntax.field-0-is) in
    rw unreadable refl
