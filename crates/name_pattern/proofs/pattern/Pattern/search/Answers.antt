use Rattle.std.proofs.Common.{◌≡◌, ℕ, List, sym, subst}
use Rattle.regex.specs.Patterns.{default_config, Reads}
use Rattle.regex.specs.Names.{names_of}
use Rattle.regex.specs.Strings.{regex_pattern, regex_source, regex_config, IsReadFromSource}
use Rattle.regex.specs.declared.string.regex.Regex.{Regex}
use Rattle.name_pattern.specs.Patterns.{SearchesFor}
use Rattle.name_pattern.proofs.PatternLemmas.{searches_for_text}
use Rattle.name_pattern.proofs.pattern.Pattern.search.Goals as goal

searches_in : (r : Regex) (text : List ℕ) → IsReadFromSource r → regex_config r ≡ default_config → text ≡ regex_source r → SearchesFor text (regex_pattern r)
searches_in r text reads config same =
    let read : Reads default_config (regex_source r) r.pattern.program.hir (names_of r.pattern.names.items) = rw config at reads in
    rw same (searches_for_text (regex_source r) r.pattern.program.hir (names_of r.pattern.names.items) read)

pub invariant_of-result : goal.invariant_of-result
invariant_of-result c =
    subst (SearchesFor c.args.self.now) (sym c.in_ok-matcher.ensures.pattern)
    (searches_in c.self.inside.regex c.args.self.now c.self.invariant.0 c.self.invariant.1 (sym c.self.view_is))
