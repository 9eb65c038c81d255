use Rattle.std.proofs.Common.{◌∙◌, ap, map, subst}
use Rattle.std.specs.Prelude.{string_bytes, IfOk}
use Rattle.clap.specs.Words.{App, FailsBy, HasMatchesOf, fault_of, is_simple_and_free}
use Rattle.carbon_words.proofs.ParseLemmas.{found, refused, simple_and_free}
use Rattle.carbon_words.proofs.reading.parse.Goals as goal

pub returns : goal.returns
returns c =
    let words = map string_bytes c.args.words.now in
    let parse = c.try_get_matches_from in
    let is = c.in_ok-carbon.ensures in
    let fails = subst (λ (a : App). FailsBy (fault_of a words) parse.result) is (parse.ensures.kinds (ap is_simple_and_free is ∙ simple_and_free)) in
    let has = subst (λ (a : App). IfOk parse.result (HasMatchesOf a words)) is parse.ensures.matches in
    record { ok = found words parse.result fails has; err = refused words parse.result fails }
