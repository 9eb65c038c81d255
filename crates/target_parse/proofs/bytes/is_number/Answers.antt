use Rattle.std.proofs.Common.{◌≡◌, Err, sym, ap, ◌∙◌}
use Rattle.fixed_num.specs.declared.NumFault.{NumFault}
use Rattle.fixed_num.specs.declared.NumFault.TheVariants.{NotNumber, NotFinite, OutOfRange}
use Rattle.target_parse.proofs.ReadLemmas.{is_of_number, read_tells}
use Rattle.target_parse.proofs.bytes.is_number.Goals as goal

pub returns-in-Err-OutOfRange : goal.returns-in-Err-OutOfRange
returns-in-Err-OutOfRange c =
    let told : c.read_milli.result ≡ Err OutOfRange = c.in-Err-OutOfRange.is ∙ ap (λ (f : NumFault). Err f) c.in-Err-OutOfRange.field-0-is in
    sym (ap is_of_number told) ∙ ap is_of_number c.read_milli.ensures.value ∙ read_tells c.args.text.now

pub returns-in-Err-NotFinite : goal.returns-in-Err-NotFinite
returns-in-Err-NotFinite c =
    let told : c.read_milli.result ≡ Err NotFinite = c.in-Err-NotFinite.is ∙ ap (λ (f : NumFault). Err f) c.in-Err-NotFinite.field-0-is in
    sym (ap is_of_number told) ∙ ap is_of_number c.read_milli.ensures.value ∙ read_tells c.args.text.now

pub returns-in-Err-NotNumber : goal.returns-in-Err-NotNumber
returns-in-Err-NotNumber c =
    let told : c.read_milli.result ≡ Err NotNumber = c.in-Err-NotNumber.is ∙ ap (λ (f : NumFault). Err f) c.in-Err-NotNumber.field-0-is in
    sym (ap is_of_number told) ∙ ap is_of_number c.read_milli.ensures.value ∙ read_tells c.args.text.now
