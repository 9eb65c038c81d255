use Rattle.std.proofs.Common.{sym, ap, ◌∙◌, arith}
use Rattle.std.specs.Prelude.{option_map}
use Rattle.journal_form.specs.Parts.{record_of}
use Rattle.journal_form.proofs.RecordLemmas.{record_read, legal_record}
use Rattle.journal_form.proofs.reading.read_record.Goals as goal

pub made_record-requires : goal.made_record-requires
made_record-requires c =
    let found = sym c.record_parts.ensures ∙ ap (option_map (λ x. (record_of x.0, x.1.now))) c.in-Some.is in
    legal_record _ (record_read c.args.bytes.now (record_of c.in-Some.parts, c.in-Some.rest.now) (λ i. omega (arith, c.type_inv.bytes i)) found).0
