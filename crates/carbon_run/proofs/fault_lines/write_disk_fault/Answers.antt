use Rattle.std.proofs.Common.{◌∙◌, ℕ, List, ◌++◌, decimal, subst}
use Rattle.std.specs.Prelude.{codes}
use Rattle.std.specs.Io.KnownBytes.{Appends}
use Rattle.outside_io.specs.Sink.{AppendsFront}
use Rattle.carbon_run.specs.Texts.{disk_fault_line, disk_fault_word}
use Rattle.carbon_run.proofs.FrontLemmas.{front_first, front_next, on_err_anyhow, on_err_more}
use Rattle.carbon_run.proofs.fault_lines.write_disk_fault.Goals as goal

pub returns-in_err-write_all-clause-prefix : goal.returns-in_err-write_all-clause-prefix
returns-in_err-write_all-clause-prefix g c =
    let before = g.K.Sink.written c.args.out.now in
    let mid = g.K.Sink.written c.write_disk_fault_word.new.out in
    let after = g.K.Sink.written c.write_all.new.out in
    let front = subst (λ (t : List ℕ). AppendsFront mid after t) (c.as_bytes.ensures.value ∙ c.format.ensures.text) c.in_err-write_all.ensures.prefix in
    on_err_anyhow c.from_residual-in_err-write_all.result (AppendsFront before after (disk_fault_line c.args.class))
    (front_next before mid after disk_fault_word (decimal c.args.class ++ codes "\n") c.in_ok-write_disk_fault_word.ensures.word (front_first mid after (decimal c.args.class) (codes "\n") front))

pub returns-clause-prefix : goal.returns-clause-prefix
returns-clause-prefix g c =
    let before = g.K.Sink.written c.args.out.now in
    let mid = g.K.Sink.written c.write_disk_fault_word.new.out in
    let later = g.K.Sink.written c.write_all.new.out in
    let after = g.K.Sink.written c.write_all-2.new.out in
    let wrote = subst (λ (t : List ℕ). Appends mid later t) (c.as_bytes.ensures.value ∙ c.format.ensures.text) c.in_ok-write_all.ensures.written in
    on_err_more c.write_all-2.result
    (λ front. front_next before mid after disk_fault_word (decimal c.args.class ++ codes "\n") c.in_ok-write_disk_fault_word.ensures.word (front_next mid later after (decimal c.args.class) (codes "\n") wrote front))
    c.write_all-2.ensures.prefix
