use Rattle.std.proofs.Common.{rules, ◌≡◌, ℕ, subst}
use Rattle.metric_path.specs.Class.{class_of}
use Rattle.shared_store.specs.Asking.{EndsAs}
use Rattle.shared_store.proofs.AskReadLemmas.{reads_one}
use Rattle.shared_store.proofs.store.Store.read_files.Goals as goal

pub returns : goal.returns
returns g c =
    let n = g.N.Named in
    let here : c.class-class.result ≡ class_of c.args.looked.now.path = search rules in
    reads_one n.start n.told n.passes c.args.looked.now c.read-read.result c.end_of.result c.args.pass.now c.read-read.new.pass
    (subst (λ (k : ℕ). EndsAs k c.read-read.result c.end_of.result) here c.end_of.ensures) c.read-read.ensures.reads
