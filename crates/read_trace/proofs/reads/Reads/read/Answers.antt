use Rattle.read_trace.proofs.reads.Reads.read.Goals as goal

pub returns-clause-noted : goal.returns-clause-noted
returns-clause-noted g c = record {
  note = record { before = c.of-before.result; after = c.of-after.result };
  was = c.of-before.ensures;
  is = c.of-after.ensures;
  noted = cc (c.add.ensures, c.self.view_is);
}
