use Rattle.region_table.proofs.table.take_out.Goals as goal

pub leave-requires-clause-apart : goal.leave-requires-clause-apart
leave-requires-clause-apart c = rw c.deref.ensures.value c.requires.apart
