use Rattle.part_book.proofs.PartBook.join.Goals as goal

pub returns-clause-parts : goal.returns-clause-parts
returns-clause-parts c = rw (c.at-first.ensures.at, c.at-second.ensures.at, ← c.at-first.ensures.first, ← c.at-second.ensures.first) c.merge.ensures.parts
