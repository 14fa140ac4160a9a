use Rattle.size_classes.proofs.Table.{large_size, pages_by_shift, pages_bounds}
use Rattle.size_classes.proofs.classes.class_pages.Goals as goal

pub returns-clause-pages : goal.returns-clause-pages
returns-clause-pages c = rw (c.min.ensures, c.size_of-size.ensures.size) (pages_by_shift c.args.class c.requires)

pub returns-clause-at_least : goal.returns-clause-at_least
returns-clause-at_least c = rw (returns-clause-pages c) ((pages_bounds c.args.class c.requires).0)

pub returns-clause-at_most : goal.returns-clause-at_most
returns-clause-at_most c = rw (returns-clause-pages c) ((pages_bounds c.args.class c.requires).1)

pub returns-clause-large : goal.returns-clause-large
returns-clause-large c = λ large. rw (returns-clause-pages c) (large_size c.args.class large c.requires)
