use Rattle.std.proofs.Common.{mul_comm}
use Rattle.size_classes.specs.Classes.{pages_at}
use Rattle.size_classes.proofs.Table.{slab_filled}
use Rattle.size_classes.proofs.classes.slab_regions.Goals as goal

pub returns-clause-at_least : goal.returns-clause-at_least
returns-clause-at_least c =
    rw (c.class_pages.ensures.pages, c.size_of.ensures.size, mul_comm (pages_at c.args.class) 4096)
    ((slab_filled c.args.class c.requires).1)

pub returns-clause-at_most : goal.returns-clause-at_most
returns-clause-at_most c =
    rw (c.class_pages.ensures.pages, c.size_of.ensures.size, mul_comm (pages_at c.args.class) 4096)
    ((slab_filled c.args.class c.requires).2)

pub returns-clause-filled : goal.returns-clause-filled
returns-clause-filled c =
    rw (c.class_pages.ensures.pages, c.size_of.ensures.size, mul_comm (pages_at c.args.class) 4096)
    ((slab_filled c.args.class c.requires).0)
