use Rattle.region_book.proofs.Words.{ap, take, ◌∙◌, regions_by_class}
use Rattle.region_book.proofs.RegionBook.small_numbers.Goals as goal

pub returns : goal.returns
returns c = c.copy_from_slice.ensures.after ∙ ap (take 36) c.self.invariant.totals.classes ∙ ap (λ s. regions_by_class 0 36 s.regions) c.self.view_is
