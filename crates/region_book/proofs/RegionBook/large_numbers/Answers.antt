use Rattle.region_book.proofs.Words.{ap, take, drop, ◌∙◌, regions_by_class}
use Rattle.region_book.proofs.RegionBook.large_numbers.Goals as goal

pub returns : goal.returns
returns c = c.copy_from_slice.ensures.after ∙ ap (λ ns. take 85 (drop 36 ns)) c.self.invariant.totals.classes ∙ ap (λ s. regions_by_class 36 85 s.regions) c.self.view_is
