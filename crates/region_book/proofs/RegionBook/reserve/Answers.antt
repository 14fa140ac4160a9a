use Rattle.region_book.proofs.Words.{refl}
use Rattle.region_book.proofs.Answered.{book_again}
use Rattle.region_book.proofs.RegionBook.reserve.Goals as goal

pub invariant_of-self : goal.invariant_of-self
invariant_of-self c = book_again c.self.invariant refl c.reserve.ensures.regions refl

pub invariant_of-self-2 : goal.invariant_of-self-2
invariant_of-self-2 c = book_again c.self.invariant c.reserve-2.ensures.regions c.reserve.ensures.regions refl
