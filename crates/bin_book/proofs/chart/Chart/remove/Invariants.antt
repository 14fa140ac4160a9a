use Rattle.bin_book.proofs.Words.{◌≡◌, ℕ, ◌<◌, ◌≤◌, None, Some}
use Rattle.std.specs.FinMap as map_of
use Rattle.bin_book.proofs.chart.Chart.remove.Given as goal

abbrev pub invariant-loop-page : goal.invariant-loop-page
invariant-loop-page l = record {
  firsts : l.self.firsts ≡ l.fn.self.firsts;
  none : (page : ℕ) → l.first ≤ page → page < l.page → map_of.get l.self.pages.numbers page ≡ None;
  only : (page number : ℕ) → map_of.get l.self.pages.numbers page ≡ Some number → map_of.get l.fn.self.pages.numbers page ≡ Some number;
}
