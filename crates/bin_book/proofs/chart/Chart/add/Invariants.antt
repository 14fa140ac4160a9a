use Rattle.bin_book.proofs.Words.{◌≡◌, ◌<◌, ◌≤◌}
use Rattle.bin_book.proofs.Charting.{AreOwn, HasRun}
use Rattle.bin_book.proofs.chart.Chart.add.Given as goal

abbrev pub invariant-loop-page : goal.invariant-loop-page
invariant-loop-page l = record {
  firsts : l.self.firsts ≡ l.initial.self.firsts;
  own : AreOwn l.fn.self.pages.numbers l.self.pages.numbers l.slab.major l.pages l.slab.minor;
  run : 2 < l.fn.self.pages.spare → l.pages ≤ 512 → HasRun l.fn.self.pages l.self.pages l.slab.major l.slab.minor l.page;
}
