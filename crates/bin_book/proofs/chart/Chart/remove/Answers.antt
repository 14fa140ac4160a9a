use Rattle.bin_book.proofs.Charting.{none_cleared, only_cleared}
use Rattle.bin_book.proofs.chart.Chart.remove.Goals as goal

pub loop-page-preserved : goal.loop-page-preserved
loop-page-preserved c =
    let i = c.loop-page.invariant in
    let m = c.loop-page.self.pages.numbers in
    rw c.clear.ensures (record {
      firsts = i.firsts;
      none = λ page low l. none_cleared m c.loop-page.page page (i.none page low) l;
      only = λ page n e. i.only page n (only_cleared m c.loop-page.page page n e);
    })
