use Rattle.bin_book.proofs.Words.{arith, HasPage}
use Rattle.bin_book.proofs.Charting.{longer_run, own_set, some_leaf}
use Rattle.bin_book.proofs.chart.Chart.add.Goals.{then-spare-gt0, else-spare-gt0}
use Rattle.bin_book.proofs.chart.Chart.add.Goals as goal

pub loop-page-preserved : goal.loop-page-preserved
loop-page-preserved c =
    let i = c.loop-page.invariant in
    let old = c.args.self.now.pages in
    let now = c.loop-page.self.pages in
    let first = c.args.slab.major in
    let slab = c.args.slab.minor in
    let page = c.loop-page.page in
    let from = c.loop-page.auto.page in
    let has : HasPage first c.args.pages page = (from, omega (arith, c.loop-page-test.true, c.min-page-end.ensures)) in
    elim c.if-spare-gt0.branch [
      | then-spare-gt0 w ↦
          let set = w.set.ensures in
          rw w.self-is (record {
            firsts = i.firsts;
            own = rw set.number (own_set old.numbers now.numbers first c.args.pages slab page i.own has);
            run = λ some few. longer_run old now w.set.new.self first slab page (i.run some few) from (omega (arith, w.if-spare-gt0.true, c.spare.ensures)) set.number set.leaf set.spare;
          })
      | else-spare-gt0 w ↦
          rw w.self-is (record {
            firsts = i.firsts;
            own = i.own;
            run = λ some few. absurd (let leaf = some_leaf old now first slab page (i.run some few) some (omega (arith, has.1)) in omega (arith, w.if-spare-gt0.false, c.spare.ensures));
          })
    ]
