use Rattle.part_book.proofs.Words.{◌≡◌, ◌<◌, Some, sym, ap, ◌∙◌, subst, arith, true, nat_tests, pages_of_rows, rows_of}
use Rattle.part_book.proofs.Fitting.{IsWalk, begins, fits, goes_on, none_after, none_at_start, none_fits, none_of_others, serves, serves_both, serves_not, too_few}
use Rattle.part_book.proofs.Indexes.{slot_of, small_numbers}
use Rattle.part_book.proofs.Rowed.{pages_most}
use Rattle.part_book.proofs.Walks.{fewer_above}
use Rattle.part_book.proofs.table.Table.fit_of.Goals as goal

pub returns-then-list_of-pages : goal.returns-then-list_of-pages
returns-then-list_of-pages c =
    let t = c.args.self.now in
    let i = c.requires.table in
    let pages = c.list_of.ensures.pages in
    let few : pages_of_rows c.args.rest (rows_of t) < c.args.pages = grind (arith, nat_tests) in
    sym (too_few c.args.rest (rows_of t) t.sizes.keys c.args.pages c.args.align i.indexes.apart (small_numbers t (rows_of t) i.slots) i.indexes.lists.sizes c.requires.aligned few)

pub overflow_add-start : goal.overflow_add-start
overflow_add-start c = grind (arith, nat_tests, pages_most)

pub returns-in_err-size : goal.returns-in_err-size
returns-in_err-size c =
    let t = c.args.self.now in
    let i = c.requires.table in
    let none = none_at_start c.rank-rank.result c.args.pages c.args.align t.sizes.keys c.requires.aligned (sym c.in_err-size.ensures.found) in
    c.from_residual.ensures ∙ sym (none_fits c.args.rest (rows_of t) t.sizes.keys c.args.pages c.args.align i.indexes.apart (small_numbers t (rows_of t) i.slots) i.indexes.lists.sizes c.requires.aligned (rw c.rank-rank.ensures.value at none))

pub loop-size-init : goal.loop-size-init
loop-size-init c = begins c.rank-rank.result c.args.pages c.args.align c.args.self.now.sizes.keys c.in_ok-size.size c.requires.aligned c.at_or_after.ensures.ascending (sym c.in_ok-size.ensures.found)

pub part_at-requires : goal.part_at-requires
part_at-requires c =
    let t = c.args.self.now in
    let i = c.requires.table in
    let r = c.rank-rank.ensures.value in
    let yes = serves_both c.rank-rank.result c.args.pages c.args.align c.loop-size.size c.loop-size-test.true (sym c.holds_run.ensures ∙ c.if-holds_run.true) in
    let p = fits c.args.rest (rows_of t) t.sizes.keys c.args.pages c.args.align i.indexes.apart (small_numbers t (rows_of t) i.slots) i.indexes.lists.sizes c.requires.aligned c.loop-size.size
    (subst (λ n. IsWalk t.sizes.keys c.loop-size.size n c.args.pages c.args.align) r c.loop-size.invariant) (subst (λ n. serves n c.args.pages c.args.align c.loop-size.size ≡ true) r yes) in
    (slot_of t (rows_of t) p.0 i p.1 p.2).0

pub returns-then-holds_run : goal.returns-then-holds_run
returns-then-holds_run c =
    let t = c.args.self.now in
    let i = c.requires.table in
    let r = c.rank-rank.ensures.value in
    let yes = serves_both c.rank-rank.result c.args.pages c.args.align c.loop-size.size c.loop-size-test.true (sym c.holds_run.ensures ∙ c.if-holds_run.true) in
    let p = fits c.args.rest (rows_of t) t.sizes.keys c.args.pages c.args.align i.indexes.apart (small_numbers t (rows_of t) i.slots) i.indexes.lists.sizes c.requires.aligned c.loop-size.size
    (subst (λ n. IsWalk t.sizes.keys c.loop-size.size n c.args.pages c.args.align) r c.loop-size.invariant) (subst (λ n. serves n c.args.pages c.args.align c.loop-size.size ≡ true) r yes) in
    ap (λ q. Some q) (c.part_at.ensures ∙ (slot_of t (rows_of t) p.0 i p.1 p.2).1) ∙ sym p.3

pub returns-in_err-size-2 : goal.returns-in_err-size-2
returns-in_err-size-2 c =
    let t = c.args.self.now in
    let i = c.requires.table in
    let no = serves_not c.rank-rank.result c.args.pages c.args.align c.loop-size.size (sym c.holds_run.ensures ∙ c.if-holds_run.false) in
    let none = none_after c.rank-rank.result c.args.pages c.args.align t.sizes.keys c.loop-size.size c.loop-size.invariant no (sym c.in_err-size-2.ensures.found) in
    c.from_residual-in_err-size-2.ensures ∙ sym (none_fits c.args.rest (rows_of t) t.sizes.keys c.args.pages c.args.align i.indexes.apart (small_numbers t (rows_of t) i.slots) i.indexes.lists.sizes c.requires.aligned (rw c.rank-rank.ensures.value at none))

pub loop-size-smaller : goal.loop-size-smaller
loop-size-smaller c = fewer_above c.args.self.now.sizes.keys c.loop-size.size c.in_ok-size-2.size c.after.ensures.ascending (sym c.in_ok-size-2.ensures.found)

pub loop-size-preserved : goal.loop-size-preserved
loop-size-preserved c = grind (arith, nat_tests, goes_on, serves_not)

pub returns : goal.returns
returns c =
    let t = c.args.self.now in
    let i = c.requires.table in
    let none = none_of_others c.rank-rank.result c.args.pages c.args.align t.sizes.keys c.loop-size.size c.loop-size.invariant c.loop-size-test.false in
    sym (none_fits c.args.rest (rows_of t) t.sizes.keys c.args.pages c.args.align i.indexes.apart (small_numbers t (rows_of t) i.slots) i.indexes.lists.sizes c.requires.aligned (rw c.rank-rank.ensures.value at none))
