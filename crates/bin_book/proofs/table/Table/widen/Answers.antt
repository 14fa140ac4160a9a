use Rattle.bin_book.proofs.Words.{refl, ap, arith, KeySet}
use Rattle.bin_book.proofs.Growing.{few_open, few_slabs_open, regions_grown, same_chart, slabs_grown, table_grown, table_roomy}
use Rattle.bin_book.proofs.table.Table.widen.Goals as goal

pub overflow_sub-all : goal.overflow_sub-all
overflow_sub-all c = omega (arith, few_open c.args.self.now c.requires.table c.len.ensures.ascending, few_slabs_open c.args.self.now)

pub returns-in_err-reserve-2-clause-table : goal.returns-in_err-reserve-2-clause-table
returns-in_err-reserve-2-clause-table c =
    let firsts = c.in_ok-reserve.ensures.ok in
    (table_roomy c.args.self.now _ c.requires.table c.reserve.ensures.keys (omega arith) c.reserve-2.ensures.keys (let same = ap (λ (s : KeySet). s.spare) c.in_err-reserve-2.ensures.err in omega arith) refl refl refl (omega arith) (same_chart c.args.self.now.chart)).0

pub returns-in_err-reserve-2-clause-slabs : goal.returns-in_err-reserve-2-clause-slabs
returns-in_err-reserve-2-clause-slabs c =
    slabs_grown c.args.self.now _ c.requires.table c.reserve.ensures.keys c.reserve-2.ensures.keys refl (λ n l. refl) (same_chart c.args.self.now.chart)

pub returns-in_err-reserve-3-clause-table : goal.returns-in_err-reserve-3-clause-table
returns-in_err-reserve-3-clause-table c =
    let firsts = c.in_ok-reserve.ensures.ok in
    let bins = c.in_ok-reserve-2.ensures.ok in
    let more = c.reserve-3.ensures.more in
    (table_roomy c.args.self.now (record c.args.self.now { firsts = c.reserve.new.self; bins = c.reserve-2.new.self; holders = c.reserve-3.new.self }) c.requires.table c.reserve.ensures.keys (omega arith) c.reserve-2.ensures.keys (omega arith) refl refl refl more (same_chart c.args.self.now.chart)).0

pub returns-in_err-reserve-3-clause-slabs : goal.returns-in_err-reserve-3-clause-slabs
returns-in_err-reserve-3-clause-slabs c =
    slabs_grown c.args.self.now _ c.requires.table c.reserve.ensures.keys c.reserve-2.ensures.keys refl (λ n l. refl) (same_chart c.args.self.now.chart)

pub returns-in_err-reserve-3-clause-regions : goal.returns-in_err-reserve-3-clause-regions
returns-in_err-reserve-3-clause-regions c =
    regions_grown c.args.self.now c.requires.table _ _ _ c.reserve.ensures.keys (λ n l. refl) c.reserve-3.ensures.kept

pub returns-clause-regions : goal.returns-clause-regions
returns-clause-regions c = regions_grown c.args.self.now c.requires.table _ _ _ c.reserve.ensures.keys c.add_slots.ensures.kept c.reserve-3.ensures.kept

pub returns-clause-table : goal.returns-clause-table
returns-clause-table c =
    let firsts = c.in_ok-reserve.ensures.ok in
    let bins = c.in_ok-reserve-2.ensures.ok in
    let slots = c.add_slots.ensures in
    let all = c.requires.all in
    let chart = c.requires.chart in
    let held = c.in_ok-reserve-3.ensures.ok in
    let most = slots.most in
    let few = few_open c.args.self.now c.requires.table c.len.ensures.ascending in
    let few' = few_slabs_open c.args.self.now in
    table_grown c.args.self.now _ c.requires.table c.reserve.ensures.keys c.reserve-2.ensures.keys refl slots.kept (same_chart c.args.self.now.chart) slots.more slots.free slots.places (omega arith) (slots.room c.requires.table.room) (omega arith) (omega arith) (omega arith) (omega arith)

pub returns-clause-slabs : goal.returns-clause-slabs
returns-clause-slabs c = slabs_grown c.args.self.now _ c.requires.table c.reserve.ensures.keys c.reserve-2.ensures.keys refl c.add_slots.ensures.kept (same_chart c.args.self.now.chart)
