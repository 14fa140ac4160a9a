use Rattle.part_book.proofs.Words.{arith, ◌/◌, ◌^◌, nat_tests}
use Rattle.part_book.proofs.Fitting.{next_multiple}
use Rattle.part_book.proofs.rows.holds_run.Goals as goal

pub returns-then-skipped-held : goal.returns-then-skipped-held
returns-then-skipped-held c =
    let next = next_multiple (c.args.key.minor / 2 ^ 32) c.args.align c.pages_to_multiple-skipped.result c.requires c.pages_to_multiple-skipped.ensures.multiple c.pages_to_multiple-skipped.ensures.least in
    grind (arith, nat_tests)
