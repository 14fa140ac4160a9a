use Rattle.std.proofs.Common.{arith, ℕ, length-drop}
use Rattle.std.proofs.lemmas.List.{take_rest}
use Rattle.line_reader.proofs.Breaks.{line_at, lines_of-long, long_at, none_in_all}
use Rattle.line_reader.proofs.lines.line_in.Goals as goal

pub returns-in-Some-clause-first : goal.returns-in-Some-clause-first
returns-in-Some-clause-first c =
    let found = rw (take_rest c.args.bytes.now c.args.seen) at c.in-Some.ensures in (
      omega arith,
      omega (arith, found.0.high, length-drop {A = ℕ}),
      line_at c.args.bytes.now c.args.seen c.in-Some.place c.requires.none found.0 found.1,
    )

pub returns-in-None-clause-none : goal.returns-in-None-clause-none
returns-in-None-clause-none c same =
    (omega arith, none_in_all c.args.bytes.now c.args.seen c.requires.none (rw (take_rest c.args.bytes.now c.args.seen) at c.in-None.ensures))

pub returns-in_default-clause-first : goal.returns-in_default-clause-first
returns-in_default-clause-first c more =
    let found = rw (take_rest c.args.bytes.now c.args.seen) at c.in-Some.ensures in
    long_at c.args.most c.args.bytes.now c.args.seen c.in-Some.place c.requires.none found.0 found.1 c.requires.seen (omega arith) more

pub returns-in_default-2-clause-first : goal.returns-in_default-2-clause-first
returns-in_default-2-clause-first c more =
    let none = rw (take_rest c.args.bytes.now c.args.seen) at c.in-None.ensures in
    lines_of-long c.args.most c.args.bytes.now more (none_in_all c.args.bytes.now c.args.seen c.requires.none none) (omega arith)
