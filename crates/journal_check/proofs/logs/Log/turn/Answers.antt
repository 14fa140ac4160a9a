use Rattle.std.proofs.Common.{◌<◌, ap, length, arith}
use Rattle.journal_check.specs.Logs.{all_entries}
use Rattle.journal_check.proofs.Totals.{turned_entries, turned_log}
use Rattle.journal_check.proofs.logs.Log.turn.Goals as goal

pub invariant_of-self-2 : goal.invariant_of-self-2
invariant_of-self-2 c =
    let log = c.self.inside.arenas.items in
    let within : c.args.index < length log = omega (arith, c.self.invariant.number, c.requires.index) in
    turned_log log c.args.index c.index_mut-arena.result.now c.enter.new.self c.args.entry.now c.self.inside.entries within c.index_mut-arena.ensures.value c.in_ok-enter.ensures.ok c.self.invariant

pub returns-clause-count : goal.returns-clause-count
returns-clause-count c =
    let log = c.self.inside.arenas.items in
    let within : c.args.index < length log = omega (arith, c.self.invariant.number, c.requires.index) in
    omega (arith, turned_entries log c.args.index c.index_mut-arena.result.now c.enter.new.self c.args.entry.now within c.index_mut-arena.ensures.value c.in_ok-enter.ensures.ok, ap all_entries c.self.view_is)
