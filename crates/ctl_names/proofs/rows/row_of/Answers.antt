use Rattle.std.proofs.Common.{arith}
use Rattle.ctl_names.proofs.Table.{row_same}
use Rattle.ctl_names.proofs.rows.row_of.Goals as goal

pub returns : goal.returns
returns c = row_same c.table.result c.args.name.row _ _ (omega arith) c.table.ensures
