-- Past the table of the classes no class has bytes.
use Rattle.std.proofs.Common.{◌≡◌, ℕ, ◌≤◌, arith}
use Rattle.std.proofs.lemmas.List.{get_or_past}
use Rattle.size_classes.specs.Classes.{class_sizes, size_at}
use Rattle.size_classes.proofs.Table.{length-class_sizes}

-- a class that isn't in the table has size 0
pub size_past : (class : ℕ) → 121 ≤ class → size_at class ≡ 0
size_past class past = get_or_past class_sizes class 0 (omega (arith, length-class_sizes))
