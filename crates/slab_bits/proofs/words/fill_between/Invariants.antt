use Rattle.std.proofs.Common.{◌≡◌, ℕ, ◌*◌, ◌<◌, ◌&&◌, false, leb, ltb, length, get_or}
use Rattle.lane_scan.specs.Bits.{bits_of}
use Rattle.slab_bits.proofs.words.fill_between.Given as goal

abbrev pub invariant-loop-i : goal.invariant-loop-i
invariant-loop-i l = (length l.words ≡ 8) × ((m : ℕ) → m < 64 * l.i → get_or (bits_of l.words) m false ≡ (leb l.from m && ltb m l.to))
