use Rattle.std.proofs.Common.{◌/◌, ◌%◌, eqb, get_or, sym, ap, ◌∙◌}
use Rattle.std.proofs.lemmas.Nat.Bits.{shr_and_one}
use Rattle.lane_scan.proofs.BitLemmas.{get_or-bits_of}
use Rattle.lane_scan.proofs.bits.has_bit.Goals as goal

pub returns : goal.returns
returns c =
    let word = get_or c.args.words.now (c.args.place / 64) 0 in
    ap (λ n. eqb n 1) (shr_and_one word (c.args.place % 64)) ∙ sym (get_or-bits_of c.args.words.now c.args.place)
