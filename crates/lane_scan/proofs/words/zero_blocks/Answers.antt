use Rattle.std.proofs.Common.{◌∙◌, ◌+◌, ◌≤◌, not, eqb, length, sym, arith, w64}
use Rattle.std.proofs.lemmas.Bool.Decides.{nat_tests}
use Rattle.std.proofs.lemmas.Simd.{bitmask_splat, length-chunk, none_from_empty_mask}
use lib.Lanes.{chunk}
use Rattle.lane_scan.proofs.words.zero_blocks.Goals as goal

pub loop-at-preserved : goal.loop-at-preserved
loop-at-preserved c =
    let ws = c.args.words.now in
    let at = c.loop-at.at in
    let room : at + 8 ≤ length ws = omega arith in
    let mask = bitmask_splat w64 (λ a b. not (eqb a b)) (chunk at 8 ws) 8 0 (length-chunk at 8 ws room) (omega arith) in
    let none = none_from_empty_mask (λ a. not (eqb a 0)) ws at 8 0 room (sym mask ∙ c.if-words-at-ne0.false) in
    record { within = room; zero = λ k lt. grind (arith, nat_tests, c.loop-at.invariant.zero k, none k) }
