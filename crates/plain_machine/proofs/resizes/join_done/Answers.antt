use Rattle.std.proofs.Common.{◌∙◌, sym, arith}
use Rattle.plain_machine.proofs.Words.{IsPlaced, is_flight_at}
use Rattle.space_model.proofs.Pieces.{found_fits}
use Rattle.plain_machine.proofs.Bounds.{home_placed}
use Rattle.plain_machine.proofs.resizes.join_done.Goals as goal

pub widen_by-requires : goal.widen_by-requires
widen_by-requires c =
    let low : IsPlaced c.in-Some-Some.low.span =
    home_placed c.args.space.now c.args.client _ (c.in-Some-Some.region, c.in-Some-Some.low) c.requires.sound (sym c.large_home-home.ensures ∙ c.in-Some-Some.is-0) in
    let high : IsPlaced c.in-Some-Some.high.span =
    (found_fits c.args.space.now (is_flight_at c.args.client c.in-Merge.high) c.in-Some-Some.high c.requires.sound
    (rw c.as_slice.ensures at (sym c.flight-found.ensures ∙ c.in-Some-Some.is-1))).placed in
    omega (arith, low.2, high.2)
