use Rattle.std.proofs.lemmas.Bool.Decides.{nat_tests}
use Rattle.std.proofs.Common.{◌≡◌, ◌-◌, [], vec_len, arith}
use Rattle.age_ring.specs.Links.{walk}
use Rattle.age_ring.proofs.AgeRing.new.Goals as goal

pub invariant_of-result : goal.invariant_of-result
unfolding walk
invariant_of-result c = grind (arith, nat_tests)

pub returns : goal.returns
unfolding walk
returns c = let none : vec_len c.new.result - 1 ≡ 0 = omega arith in λ i. record { numbers = []; places = none i }
