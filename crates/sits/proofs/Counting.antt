-- Regions that are had among those that there are: as many, or no more.
use Rattle.sits.proofs.Words.{◌≡◌, ◌+◌, ℕ, Bool, arith, IsOf}

-- just as many
pub as_many : {together : Bool} {had there : ℕ} → had ≡ there → IsOf together had there
as_many same = record { within = omega (arith, same); all = λ e. same }

-- both change alike
pub shifts : {together : Bool} {had there had' there' : ℕ} → IsOf together had there → had + there' ≡ had' + there → IsOf together had' there'
shifts is even = record { within = (let few = is.within in omega (arith, few, even)); all = λ e. let same = is.all e in omega (arith, same, even) }

-- some of some
pub through : {together : Bool} {had there all : ℕ} → IsOf together had there → IsOf together there all → IsOf together had all
through one two = record {
  within = (let first = one.within in let second = two.within in omega (arith, first, second));
  all = λ e. let first = one.all e in let second = two.all e in omega (arith, first, second);
}
