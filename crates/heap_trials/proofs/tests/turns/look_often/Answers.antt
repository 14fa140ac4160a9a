use Rattle.heap_shared.proofs.Words.{◌≡◌, ◌<◌, ◌&&◌, Bool, IsTrue, true, nat_lt, arith, refl, sym, subst, nat_tests, number}
use Rattle.heap_trials.proofs.tests.turns.look_often.Goals as goal

pub turn-requires-clause-may : goal.turn-requires-clause-may
unfolding lib.Count.ones
turn-requires-clause-may g c = (
  (λ no. cc),
  λ s sound same.
      let client : number c.loop.pass < 32 = (let a = c.requires.client in let b = c.loop.invariant.2 in omega arith) in
      let below : nat_lt (number c.loop.pass) 32 ≡ true = grind (arith, nat_tests) in
      subst (λ (b : Bool). IsTrue (b && true)) (sym below) refl,
  tt,
)
