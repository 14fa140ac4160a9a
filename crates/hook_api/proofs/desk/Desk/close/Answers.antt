use Rattle.hook_api.proofs.Words.{◌≡◌, ◌≢◌, ℕ, get_or, refl, rules, arith, Pass, Plan, IsLeftOf, no_order}
use Rattle.hook_api.proofs.InForce.{set_fits}
use Rattle.hook_api.proofs.desk.Desk.close.Goals as goal

pub loop-i-preserved : goal.loop-i-preserved
loop-i-preserved g c =
    let before = c.loop-i.invariant in let i : ℕ = c.loop-i.i in record {
      size = search rules;
      taken = λ k below. set_fits (λ (n : ℕ) (p : Plan). IsLeftOf (get_or c.args.orders.now.kinds n no_order).plan p) c.loop-i.book.plans i k c.in_force.result Pass (omega arith) c.in_force.ensures
          (λ (ne : k ≢ i). before.taken k (omega arith));
      left = λ k above below. set_fits (λ (n : ℕ) (p : Plan). n ≢ i → IsLeftOf (get_or c.self.inside.taken_over.kinds n no_order).plan p) c.loop-i.book.plans i k c.in_force.result Pass (omega arith) (λ ne. absurd (ne refl))
          (λ _ ne. before.left k (omega arith) below) (λ is. omega arith);
    }
