use Rattle.part_book.proofs.Words.{◌≡◌, ◌+◌, ◌-◌, ◌*◌, ap, subst, arith, HasRoomFor}
use Rattle.part_book.proofs.PartBook.shed_high.Goals as goal

pub invariant_of-self : goal.invariant_of-self
invariant_of-self c =
    let was : c.self.inside.spare ≡ c.args.self.now.spare = ap (λ b. b.spare) c.self.view_is in
    let n = c.self.inside.spare in
    let back : n ≡ n - 1 + 1 = omega arith in
    record {
      table = c.divide.ensures.kept.table;
      room = c.divide.ensures.room (n - 1) (subst (HasRoomFor c.self.inside.table) back c.self.invariant.room);
      leaves = c.divide.ensures.leaves (2 * (n - 1)) (let all = c.self.invariant.leaves in omega arith);
    }
