use Rattle.part_book.proofs.Words.{◌≡◌, ◌+◌, ◌-◌, ◌*◌, ap, subst, arith, HasRoomFor}
use Rattle.part_book.proofs.Chunks.{leaves_most}
use Rattle.part_book.proofs.PartBook.add.Goals as goal

pub invariant_of-self : goal.invariant_of-self
invariant_of-self c =
    let was : c.self.inside.spare ≡ c.args.self.now.spare = ap (λ b. b.spare) c.self.view_is in
    let back : c.self.inside.spare ≡ c.self.inside.spare - 1 + 1 = omega arith in
    let most = leaves_most c.self.inside.table.edges c.args.part.span in
    record {
      table = c.put_on.ensures.kept.table;
      room = c.put_on.ensures.room (c.self.inside.spare - 1) (subst (HasRoomFor c.self.inside.table) back c.self.invariant.room);
      leaves = c.put_on.ensures.leaves (2 * (c.self.inside.spare - 1)) (omega arith);
    }
