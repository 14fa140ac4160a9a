use Rattle.part_book.proofs.Words.{◌++◌, [], ◌∷◌, ap, ◌∙◌, refl, arith, vec_len, vec_capacity, without_edges, without_key}
use Rattle.part_book.proofs.Additions.{table_removed}
use Rattle.part_book.proofs.table.Table.take_off.Goals as goal

pub remove-requires : goal.remove-requires
remove-requires c = rw (c.first_key.ensures, c.lift.ensures.others.firsts) (c.requires.table.indexes.firsts.has _ _ c.number_of-number.ensures.row refl)

pub returns : goal.returns
returns c =
    let l = c.lift.ensures.others in
    let len = rw c.unwrap.ensures at c.push.ensures.len in
    let lifted = ap (λ v. vec_len v) l.free in
    let lifted_room = ap (λ v. vec_capacity v) l.free in
    let firsts = rw c.first_key.ensures at c.remove.ensures.keys ∙ ap (λ k. without_key k.keys (record { major = c.args.part.now.span.first; minor = c.number_of-number.result })) l.firsts in
    let numbers = ap (λ e. e.numbers) c.clear_edges.ensures ∙ ap (λ e. without_edges e.numbers c.args.part.now.span) l.edges in
    let chunks = ap (λ e. e.chunks) c.clear_edges.ensures ∙ ap (λ e. e.chunks) l.edges in
    let free = rw c.unwrap.ensures at c.push.ensures.items ∙ ap (λ v. v.items ++ c.number_of-number.result ∷ []) l.free in
    let u = record c.lift.new.self { edges = c.clear_edges.new.edges; firsts = c.remove.new.self; free = c.push.new.self } in
    let kept = table_removed c.args.self.now u _ c.requires.table c.number_of-number.ensures.row c.lift.ensures.order c.lift.ensures.places c.lift.ensures.lists l.slots firsts numbers chunks free (omega arith) (omega arith) in
    let spare = ap (λ k. k.spare) l.firsts in
    record {
      kept = kept;
      placed = c.number_of-number.ensures.placed;
      apart = rw kept.parts c.number_of-number.ensures.apart;
      room = λ n room. (
          let lists = c.lift.ensures.room n room.lists in
          record { firsts = omega (arith, room.firsts); free = omega (arith, room.free); lists = record { sizes = lists.sizes; flights = lists.flights } });
      chunks = chunks;
      spare = ap (λ e. e.spare) c.clear_edges.ensures ∙ ap (λ e. e.spare) l.edges;
      leaves = rw chunks c.number_of-number.ensures.leaves;
    }
