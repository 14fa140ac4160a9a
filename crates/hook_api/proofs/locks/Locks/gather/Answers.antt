use Rattle.hook_api.proofs.Words.{rules, ◌≡◌, ◌++◌, ap, ◌∙◌, tallies_of, Sight}
use Rattle.hook_api.proofs.ShareKeeps.{joins}
use Rattle.hook_api.proofs.ShareDeals.{gathered, last_and_others, view_of_seat}
use Rattle.hook_api.proofs.locks.Locks.gather.Goals as goal

pub join_seat-requires : goal.join_seat-requires
join_seat-requires g c =
    let seat = c.in-Some.seat in let view = view_of_seat seat c.into_seat.result.me.0 c.into_seat.ensures.2 in
    let parts = last_and_others (λ seat. seat.badge.table_id ≡ c.args.self.now.table.shared.table_id) _ _ _ c.in-Some.ensures.items c.loop-seat.invariant.ours in
    (search rules, c.into_seat.ensures.0 ∙ parts.0, search rules, search rules, joins _ _ _ _ _ _ c.loop-seat.invariant.home.0 (ap (λ (v : Sight). v.taken) view))

pub loop-seat-preserved : goal.loop-seat-preserved
loop-seat-preserved g c =
    let before = c.loop-seat.invariant in let popped = c.in-Some.ensures.items in let glued = c.join_seat.ensures in let seat = c.in-Some.seat in
    let view = view_of_seat seat c.into_seat.result.me.0 c.into_seat.ensures.2 in record {
      table = glued.0 ∙ before.table;
      home = (ap (λ m. m.0.taken) glued.2 ∙ before.home.0, ap (λ m. m.1) glued.2 ∙ before.home.1);
      tallies = ap (λ m. tallies_of c.pop-in-loop-seat.new.self.items ++ m.0.tallies) glued.2 ∙ (gathered _ _ seat c.loop-seat.place.me.0 _ popped view ∙ before.tallies);
      ours = (last_and_others (λ seat. seat.badge.table_id ≡ c.args.self.now.table.shared.table_id) _ _ seat popped before.ours).1;
    }
