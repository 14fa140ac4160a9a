use Rattle.hook_api.proofs.Words.{rules, ◌≡◌, ◌+◌, ◌-◌, ◌<◌, [], replicate, ap, ◌∙◌, suc, arith, All-push, All-same, IsNewSeat, blank, first_part, idle, later_part}
use Rattle.hook_api.proofs.ShareKeeps.{splits}
use Rattle.hook_api.proofs.ShareDeals.{parted}
use Rattle.hook_api.proofs.locks.Locks.deal.Goals as goal

pub split_seat-others-requires : goal.split_seat-others-requires
split_seat-others-requires g c = (search rules, search rules, splits _ _ _ _ (ap (λ m. m.0.taken) c.loop.invariant.left))

pub new_seat-requires : goal.new_seat-requires
new_seat-requires g c =
    let n = suc c.args.clients - c.loop.counter in let some_tally : 0 < n = (let a = c.loop-test.true in omega arith) in
    c.split_seat-others.ensures.2 ∙ (ap (λ m. (first_part m.0, m.1)) c.loop.invariant.left ∙ ap (λ v. (v, [])) (parted n some_tally).0)

pub loop-preserved : goal.loop-preserved
loop-preserved g c =
    let before = c.loop.invariant in let parts = c.split_seat-others.ensures in let n = suc c.args.clients - c.loop.counter in
    let some_tally : 0 < n = (let a = c.loop-test.true in omega arith) in let next : n - 1 ≡ suc c.args.clients - (c.loop.counter + 1) = omega arith in record {
      table = parts.3 ∙ before.table;
      left = parts.4 ∙ (ap (λ m. (later_part m.0, [])) before.left ∙ (ap (λ v. (v, [])) (parted n some_tally).1 ∙ ap (λ k. (idle (replicate k blank), [])) next));
      count = (let a = c.push_reserved.ensures.len in let b = c.loop-test.true in search rules);
      dealt = All-same (λ seat. (seat.badge.table_id ≡ c.args.self.now.table.shared.table_id) × IsNewSeat seat) _ _ c.push_reserved.ensures.items
          (All-push (λ seat. (seat.badge.table_id ≡ c.args.self.now.table.shared.table_id) × IsNewSeat seat) _ _ before.dealt (c.new_seat.ensures.seat ∙ (parts.0 ∙ before.table), c.new_seat.ensures.new));
      room = search rules;
    }
