use Rattle.std.proofs.Common.{rules, ◌≡◌, ◌+◌, ◌<◌, ◌∷◌, [], map, ap, sym, ◌∙◌, arith}
use Rattle.std.specs.List.{range_with_len}
use Rattle.chunk_table.specs.Rule.{blank}
use Rattle.chunk_table.specs.Steps.{first_part, later_part}
use Rattle.chunk_table.specs.Views.{only_share}
use Rattle.chunk_table.proofs.Keeps.{splits}
use Rattle.chunk_table.proofs.Dealing.{first_from, later_from, last_from, dealt_more, ours_more}
use Rattle.chunk_table.proofs.table.ChunkTable.deal.Goals as goal

pub split_seat-others-requires : goal.split_seat-others-requires
split_seat-others-requires c = (search rules, search rules, splits _ _ _)

pub loop-number-preserved : goal.loop-number-preserved
loop-number-preserved c =
    let before = c.loop-number.invariant in let parted = c.split_seat-others.ensures in let i = c.loop-number.number in let n = c.args.arenas in
    let lt : i < n = (let more = c.loop-number-test.true in omega arith) in
    let own : only_share c.into_badge.result.views ≡ blank n i = ap only_share (c.into_badge.ensures.2 ∙ (ap (λ m. m.0 ∷ []) parted.2 ∙ (ap (λ m. first_part m.0 ∷ []) before.left ∙ ap (λ v. v ∷ []) (first_from n i lt)))) in
    record {
      table = parted.3 ∙ before.table;
      left = parted.4 ∙ ap (λ v. (v, [])) (ap (λ m. later_part m.0) before.left ∙ later_from n i lt);
      dealt = dealt_more _ _ _ n i c.push_reserved.ensures.items before.dealt own;
      ours = ours_more c.args.self.now _ _ _ c.push_reserved.ensures.items before.ours (c.into_badge.ensures.0 ∙ (parted.0 ∙ before.table), ap (λ s. s.arenas) own ∙ sym c.requires.some.1);
      room = search rules;
    }

pub returns-clause-shares : goal.returns-clause-shares
returns-clause-shares c =
    let before = c.loop-number.invariant in let i = c.loop-number.number in let n = c.args.arenas in let all : i + 1 ≡ n = (let a = c.loop-number-test.false in let b = c.loop-number.auto.number-end in let d = c.requires.some.0 in omega arith) in
    let own : only_share c.into_badge-2.result.views ≡ blank n i = ap only_share (c.into_badge-2.ensures.2 ∙ (ap (λ m. m.0 ∷ []) before.left ∙ ap (λ v. v ∷ []) (last_from n i all))) in
    dealt_more _ _ _ n i c.push_reserved-2.ensures.items before.dealt own ∙ ap (λ k. map (blank n) (range_with_len 0 k)) all

pub returns-clause-table : goal.returns-clause-table
returns-clause-table c =
    let before = c.loop-number.invariant in let i = c.loop-number.number in let n = c.args.arenas in let all : i + 1 ≡ n = (let a = c.loop-number-test.false in let b = c.loop-number.auto.number-end in let d = c.requires.some.0 in omega arith) in
    let own : only_share c.into_badge-2.result.views ≡ blank n i = ap only_share (c.into_badge-2.ensures.2 ∙ (ap (λ m. m.0 ∷ []) before.left ∙ ap (λ v. v ∷ []) (last_from n i all))) in
    ours_more c.args.self.now _ _ _ c.push_reserved-2.ensures.items before.ours (c.into_badge-2.ensures.0 ∙ before.table, ap (λ s. s.arenas) own ∙ sym c.requires.some.1)
