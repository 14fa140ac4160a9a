use Rattle.std.proofs.Common.{rules, ◌++◌, ◌≤◌, map, ap, sym, ◌∙◌, subst}
use Rattle.std.specs.List.{count_by}
use Rattle.chunk_table.specs.Rule.{owns}
use Rattle.chunk_table.specs.Tables.{share_of, IsSeatOf}
use Rattle.chunk_table.specs.Views.{shares_of}
use Rattle.chunk_table.proofs.Keeps.{joins, looks}
use Rattle.chunk_table.proofs.Gathering.{gathered, view_of_seat, last_and_others}
use Rattle.chunk_table.proofs.table.ChunkTable.gather.Goals as goal

pub join_seat-requires : goal.join_seat-requires
join_seat-requires c =
    let parts = last_and_others (IsSeatOf c.args.self.now) _ _ _ c.in-Some-pop.ensures.items c.loop-badge.invariant.ours in
    (search rules, c.into_seat.ensures.0 ∙ parts.0.0, search rules, search rules, joins _ _ _ _ _)

pub loop-badge-preserved : goal.loop-badge-preserved
loop-badge-preserved c =
    let before = c.loop-badge.invariant in let popped = c.in-Some-pop.ensures.items in let glued = c.join_seat.ensures in let seat = c.in-Some-pop.field-0 in
    let view = view_of_seat seat c.into_seat.result.me.0 c.into_seat.ensures.2 in record {
      table = glued.0 ∙ before.table;
      home = ap (λ m. m.1) glued.2 ∙ before.home;
      shares = ap (λ m. map share_of c.pop-in-loop-badge.new.self.items ++ m.0.shares) glued.2 ∙ (gathered _ _ seat c.loop-badge.place.me.0 _ popped view ∙ before.shares);
      ours = (last_and_others (IsSeatOf c.args.self.now) _ _ seat popped before.ours).1;
    }

pub load-requires : goal.load-requires
load-requires c = (search rules, search rules, looks _ _ _ _ _)

pub returns-clause-apart : goal.returns-clause-apart
returns-clause-apart c = λ chunk. subst (λ l. count_by (owns chunk) l ≤ 1) (sym (ap shares_of c.into_badge.ensures.2 ∙ ap (λ m. m.0.shares) c.load.ensures.2.0)) (c.load.ensures.2.2 chunk)
