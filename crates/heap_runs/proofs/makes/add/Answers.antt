use Rattle.std.proofs.Common.{◌∙◌, length, ap}
use Rattle.std.specs.Arc.{arc_value}
use Rattle.heap_shared.specs.Shared.{seated_facts}
use Rattle.chunk_table.specs.Tables.{share_of}
use Rattle.heap_runs.proofs.makes.add.Goals as goal

pub returns : goal.returns
returns c = record {
  lock = c.in_ok-lock.lock;
  locks = c.in_ok-push.ensures.items;
  begun = c.in_ok-lock.ensures.lock.0 ∙ c.in_ok-arena.ensures ∙ ap (λ k. seated_facts k (share_of c.args.seat).number (arc_value c.in_ok-clone.field-0)) (c.len-index.ensures ∙ c.args.locks.now.ok.0) ∙ ap (seated_facts (length c.args.locks.now.items) (share_of c.args.seat).number) c.in_ok-clone.ensures.cases;
  seats = c.in_ok-lock.ensures.lock.1;
  given = c.in_ok-deal.ensures;
}
