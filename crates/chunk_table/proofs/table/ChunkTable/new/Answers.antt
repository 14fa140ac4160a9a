use Rattle.std.proofs.Common.{ap, ◌∙◌, length, get_or}
use Rattle.std.specs.List.{range_with_len}
use Rattle.chunk_table.proofs.Dealing.{none_failed, none_owned}
use Rattle.chunk_table.proofs.Keeps.{opens}
use Rattle.chunk_table.proofs.table.ChunkTable.new.Goals as goal

pub of_words-requires : goal.of_words-requires
of_words-requires c = opens _ _ (ap length c.deref.ensures.value ∙ c.in_ok-words.ensures.count) (λ i. ap (λ l. get_or l i 0) c.deref.ensures.value ∙ c.in_ok-words.ensures.zero i)

pub returns-clause-none : goal.returns-clause-none
returns-clause-none c = none_owned c.deal.new.items.items c.args.arenas (range_with_len 0 c.args.arenas) c.deal.ensures.shares

pub returns-clause-unfailed : goal.returns-clause-unfailed
returns-clause-unfailed c = none_failed c.deal.new.items.items c.args.arenas (range_with_len 0 c.args.arenas) c.deal.ensures.shares
