use Rattle.std.proofs.Common.{rules}
use Rattle.std.proofs.lemmas.Fn.{filter_same}
use Rattle.thread_cache.specs.Caches.{is_elsewhere}
use Rattle.region_table.proofs.table.take_out_of.Goals as goal

pub returns-clause-items : goal.returns-clause-items
returns-clause-items c = filter_same _ (is_elsewhere c.args.arena) _ (λ x b f' k. search rules) _ _ c.retain.ensures.filtered
