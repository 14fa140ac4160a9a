use Rattle.std.proofs.Common.{◌≡◌, ◌∙◌, Some, ap, sym}
use Rattle.space_model.specs.Counts.{counts_of}
use Rattle.space_model.specs.declared.counts.Counts.{Counts}
use Rattle.space_model.specs.declared.spaces.Life.{Life}
use Rattle.space_model.specs.declared.spaces.Life.TheVariants.{Live}
use Rattle.space_model.specs.declared.spaces.Space.{Space}
use Rattle.heap_shared.specs.Shared.{Facts, live_counts}
use Rattle.heap_shared.proofs.machine.SharedArena.counts.Goals as goal

live_is : (s : Space) (n : Counts) → s.life ≡ Live → n ≡ counts_of s → Some n ≡ live_counts s
live_is s n life is = rw life (ap Some is)

pub returns-in-Live : goal.returns-in-Live
returns-in-Live c =
    live_is c.arena-arena.result.now.space c.counts.result (sym c.life.ensures ∙ c.in-Live.is) c.counts.ensures
    ∙ ap live_counts (c.arena-arena.ensures.space ∙ ap (λ (f : Facts). f.arena.space) c.self.view_is)
