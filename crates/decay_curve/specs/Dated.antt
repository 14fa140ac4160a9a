-- Additions by epoch.
use Rattle.std.specs.Prelude.{ℕ, ◌-◌, ◌<◌, ◌≤◌, List, All, AllPairs}
use Rattle.space_model.specs.declared.spaces.Added.{Added}
use Rattle.space_model.specs.Span.{pages_end}

-- the additions are of different epochs up to this one, the latest last, and none has more pages than there are
pub record AreUpTo (epoch : ℕ) (added : List Added) : Type 0 where
  pub rising : AllPairs (λ a b. a.epoch < b.epoch) added
  pub past : All (λ a. a.epoch ≤ epoch) added
  pub pages : All (λ a. a.pages ≤ pages_end - 512) added
