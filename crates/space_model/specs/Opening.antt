-- Arena 0 as it is at the start, and an index without an arena: what journals begin from.
use Rattle.std.specs.Prelude.{ℕ, ℤ, pos, []}
use Rattle.std.specs.List.{range_with_len}
use Rattle.space_model.specs.Types.{Pace, Space, Live, Absent}
use Rattle.space_model.specs.Span.{max_series}

-- a decay of a time in milliseconds from a moment on: epoch 0, nothing left and nothing added
abbrev pub new_pace : ℤ → ℕ → Pace
new_pace ms now = record { ms = ms; start = now; epoch = 0; left = 0; added = [] }

-- arena 0 at the start: live and empty, with box 0, all 32 clients bound, and the default decay times from moment 0
abbrev pub first_space : Space
first_space = record {
  life = Live;
  parts = [];
  regions = [];
  offers = [];
  bound = range_with_len 0 32;
  box_no = 0;
  dirty = new_pace (pos 10000) 0;
  muzzy = new_pace (pos 0) 0;
  grow = 1;
  grow_limit = max_series;
  trims = [];
}

-- no arena: nothing in it, and nobody bound
abbrev pub absent_space : Space
absent_space = record {
  life = Absent;
  parts = [];
  regions = [];
  offers = [];
  bound = [];
  box_no = 0;
  dirty = new_pace (pos 10000) 0;
  muzzy = new_pace (pos 0) 0;
  grow = 1;
  grow_limit = max_series;
  trims = [];
}
