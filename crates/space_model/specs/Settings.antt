-- What can be set in an arena, and by whom it is used.
use Rattle.std.specs.Prelude.{ℕ, Bool, true, false, ◌==◌, ◌&&◌, nat_le, nat_lt, ℤ, pos, negsuc, if◌then◌else◌}
use Rattle.space_model.specs.Types.{Noted, Nothing, Setting, DirtyMs, MuzzyMs, HookBox, Bind, Unbind, GrowLimit, MakeLive, Life, Live, Absent, Space}
use Rattle.space_model.specs.Span.{max_series}
pub use Rattle.space_model.specs.Clients.{is_in, with_client, without_client}
use Rattle.space_model.specs.Opening.{new_pace}
use Rattle.space_model.specs.Stepped.{Stepped, stays, if_live}

-- whether no arena has the index
abbrev pub is_absent : Life → Bool
is_absent Absent = true
is_absent _ = false

-- the space of an arena that comes to be, with nothing in it, its decays from a moment on and its growth at the start
abbrev pub made_live : Space → ℕ → ℤ → ℤ → ℕ → Space
made_live space box_no dirty_ms muzzy_ms now = record space {
  life = Live;
  box_no = box_no;
  dirty = new_pace dirty_ms now;
  muzzy = new_pace muzzy_ms now;
  grow = 1;
  grow_limit = max_series;
}

-- the space of a live arena with a setting
abbrev pub with_setting : Space → ℕ → Setting → Space
with_setting space c (DirtyMs ms now) = record space { dirty = new_pace ms now }
with_setting space c (MuzzyMs ms now) = record space { muzzy = new_pace ms now }
with_setting space c (HookBox box_no) = record space { box_no = box_no }
with_setting space c Bind = record space { bound = with_client c space.bound }
with_setting space c Unbind = record space { bound = without_client c space.bound }
with_setting space c (GrowLimit chunks) = record space { grow_limit = chunks }
with_setting space c (MakeLive box_no dirty_ms muzzy_ms now) = space

-- one setting changes; only an index that has no arena can get one
abbrev pub after_set : Space → ℕ → Setting → Stepped
after_set space c (MakeLive box_no dirty_ms muzzy_ms now) =
    if is_absent space.life then stays (made_live space box_no dirty_ms muzzy_ms now) Noted else stays space Nothing
after_set space c setting = if_live space (stays (with_setting space c setting) Noted)

-- whether it is a decay time: from -1 to 1000000000 milliseconds
abbrev pub is_decay_time : ℤ → Bool
is_decay_time (negsuc n) = n == 0
is_decay_time (pos ms) = nat_le ms 1000000000

-- whether the setting is in range
abbrev pub setting_stands : Setting → Bool
setting_stands (DirtyMs ms now) = is_decay_time ms
setting_stands (MuzzyMs ms now) = is_decay_time ms
setting_stands (HookBox box_no) = nat_lt box_no 32
setting_stands (GrowLimit chunks) = nat_le 1 chunks && nat_le chunks max_series
setting_stands (MakeLive box_no dirty_ms muzzy_ms now) =
    nat_lt box_no 32 && is_decay_time dirty_ms && is_decay_time muzzy_ms
setting_stands setting = true
