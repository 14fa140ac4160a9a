-- What a box that tells has told.
use Rattle.std.specs.Prelude.{◌≡◌, ℕ, ◌≤◌, ◌&&◌, Bool, false, nat_lt, if◌then◌else◌, List, ◌∷◌, [], ◌++◌, length, Some, None, vec_capacity}
use Rattle.space_model.specs.declared.Heard.{Heard}
use Rattle.hook_api.specs.Hooks.{Account}
use Rattle.addr_space.specs.Hooks.{Placing}
use Rattle.addr_space.specs.declared.telling.TellingHooks.TheInside.{Inside}

-- the box behind, what was asked so far, whether that is all, and how much of it can be told
pub record Told : Type 0 where
  pub inner : Placing
  pub heard : List Heard
  pub tells : Bool
  pub room : ℕ

-- callers see all of it
abbrev pub shown : Inside → Told
shown hooks = record { inner = hooks.inner; heard = hooks.heard.items; tells = hooks.tells; room = hooks.room }

-- there is room for all that can be told
pub record IsRoomy (hooks : Inside) : Type 0 where
  pub within : length hooks.heard.items ≤ hooks.room
  pub room : hooks.room ≤ vec_capacity hooks.heard

-- what is told after one more ask
abbrev pub told_after : Told → Heard → Told
told_after old heard =
    if nat_lt (length old.heard) old.room && old.tells then record old { heard = old.heard ++ heard ∷ [] } else record old { tells = false }

-- the hooks tell what they heard, while that is all, and refuse what the box behind refuses
abbrev pub telling_account : Told → Account
telling_account old = record { told = if old.tells then Some old.heard else None; refusals = old.inner.refusals }

-- one more ask was told, if there was room for it and all before were told, and from the first that wasn't on none is
pub record ToldOne (old : Told) (one : Heard) (new : Told) : Type 0 where
  pub heard : new.heard ≡ (told_after old one).heard
  pub tells : new.tells ≡ (told_after old one).tells
  pub room : new.room ≡ old.room
