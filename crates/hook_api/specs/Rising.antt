-- Hooks that hand out ever higher chunks.
use Rattle.std.specs.Prelude.{ℕ, ◌+◌, ◌*◌, ◌≤◌, max, None}
use Rattle.std.specs.Int.{next_multiple_of}
use Rattle.hook_api.specs.Hooks.{Account}
use Rattle.space_model.specs.declared.TheConstants.{CHUNKS, CHUNK_PAGES}

-- the first page that isn't handed out, and how often the hooks have refused
pub record RisingFacts : Type 0 where
  pub next : ℕ
  pub refusals : ℕ

-- the least multiple of the alignment, which is at least a chunk, that isn't below the next page
abbrev pub rising_place : ℕ → ℕ → ℕ
rising_place next align = next_multiple_of next (max align CHUNK_PAGES)

-- a range ends within the chunks
abbrev pub InChunks : ℕ → ℕ → Type 0
InChunks first pages = first + pages ≤ (CHUNKS + 1) * CHUNK_PAGES

-- the hooks tell nothing, and count what they refuse
abbrev pub rising_account : RisingFacts → Account
rising_account facts = record { told = None; refusals = facts.refusals }
