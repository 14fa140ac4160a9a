-- What the holders of slots keep between calls.
use Rattle.std.specs.Prelude.{ℕ, ◌*◌, ◌^◌, ◌<◌, ◌≤◌, List, vec_capacity, vec_len}
use Rattle.bin_book.specs.Holders.{AreBlocks, codes_in}
use Rattle.bin_book.specs.declared.holders.Holders.TheInside.{Inside}

-- the codes of all places
abbrev pub shown : Inside → List ℕ
shown holders = codes_in holders.blocks.items holders.codes.items

-- each block may get codes of its own, and their number fits
pub record IsHolders (holders : Inside) : Type 0 where
  pub blocks : AreBlocks holders.blocks.items (vec_len holders.codes)
  pub room : 64 * vec_len holders.blocks ≤ vec_capacity holders.codes
  pub small : vec_len holders.blocks < 2 ^ 32
