-- Slots that lead to regions: a search goes from the slot where it begins to the next one, and from the last one to the first.
use Rattle.std.specs.Prelude.{◌≡◌, ℕ, zero, suc, ◌+◌, ◌*◌, ◌/◌, ◌%◌, ◌^◌, ◌==◌, nat_lt, Bool, true, false, if◌then◌else◌, List, length, slice_index_or, count_by}

-- whether a slot has been filled, if only by a region that is gone; an empty one has 2^64 - 1
abbrev pub is_filled : ℕ → Bool
is_filled word = nat_lt word 18446744073709551615

-- how many slots have been filled
abbrev pub filled_in : List ℕ → ℕ
filled_in words = count_by is_filled words

-- what a slot has
abbrev pub word_at : List ℕ → ℕ → ℕ
word_at words at = slice_index_or words at 0

-- the slot in which the search for an address begins, of so many
unfoldable pub home_of : ℕ → ℕ → ℕ
home_of addr count = addr * 11400714819323198485 % 2 ^ 64 / 2 ^ 32 * count / 2 ^ 32

-- what the slot of a region has: the middle of its address, and its place
unfoldable pub word_of : ℕ → ℕ → ℕ
word_of addr place = addr / 8 % 2 ^ 32 * 2 ^ 32 + place

-- the slot behind another one, of so many
abbrev pub next_slot : ℕ → ℕ → ℕ
next_slot count at = if nat_lt (at + 1) count then at + 1 else 0

-- whether a search that begins in a slot meets what is searched within so many slots, and no empty one before it
unfoldable pub meets : List ℕ → ℕ → ℕ → ℕ → Bool
meets words zero at word = false
meets words (suc left) at word =
    if word_at words at == word then true
    else if is_filled (word_at words at) then meets words left (next_slot (length words) at) word
    else false

-- so many slots from one on are filled, and the next one is this
unfoldable pub Passes : List ℕ → ℕ → ℕ → ℕ → Type 0
Passes words zero first at = first ≡ at
Passes words (suc past) first at = (is_filled (word_at words first) ≡ true) × Passes words past (next_slot (length words) first) at
