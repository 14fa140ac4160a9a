-- What the slot of a region has.
use Rattle.std.proofs.Common.{arith, ◌≡◌, ℕ, ◌+◌, ◌*◌, ◌/◌, ◌%◌, ◌<◌, bit_and, sym, ap, ◌∙◌}
use Rattle.std.proofs.lemmas.Nat.{and_mask}
use Rattle.region_table.specs.Slots.{word_of}

-- its low half is the place
pub low_half : (addr place : ℕ) → place < 4294967296 → bit_and (word_of addr place) 4294967295 ≡ place
unfolding word_of
low_half addr place within =
    let middle = addr / 8 % 4294967296 in
    let rest : (middle * 4294967296 + place) % 4294967296 ≡ place = omega (arith, within) in
    and_mask (middle * 4294967296 + place) 32 ∙ rest

-- its high half is the middle of the address
pub high_half : (addr place : ℕ) → place < 4294967296 → word_of addr place / 4294967296 ≡ bit_and (addr / 8) 4294967295
unfolding word_of
high_half addr place within =
    let middle = addr / 8 % 4294967296 in
    let half : (middle * 4294967296 + place) / 4294967296 ≡ middle = omega (arith, within) in
    half ∙ sym (and_mask (addr / 8) 32)

-- a region at one of the lower places has no word of a slot that is empty or whose region is gone
pub low_word : (addr place : ℕ) → place < 2147483648 → word_of addr place < 18446744073709551614
unfolding word_of
low_word addr place within =
    let middle : addr / 8 % 4294967296 < 4294967296 = omega arith in
    omega (arith, middle, within)

-- regions at different places have different words
pub other_word : (addr place other another : ℕ) → place < 4294967296 → another < 4294967296 → word_of addr place ≡ word_of other another → place ≡ another
other_word addr place other another a b same = sym (low_half addr place a) ∙ ap (λ w. bit_and w 4294967295) same ∙ low_half other another b
