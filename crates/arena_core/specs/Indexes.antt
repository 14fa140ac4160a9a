-- An arena's space as its indexes keep it.
use Rattle.std.specs.Prelude.{◌≡◌, ℕ, ◌+◌, ◌≤◌, List}
use Rattle.space_model.specs.declared.entries.Reply.{Reply}
use Rattle.space_model.specs.declared.spaces.Space.{Space}
use Rattle.space_model.specs.Stepped.{Stepped}
use Rattle.bin_book.specs.Bins.{BinSlab}
use Rattle.arena_core.specs.declared.indexes.Indexes.{Indexes}

-- the space that the indexes stand for
abbrev pub space_of : Indexes → Space
space_of i = record {
  life = i.life;
  parts = i.extents.parts;
  regions = i.regions.regions;
  offers = i.offers.offers;
  bound = i.bound;
  box_no = i.box_no;
  dirty = i.dirty;
  muzzy = i.muzzy;
  grow = i.grow;
  grow_limit = i.grow_limit;
  trims = i.trims;
}

-- there is a place for so many more extents and so many more offers, and for the regions of so many
pub record HasPlaces (i : Indexes) (places : ℕ) : Type 0 where
  pub extents : places ≤ i.extents.spare
  pub regions : places ≤ i.regions.places
  pub offers : places ≤ i.offers.spare

-- a function did a step of the space: it left the step's space and gave its reply, the book has these slabs, and there are no
-- fewer places
pub record Does (old new : Indexes) (book : List BinSlab) (step : Stepped) (told : Reply) : Type 0 where
  pub after : space_of new ≡ step.after
  pub reply : told ≡ step.reply
  pub slabs : new.regions.slabs ≡ book
  pub places : (n : ℕ) → HasPlaces old n → HasPlaces new n

-- and it may take a place
pub record Takes (old new : Indexes) (book : List BinSlab) (step : Stepped) (told : Reply) : Type 0 where
  pub after : space_of new ≡ step.after
  pub reply : told ≡ step.reply
  pub slabs : new.regions.slabs ≡ book
  pub places : (n : ℕ) → HasPlaces old (n + 1) → HasPlaces new n
