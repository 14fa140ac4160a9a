-- What a clause says of a table of chunks, of its seats, and of the book that they leave.
use Rattle.std.specs.Prelude.{ℕ, ◌≡◌, ◌≢◌, ◌+◌, ◌<◌, ◌≤◌, List}
use Rattle.chunk_table.specs.declared.view.Share.{Share}
use Rattle.chunk_table.specs.declared.view.Taken.{Taken}
use Rattle.chunk_table.specs.declared.table.ChunkTable.{ChunkTable}
use Rattle.chunk_table.specs.declared.claims.Claim.{Claim}
use Rattle.chunk_table.specs.declared.claims.Claim.TheVariants.{Claimed, Taken as IsTaken}
use Rattle.chunk_table.specs.declared.table.ChunkSeat.{ChunkSeat}
use Rattle.chunk_table.specs.declared.table.ChunkBook.{ChunkBook}
use Rattle.chunk_table.specs.Views.{shares_of, only_share}
use Rattle.chunk_table.specs.Steps.{with_owned, with_taken}

-- how many arenas a table is for
abbrev pub arena_count : ChunkTable → ℕ
arena_count table = table.table.shared.key

-- the chunks are numbered from 1
abbrev pub IsChunk : ℕ → Type 0
IsChunk chunk = (0 < chunk) × (chunk < 1048576)

-- what a seat's arena has
abbrev pub share_of : ChunkSeat → Share
share_of seat = only_share seat.badge.views

-- the number of a seat's arena
abbrev pub number : ChunkSeat → ℕ
number seat = seat.number

-- the chunks that a seat's arena owns, in the order in which it claimed them
abbrev pub owned : ChunkSeat → List ℕ
owned seat = (share_of seat).owned

-- the claims of a seat's arena that failed, in their order
abbrev pub failed : ChunkSeat → List Taken
failed seat = (share_of seat).taken

-- it is a seat of this table
abbrev pub IsSeatOf : ChunkTable → ChunkSeat → Type 0
IsSeatOf table seat = (seat.badge.table_id ≡ table.table.shared.table_id) × ((share_of seat).arenas ≡ arena_count table)

-- what a claim tells: the chunk is the arena's from now on, or the word that was read names another arena, and is noted
abbrev pub ClaimTells : ℕ → ChunkSeat → ChunkSeat → ℕ → Claim → Type 0
ClaimTells arenas old new chunk Claimed = share_of new ≡ with_owned chunk (share_of old)
ClaimTells arenas old new chunk (IsTaken owner) =
    (share_of new ≡ with_taken chunk owner (share_of old)) × (0 < owner) × (owner ≤ arenas) × (owner ≢ number old + 1)

-- what a book has of each arena
abbrev pub accounts : ChunkBook → List Share
accounts book = shares_of book.badge.views
