-- Arenas by their indexes, each with its journal.
use Rattle.std.specs.Prelude.{◌≡◌, ℕ, ◌<◌, Bool, true, [], List, Option, length, slice_index_or, slice_set}
use Rattle.sits.specs.Words.{AskFacts, Op, Record, Reply, Sound, entry_of, has_page, list_any, opening_space, record_after, reply_to, room_of, with_found}

-- what stands for an arena that isn't there
abbrev pub no_record : Record
no_record = record { index = 32; space = opening_space 32; rooms = []; kept = [] }

-- the arena with an index
abbrev pub record_at : List Record → ℕ → Record
record_at records i = slice_index_or records i no_record

-- the room of a client in an arena
abbrev pub room_in : List Record → ℕ → ℕ → ℕ
room_in records arena client = room_of client (record_at records arena).rooms

-- the arenas after a turn of a client in one of them
abbrev pub records_turned : List Record → ℕ → ℕ → Op → Option AskFacts → List Record
records_turned records arena client op asked = slice_set records arena (record_after (record_at records arena) client op asked)

-- the reply to that turn
abbrev pub reply_in : List Record → ℕ → ℕ → Op → Reply
reply_in records arena client op = reply_to (record_at records arena).space (entry_of client op)

-- no page is in extents of two arenas
abbrev pub AreApart : List Record → Type 0
AreApart records = (page i j : ℕ) → list_any (λ p. has_page page p.span) (record_at records i).space.parts ≡ true
    → list_any (λ p. has_page page p.span) (record_at records j).space.parts ≡ true → i ≡ j

-- There are 32 arenas, each sound and with the rooms of 32 clients. Where all are known at one moment together, no page is in two of
-- them; where each is known at a moment of its own, nothing is said of that.
pub record AreArenas (together : Bool) (records : List Record) : Type 0 where
  pub number : length records ≡ 32
  pub sound : (i : ℕ) → i < 32 → Sound (record_at records i).space
  pub clients : (i : ℕ) → i < 32 → length (record_at records i).rooms ≡ 32
  pub apart : together ≡ true → AreApart records

-- the arenas after a turn of a client, whatever chunk of another arena was found
abbrev pub after_found : List Record → ℕ → ℕ → Option ℕ → Op → Option AskFacts → List Record
after_found records arena c found op asked = records_turned records arena c (with_found found op) asked
