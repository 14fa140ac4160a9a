-- The sum of all rooms where one of them changes.
use Rattle.arena_core.proofs.Words.{◌≡◌, ℕ, ◌+◌, ◌<◌, ◌≤◌, false, List, length, slice_set, refl, arith, sum_by-set, Op, Back, Space, all_rooms, emptied_by_op, is_return, room_of, Indexes, HasPlaces, Does, Takes, BinSlab, Stepped, Reply}

-- the sum with a client's new room, and its old one
pub rooms_with : (rooms : List ℕ) (client room : ℕ) → client < length rooms → all_rooms (slice_set rooms client room) + room_of client rooms ≡ all_rooms rooms + room
rooms_with rooms client room h = sum_by-set (λ n. n) rooms client room 0 h

-- a smaller room leaves a smaller sum
pub rooms_fewer : (rooms : List ℕ) (client few more : ℕ) → client < length rooms → few ≤ more → all_rooms (slice_set rooms client few) ≤ all_rooms (slice_set rooms client more)
rooms_fewer rooms client few more h le = omega (arith, rooms_with rooms client few h, rooms_with rooms client more h)

-- places for more are places for fewer
pub places_fewer : (i : Indexes) (few more : ℕ) → few ≤ more → HasPlaces i more → HasPlaces i few
places_fewer i few more le h = record { extents = omega (arith, h.extents); regions = omega (arith, h.regions); offers = omega (arith, h.offers) }

-- an operation that takes no place leaves one less than there were
pub taken : {i j : Indexes} {book : List BinSlab} {step : Stepped} {told : Reply} → Does i j book step told → Takes i j book step told
taken {i} h = record { after = h.after; reply = h.reply; slabs = h.slabs; places = λ n k. h.places n (places_fewer i n (n + 1) (omega arith) k) }

-- an operation that is no return empties nothing
pub empties_nothing : (client : ℕ) (op : Op) (s : Space) → is_return op ≡ false → emptied_by_op client op s ≡ 0
empties_nothing client (Back addrs) s other = absurd (cc)
empties_nothing client op s other = refl
