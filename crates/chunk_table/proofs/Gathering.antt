-- The shares of seats that are joined, one seat after the other.
use Rattle.std.proofs.Common.{◌≡◌, List, [], ◌∷◌, ◌++◌, map, sym, ap, ◌∙◌, append_assoc, Some}
use Rattle.std.specs.List.{All}
use Rattle.std.proofs.lemmas.List.{map-append}
use Rattle.std.proofs.lemmas.List.Elements.{All-pop}
use Rattle.chunk_table.specs.declared.table.ChunkSeat.{ChunkSeat}
use Rattle.chunk_table.specs.declared.view.View.{View}
use Rattle.chunk_table.specs.Steps.{alone, both_views, spent}
use Rattle.chunk_table.specs.Tables.{share_of}

-- the shares of the last seat move to those that were joined
pub gathered : (before rest : List ChunkSeat) (seat : ChunkSeat) (v w : View) → before ≡ rest ++ seat ∷ [] → w ≡ alone (share_of seat) → map share_of rest ++ (both_views v w).shares ≡ map share_of before ++ v.shares
gathered before rest seat v w is one =
    ap (λ u. map share_of rest ++ (both_views v u).shares) one ∙ sym (ap (λ l. map share_of l ++ v.shares) is ∙ (ap (λ l. l ++ v.shares) (map-append share_of rest (seat ∷ [])) ∙ append_assoc (map share_of rest) (share_of seat ∷ []) v.shares))

-- the first of some views
abbrev first_view : List View → View
first_view [] = spent
first_view (v ∷ vs) = v

-- the one view of a seat is that of its arena alone
pub view_of_seat : (seat : ChunkSeat) (v : View) → seat.badge.views ≡ v ∷ [] → v ≡ alone (share_of seat)
view_of_seat seat v is = ap first_view (sym is ∙ seat.one)

-- a fact of all seats is one of the last, and of those before it
pub last_and_others : (P : ChunkSeat → Type 0) (before rest : List ChunkSeat) (seat : ChunkSeat) → before ≡ rest ++ seat ∷ [] → All P before → P seat × All P rest
last_and_others P before rest seat is all = let parts = All-pop P before rest (Some seat) is all in (parts.1, parts.0)
