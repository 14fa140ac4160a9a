use Rattle.heap_core.proofs.Words.{◌≡◌, ◌≢◌, ◌+◌, ◌≤◌, ℕ, true, false, List, Result, Ok, Err, IsOk, OnErr, OnOk, ap, arith, all_rooms, opens, Reply, Record, reply_in, room_in, spaces_of, with_chunk_found, after_turn, owed_to, MadeTurn, TurnFacts, replied_by}
use Rattle.heap_core.proofs.steps.make_turn.Goals as goal

-- so many places serve for the room that there is then
places_made : {A E : Type 0} (made : Result A E) (room all all' most owed : ℕ) (P : Type 0) → all' ≡ all → OnOk made (room ≤ all + most) → (P → all' + most + 1 ≤ owed) → OnOk made (P → room + 1 ≤ owed)
places_made (Ok told) room all all' most owed P same few promised = λ p. let much = promised p in omega (arith, same, few, much)
places_made (Err error) room all all' most owed P same few promised = tt

-- the turn with the reply in its place
turned : {A E : Type 0} (made : Result A E) (reply : Reply) (records records' : List Record) (owed owed' : List ℕ) (turn : TurnFacts) → OnOk made (records' ≡ after_turn records turn.arena turn.client turn.op turn.asked)
    → OnOk made (reply ≡ reply_in records turn.arena turn.client (with_chunk_found (spaces_of records) turn.arena turn.op)) → OnErr made (records' ≡ records) → (opens turn.op ≡ false → IsOk made)
    → ((other : ℕ) → other ≢ turn.client → owed_to owed' other ≡ owed_to owed other) → owed_to owed turn.client ≤ owed_to owed' turn.client
    → OnOk made (opens turn.op ≡ true → room_in records' turn.arena turn.client + 1 ≤ owed_to owed' turn.client) → MadeTurn {E = E} records owed turn (replied_by made reply) records' owed'
turned (Ok done) reply records records' owed owed' turn after told err sure others kept places = grind arith
turned (Err error) reply records records' owed owed' turn after told err sure others kept places = grind arith

pub returns-clause-turn : goal.returns-clause-turn
returns-clause-turn c =
    turned c.turn.result c.turn.new.reply _ _ _ _ _ c.turn.ensures.after c.turn.ensures.reply c.turn.ensures.err c.turn.ensures.sure c.promise.ensures.others c.promise.ensures.kept
    (places_made c.turn.result _ _ _ _ _ _ (ap all_rooms c.at.ensures.rooms) c.turn.ensures.room c.in_ok-promise.ensures.ok)
