-- What a replay printed, by its status.
use Rattle.replay_run.proofs.Words.{arith, length, length-append, take, ◌+◌, ◌≡◌, ◌≢◌, ◌≤◌, ℕ, List, ◌++◌, Option, Result, Ok, Err, IfErr, refl, sym, subst, Appends-trans, take-append-add, take-length, common_steps, IsErrAnd, Appends, AppendsPrefix, Consumes, Keeps, Stop, ReadFault, NoMemory, HasStopCause, status_for, TakesSome}

-- ---- stops

-- what used only the sink isn't a fault of the source
pub sink_fault : (stop : Stop) (k k' : ℕ) → HasStopCause stop 0 0 k k' → status_for stop ≢ 4
sink_fault ReadFault k k' rose = absurd (omega (arith, rose))
sink_fault stop k k' rose = λ four. absurd (cc (four))

-- only a fault of the source gives status 4
pub read_fault : (stop : Stop) → status_for stop ≡ 4 → stop ≡ ReadFault
read_fault ReadFault four = refl
read_fault stop four = absurd (cc (four))

-- the status of a stop
pub stop_bounds : (stop : Stop) → (4 ≤ status_for stop) × (status_for stop ≤ 6)
stop_bounds ReadFault = (omega arith, omega arith)
stop_bounds stop = (omega arith, omega arith)

-- what was taken where memory for it was wanting
pub takes_unread : {T : Type 0} (r : Result T Stop) (bytes pending : List ℕ) (before left : Option (List ℕ)) → IsErrAnd r (λ stop. stop ≡ NoMemory) → Consumes before left bytes →
    IfErr r (λ stop. TakesSome (stop ≡ ReadFault) pending before left)
takes_unread (Ok found) bytes pending before left is takes = tt
takes_unread (Err stop) bytes pending before left is takes = (bytes, takes, λ fault. absurd (cc (is, fault)))

-- ---- beginnings of texts

-- a beginning of a text is one of a longer text
pub longer : (before after : Option (List ℕ)) (text more : List ℕ) → AppendsPrefix before after text → AppendsPrefix before after (text ++ more)
longer before after text more begun =
    let same : take begun.0 text ≡ take begun.0 (text ++ more) = let few = begun.1 in grind (arith, common_steps) in
    (begun.0, omega (arith, begun.1, length-append text more), subst (Appends before after) same begun.2)

-- a text, and then the beginning of another one
pub behind : (before mid after : Option (List ℕ)) (text more : List ℕ) → Appends before mid text → AppendsPrefix mid after more →
    AppendsPrefix before after (text ++ more)
behind before mid after text more first begun =
    let n : ℕ = length text + begun.0 in
    let same : text ++ take begun.0 more ≡ take n (text ++ more) = sym (take-append-add text more begun.0) in
    (n, omega (arith, begun.1, length-append text more), subst (Appends before after) same (Appends-trans before mid after text (take begun.0 more) first begun.2))

-- a text is a beginning of itself
pub all_of : (before after : Option (List ℕ)) (text : List ℕ) → Appends before after text → AppendsPrefix before after text
all_of before after text printed = (length text, omega (arith), subst (Appends before after) (sym (take-length text)) printed)

-- what was written stays where the sink keeps what it holds
pub kept_after : (before mid after : Option (List ℕ)) (text : List ℕ) → Appends before mid text → Keeps mid after → Appends before after text
kept_after before mid after text first kept = grind arith

pub kept_begun : (before mid after : Option (List ℕ)) (text : List ℕ) → AppendsPrefix before mid text → Keeps mid after → AppendsPrefix before after text
kept_begun before mid after text begun kept = (begun.0, begun.1, kept_after before mid after (take begun.0 text) begun.2 kept)
