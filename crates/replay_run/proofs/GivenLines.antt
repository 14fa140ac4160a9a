-- Runs of lines that are given.
use Rattle.replay_run.proofs.Words.{arith, length, map, ◌≡◌, ◌⊎◌, inl, inr, ℕ, List, [], ◌∷◌, ◌++◌, Option, None, Result, Ok, Err, IfOk, IfErr, OnOk, OnErr, refl, sym, ◌∙◌, ap, subst, append-nil, append_assoc, IsErrAnd, Lines, Appends-nil, Appends, AppendsPrefix, Keeps, AskFacts, Shelf, Journal, journal_of, opening_heap, Line, Stop, ReadFault, WriteFault, NoMemory, line_cause, IsSound, StopOf, Here, Now, Outset, world_at, PrintsSoak, SoakOf, IsSoakStatus, soak_text, HasStopCause, status_for, status_in, Nothing, World}
use Rattle.trace_soak.specs.Soak.{IsClientCall}
use Rattle.trace_text.specs.declared.lines.Verb.TheVariants as verb
use Rattle.trace_text.specs.declared.lines.Line.TheVariants as line
use Rattle.trace_text.specs.Grammar.{IsWithinLimits}
use Rattle.replay_run.specs.Soaks.{IsThrough}
use Rattle.replay_run.proofs.Endings.{all_of, kept_after, kept_begun, stop_bounds}
use Rattle.replay_run.proofs.Ends.{ran_none}
use Rattle.replay_run.proofs.Stops.{came_ran}

-- ---- a line that is given

-- a whole malloc, free or purge has no cause against it
pub client_call_free : (now : ℕ) (given : Line) → IsClientCall given → line_cause now given ≡ None
client_call_free now (line.Call c (verb.Malloc name size)) is = refl
client_call_free now (line.Call c (verb.Free region)) is = refl
client_call_free now (line.Call c (verb.Purge arena)) is = refl
client_call_free now (line.Call c other) is = absurd is.1
client_call_free now given is = absurd is

-- and is within the limits of lines
pub client_call_limits : (given : Line) → IsClientCall given → IsWithinLimits given
client_call_limits (line.Call c (verb.Malloc name size)) is = (is.0, tt)
client_call_limits (line.Call c (verb.Free region)) is = (is.0, tt)
client_call_limits (line.Call c (verb.Purge arena)) is = (is.0, is.1)
client_call_limits (line.Call c other) is = absurd is.1
client_call_limits given is = absurd is

-- ---- lines that were carried out, and those that are left

-- one more line was taken
pub one_more_done : (lines done old rest : List Line) (given : Line) → lines ≡ done ++ old → old ≡ given ∷ rest → lines ≡ (done ++ given ∷ []) ++ rest
one_more_done lines done old rest given are takes = are ∙ ap (λ (ls : List Line). done ++ ls) takes ∙ sym (append_assoc done (given ∷ []) rest)

-- a stop that was passed on
pub halted_by : {T : Type 0} {journals : List Journal} {heard : List AskFacts} {shelf_before shelf_after : Shelf} {before after : Option (List ℕ)} (lines done rest : List Line) (r : Result T Stop) (stop : Stop) → IsErrAnd r (λ passed. passed ≡ stop) →
    lines ≡ done ++ rest → StopOf done stop journals heard shelf_before shelf_after before after →
    IfErr r (λ own. (these : List Line) × (others : List Line) × (lines ≡ these ++ others) × StopOf these own journals heard shelf_before shelf_after before after)
halted_by lines done rest (Ok x) stop is are halted = tt
halted_by {journals = journals} {heard = heard} {shelf_before = shelf_before} {shelf_after = shelf_after} {before = before} {after = after} lines done rest (Err passed) stop is are halted =
    (done, rest, are, subst (λ (own : Stop). StopOf done own journals heard shelf_before shelf_after before after) (sym is) halted)

-- where a failure was passed on nothing is said of a good result
pub passed_on : {A E : Type 0} (r : Result A E) (P : A → Type 0) (Q : E → Type 0) → IsErrAnd r Q → IfOk r P
passed_on (Ok x) P Q is = absurd is
passed_on (Err own) P Q is = tt

-- what prints nothing is stopped by want of memory alone
quiet_stop : (stop : Stop) → HasStopCause stop 0 0 0 0 → stop ≡ NoMemory
quiet_stop ReadFault cause = absurd (omega (arith, cause))
quiet_stop WriteFault cause = absurd (omega (arith, cause))
quiet_stop NoMemory cause = refl

pub quiet_cause : {T : Type 0} (r : Result T Stop) (stop : Stop) (k k' : ℕ) → IsErrAnd r (λ passed. passed ≡ stop) → HasStopCause stop 0 0 0 0 → IfErr r (λ own. HasStopCause own 0 0 k k')
quiet_cause (Ok done) stop k k' is cause = tt
quiet_cause (Err own) stop k k' is cause = rw (is, quiet_stop stop cause) tt

-- ---- where a soak ends

-- nothing was printed where it stopped before the end
soak_stopped : {journals : List Journal} {heard : List AskFacts} {shelf_before shelf_after : Shelf} {before after : Option (List ℕ)} (lines done rest : List Line) (stop : Stop) (held : Option (List ℕ)) → lines ≡ done ++ rest →
    StopOf done stop journals heard shelf_before shelf_after before after → SoakOf (status_for stop) lines journals heard shelf_before shelf_after held held
soak_stopped lines done rest stop held are halted = record {
  events = halted.events;
  ran = halted.ran;
  rest = rest;
  given = are ∙ ap (λ (ls : List Line). ls ++ rest) (sym halted.of_lines);
  prints = record { beginning = inl (Appends-nil held); whole = λ zero. absurd (omega (arith, zero, (stop_bounds stop).0)) };
}

pub soak_halted : {journals : List Journal} {heard : List AskFacts} {shelf_before shelf_after : Shelf} {before after : Option (List ℕ)} (lines done rest : List Line) (r : Result ℕ Stop) (stop : Stop) (held : Option (List ℕ)) → IsErrAnd r (λ passed. passed ≡ stop) →
    lines ≡ done ++ rest → StopOf done stop journals heard shelf_before shelf_after before after → SoakOf (status_in r) lines journals heard shelf_before shelf_after held held
soak_halted lines done rest (Ok status) stop held is are halted = absurd is
soak_halted lines done rest (Err passed) stop held is are halted = rw is (soak_stopped lines done rest stop held are halted)

-- behind the last line the last text was printed, or a beginning of it
soak_last : {shelf : Shelf} {now : Now} (lines : List Line) (r : Result ℕ Stop) (before after : Option (List ℕ)) → (so : Here (record { shelf = shelf; held = None; form = Lines }) lines Nothing [] now) →
    OnOk r (Appends before after (soak_text (length lines) (world_at now so.text Nothing))) → OnErr r (AppendsPrefix before after (soak_text (length lines) (world_at now so.text Nothing))) →
    IfOk r (λ status. status ≡ 0) → SoakOf (status_in r) lines (map journal_of now.heap.records) now.heap.heard shelf now.shelf before after
soak_last {shelf} {now} lines (Ok status) before after so ok err is =
    let text : List ℕ = soak_text (length lines) (world_at now so.text Nothing) in record {
      events = so.came.events;
      ran = came_ran so.came;
      rest = [];
      given = sym so.came.of_lines;
      prints = rw so.came.here (record { beginning = inr ((refl, refl), all_of before after text ok); whole = λ zero. ((refl, refl), ok) });
    }
soak_last {shelf} {now} lines (Err stop) before after so ok err is = record {
  events = so.came.events;
  ran = came_ran so.came;
  rest = [];
  given = sym so.came.of_lines;
  prints = rw so.came.here (record { beginning = inr ((refl, refl), err); whole = λ zero. absurd (omega (arith, zero, (stop_bounds stop).0)) });
}

-- the same, where the lines were counted
pub soak_counted : {shelf : Shelf} {now : Now} (lines : List Line) (calls : ℕ) (r : Result ℕ Stop) (before after : Option (List ℕ)) → calls ≡ length lines → (so : Here (record { shelf = shelf; held = None; form = Lines }) lines Nothing [] now) →
    OnOk r (Appends before after (soak_text calls (world_at now so.text Nothing))) → OnErr r (AppendsPrefix before after (soak_text calls (world_at now so.text Nothing))) →
    IfOk r (λ status. status ≡ 0) → SoakOf (status_in r) lines (map journal_of now.heap.records) now.heap.heard shelf now.shelf before after
soak_counted {shelf} {now} lines calls r before after same so ok err is =
    let w : World = world_at now so.text Nothing in
    soak_last lines r before after so (subst (λ (n : ℕ). OnOk r (Appends before after (soak_text n w))) same ok)
    (subst (λ (n : ℕ). OnErr r (AppendsPrefix before after (soak_text n w))) same err) is

-- what was printed stays where the sink keeps what it holds, and another status says less
prints_kept : {T : Type 0} {status calls : ℕ} {w : World} {rest : List Line} {before held after : Option (List ℕ)} (other : ℕ) → (other ≡ status) ⊎ ((other ≡ 5) × T) → Keeps held after →
    PrintsSoak status calls w rest before held → PrintsSoak other calls w rest before after
prints_kept {T} {status} {calls} {w} {rest} {before} {held} {after} other which kept prints = record {
  beginning = begun prints.beginning;
  whole = λ zero. all which zero;
}
  where
    begun : Appends before held [] ⊎ (IsThrough w rest × AppendsPrefix before held (soak_text calls w)) → Appends before after [] ⊎ (IsThrough w rest × AppendsPrefix before after (soak_text calls w))
    begun (inl none) = inl (kept_after before held after [] none kept)
    begun (inr some) = inr (some.0, kept_begun before held after (soak_text calls w) some.1 kept)

    all : (other ≡ status) ⊎ ((other ≡ 5) × T) → other ≡ 0 → IsThrough w rest × Appends before after (soak_text calls w)
    all (inl same) zero = let whole = prints.whole (sym same ∙ zero) in (whole.0, kept_after before held after (soak_text calls w) whole.1 kept)
    all (inr five) zero = absurd (omega (arith, five.0, zero))

-- a soak ends with another status, which says less, and its sink keeps what it holds
pub soak_or : {T : Type 0} {status : ℕ} {lines : List Line} {journals : List Journal} {heard : List AskFacts} {shelf_before shelf_after : Shelf} {before held after : Option (List ℕ)} (other : ℕ) →
    (other ≡ status) ⊎ ((other ≡ 5) × T) → Keeps held after → SoakOf status lines journals heard shelf_before shelf_after before held → SoakOf other lines journals heard shelf_before shelf_after before after
soak_or other which kept soak = record { events = soak.events; ran = soak.ran; rest = soak.rest; given = soak.given; prints = prints_kept other which kept soak.prints }

-- without memory for a heap nothing happens
pub soak_none : (lines : List Line) (shelf : Shelf) (held : Option (List ℕ)) → IsSound opening_heap → SoakOf 6 lines (map journal_of opening_heap.records) [] shelf shelf held held
soak_none lines shelf held sound = record {
  events = [];
  ran = ran_none shelf sound;
  rest = lines;
  given = refl;
  prints = record { beginning = inl (Appends-nil held); whole = λ zero. absurd (omega (arith, zero)) };
}

-- its statuses
pub soak_status : {T : Type 0} (r : Result ℕ Stop) (status k k' : ℕ) → (status ≡ status_in r) ⊎ ((status ≡ 5) × T) → IfOk r (λ told. told ≡ 0) → IfErr r (λ stop. HasStopCause stop 0 0 k k') → IsSoakStatus status
soak_status r status k k' (inr five) is cause = inr (inl five.0)
soak_status (Ok told) status k k' (inl same) is cause = inl (same ∙ is)
soak_status (Err ReadFault) status k k' (inl same) is cause = absurd (omega (arith, cause))
soak_status (Err WriteFault) status k k' (inl same) is cause = inr (inl same)
soak_status (Err NoMemory) status k k' (inl same) is cause = inr (inr same)
