-- Replays at their beginning and at their end.
use Rattle.replay_run.proofs.Words.{arith, length, map, true, IfErr, IfOk, OnOk, replicate, ◌≡◌, ◌≤◌, ◌⊎◌, inl, inr, ℕ, Bool, List, [], ◌++◌, Option, None, Result, Ok, Err, refl, sym, ◌∙◌, subst, IsErrAnd, Appends-nil, Consumes-nil, Keeps, Rose, AskFacts, Shelf, Journal, journal_of, opening_heap, Stop, ReadFault, WriteFault, IsSound, lines_in, world_after, Ending, IsEnding, Open, Prints, ReplayOf, RunOf, ending_text, HasRead, Here, Now, Outset, Reading, HasStopCause, IsWholeStatus, status_for, status_in, Nothing, World, no_answers, opening_controls, opening_world, Closing}
use Rattle.replay_run.proofs.Endings.{kept_after, kept_begun, stop_bounds}
use Rattle.replay_run.proofs.Stops.{prints_begun}

-- ---- the beginning

-- before the first line nothing was carried out
pub here_none : (from : Outset) (now : Now) → now.heap ≡ opening_heap → now.calls ≡ replicate 32 None → now.names ≡ [] → now.tally ≡ no_answers → now.controls ≡ opening_controls → now.moment ≡ 0 →
    now.shelf ≡ from.shelf → now.held ≡ from.held → IsSound now.heap → Here from [] Nothing [] now
here_none from now heap calls names tally controls moment shelf held sound = record {
  text = [];
  came = record {
    events = [];
    play = tt;
    here = rw (heap, calls, names, tally, controls, moment) refl;
    sound = subst IsSound heap sound;
    chain = shelf;
    of_lines = refl;
  };
  prints = rw held (Appends-nil from.held);
}

-- and nothing was read
pub read_none : (left : Option (List ℕ)) (at : Reading) → at.pending ≡ [] → at.left ≡ left → HasRead left [] 0 at
read_none left at none same = record {
  taken = [];
  takes = rw same (Consumes-nil left);
  reads = sym none;
  number = refl;
  few = omega arith;
}

-- ---- the end

-- a stop that was passed on
pub replay_passed : {form : Closing} {journals : List Journal} {heard : List AskFacts} {shelf_before shelf_after : Shelf} {met : Bool} {left_before left before after : Option (List ℕ)} (r : Result ℕ Stop) (stop : Stop) →
    IsErrAnd r (λ passed. passed ≡ stop) → ReplayOf form (status_for stop) journals heard shelf_before shelf_after met left_before left before after →
    ReplayOf form (status_in r) journals heard shelf_before shelf_after met left_before left before after
replay_passed (Ok status) stop is replay = absurd is
replay_passed (Err passed) stop is replay = rw is replay

-- what was printed, where the sink keeps what it holds
prints_kept : {form : Closing} {status : ℕ} {w : World} {count : ℕ} {rest : List ℕ} {ending : Ending} {before held after : Option (List ℕ)} → Prints form status w count rest ending before held → Keeps held after →
    Prints form status w count rest ending before after
prints_kept {form} {status} {w} {count} {rest} {ending} {before} {held} {after} prints kept =
    let text : List ℕ = w.text ++ ending_text form w count ending in record {
      beginning = kept_begun before held after text prints.beginning kept;
      whole = λ is. let p = prints.whole is in (p.0, kept_after before held after text p.1 kept);
      refused = λ is. let p = prints.refused is in (p.0, p.1, p.2, kept_after before held after text p.3 kept);
      limited = λ is. let p = prints.limited is in (p.0, p.1, p.2, kept_after before held after text p.3 kept);
      cut_off = λ is. let p = prints.cut_off is in (p.0, p.1, p.2, kept_after before held after w.text p.3 kept);
      within = prints.within;
    }

-- where the last flush fails, what was printed is the beginning of a report at least
prints_or : {T : Type 0} {form : Closing} {status : ℕ} {w : World} {count : ℕ} {rest : List ℕ} {ending : Ending} {before held after : Option (List ℕ)} (other : ℕ) → (other ≡ status) ⊎ ((other ≡ 5) × T) → Prints form status w count rest ending before held → Keeps held after →
    Prints form other w count rest ending before after
prints_or other (inl same) prints kept = rw same (prints_kept prints kept)
prints_or {T} {form} {status} {w} {count} {rest} {ending} {before} {held} {after} other (inr five) prints kept =
    rw five.0 (prints_begun (omega arith) (omega arith) (kept_begun before held after (w.text ++ ending_text form w count ending) prints.beginning kept))

-- a replay ends with another status, which says less, and its sink keeps what it holds
pub replay_or : {T : Type 0} {form : Closing} {status : ℕ} {journals : List Journal} {heard : List AskFacts} {shelf_before shelf_after : Shelf} {met : Bool} {left_before left before held after : Option (List ℕ)} (other : ℕ) →
    (other ≡ status) ⊎ ((other ≡ 5) × T) → Keeps held after → ReplayOf form status journals heard shelf_before shelf_after met left_before left before held →
    ReplayOf form other journals heard shelf_before shelf_after met left_before left before after
replay_or other which kept replay = record {
  events = replay.events;
  ran = replay.ran;
  taken = replay.taken;
  takes = replay.takes;
  rest = replay.rest;
  reads = replay.reads;
  few = replay.few;
  ending = replay.ending;
  ends = replay.ends;
  prints = prints_or other which replay.prints kept;
}

-- the status after the last flush
pub last_status : (ended flushed : Result ℕ Stop) (status : ℕ) {T : Type 0} → (flushed ≡ ended) ⊎ ((flushed ≡ Err WriteFault) × T) → status ≡ status_in flushed → (status ≡ status_in ended) ⊎ ((status ≡ 5) × T)
last_status ended flushed status {T} (inl same) is = inl (rw same at is)
last_status ended flushed status {T} (inr fault) is = inr (rw fault.0 at is, fault.1)

-- without memory for a heap nothing happens
pub ran_none : (shelf : Shelf) → IsSound opening_heap → RunOf (map journal_of opening_heap.records) [] shelf shelf []
ran_none shelf sound = record { play = tt; sound = sound; in_journals = refl; hears = refl; chain = refl }

pub replay_none : (form : Closing) (shelf : Shelf) (met : Bool) (left held : Option (List ℕ)) → IsSound opening_heap → ReplayOf form 6 (map journal_of opening_heap.records) [] shelf shelf met left left held held
replay_none form shelf met left held sound = record {
  events = [];
  ran = ran_none shelf sound;
  taken = [];
  takes = Consumes-nil left;
  rest = [];
  reads = refl;
  few = omega arith;
  ending = Open;
  ends = tt;
  prints = prints_begun (omega arith) (omega arith) (0, omega arith, Appends-nil held);
}

-- ---- statuses and causes

pub status_closed : (r : Result ℕ Stop) → IfOk r (λ told. told ≡ 0) → IfOk r IsWholeStatus
status_closed (Ok status) is = inl is
status_closed (Err stop) is = tt

pub status_flushed : (ended flushed : Result ℕ Stop) {T : Type 0} → (flushed ≡ ended) ⊎ ((flushed ≡ Err WriteFault) × T) → IfOk ended IsWholeStatus → IfOk flushed IsWholeStatus
status_flushed ended flushed {T} (inl same) is = rw same is
status_flushed ended flushed {T} (inr fault) is = rw fault.0 tt

-- a count that rose from a later one rose from an earlier one, and to a later one
rose_wider : (low old new high : ℕ) → low ≤ old → new ≤ high → Rose old new → Rose low high
rose_wider low old new high below above (inl rose) = inl (omega (arith, below, above, rose))
rose_wider low old new high below above (inr greatest) = inr (omega (arith, above, greatest))

-- the cause of a stop that used only the sink
pub cause_wider : {T : Type 0} (r : Result T Stop) (s s' low old new : ℕ) → low ≤ old → IfErr r (λ stop. HasStopCause stop 0 0 old new) → IfErr r (λ stop. HasStopCause stop s s' low new)
cause_wider r s s' low old new below cause = grind (arith, rose_wider)

-- status 4 comes of a read that failed
pub read_faulted : (r : Result ℕ Stop) (status : ℕ) {T : Type 0} (s s' k k' : ℕ) → (status ≡ status_in r) ⊎ ((status ≡ 5) × T) → IfOk r IsWholeStatus → IfErr r (λ stop. HasStopCause stop s s' k k') → status ≡ 4 → Rose s s'
read_faulted (Ok whole) status s s' k k' which is cause four = absurd (omega (arith, which, is, four))
read_faulted (Err ReadFault) status s s' k k' which is cause four = cause
read_faulted (Err stop) status s s' k k' which is cause four = absurd (grind (arith, which, four))

-- status 5 comes of a write that failed, in the run or of the last flush
pub write_faulted : (r : Result ℕ Stop) (status s s' low mid high : ℕ) → low ≤ mid → mid ≤ high → (status ≡ status_in r) ⊎ ((status ≡ 5) × Rose mid high) → IfOk r IsWholeStatus →
    IfErr r (λ stop. HasStopCause stop s s' low mid) → status ≡ 5 → Rose low high
write_faulted r status s s' low mid high below above (inr rose) is cause five = rose_wider low mid high high below (omega arith) rose.1
write_faulted (Ok whole) status s s' low mid high below above (inl same) is cause five = absurd (omega (arith, same, is, five))
write_faulted (Err WriteFault) status s s' low mid high below above (inl same) is cause five = rose_wider low low mid high (omega arith) above cause
write_faulted (Err stop) status s s' low mid high below above (inl same) is cause five = absurd (grind (arith, same, five))

-- what is so of a run that went on to its end is so where the status says that it did
pub whole_passed : {P : Type 0} (r : Result ℕ Stop) (status : ℕ) → status ≡ status_in r → OnOk r P → IsWholeStatus status → P
whole_passed (Ok told) status is ok whole = ok
whole_passed (Err stop) status is ok whole = let bounds = stop_bounds stop in absurd (omega (arith, bounds.0, bounds.1, is, whole))

-- also behind the last flush
pub whole_left : {P T : Type 0} (r : Result ℕ Stop) (status : ℕ) → (status ≡ status_in r) ⊎ ((status ≡ 5) × T) → OnOk r P → IsWholeStatus status → P
whole_left r status (inl same) ok whole = whole_passed r status same ok whole
whole_left r status (inr five) ok whole = absurd (omega (arith, five.0, whole))

-- what is so is so of a good result
pub on_ok : {T P : Type 0} (r : Result T Stop) → P → OnOk r P
on_ok (Ok done) so = so
on_ok (Err stop) so = tt

-- a count that stayed so far stays where the last text raised it not
pub stays_on : {T : Type 0} (r : Result T Stop) (low old new : ℕ) → old ≡ low → OnOk r (new ≡ old) → OnOk r (new ≡ low)
stays_on (Ok done) low old new same ok = ok ∙ same
stays_on (Err stop) low old new same ok = tt

-- at status 0 the source has met its end
pub replay_ended : {form : Closing} {status : ℕ} {journals : List Journal} {heard : List AskFacts} {shelf_before shelf_after : Shelf} {met : Bool} {left_before left before after : Option (List ℕ)} →
    ReplayOf form status journals heard shelf_before shelf_after met left_before left before after → status ≡ 0 → met ≡ true
replay_ended {form} {status} {journals} {heard} {shelf_before} {shelf_after} {met} {left_before} {left} {before} {after} replay zero =
    let whole = replay.prints.whole zero in
    (subst (IsEnding (world_after opening_world replay.events) (length (lines_in replay.events)) replay.rest left met) whole.0 replay.ends).3
