-- A line that is read is an event.
use Rattle.replay_run.proofs.Words.{◌≡◌, ◌≢◌, ℕ, Bool, true, false, List, [], ◌∷◌, ◌++◌, Option, None, Result, Ok, Err, IfErr, OnOk, OnErr, refl, sym, ap, subst, append-nil, Appends-nil, Appends-trans, Appends, AppendsPrefix, Chain, PlanStep, Shelf, Kind, Counts, record_at, idle_line, Line, Blank, Call, Start, Step, End, At, CountsOf, Verb, Stop, line_cause, IsSound, Read, plan_in, Reached, Halted, GoesOn, Here, Now, Outset, world_at, HasStopCause, status_for, Awaits, Nothing, OneStep, TheEnd, awaits_call, awaits_or_idle, counts_text, has_open_call, line_read, live_counts}
use Rattle.trace_text.specs.declared.lines.Line.TheVariants.{Refuse}
use Rattle.replay_run.proofs.Came.{Leads, came_next, came_sound}
use Rattle.replay_run.proofs.Endings.{behind, sink_fault}
use Rattle.replay_run.proofs.Stops.{stops_after}

-- What reading a line does: it has no cause, and leads to this moment, at which this is waited for and so much more is printed.
pub record Reads (line : Line) (now : Now) (awaits : Awaits) (more : List ℕ) (now' : Now) : Type 0 where
  pub free : line_cause now.moment line ≡ None
  pub after : (text : List ℕ) → line_read (world_at now text Nothing) line ≡ world_at now' (text ++ more) awaits
  pub heap : now'.heap ≡ now.heap
  pub chain : Chain now.shelf (plan_in line) now'.shelf

-- a play goes on by a line
pub line_came : {from : Outset} {lines : List Line} {line : Line} {now : Now} {awaits : Awaits} {more : List ℕ} {now' : Now} (so : Here from lines Nothing (line ∷ []) now) →
    Reads line now awaits more now' → Reached from lines awaits [] (so.text ++ more) now'
line_came {from} {lines} {line} {now} {awaits} {more} {now'} so reads =
    let leads : Leads (Read line) Nothing (line ∷ []) so.text now awaits [] (so.text ++ more) now' = record {
      next = (refl, reads.free);
      after = reads.after so.text;
      sound = subst IsSound (sym reads.heap) (came_sound so.came);
      lines = refl;
      chain = reads.chain;
    } in
    came_next so.came leads

-- and all of it was printed
pub line_goes : {from : Outset} {lines : List Line} {line : Line} {now : Now} {awaits : Awaits} {more : List ℕ} {now' : Now} (so : Here from lines Nothing (line ∷ []) now) →
    Reads line now awaits more now' → Appends now.held now'.held more → Here from lines awaits [] now'
line_goes {from} {lines} {line} {now} {awaits} {more} {now'} so reads printed = record {
  text = so.text ++ more;
  came = line_came so reads;
  prints = Appends-trans from.held now.held now'.held so.text more so.prints printed;
}

-- nothing is printed
pub line_silent : {from : Outset} {lines : List Line} {line : Line} {now : Now} {awaits : Awaits} {now' : Now} (so : Here from lines Nothing (line ∷ []) now) →
    Reads line now awaits [] now' → now'.held ≡ now.held → Here from lines awaits [] now'
line_silent {from} {lines} {line} {now} {awaits} {now'} so reads same = line_goes so reads (subst (λ (held : Option (List ℕ)). Appends now.held held []) (sym same) (Appends-nil now.held))

-- or a beginning of it was
pub line_stops : {from : Outset} {lines : List Line} {line : Line} {now : Now} {awaits : Awaits} {more : List ℕ} {now' : Now} (so : Here from lines Nothing (line ∷ []) now) (stop : Stop) →
    Reads line now awaits more now' → status_for stop ≢ 4 → AppendsPrefix now.held now'.held more → Halted from lines stop now'
line_stops {from} {lines} {line} {now} {awaits} {more} {now'} so stop reads other printed =
    stops_after (line_came so reads) stop other (behind from.held now.held now'.held so.text more so.prints printed)

-- ---- what each line does

-- nothing more is printed
silent : (now : Now) (text : List ℕ) (awaits : Awaits) → world_at now text awaits ≡ world_at now (text ++ []) awaits
silent now text awaits = ap (λ (t : List ℕ). world_at now t awaits) (sym (append-nil text))

-- a line that changes nothing but what is waited for and what is held
reads_so : (line : Line) (now : Now) (awaits : Awaits) (more : List ℕ) (held : Option (List ℕ)) → plan_in line ≡ [] → line_cause now.moment line ≡ None →
    ((text : List ℕ) → line_read (world_at now text Nothing) line ≡ world_at (record now { held = held }) (text ++ more) awaits) → Reads line now awaits more (record now { held = held })
reads_so line now awaits more held plans free after = record { free = free; after = after; heap = refl; chain = rw plans refl }

pub reads_call : (now : Now) (c : ℕ) (verb : Verb) → line_cause now.moment (Call c verb) ≡ None → Reads (Call c verb) now (awaits_call (has_open_call now.heap c) c verb true) [] now
reads_call now c verb free = reads_so (Call c verb) now _ [] now.held refl free (λ text. silent now text (awaits_call (has_open_call now.heap c) c verb true))

pub reads_start : (now : Now) (c : ℕ) (verb : Verb) → line_cause now.moment (Start c verb) ≡ None → Reads (Start c verb) now (awaits_call (has_open_call now.heap c) c verb false) [] now
reads_start now c verb free = reads_so (Start c verb) now _ [] now.held refl free (λ text. silent now text (awaits_call (has_open_call now.heap c) c verb false))

pub reads_step : (now : Now) (c : ℕ) → has_open_call now.heap c ≡ true → Reads (Step c) now (OneStep c) [] now
reads_step now c is = reads_so (Step c) now (OneStep c) [] now.held refl refl (λ text. rw is (silent now text (OneStep c)))

pub reads_end : (now : Now) (c : ℕ) → has_open_call now.heap c ≡ true → Reads (End c) now (TheEnd c) [] now
reads_end now c is = reads_so (End c) now (TheEnd c) [] now.held refl refl (λ text. rw is (silent now text (TheEnd c)))

pub reads_step_idle : (now : Now) (c : ℕ) (held : Option (List ℕ)) → has_open_call now.heap c ≡ false → Reads (Step c) now Nothing (idle_line c) (record now { held = held })
reads_step_idle now c held is = reads_so (Step c) now Nothing (idle_line c) held refl refl (λ text. ap (λ (b : Bool). awaits_or_idle (world_at now text Nothing) c b (OneStep c)) is)

pub reads_end_idle : (now : Now) (c : ℕ) (held : Option (List ℕ)) → has_open_call now.heap c ≡ false → Reads (End c) now Nothing (idle_line c) (record now { held = held })
reads_end_idle now c held is = reads_so (End c) now Nothing (idle_line c) held refl refl (λ text. ap (λ (b : Bool). awaits_or_idle (world_at now text Nothing) c b (TheEnd c)) is)

pub reads_at : (now : Now) (moment : ℕ) → line_cause now.moment (At moment) ≡ None → Reads (At moment) now Nothing [] (record now { moment = moment })
reads_at now moment free = record { free = free; after = λ text. silent (record now { moment = moment }) text Nothing; heap = refl; chain = refl }

pub reads_refuse : (now : Now) (box_no : ℕ) (kind : Kind) (nth : ℕ) (shelf : Shelf) → PlanStep now.shelf box_no kind nth shelf → Reads (Refuse box_no kind nth) now Nothing [] (record now { shelf = shelf })
reads_refuse now box_no kind nth shelf step = record { free = refl; after = λ text. silent (record now { shelf = shelf }) text Nothing; heap = refl; chain = (shelf, step, refl) }

pub reads_counts : (now : Now) (index : ℕ) (counts : Option Counts) (held : Option (List ℕ)) → counts ≡ live_counts (record_at now.heap.records index).space →
    Reads (CountsOf index) now Nothing (counts_text index counts) (record now { held = held })
reads_counts now index counts held is = reads_so (CountsOf index) now Nothing (counts_text index counts) held refl refl (λ text. rw is refl)

pub reads_blank : (now : Now) → Reads Blank now Nothing [] now
reads_blank now = reads_so Blank now Nothing [] now.held refl refl (λ text. silent now text Nothing)

-- by what printing gave
pub line_result : {from : Outset} {lines : List Line} {line : Line} {now : Now} {more : List ℕ} (so : Here from lines Nothing (line ∷ []) now) (held : Option (List ℕ)) (k k' : ℕ) (r : Result (Unit {0}) Stop) →
    Reads line now Nothing more (record now { held = held }) → OnOk r (Appends now.held held more) → OnErr r (AppendsPrefix now.held held more) →
    IfErr r (λ stop. HasStopCause stop 0 0 k k') → GoesOn from lines Nothing r (record now { held = held })
line_result {from} {lines} {line} {now} {more} so held k k' (Ok done) reads ok err cause = line_goes so reads ok
line_result {from} {lines} {line} {now} {more} so held k k' (Err stop) reads ok err cause = line_stops so stop reads (sink_fault stop k k' cause) err
