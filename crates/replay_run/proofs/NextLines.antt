-- The look for the next line.
use Rattle.replay_run.proofs.Words.{arith, length, take, drop, ◌+◌, ◌≡◌, ◌≢◌, ◌<◌, ◌≤◌, ℕ, Bool, true, List, [], ◌∷◌, ◌++◌, Option, Some, Result, Ok, Err, refl, IsErrAnd, length-take-le, IsAtEnd, Keeps, Cause, Cut, Line, line_of, HasNoNewline, Found, FoundLine, TooLong, Stop, byte_limit, line_limit, said_cause, InBounds, IsFirst, MetEnd, TakesMore, Between, EndsHere, GoesNext, HasRead, Here, IsUnread, Now, Outset, Reading, reading, status_for, Awaits}
use Rattle.replay_run.specs.declared.input.Found.TheVariants.{End}
use Rattle.replay_run.specs.declared.replays.Next.{Next}
use Rattle.replay_run.specs.declared.replays.Next.TheVariants.{Bad, Over}
use Rattle.replay_run.proofs.BadLines.{bad_cut, bad_long, bad_said}
use Rattle.replay_run.proofs.Came.{between_read, came_held, read_one_more}
use Rattle.replay_run.proofs.Endings.{kept_after}

-- a sink that keeps what it holds
here_kept : {from : Outset} {lines : List Line} {awaits : Awaits} {ahead : List Line} {now : Now} → Here from lines awaits ahead now → (held : Option (List ℕ)) → Keeps now.held held →
    Here from lines awaits ahead (record now { held = held })
here_kept {from} {lines} {awaits} {ahead} {now} so held kept = record { text = so.text; came = came_held so.came held; prints = kept_after from.held now.held held so.text so.prints kept }

pub between_kept : {from : Outset} {left : Option (List ℕ)} {count : ℕ} {at : Reading} {now : Now} → Between from left count at now → (held : Option (List ℕ)) → Keeps now.held held →
    Between from left count at (record now { held = held })
between_kept between held kept = record { lines = between.lines; read = between.read; here = here_kept between.here held kept }

-- more bytes were taken, and the sink keeps what it holds
pub between_found : {from : Outset} {left : Option (List ℕ)} {count : ℕ} {at : Reading} {now : Now} → Between from left count at now → (pending : List ℕ) (left' : Option (List ℕ)) (met : Bool) (held : Option (List ℕ)) →
    TakesMore at.pending pending at.left left' → Keeps now.held held → Between from left count (reading pending left' met) (record now { held = held })
between_found between pending left' met held more kept = between_kept (between_read between pending left' met more) held kept

-- no bytes and some are told apart
unread_end : {from : Outset} {left : Option (List ℕ)} {count : ℕ} {at : Reading} {now : Now} (between : Between from left count at now) (bytes : List ℕ) (next : Next) → at.pending ≡ bytes → count < line_limit → length bytes ≤ byte_limit →
    HasNoNewline bytes → IsAtEnd at.left × (at.met ≡ true) → (bytes ≡ [] → next ≡ Over) × (bytes ≢ [] → next ≡ Bad Cut) → GoesNext from left count (Ok next) at now
unread_end {from} {left} {count} {at} {now} between [] next are below short plain ends leads = rw (leads.0 refl) (between, are, ends.0, ends.1)
unread_end {from} {left} {count} {at} {now} between (b ∷ bytes) next are below short plain ends leads =
    let some : b ∷ bytes ≢ [] = λ none. absurd (cc (none)) in
    rw (leads.1 some) (between, rw are (bad_cut now.moment (count + 1) (b ∷ bytes) at.met (omega (arith, below)) some short plain ends.1))

-- bytes without a whole line
pub unread_goes : {from : Outset} {left : Option (List ℕ)} {count : ℕ} {at : Reading} {now : Now} (between : Between from left count at now) (found : Found) (next : Next) → count < line_limit → ((n : ℕ) → found ≡ FoundLine n → ⊥) →
    InBounds found at.pending → IsFirst found at.pending → MetEnd found at.left at.met → IsUnread found at.pending next → GoesNext from left count (Ok next) at now
unread_goes {from} {left} {count} {at} {now} between (FoundLine n) next below none bounds first ends leads = absurd (none n refl)
unread_goes {from} {left} {count} {at} {now} between TooLong next below none bounds first ends leads = rw leads (between, bad_long now.moment (count + 1) at.pending at.met (omega (arith, below)) bounds first)
unread_goes {from} {left} {count} {at} {now} between End next below none bounds first ends leads = unread_end between at.pending next refl below bounds first ends leads

-- a whole line that is bad
pub bad_goes : {from : Outset} {left : Option (List ℕ)} {count : ℕ} {at : Reading} {now : Now} (between : Between from left count at now) (n : ℕ) (cause : Cause) → count < line_limit → InBounds (FoundLine n) at.pending → IsFirst (FoundLine n) at.pending →
    said_cause now.moment (line_of (take n at.pending)) ≡ Some cause → GoesNext from left count (Ok (Bad cause)) at now
bad_goes {from} {left} {count} {at} {now} between n cause below bounds first says = (
  between,
  bad_said now.moment (count + 1) at.pending (take n at.pending) (drop (n + 1) at.pending) at.met cause (omega (arith, below)) first.0
      (omega (arith, length-take-le n at.pending (omega (arith, bounds.1)), bounds.0)) first.1 says,
)

-- a whole line that is read is the next one
pub line_read_next : {left : Option (List ℕ)} {lines : List Line} {count : ℕ} {at : Reading} → HasRead left lines count at → (n : ℕ) (line : Line) → count < line_limit → InBounds (FoundLine n) at.pending → IsFirst (FoundLine n) at.pending →
    line_of (take n at.pending) ≡ Ok line → HasRead left (lines ++ line ∷ []) (count + 1) (reading (drop (n + 1) at.pending) at.left at.met)
line_read_next {left} {lines} {count} {at} read n line below bounds first says = read_one_more read (take n at.pending) (drop (n + 1) at.pending) line below first.0
    (omega (arith, length-take-le n at.pending (omega (arith, bounds.1)), bounds.0)) says first.1

-- ---- where the next line leads

-- a stop that was passed on
pub next_stop : (from : Outset) (left : Option (List ℕ)) (count : ℕ) (r : Result Next Stop) (stop : Stop) (at : Reading) (now : Now) → IsErrAnd r (λ passed. passed ≡ stop) → EndsHere from left (status_for stop) at now →
    GoesNext from left count r at now
next_stop from left count (Ok done) stop at now is ends = absurd is
next_stop from left count (Err passed) stop at now is ends = rw is ends
