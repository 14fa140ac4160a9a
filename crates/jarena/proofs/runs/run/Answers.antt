use Rattle.std.proofs.Common.{inl, inr, refl, sym, ◌∙◌, arith, subst}
use Rattle.std.specs.Prelude.{IsTrue}
use Rattle.jarena.proofs.Accepting.{threads_accepted}
use Rattle.jarena.proofs.Completing.{replay_completes, soak_completes}
use Rattle.jarena.proofs.Lists.{check_in_list, check_no_replay, check_no_soak, replay_form, replay_in_list, replay_no_soak, soak_calls, soak_in_list, soak_start, threads_form, threads_in_list, threads_no_check, threads_no_replay, threads_no_soak}
use Rattle.jarena.proofs.Serving.{carried_served}
use Rattle.jarena.proofs.Threading.{threads_not_usage}
use Rattle.jarena.proofs.runs.run.Goals as goal

-- ---- a replay

pub returns-in-Replay-clause-usage : goal.returns-in-Replay-clause-usage
returns-in-Replay-clause-usage g c = λ none. absurd (replay_in_list _ c.in-Replay.closing c.in-Replay.ensures none)

pub returns-in-Replay-clause-status_2 : goal.returns-in-Replay-clause-status_2
returns-in-Replay-clause-status_2 g c = λ two. absurd (omega (arith, two, c.outcome_of.ensures.status, c.replay.ensures.known))

pub returns-in-Replay-clause-unread : goal.returns-in-Replay-clause-unread
returns-in-Replay-clause-unread g c = inl (c.in-Replay.closing, c.in-Replay.ensures)

pub returns-in-Replay-clause-replay : goal.returns-in-Replay-clause-replay
returns-in-Replay-clause-replay g c = λ form is.
    let told = rw (replay_form _ c.in-Replay.closing form c.in-Replay.ensures is) at c.replay.ensures in
    let out = c.outcome_of.ensures in
    rw (out.status, out.shelf, out.journals, out.heard, out.chunks) (record {
      journals = told.replay.0;
      replay = told.replay.1;
      hands_out = told.replay.2;
      ended = told.ended;
      read_fault = told.read_fault;
      write_fault = told.write_fault;
      unfailed = λ whole. (told.unfailed whole, told.sink_unfailed whole);
      handed_on = told.handed_on;
      known = told.known;
      completes = replay_completes told.replay.1 told.known told.read_fault told.write_fault;
      no_chunks = refl;
    })

pub returns-in-Replay-clause-patient : goal.returns-in-Replay-clause-patient
returns-in-Replay-clause-patient g c = λ why. c.replay.ensures.patient

pub returns-in-Replay-clause-soak : goal.returns-in-Replay-clause-soak
returns-in-Replay-clause-soak g c = λ start calls is. absurd (replay_no_soak _ c.in-Replay.closing start calls c.in-Replay.ensures is)

pub returns-in-Replay-clause-check : goal.returns-in-Replay-clause-check
returns-in-Replay-clause-check g c = λ is. absurd (check_no_replay _ c.in-Replay.closing is c.in-Replay.ensures)

pub returns-in-Replay-clause-threads : goal.returns-in-Replay-clause-threads
returns-in-Replay-clause-threads g c = λ with_journals is. absurd (threads_no_replay _ with_journals _ is c.in-Replay.ensures)

-- ---- a soak

pub returns-in-Soak-clause-usage : goal.returns-in-Soak-clause-usage
returns-in-Soak-clause-usage g c = λ none. absurd (soak_in_list _ _ _ c.in-Soak.ensures none)

pub returns-in-Soak-clause-status_2 : goal.returns-in-Soak-clause-status_2
returns-in-Soak-clause-status_2 g c = λ two. absurd (omega (arith, two, c.outcome_of-in-Soak.ensures.status, c.soak.ensures.known))

pub returns-in-Soak-clause-unread : goal.returns-in-Soak-clause-unread
returns-in-Soak-clause-unread g c = inr (inr (inr refl))

pub returns-in-Soak-clause-replay : goal.returns-in-Soak-clause-replay
returns-in-Soak-clause-replay g c = λ form is. absurd (replay_no_soak _ form _ _ is c.in-Soak.ensures)

pub returns-in-Soak-clause-patient : goal.returns-in-Soak-clause-patient
returns-in-Soak-clause-patient g c = λ why. refl

pub returns-in-Soak-clause-soak : goal.returns-in-Soak-clause-soak
returns-in-Soak-clause-soak g c = λ start calls is.
    let told = c.soak.ensures in
    let out = c.outcome_of-in-Soak.ensures in
    let from = soak_start _ start calls c.in-Soak.start c.in-Soak.calls is c.in-Soak.ensures in
    let many = soak_calls _ start calls c.in-Soak.start c.in-Soak.calls is c.in-Soak.ensures in record {
      journals = told.soak.0;
      soak = rw (from, many, out.status, out.shelf, out.heard, ← c.new.ensures) told.soak.1;
      hands_out = rw (out.status, out.shelf, out.journals, out.heard) told.soak.2;
      write_fault = λ five. told.write_fault (sym out.status ∙ five);
      unfailed = λ zero. told.unfailed (sym out.status ∙ zero);
      handed_on = λ zero. told.handed_on (sym out.status ∙ zero);
      known = rw out.status told.known;
      completes = rw out.status (soak_completes c.soak.result.status told.known told.write_fault);
      no_chunks = out.chunks;
    }

pub returns-in-Soak-clause-check : goal.returns-in-Soak-clause-check
returns-in-Soak-clause-check g c = λ is. absurd (check_no_soak _ _ _ is c.in-Soak.ensures)

pub returns-in-Soak-clause-threads : goal.returns-in-Soak-clause-threads
returns-in-Soak-clause-threads g c = λ with_journals is. absurd (threads_no_soak _ with_journals _ _ is c.in-Soak.ensures)

-- ---- a run of threads

pub returns-in-Threads-clause-usage : goal.returns-in-Threads-clause-usage
returns-in-Threads-clause-usage g c = λ none. absurd (threads_in_list _ _ c.in-Threads.ensures none)

pub returns-in-Threads-clause-status_2 : goal.returns-in-Threads-clause-status_2
returns-in-Threads-clause-status_2 g c = λ two. absurd (threads_not_usage _ _ _ _ _ _ _ _ _ _ c.threads-threaded.ensures.runs (sym c.of_threads.ensures.status ∙ two))

pub returns-in-Threads-clause-unread : goal.returns-in-Threads-clause-unread
returns-in-Threads-clause-unread g c = inr (inl (c.in-Threads.with_journals, c.in-Threads.ensures))

pub returns-in-Threads-clause-replay : goal.returns-in-Threads-clause-replay
returns-in-Threads-clause-replay g c = λ form is. absurd (threads_no_replay _ _ form c.in-Threads.ensures is)

pub returns-in-Threads-clause-patient : goal.returns-in-Threads-clause-patient
returns-in-Threads-clause-patient g c = λ why. elim why [
  | inl still ↦ c.threads-threaded.ensures.patient still
  | inr form ↦ absurd (threads_no_replay _ _ form.0 c.in-Threads.ensures form.1)
]

pub returns-in-Threads-clause-soak : goal.returns-in-Threads-clause-soak
returns-in-Threads-clause-soak g c = λ start calls is. absurd (threads_no_soak _ _ start calls c.in-Threads.ensures is)

pub returns-in-Threads-clause-threads : goal.returns-in-Threads-clause-threads
returns-in-Threads-clause-threads g c = λ with_journals is.
    let out = c.of_threads.ensures in record {
      runs = rw (threads_form _ with_journals c.in-Threads.with_journals is c.in-Threads.ensures, out.status, out.shelf, out.journals, out.chunks) c.threads-threaded.ensures.runs;
      served = λ ran. carried_served ran.carried.orders ran.phases.parts ran.carried.last _ ran.carried.book ran.carried.carried;
      unheard = out.heard;
      accepted = λ journals zero. threads_accepted c.in-Threads.with_journals _ _ _ _ _ _ _ _ _ c.threads-threaded.ensures.runs
          (subst IsTrue (threads_form _ with_journals c.in-Threads.with_journals is c.in-Threads.ensures) journals) (sym out.status ∙ zero);
    }

pub returns-in-Threads-clause-check : goal.returns-in-Threads-clause-check
returns-in-Threads-clause-check g c = λ is. absurd (threads_no_check _ _ c.in-Threads.ensures is)

-- ---- a check

pub returns-in-Check-clause-usage : goal.returns-in-Check-clause-usage
returns-in-Check-clause-usage g c = λ none. absurd (check_in_list _ c.in-Check.ensures none)

pub returns-in-Check-clause-status_2 : goal.returns-in-Check-clause-status_2
returns-in-Check-clause-status_2 g c = λ two. absurd (c.check_journals.ensures.not_usage (sym c.untouched.ensures.status ∙ two))

pub returns-in-Check-clause-unread : goal.returns-in-Check-clause-unread
returns-in-Check-clause-unread g c = inr (inr (inl c.in-Check.ensures))

pub returns-in-Check-clause-replay : goal.returns-in-Check-clause-replay
returns-in-Check-clause-replay g c = λ form is. absurd (check_no_replay _ form c.in-Check.ensures is)

pub returns-in-Check-clause-patient : goal.returns-in-Check-clause-patient
returns-in-Check-clause-patient g c = λ why. elim why [
  | inl still ↦ c.check_journals.ensures.patient still
  | inr form ↦ absurd (check_no_replay _ form.0 c.in-Check.ensures form.1)
]

pub returns-in-Check-clause-soak : goal.returns-in-Check-clause-soak
returns-in-Check-clause-soak g c = λ start calls is. absurd (check_no_soak _ start calls c.in-Check.ensures is)

pub returns-in-Check-clause-check : goal.returns-in-Check-clause-check
returns-in-Check-clause-check g c = λ is.
    let out = c.untouched.ensures in record {
      checks = rw out.status c.check_journals.ensures.checked;
      unasked = out.heard;
      no_journals = out.journals;
      no_chunks = out.chunks;
      same_shelf = out.shelf;
    }

pub returns-in-Check-clause-threads : goal.returns-in-Check-clause-threads
returns-in-Check-clause-threads g c = λ with_journals is. absurd (threads_no_check _ with_journals is c.in-Check.ensures)

-- ---- words in no list

pub returns-in-Nothing-clause-status_2 : goal.returns-in-Nothing-clause-status_2
returns-in-Nothing-clause-status_2 g c = λ two. c.in-Nothing.ensures

pub returns-in-Nothing-clause-unread : goal.returns-in-Nothing-clause-unread
returns-in-Nothing-clause-unread g c = inr (inr (inr refl))

pub returns-in-Nothing-clause-replay : goal.returns-in-Nothing-clause-replay
returns-in-Nothing-clause-replay g c = λ form is. absurd (replay_in_list _ form is c.in-Nothing.ensures)

pub returns-in-Nothing-clause-patient : goal.returns-in-Nothing-clause-patient
returns-in-Nothing-clause-patient g c = λ why. refl

pub returns-in-Nothing-clause-soak : goal.returns-in-Nothing-clause-soak
returns-in-Nothing-clause-soak g c = λ start calls is. absurd (soak_in_list _ start calls is c.in-Nothing.ensures)

pub returns-in-Nothing-clause-check : goal.returns-in-Nothing-clause-check
returns-in-Nothing-clause-check g c = λ is. absurd (check_in_list _ is c.in-Nothing.ensures)

pub returns-in-Nothing-clause-threads : goal.returns-in-Nothing-clause-threads
returns-in-Nothing-clause-threads g c = λ with_journals is. absurd (threads_in_list _ with_journals is c.in-Nothing.ensures)
