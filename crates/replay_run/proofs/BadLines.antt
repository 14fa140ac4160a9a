-- Lines that aren't carried out, each with its first cause.
use Rattle.replay_run.proofs.Words.{arith, Bool, true, length, take, ◌≡◌, ◌≢◌, ◌<◌, ◌≤◌, ℕ, List, [], ◌∷◌, ◌++◌, Some, Result, Ok, Err, ◌∙◌, ap, nat_tests, Cause, Cut, LimitBytes, LimitLines, LineFault, Line, line_of, HasNoNewline, byte_limit, fault_cause, first_line, line_cause, line_limit, said_cause, IsBadLine}
use Rattle.replay_run.proofs.LinesRead.{first_line-long, first_line-none, first_line-whole, has_newline-none, has_newline-whole}
use Rattle.trace_text.specs.declared.faults.LineFault.TheVariants as fault

-- ---- what a whole line says is never that it is cut

line_not_cut : (now : ℕ) (said : Line) → line_cause now said ≡ Some Cut → ⊥
line_not_cut now said is = grind (arith, nat_tests)

fault_not_cut : (why : LineFault) → fault_cause why ≡ Some Cut → ⊥
fault_not_cut fault.NoMemory is = cc
fault_not_cut why is = cc

said_not_cut : (now : ℕ) (said : Result Line LineFault) → said_cause now said ≡ Some Cut → ⊥
said_not_cut now (Ok said) is = line_not_cut now said is
said_not_cut now (Err why) is = fault_not_cut why is

-- ---- bad lines

-- some bytes stand where a line does
some_bytes : (text behind : List ℕ) → text ++ 10 ∷ behind ≢ []
some_bytes [] behind is = cc
some_bytes (b ∷ text) behind is = cc

-- a line behind the last one that a trace may have
pub bad_many : (now number : ℕ) (rest : List ℕ) (met : Bool) → line_limit < number → rest ≢ [] → IsBadLine now number rest met LimitLines
bad_many now number rest met many some = record { some = some; why = grind (arith, nat_tests); cut = λ is. absurd (cc (is)) }

-- a line with too many bytes
pub bad_long : (now number : ℕ) (rest : List ℕ) (met : Bool) → number ≤ line_limit → byte_limit < length rest → HasNoNewline (take 257 rest) →
    IsBadLine now number rest met LimitBytes
bad_long now number rest met few long plain =
    let all : 257 ≤ length (first_line rest) = first_line-long rest 257 plain (omega (arith, long)) in record {
      some = λ none. absurd (omega (arith, long, ap length none));
      why = grind (arith, nat_tests);
      cut = λ is. absurd (cc (is));
    }

-- a line without its newline
pub bad_cut : (now number : ℕ) (rest : List ℕ) (met : Bool) → number ≤ line_limit → rest ≢ [] → length rest ≤ byte_limit → HasNoNewline rest → met ≡ true →
    IsBadLine now number rest met Cut
bad_cut now number rest met few some short plain ends = record {
  some = some;
  why = rw (first_line-none rest plain, has_newline-none rest plain) (grind (arith, nat_tests));
  cut = λ is. ends;
}

-- a whole line that says nothing which can be carried out
pub bad_said : (now number : ℕ) (rest text behind : List ℕ) (met : Bool) (cause : Cause) → number ≤ line_limit → HasNoNewline text → length text ≤ byte_limit →
    rest ≡ text ++ 10 ∷ behind → said_cause now (line_of text) ≡ Some cause → IsBadLine now number rest met cause
bad_said now number rest text behind met cause few plain short are says = rw are (record {
  some = some_bytes text behind;
  why = rw (first_line-whole text behind plain, has_newline-whole text behind) (grind (arith, nat_tests));
  cut = λ is. absurd (said_not_cut now (line_of text) (says ∙ ap Some is));
})
