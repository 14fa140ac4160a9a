-- The lists of words exclude each other.
use Rattle.std.proofs.Common.{◌≡◌, ℕ, Bool, true, false, List, [], get_or, length, refl, sym, ◌∙◌, ap, arith}
use Rattle.std.proofs.lemmas.Fmt.{decimal_injective}
use Rattle.replay_run.specs.declared.replays.Closing.{Closing}
use Rattle.replay_run.specs.declared.replays.Closing.TheVariants.{Lines, Json}
use Rattle.jarena.specs.Words.{IsCheck, IsInNoList, IsReplay, IsSoak, IsThreads}

-- words of a replay tell its form
pub replay_form : (words : List (List ℕ)) (form other : Closing) → IsReplay words form → IsReplay words other → form ≡ other
replay_form words Lines Lines is also = refl
replay_form words Json Json is also = refl
replay_form words Lines Json is also = absurd (omega (arith, ap length (sym is ∙ also)))
replay_form words Json Lines is also = absurd (omega (arith, ap length (sym is ∙ also)))

-- and are none of a soak
pub replay_no_soak : (words : List (List ℕ)) (form : Closing) (start calls : ℕ) → IsReplay words form → IsSoak words start calls → ⊥
replay_no_soak words Lines start calls replay soak = absurd (omega (arith, ap length (sym replay ∙ soak.0)))
replay_no_soak words Json start calls replay soak = absurd (omega (arith, ap length (sym replay ∙ soak.0)))

-- words of a check are none of another list
pub check_no_replay : (words : List (List ℕ)) (form : Closing) → IsCheck words → IsReplay words form → ⊥
check_no_replay words Lines check replay = absurd (omega (arith, ap (λ (ws : List (List ℕ)). length (get_or ws 0 [])) (sym check ∙ replay)))
check_no_replay words Json check replay = absurd (omega (arith, ap length (sym check ∙ replay)))

pub check_no_soak : (words : List (List ℕ)) (start calls : ℕ) → IsCheck words → IsSoak words start calls → ⊥
check_no_soak words start calls check soak = absurd (omega (arith, ap length (sym check ∙ soak.0)))

-- words of a run of threads tell whether its journals are printed
pub threads_form : (words : List (List ℕ)) (one other : Bool) → IsThreads words one → IsThreads words other → one ≡ other
threads_form words false false is also = refl
threads_form words true true is also = refl
threads_form words false true is also = absurd (omega (arith, ap length (sym is ∙ also)))
threads_form words true false is also = absurd (omega (arith, ap length (sym is ∙ also)))

-- and are none of another list
pub threads_no_replay : (words : List (List ℕ)) (with_journals : Bool) (form : Closing) → IsThreads words with_journals → IsReplay words form → ⊥
threads_no_replay words false Lines threads replay = absurd (omega (arith, ap (λ (ws : List (List ℕ)). length (get_or ws 0 [])) (sym threads ∙ replay)))
threads_no_replay words true Json threads replay = absurd (omega (arith, ap (λ (ws : List (List ℕ)). length (get_or ws 0 [])) (sym threads ∙ replay)))
threads_no_replay words false Json threads replay = absurd (omega (arith, ap length (sym threads ∙ replay)))
threads_no_replay words true Lines threads replay = absurd (omega (arith, ap length (sym threads ∙ replay)))

pub threads_no_soak : (words : List (List ℕ)) (with_journals : Bool) (start calls : ℕ) → IsThreads words with_journals → IsSoak words start calls → ⊥
threads_no_soak words false start calls threads soak = absurd (omega (arith, ap length (sym threads ∙ soak.0)))
threads_no_soak words true start calls threads soak = absurd (omega (arith, ap length (sym threads ∙ soak.0)))

pub threads_no_check : (words : List (List ℕ)) (with_journals : Bool) → IsThreads words with_journals → IsCheck words → ⊥
threads_no_check words false threads check = absurd (omega (arith, ap (λ (ws : List (List ℕ)). length (get_or ws 0 [])) (sym threads ∙ check)))
threads_no_check words true threads check = absurd (omega (arith, ap length (sym threads ∙ check)))

-- words of a list are in a list
pub replay_in_list : (words : List (List ℕ)) (form : Closing) → IsReplay words form → IsInNoList words → ⊥
replay_in_list words form replay none = none.0 form replay

pub soak_in_list : (words : List (List ℕ)) (start calls : ℕ) → IsSoak words start calls → IsInNoList words → ⊥
soak_in_list words start calls soak none = none.1 start calls soak

pub check_in_list : (words : List (List ℕ)) → IsCheck words → IsInNoList words → ⊥
check_in_list words check none = none.2 check

pub threads_in_list : (words : List (List ℕ)) (with_journals : Bool) → IsThreads words with_journals → IsInNoList words → ⊥
threads_in_list words with_journals threads none = none.3 with_journals threads

-- words of a soak tell its start and how many calls
pub soak_start : (words : List (List ℕ)) (start calls start' calls' : ℕ) → IsSoak words start calls → IsSoak words start' calls' → start ≡ start'
soak_start words start calls start' calls' soak soak' = decimal_injective start start' soak.1 soak'.1 (ap (λ (ws : List (List ℕ)). get_or ws 1 []) (sym soak.0 ∙ soak'.0))

pub soak_calls : (words : List (List ℕ)) (start calls start' calls' : ℕ) → IsSoak words start calls → IsSoak words start' calls' → calls ≡ calls'
soak_calls words start calls start' calls' soak soak' =
    decimal_injective calls calls' (omega (arith, soak.2)) (omega (arith, soak'.2)) (ap (λ (ws : List (List ℕ)). get_or ws 2 []) (sym soak.0 ∙ soak'.0))
