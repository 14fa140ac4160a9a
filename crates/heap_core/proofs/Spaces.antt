-- Tests over arenas are tests over their spaces.
use Rattle.heap_core.proofs.Words.{◌≡◌, ℕ, suc, zero, ◌+◌, ◌||◌, List, [], ◌∷◌, take, drop, refl, ◌∙◌, ap, arith, list_any, spaces_of, others_of, owns_chunk, Record, or_assoc}

pub any_of_spaces : (chunk : ℕ) (rs : List Record) → list_any (λ r. owns_chunk chunk r.space) rs ≡ list_any (owns_chunk chunk) (spaces_of rs)
any_of_spaces chunk [] = refl
any_of_spaces chunk (r ∷ rs) = ap (λ v. owns_chunk chunk r.space || v) (any_of_spaces chunk rs)

any_beyond : (chunk arena : ℕ) (rs : List Record) → (list_any (λ r. owns_chunk chunk r.space) (take arena rs) || list_any (λ r. owns_chunk chunk r.space) (drop (suc arena) rs)) ≡ list_any (owns_chunk chunk) (others_of arena (spaces_of rs))
any_beyond chunk zero [] = refl
any_beyond chunk (suc a) [] = refl
any_beyond chunk zero (r ∷ rs) = any_of_spaces chunk rs
any_beyond chunk (suc a) (r ∷ rs) =
    or_assoc (owns_chunk chunk r.space) (list_any (λ r. owns_chunk chunk r.space) (take a rs)) (list_any (λ r. owns_chunk chunk r.space) (drop (suc a) rs))
    ∙ ap (λ v. owns_chunk chunk r.space || v) (any_beyond chunk a rs)

pub any_of_others : (chunk arena : ℕ) (rs : List Record) → (list_any (λ r. owns_chunk chunk r.space) (take arena rs) || list_any (λ r. owns_chunk chunk r.space) (drop (arena + 1) rs)) ≡ list_any (owns_chunk chunk) (others_of arena (spaces_of rs))
any_of_others chunk arena rs =
    let next : arena + 1 ≡ suc arena = omega arith in
    ap (λ n. list_any (λ r. owns_chunk chunk r.space) (take arena rs) || list_any (λ r. owns_chunk chunk r.space) (drop n rs)) next ∙ any_beyond chunk arena rs
