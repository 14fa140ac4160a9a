-- The least chunk of a granted span that has an owner, where no extent meets any of its chunks.
use Rattle.arena_core.proofs.Words.{◌≡◌, ℕ, ◌+◌, ◌*◌, ◌<◌, ◌≤◌, zero, suc, false, List, find, Option, None, Some, refl, arith, nat_tests, ◌&&◌, cond, nat_le, nat_lt, list_any, range_with_len, Part, meets, chunk_span, list_any_none}
use Rattle.list_facts.proofs.Members.{all_from, any_false}
use Rattle.space_model.specs.Step.{is_found, is_owned}

-- the chunk that was found in another arena is found among some where it is one of them
pub finds_found : (found : Option ℕ) (low more : ℕ) → find (is_found found) (range_with_len low more) ≡ elim found [ None ↦ None | Some chunk ↦ cond (nat_le low chunk && nat_lt chunk (low + more)) (Some chunk) None ]
finds_found None low zero = refl
finds_found None low (suc more) = finds_found None (low + 1) more
finds_found (Some chunk) low zero = grind (arith, nat_tests)
finds_found (Some chunk) low (suc more) = grind (arith, nat_tests, finds_found (Some chunk) (low + 1) more)

-- where no extent meets the pages of some chunks, an owner of one of them was found in another arena
pub found_alone : (found : Option ℕ) (parts : List Part) (low more : ℕ) → list_any (λ p. meets p.span (record { first = 512 * low; pages = 512 * more })) parts ≡ false →
    find (is_owned found parts) (range_with_len low more) ≡ find (is_found found) (range_with_len low more)
found_alone found parts low more none = from low more (omega arith) (omega arith)
  where
    clear : (chunk : ℕ) → low ≤ chunk → chunk < low + more → list_any (λ p. meets p.span (chunk_span chunk)) parts ≡ false
    clear chunk above below =
        list_any_none (λ p. meets p.span (chunk_span chunk)) parts (all_from (λ p. meets p.span (chunk_span chunk) ≡ false) parts (λ p m.
        let apart = any_false (λ q. meets q.span (record { first = 512 * low; pages = 512 * more })) parts p none m in grind (arith, nat_tests)))

    from : (at left : ℕ) → low ≤ at → at + left ≤ low + more → find (is_owned found parts) (range_with_len at left) ≡ find (is_found found) (range_with_len at left)
    from at zero above below = refl
    from at (suc left) above below = grind (arith, clear at (omega arith) (omega arith), from (at + 1) left (omega arith) (omega arith))
