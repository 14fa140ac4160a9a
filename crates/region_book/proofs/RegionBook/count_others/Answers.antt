use Rattle.region_book.proofs.Words.{ap, arith, get_or, count_by, ◌+◌, ◌≡◌, ◌∙◌, ℕ, ◌<◌, is_held_by_other, IsRegionBook, all_regions, Inside}
use Rattle.region_book.proofs.ByClass.{at_tally}
use Rattle.region_book.proofs.Changes.{all_held}
use Rattle.region_book.proofs.Tallies.{held_of}
use Rattle.region_book.proofs.RegionBook.count_others.Goals as goal

-- all regions are those of nobody, of the client, and of the others
told : (b : Inside) → IsRegionBook b → (client : ℕ) → client < 32 → get_or b.totals.holders 0 0 + get_or b.totals.holders (client + 1) 0 + count_by (is_held_by_other client) (all_regions b) ≡ b.totals.number
told b is client low =
    let rs = all_regions b in
    let holders = is.totals.holders in
    omega (arith, all_held client rs, is.totals.number, ap (λ l. get_or l 0 0) holders, ap (λ l. get_or l (client + 1) 0) holders, at_tally (held_of rs) 33 0 (omega arith), at_tally (held_of rs) 33 (client + 1) (omega (arith, low)))

pub overflow_sub-result-2 : goal.overflow_sub-result-2
overflow_sub-result-2 c = omega (arith, told c.self.inside c.self.invariant c.args.client c.requires)

pub returns-clause-others : goal.returns-clause-others
returns-clause-others c = omega (arith, told c.self.inside c.self.invariant c.args.client c.requires) ∙ ap (λ s. count_by (is_held_by_other c.args.client) s.regions) c.self.view_is
