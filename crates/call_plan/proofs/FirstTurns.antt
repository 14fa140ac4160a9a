-- Where a malloc begins that gets one region, and how it ends by its first turns.
use Rattle.call_plan.proofs.Words.{◌≡◌, ◌≤◌, ◌<◌, nat_tests, ℕ, true, false, arith, [], ◌∷◌, Malloc, Replied, Regions, Landed, Took, Go, Turns, Landing, Span, DeskFacts, Moment, begin, stage, get, after, pages_at}
use Rattle.call_plan.specs.Clients.{holding}
use Rattle.call_plan.specs.Desks.{held_region}
use Rattle.call_plan.specs.Runs.{wish_for}
use Rattle.call_plan.specs.Soon.{EndsSo, Gets, gives_region, replied_first, took_whole}

-- it begins with a turn that looks for it, and nothing changes before that
pub gets_first : (size class : ℕ) (desk : DeskFacts) → Gets size desk class → begin (Malloc size) desk ≡ record { request = Malloc size; desk = desk; stage = stage desk.arena (get false class 1 1) }
gets_first size class desk gets =
    let none = gets.missed in let one = gets.single in let same = gets.of_size in let fits = gets.fits in
    grind (arith, nat_tests)

-- the region that is found is the answer, and held
pub filled_ends : (size class addr : ℕ) (desk : DeskFacts) → Gets size desk class → class < 36 → EndsSo (replied_first (Malloc size) desk (Regions (addr ∷ []))) (gives_region addr class) (holding (held_region desk.arena class addr) desk)
filled_ends size class addr desk gets small =
    let first = gets_first size class desk gets in
    let none = gets.plain.gained in let own = gets.plain.swapped in
    grind (arith, nat_tests)

-- an extent that was taken as a whole serves the region at once
pub took_then : (size class : ℕ) (span : Span) (desk : DeskFacts) → Gets size desk class → 36 ≤ class → span.pages ≡ pages_at class →
    took_whole size desk span ≡ record { request = Malloc size; desk = desk; stage = stage desk.arena (Go (Turns (Landing (wish_for false class 1 1) span))) }
took_then size class span desk gets large whole =
    let first = gets_first size class desk gets in
    grind (arith, nat_tests)

-- the region that landed is the answer, and held
pub landed_ends : (size class addr : ℕ) (span : Span) (desk : DeskFacts) → Gets size desk class → 36 ≤ class → span.pages ≡ pages_at class →
    EndsSo (after (took_whole size desk span) (Replied (Landed addr 1))) (gives_region addr class) (holding (held_region desk.arena class addr) desk)
landed_ends size class addr span desk gets large whole =
    let then = took_then size class span desk gets large whole in
    let none = gets.plain.gained in let own = gets.plain.swapped in
    grind (arith, nat_tests)
