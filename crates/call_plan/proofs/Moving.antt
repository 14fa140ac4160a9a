-- What goes back where a cached region takes the place of one of another class.
use Rattle.call_plan.proofs.Words.{◌≡◌, ◌≢◌, ℕ, false, List, [], Some, sym, arith, nat_tests, take, Held, DeskFacts, cached_in, going, going_with, freed_hand, resizing, before_last, desk_moved}
use Rattle.std.specs.List.{slice_set}
use Rattle.std.proofs.lemmas.List.{get_or-set_other}

-- the cached regions of a class stay where the last one of another class is taken
other_cached : (lists : List (List Held)) (class other : ℕ) (regions : List Held) → class ≢ other → cached_in (slice_set lists class regions) other ≡ cached_in lists other
other_cached lists class other regions differ = get_or-set_other lists class other regions [] (λ e. differ (sym e))

-- what is to go back then is what is to go where the region is freed while nothing is in hand
pub moved_going : (addr class : ℕ) (region found : Held) (desk : DeskFacts) → class ≢ region.class →
    going false (desk_moved class (Some found) (resizing addr region desk)) ≡ going_with (freed_hand region desk) false desk
moved_going addr class region found desk differ =
    let same = other_cached desk.cached class region.class (take (before_last class desk) (cached_in desk.cached class)) differ in
    grind (arith, nat_tests)
