use Rattle.std.proofs.Common.{rules, arith, ◌≡◌, ◌<◌, ◌+◌, suc, length, sym, subst, true}
use Rattle.region_table.specs.Slots.{Passes, home_of, is_filled, word_at}
use Rattle.region_table.proofs.Searches.{none_empty, passes_more}
use Rattle.region_table.proofs.slots.free_slot.Goals as goal

pub loop-past-init : goal.loop-past-init
unfolding Passes
loop-past-init c = (c.home_of-at.ensures.within (omega (arith, c.requires.empty)), sym c.home_of-at.ensures.home)

pub loop-past-preserved : goal.loop-past-preserved
loop-past-preserved c =
    let words = c.args.words.now in
    let i = c.loop-past.invariant in
    let filled : is_filled (word_at words c.loop-past.at) ≡ true = search (rules, arith, c) in
    let more = passes_more words c.loop-past._past _ _ i.1 filled in
    let next : suc c.loop-past._past ≡ c.loop-past._past + 1 = omega arith in
    (c.next_slot-at.ensures.within, rw (c.next_slot-at.ensures.next, sym next) more)

pub unreachable-requires : goal.unreachable-requires
unreachable-requires c =
    let i = c.loop-past.invariant in
    let all : c.loop-past._past ≡ length c.args.words.now = omega (arith, c.loop-past-test.false, c.loop-past.auto._past-end) in
    let home = c.home_of-at.ensures in
    let full = none_empty c.args.words.now _ _ (subst (λ k. k < length c.args.words.now) home.home (home.within (omega (arith, c.requires.empty)))) (subst (λ k. Passes c.args.words.now k (home_of c.args.addr (length c.args.words.now)) c.loop-past.at) all i.1) in
    omega (arith, full, c.requires.empty)
