use Rattle.std.proofs.Common.{rules, arith, ◌≡◌, suc, ◌<◌, ◌-◌, ◌+◌, length, Some, true, sym, subst}
use Rattle.std.proofs.lemmas.Option.{slice_get_within, slice_get-get_or}
use Rattle.thread_cache.specs.declared.Held.{Held}
use Rattle.region_table.specs.Slots.{Passes, is_filled, word_at, word_of}
use Rattle.region_table.specs.Tables.{place_of}
use Rattle.region_table.proofs.Places.{absent, own_place}
use Rattle.region_table.proofs.Searches.{meets_behind, meets_filled, meets_none, passes_more}
use Rattle.region_table.proofs.Words.{low_word}
use Rattle.region_table.proofs.slots.seek.Goals as goal

pub loop-past-init : goal.loop-past-init
unfolding Passes
loop-past-init c =
    let home = c.home_of-at.ensures.home in
    let all : length c.args.words.now - 0 ≡ length c.args.words.now = omega arith in (
      c.home_of-at.ensures.within,
      (
        sym home,
        λ place region at same.
            rw (home, all, sym same) (c.requires.met place region at),
      ),
    )

pub returns-then-word-clause-none : goal.returns-then-word-clause-none
returns-then-word-clause-none c =
    let words = c.args.words.now in
    let l = c.loop-past in
    absent c.args.regions.now c.args.addr (λ place region at same.
    let left : length words - l._past ≡ suc (length words - l._past - 1) = omega (arith, c.loop-past-test.true) in
    let within : place < length c.args.regions.now = slice_get_within _ _ _ at in
    let low : word_of c.args.addr place < 18446744073709551614 = low_word c.args.addr place (omega (arith, within, c.requires.places)) in
    let filled : is_filled (word_at words l.at) ≡ true = meets_filled words _ l.at _ (rw left at l.invariant.1.1 place region at same) (grind (arith, low)) in
    grind (arith, filled, c.if-word.true))

pub returns-in-Some-clause-place : goal.returns-in-Some-clause-place
returns-in-Some-clause-place c =
    let regions = c.args.regions.now in
    let none : Held = record { addr = 0; arena = 0; class = 0 } in
    let found = c.in-Some.ensures in
    let at = slice_get-get_or regions c.in-Some.place none found.within in
    let same = found.region _ at in
    subst (λ a. place_of a regions ≡ Some c.in-Some.place) same (own_place regions _ _ c.requires.apart at)

pub loop-past-preserved : goal.loop-past-preserved
loop-past-preserved c =
    let words = c.args.words.now in
    let l = c.loop-past in
    let within = l.invariant.0 (omega (arith, c.loop-past-test.true)) in
    let filled : is_filled (word_at words l.at) ≡ true = search (rules, arith, c) in
    let passed = passes_more words l._past _ _ l.invariant.1.0 filled in
    let next : suc l._past ≡ l._past + 1 = omega arith in (
      λ _. c.next_slot-at.ensures.within,
      (
        rw (c.next_slot-at.ensures.next, sym next) passed,
        λ place region at same.
            let left : length words - l._past ≡ suc (length words - (l._past + 1)) = omega (arith, c.loop-past-test.true) in
            rw (c.next_slot-at.ensures.next) (meets_behind words _ l.at _ (rw left at l.invariant.1.1 place region at same) (c.in_default.ensures.none place region at same)),
      ),
    )

pub returns-clause-none : goal.returns-clause-none
returns-clause-none c =
    let words = c.args.words.now in
    let l = c.loop-past in
    absent c.args.regions.now c.args.addr (λ place region at same.
    let left : length words - l._past ≡ 0 = omega (arith, c.loop-past-test.false) in
    meets_none words l.at _ (rw left at l.invariant.1.1 place region at same))
