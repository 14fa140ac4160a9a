use Rattle.arena_core.proofs.Words.{◌≡◌, ◌∙◌, cond, refl, arith, rules}
use Rattle.arena_core.proofs.Emptying.{most_one}
use Rattle.arena_core.proofs.Rounds.{left_end, left_held, left_step}
use Rattle.arena_core.proofs.frees.give_back.Goals as goal

pub loop-addr-init : goal.loop-addr-init
loop-addr-init c = record {
  rest = record {
    sound = c.requires.sound;
    live = c.requires.live;
    rises = c.requires.rise;
    held = c.requires.held;
    after = refl;
    count = omega arith;
  };
  few = omega arith;
  places = λ n h. h;
  booked = c.requires.booked;
}

pub give_one-requires-clause-held : goal.give_one-requires-clause-held
give_one-requires-clause-held c = left_held c.loop-addr.invariant.rest c.loop-addr-test.true

pub returns-clause-after : goal.returns-clause-after
returns-clause-after c = (left_end {i = c.loop-addr.addr-index} {all = c.args.addrs.now} c.loop-addr.invariant.rest (omega arith)).0

pub returns-clause-emptied : goal.returns-clause-emptied
returns-clause-emptied c = (left_end {i = c.loop-addr.addr-index} {all = c.args.addrs.now} c.loop-addr.invariant.rest (omega arith)).1

pub loop-addr-preserved : goal.loop-addr-preserved
loop-addr-preserved c =
    let one : c.from-emptied.result ≡ cond c.give_one.result 1 0 = search rules in
    record {
      rest = left_step c.loop-addr.invariant.rest c.loop-addr-test.true c.give_one.ensures.after (one ∙ c.give_one.ensures.emptied);
      few = omega (arith, one, most_one c.give_one.result, c.loop-addr.invariant.few);
      places = λ n h. c.give_one.ensures.places n (c.loop-addr.invariant.places n h);
      booked = c.give_one.ensures.booked;
    }
