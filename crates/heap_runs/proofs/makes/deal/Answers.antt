use Rattle.std.proofs.Common.{◌≡◌, ◌+◌, ◌-◌, ◌<◌, length, arith, subst}
use Rattle.std.specs.Prelude.{slice_set}
use Rattle.heap_runs.proofs.Passing.{get_is}
use Rattle.heap_runs.specs.Deals.{GivenTo, IsNext}
use Rattle.heap_runs.proofs.Dealing.{given_all, given_more, next_own, next_rest}
use Rattle.heap_runs.proofs.makes.deal.Goals as goal

pub loop-j-preserved : goal.loop-j-preserved
loop-j-preserved c =
    let lock = c.args.lock.now in
    let count = length c.args.ctxs.now.items in
    let now = c.loop-j.ctxs.items in
    let j = c.loop-j.j in
    let next = c.loop-j.invariant.next in
    let to = c.loop-j.invariant.to in
    let all = to.count in
    let end = c.len-last.ensures in
    let test = c.loop-j-test.true in
    let within : j < length now = omega (arith, all, end, test) in
    let at = get_is now j c.index_mut.result.now within c.index_mut.ensures.value in
    let got = c.in_ok-give.ensures in
    let split = c.split_pass-own.ensures in record {
      next = next_rest lock j count c.loop-j.pass c.split_pass-own.result.1 next split.lock.1 split.second split.seen.1;
      to = given_more lock c.args.ctxs.now.items j now c.index_mut.result.now c.give.new.self to at within (record {
        client = got.client;
        desk = got.desk;
        seat = got.seat;
        passes = record { pass = c.split_pass-own.result.0; items = got.passes; is = next_own lock j count c.loop-j.pass c.split_pass-own.result.0 next split.lock.0 split.first split.seen.0 };
      });
    }

pub returns : goal.returns
returns c =
    let lock = c.args.lock.now in
    let olds = c.args.ctxs.now.items in
    let now = c.loop-j.ctxs.items in
    let last = c.len-last.result - 1 in
    let end = c.len-last.ensures in
    let test = c.loop-j-test.false in
    let within-j = c.loop-j.auto.j-end in
    let some = c.requires.pass.spare in
    let here : c.loop-j.j ≡ last = omega (arith, test, within-j) in
    let to = subst (λ n. GivenTo lock olds n now) here c.loop-j.invariant.to in
    let next = subst (λ n. IsNext lock n (length olds) c.loop-j.pass) here c.loop-j.invariant.next in
    let all = to.count in
    let within : last < length now = omega (arith, all, end, some) in
    let at = get_is now last c.index_mut-2.result.now within c.index_mut-2.ensures.value in
    let got = c.in_ok-give-2.ensures in
    let more = given_more lock olds last now c.index_mut-2.result.now c.give-2.new.self to at within (record {
      client = got.client;
      desk = got.desk;
      seat = got.seat;
      passes = record { pass = c.loop-j.pass; items = got.passes; is = record { own = next.own; number = next.number; spare = let s = next.spare in omega (arith, s, all, end, some); fresh = next.fresh } };
    }) in
    given_all lock olds (last + 1) (slice_set now last c.give-2.new.self) more (omega (arith, end, some))
