use Rattle.thread_cache.proofs.Words.{◌+◌, ◌∙◌, ◌<◌, ◌++◌, ◌∷◌, [], take, length, ap, sym, arith, append_assoc, Listed, addrs_of}
use Rattle.thread_cache.proofs.ByClass.{addrs_more}
use Rattle.thread_cache.proofs.stacks.Stack.older_half.Goals as goal

pub loop-i-preserved : goal.loop-i-preserved
loop-i-preserved c =
    let n = ap (λ (s : Listed). length s.regions) c.self.view_is in
    let inside : c.loop-i.i < length c.self.inside.regions.items = omega (arith, n, c.requires.half, c.loop-i-test.true, c.loop-i.invariant.2) in
    let more = addrs_more c.self.inside.regions.items c.loop-i.i c.index.result.now inside c.index.ensures in
    let items = c.push.ensures.items ∙ ap (λ xs. xs ++ c.index.result.now.addr ∷ []) c.loop-i.invariant.0 in
    let whole = ap (λ (s : Listed). take (c.loop-i.i + 1) (addrs_of s.regions)) c.self.view_is in
    let front = ap (λ (s : Listed). take c.loop-i.i (addrs_of s.regions)) c.self.view_is in (
      items ∙ append_assoc c.args.out.now.items _ _ ∙ ap (λ xs. c.args.out.now.items ++ xs) (ap (λ xs. xs ++ c.index.result.now.addr ∷ []) (sym front) ∙ sym more ∙ whole),
      omega (arith, c.push.ensures.room, c.loop-i.invariant.1, c.loop-i-test.true),
      c.loop-i.invariant.2,
    )
