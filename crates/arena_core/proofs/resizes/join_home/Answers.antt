use Rattle.arena_core.proofs.Words.{◌∙◌, ◌*◌, Some, ap, arith, sym, nat_tests, Landed, same_span, widened_at, region_bytes_fits, space_of, rules, Stepped}
use Rattle.arena_core.proofs.Resized.{home_begins, homed, reclassed_is}
use Rattle.arena_core.proofs.resizes.join_home.Goals as goal

pub at-part-requires : goal.at-part-requires
at-part-requires c = home_begins c.args.client (4096 * c.args.low.first) c.args.low.first (space_of c.args.indexes.now) (λ p. same_span p.span c.args.low) c.requires.sound c.requires.home (omega arith)

pub overflow_mul-first : goal.overflow_mul-first
overflow_mul-first c =
    let h = homed c.args.client (4096 * c.args.low.first) c.args.low.first (space_of c.args.indexes.now) (λ p. same_span p.span c.args.low) c.requires.sound c.requires.home (omega arith) c.at-part.ensures.at in
    omega (arith, h.1.placed.2, h.1.start)

pub reclass-requires : goal.reclass-requires
reclass-requires c =
    let h = homed c.args.client (4096 * c.args.low.first) c.args.low.first (space_of c.args.indexes.now) (λ p. same_span p.span c.args.low) c.requires.sound c.requires.home (omega arith) c.at-part.ensures.at in
    record { client = c.requires.client; page = omega (arith, h.1.placed.2, h.1.start); there = h.1.large; bytes = region_bytes_fits (space_of c.args.indexes.now) c.requires.sound; large = c.requires.large; class = c.requires.class }

pub merge-requires-clause-beside : goal.merge-requires-clause-beside
merge-requires-clause-beside c =
    let h = homed c.args.client (4096 * c.args.low.first) c.args.low.first (space_of c.args.indexes.now) (λ p. same_span p.span c.args.low) c.requires.sound c.requires.home (omega arith) c.at-part.ensures.at in
    grind (arith, nat_tests, h.1.passes, c.requires.beside)

pub returns : goal.returns
returns c =
    let s = space_of c.args.indexes.now in
    let h = homed c.args.client (4096 * c.args.low.first) c.args.low.first (space_of c.args.indexes.now) (λ p. same_span p.span c.args.low) c.requires.sound c.requires.home (omega arith) c.at-part.ensures.at in
    let regions = c.reclass.ensures.regions ∙ reclassed_is c.args.client (4096 * c.args.low.first) c.args.class h.0 s.regions h.1.region h.1.holder in
    let done = ap (λ o. widened_at s c.args.class o (Some c.args.high.now)) (sym h.1.found) in
    record {
      after = (λ i. record s { parts = c.merge.ensures.parts i; regions = regions i }) ∙ ap (λ (step : Stepped). step.after) done;
      reply = ap (λ addr. Landed addr 1) (sym h.1.region) ∙ ap (λ (step : Stepped). step.reply) done;
      slabs = search rules;
      places = search rules;
    }
