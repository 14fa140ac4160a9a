use Rattle.arena_core.proofs.Words.{refl, ◌∙◌, arith, Part, moved_to, goes_to}
use Rattle.arena_core.proofs.Rounds.{walk_begins, walk_ends, walk_goes}
use Rattle.arena_core.proofs.ends.move_all.Goals as goal

pub loop-part-init : goal.loop-part-init
loop-part-init c = record { walk = walk_begins (λ p. goes_to c.args.rest p.state) (moved_to c.args.rest) c.args.extents.now.parts c.requires; spare = refl }

pub loop-part-preserved : goal.loop-part-preserved
loop-part-preserved c = record {
  walk = walk_goes (λ (p : Part). goes_to c.args.rest p.state) (moved_to c.args.rest) c.args.extents.now.parts c.loop-part.extents.parts c.move_one.new.extents.parts c.loop-part.page c.in-Some.part
      (λ q. refl) (grind arith) c.in-Some.ensures.there c.in-Some.ensures.first.first c.move_one.ensures.parts c.loop-part.invariant.walk;
  spare = c.move_one.ensures.spare ∙ c.loop-part.invariant.spare;
}

pub returns-clause-parts : goal.returns-clause-parts
returns-clause-parts c =
    walk_ends (λ (p : Part). goes_to c.args.rest p.state) (moved_to c.args.rest) c.args.extents.now.parts c.loop-part.extents.parts c.loop-part.page
    (c.in_default.ensures.none refl) c.loop-part.invariant.walk

pub returns-clause-spare : goal.returns-clause-spare
returns-clause-spare c = c.loop-part.invariant.spare
