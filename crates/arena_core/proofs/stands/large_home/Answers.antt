use Rattle.std.proofs.lemmas.Grind.{common_steps}
use Rattle.arena_core.proofs.Words.{arith, space_of}
use Rattle.arena_core.proofs.Lookups.{home_looked}
use Rattle.arena_core.proofs.stands.large_home.Goals as goal

pub returns-in_err-region : goal.returns-in_err-region
returns-in_err-region c = grind (arith, common_steps, home_looked c.args.client c.args.addr (space_of c.args.indexes.now) c.at.result c.requires c.at.ensures.at)

pub returns-then-is_large_of : goal.returns-then-is_large_of
returns-then-is_large_of c = grind (arith, common_steps, home_looked c.args.client c.args.addr (space_of c.args.indexes.now) c.at.result c.requires c.at.ensures.at)

pub returns-else-is_large_of : goal.returns-else-is_large_of
returns-else-is_large_of c = grind (arith, common_steps, home_looked c.args.client c.args.addr (space_of c.args.indexes.now) c.at.result c.requires c.at.ensures.at)
