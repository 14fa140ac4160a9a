use Rattle.arena_core.proofs.Words.{arith, sym, same_span, space_of}
use Rattle.arena_core.proofs.Lookups.{home_far}
use Rattle.arena_core.proofs.stands.has_large.Goals as goal

pub returns-in_default : goal.returns-in_default
returns-in_default c = sym (home_far c.args.client c.args.span.first (space_of c.args.indexes.now) (λ p. same_span p.span c.args.span) c.requires (omega (arith, c.in_default.ensures)))
