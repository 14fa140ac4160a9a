use Rattle.arena_core.proofs.Words.{space_of}
use Rattle.arena_core.proofs.Resized.{shrinks}
use Rattle.arena_core.proofs.resizes.trim_answered.Goals as goal

pub cut_home-requires : goal.cut_home-requires
cut_home-requires c =
    let at = shrinks c.args.client c.args.class (space_of c.args.indexes.now) c.args.heard.ask c.args.heard.answer c.in-Split.span c.in-Split.left c.in-Split.is c.requires.stands in
    record { client = c.requires.client; home = at.home; room = c.requires.room; some = at.some; fewer = at.fewer; large = at.large; class = at.within; sound = c.requires.sound }
