-- What a call is fed.
use Rattle.space_model.specs.declared.Reply.{Reply}
use Rattle.hook_api.specs.Asked.{AskFacts}
use Rattle.call_plan.specs.declared.needs.Item.{Item as Lent}
use Rattle.call_plan.specs.declared.needs.Item.TheVariants.{Replied as LentReply, Told as LentAsk, Starved as LentNothing}

-- What a call is fed: the reply to the turn that it needed; the answer to the ask that it needed; or that the turn found no memory,
-- and changed nothing.
pub data Item : Type 0 where
  Replied : Reply → Item
  Told : AskFacts → Item
  Starved : Item

-- the item that is lent to a call
abbrev pub lent : Lent → Item
lent (LentReply reply) = Replied reply.now
lent (LentAsk asked) = Told asked.now
lent LentNothing = Starved
