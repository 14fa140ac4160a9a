use Rattle.heap_runs.proofs.Words.{◌∙◌, sym, subst, CallFacts, HasBox, Moment, NeedIs, NeedsAsk, NeedsNothing, NeedsTurn, Steps, moment_at, named_call}
use Rattle.heap_runs.proofs.Needing.{ask_at_own, done_need, named_ends, named_moment, stands_named, starved_need}
use Rattle.heap_runs.proofs.heaps.SharedHeap.step.Goals as goal

pub turn-requires-clause-stands : goal.turn-requires-clause-stands
turn-requires-clause-stands g c =
    stands_named c.args.self.now c.args.ctx.now c.args.call.now c.put_need.new.self c.put_need.ensures.named c.requires.stands

pub ask-requires-clause-stands : goal.ask-requires-clause-stands
ask-requires-clause-stands g c =
    stands_named c.args.self.now c.args.ctx.now c.args.call.now c.put_need.new.self c.put_need.ensures.named c.requires.stands

pub starve-requires-clause-stands : goal.starve-requires-clause-stands
starve-requires-clause-stands g c =
    stands_named c.args.self.now c.args.ctx.now c.args.call.now c.put_need.new.self c.put_need.ensures.named c.requires.stands

pub turn-requires-clause-needs : goal.turn-requires-clause-needs
turn-requires-clause-needs g c =
    subst (λ (k : CallFacts). NeedIs k.client k.stage.arena k.stage.next (NeedsTurn c.in-Turn.turn)) (sym c.put_need.ensures.named) (subst (NeedIs c.args.call.now.client c.args.call.now.stage.arena (named_call c.args.ctx.now.desk.facts c.args.call.now).stage.next) c.in-Turn.is c.put_need.ensures.need)

pub ask-requires-clause-needs : goal.ask-requires-clause-needs
ask-requires-clause-needs g c =
    ask_at_own c.put_need.new.self.client c.put_need.new.self.stage.arena c.in-Ask.arena (named_call c.args.ctx.now.desk.facts c.put_need.new.self).stage.next c.in-Ask.ask (subst (λ (k : CallFacts). NeedIs k.client k.stage.arena k.stage.next (NeedsAsk c.in-Ask.arena c.in-Ask.ask)) (sym c.put_need.ensures.named) (subst (NeedIs c.args.call.now.client c.args.call.now.stage.arena (named_call c.args.ctx.now.desk.facts c.args.call.now).stage.next) c.in-Ask.is c.put_need.ensures.need))

pub starve-requires-clause-starves : goal.starve-requires-clause-starves
starve-requires-clause-starves g c =
    starved_need c.put_need.new.self.client c.put_need.new.self.stage.arena (named_call c.args.ctx.now.desk.facts c.put_need.new.self).stage.next (subst (λ (k : CallFacts). NeedIs k.client k.stage.arena k.stage.next NeedsNothing) (sym c.put_need.ensures.named) (subst (NeedIs c.args.call.now.client c.args.call.now.stage.arena (named_call c.args.ctx.now.desk.facts c.args.call.now).stage.next) c.in-Starved.is c.put_need.ensures.need))

pub unreachable-requires : goal.unreachable-requires
unreachable-requires g c =
    let desk = c.args.ctx.now.desk.facts in
    let call = c.args.call.now in
    done_need call.client call.stage.arena (named_call desk call).stage.next c.in-Done.field-0 (subst (NeedIs call.client call.stage.arena (named_call desk call).stage.next) c.in-Done.is c.put_need.ensures.need) (named_ends desk call ∙ c.requires.open)

pub returns-in-Turn-clause-steps : goal.returns-in-Turn-clause-steps
returns-in-Turn-clause-steps g c =
    λ last has. subst (λ (m : Moment). Steps c.args.shelf.now c.args.self.now c.args.ctx.now c.turn.new.ctx m last (moment_at c.turn.new.call c.turn.new.ctx.desk.facts) c.turn.result) (named_moment c.args.ctx.now.desk.facts c.args.call.now c.put_need.new.self c.put_need.ensures.named)
    (c.turn.ensures.steps last)

pub returns-in-Ask-clause-steps : goal.returns-in-Ask-clause-steps
returns-in-Ask-clause-steps g c =
    λ last has. subst (λ (m : Moment). Steps c.args.shelf.now c.args.self.now c.args.ctx.now c.ask.new.ctx m last (moment_at c.ask.new.call c.ask.new.ctx.desk.facts) c.args.box_no) (named_moment c.args.ctx.now.desk.facts c.args.call.now c.put_need.new.self c.put_need.ensures.named)
    (c.ask.ensures.steps last (subst (λ (k : CallFacts). HasBox k.stage last c.args.box_no) (sym c.put_need.ensures.named) has))

pub returns-in-Starved-clause-steps : goal.returns-in-Starved-clause-steps
returns-in-Starved-clause-steps g c =
    λ last has. subst (λ (m : Moment). Steps c.args.shelf.now c.args.self.now c.args.ctx.now c.starve.new.ctx m last (moment_at c.starve.new.call c.starve.new.ctx.desk.facts) c.args.box_no) (named_moment c.args.ctx.now.desk.facts c.args.call.now c.put_need.new.self c.put_need.ensures.named)
    (c.starve.ensures.steps last)
