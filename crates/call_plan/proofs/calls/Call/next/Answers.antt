use Rattle.call_plan.proofs.Words.{◌≤◌, places, ap, subst, sym, ◌∙◌, CallFacts, HasRoomToHold, Moment, moment_at, Goes, after, lent, run}
use Rattle.call_plan.proofs.Naming.{fed_moment, fed_place, named_room}
use Rattle.call_plan.proofs.Places.{fed_room}
use Rattle.call_plan.proofs.calls.Call.next.Goals as goal

pub invariant_of-self : goal.invariant_of-self
invariant_of-self c =
    let was = c.self.inside.stage in
    let item = lent c.args.item in
    let goes = subst (λ (f : CallFacts). Goes (after (moment_at f c.args.desk.now.facts) item).stage.next) (sym c.self.view_is) c.requires.goes in
    (fed_place c.self.inside.request c.args.desk.now.facts c.tell.new.desk.facts c.feed.new.desk.facts was c.feed.new.self item c.tell.ensures.facts c.feed.ensures.stage goes, c.feed.ensures.sized)

pub close-requires : goal.close-requires
close-requires c =
    let was = c.self.inside.stage in
    let had = c.args.desk.now in
    let told = c.tell.new.desk in
    let room = subst (λ (f : CallFacts). HasRoomToHold had.facts had.room f.stage.next) (sym c.self.view_is) c.requires.room in
    let led = c.feed.new.desk in
    subst (λ n. places led.facts c.feed.new.self.next ≤ n) (sym c.feed.ensures.room)
    (named_room c.self.inside.request led.facts _ c.feed.new.self _ told.room c.feed.ensures.stage c.feed.ensures.facts
    (fed_room c.self.inside.request had.facts told.facts was.arena was.next (lent c.args.item) had.room told.room c.tell.ensures.facts c.tell.ensures.room room))

pub returns-clause-moment : goal.returns-clause-moment
returns-clause-moment c =
    let was = c.self.inside.stage in
    let had = c.args.desk.now.facts in
    let so = fed_moment c.self.inside.request had c.tell.new.desk.facts c.feed.new.desk.facts c.close.new.desk.facts was c.feed.new.self (lent c.args.item) c.tell.ensures.facts c.feed.ensures.stage c.feed.ensures.facts c.close.ensures.facts in
    so ∙ ap (λ (f : CallFacts). after (moment_at f had) (lent c.args.item)) c.self.view_is

pub returns-clause-reads : goal.returns-clause-reads
returns-clause-reads c = λ items. ap (λ (m : Moment). run m items) (sym (returns-clause-moment c))
