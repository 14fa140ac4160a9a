use Rattle.turn_lock.proofs.Words.{rules, ◌≡◌, ◌∷◌, ◌++◌, [], ap, sym, ◌∙◌, subst, some-injective, get_elem?, IsPassOf, IsWhole, is_idle}
use Rattle.turn_lock.proofs.Keeps.{joins, closes}
use Rattle.turn_lock.proofs.Closing.{all_parts, empty_is, claims_in, claims_move, whole}
use Rattle.turn_lock.proofs.lock.TurnLock.close.Goals as goal

pub join_seat-requires : goal.join_seat-requires
join_seat-requires g c =
    let other = c.in-Some.field-0 in let parts = all_parts (IsPassOf c.args.self) c.loop-other.items.items c.pop.new.self.items other c.in-Some.ensures.items c.loop-other.invariant.of_this in (
      c.loop-other.invariant.table ∙ c.requires.lock.0.0,
      parts.0.0,
      empty_is other.seat.me.1 other.home,
      search rules,
      joins g.M.Machine.logs g.M.Machine.after g.M.Machine.kept c.args.self.table.shared.key.first.value c.args.self.table.shared.key.seats _ c.loop-other.seat.me.0 _ other.seat.me.0 c.loop-other.invariant.idle other.idle,
    )

pub loop-other-preserved : goal.loop-other-preserved
loop-other-preserved g c =
    let other = c.in-Some.field-0 in let joined = c.join_seat.ensures.2 in record {
      table = c.join_seat.ensures.0 ∙ c.loop-other.invariant.table;
      idle = ap (λ m. is_idle m.0.stage) joined ∙ c.loop-other.invariant.idle;
      home = ap (λ m. m.1) joined ∙ c.loop-other.invariant.home;
      claims = ap (λ m. claims_in c.pop.new.self.items ++ m.0.claims) joined ∙ (claims_move c.loop-other.items.items c.pop.new.self.items other c.loop-other.seat.me.0.claims c.in-Some.ensures.items ∙ c.loop-other.invariant.claims);
      of_this = (all_parts (IsPassOf c.args.self) c.loop-other.items.items c.pop.new.self.items other c.in-Some.ensures.items c.loop-other.invariant.of_this).1;
    }

pub returns : goal.returns
returns g c =
    let key = c.args.self.table.shared.key in let values = c.close_with-closed.ensures.values.2 in let s = values.0 in let r = values.1.0 in let at = values.1.1 in let v = c.loop-other.seat.me.0 in
    let none_left : c.loop-other.items.items ≡ [] = empty_is c.loop-other.items.items (search rules) in
    let claims = ap (λ l. claims_in l ++ v.claims) (sym none_left) ∙ c.loop-other.invariant.claims in
    let end = whole g.M.Machine.logs g.M.Machine.after g.M.Machine.kept g.M.Machine.start g.met.M.Machine.starts key.first.value key.seats s r c.loop-other.seat.id v c.args.pass c.args.others.items.items at claims c.requires.all in
    let home = closes g.M.Machine.logs g.M.Machine.after g.M.Machine.kept key.first.value key.seats s r c.loop-other.seat.id v at c.loop-other.invariant.idle end.0 in
    let there = values.4 0 _ (ap (λ l. get_elem? l 0) home) in
    let result = some-injective _ _ (sym there ∙ c.take-state.ensures.value) in
    subst (IsWhole g.M.Machine.logs g.M.Machine.after g.M.Machine.kept g.M.Machine.start key.first.value (c.args.pass ∷ c.args.others.items.items)) result end.1
