use Rattle.arena_core.proofs.Words.{◌∙◌, map, ap, subst, sym, refl, Regions, landing, region_of, CanCome, lowest_free, free_of, space_of, slabs_taken, rules}
use Rattle.arena_core.proofs.Landed.{filled_is, filled_reply, lowest_come, take_none, taken_are}
use Rattle.arena_core.proofs.fills.take.Goals as goal

pub fill-requires-clause-can_come : goal.fill-requires-clause-can_come
fill-requires-clause-can_come c =
    let s = space_of c.args.indexes.now in
    let is = taken_are s c.args.client c.args.class c.args.count c.requires.sound c.requires.class c.requires.booked refl in
    subst (λ addrs. CanCome (map (region_of c.args.client c.args.class) addrs) s.regions) (sym is) (lowest_come c.args.client s c.args.class c.args.count c.requires.sound c.requires.class c.requires.count c.requires.live)

pub returns : goal.returns
returns c =
    let s = space_of c.args.indexes.now in
    let slabs = c.args.indexes.now.regions.slabs in
    let is = taken_are s c.args.client c.args.class c.args.count c.requires.sound c.requires.class c.requires.booked refl in
    let held = c.fill.ensures.regions ∙ ap (λ addrs. landing (map (region_of c.args.client c.args.class) addrs) s.regions) is in
    let told = c.new.ensures ∙ c.fill.ensures.addrs ∙ taken_are s c.args.client c.args.class c.args.count c.requires.sound c.requires.class c.requires.booked (c.in_ok-reserve.ensures.items ∙ c.new-addrs.ensures.items) in
    record {
      after = (λ i. record s { regions = held i }) ∙ sym (filled_is c.args.client s c.args.class (lowest_free c.args.class c.args.count s));
      reply = ap Regions told ∙ sym (filled_reply c.args.client s c.args.class (lowest_free c.args.class c.args.count s) (λ none. c.requires.some (take_none c.args.count (free_of c.args.class slabs) c.requires.count (is ∙ none))));
      err = tt;
      slabs = c.fill.ensures.slabs ∙ ap (λ addrs. slabs_taken addrs slabs) is;
      same = tt;
      places = search rules;
    }
