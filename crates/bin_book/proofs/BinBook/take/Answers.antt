use Rattle.bin_book.proofs.Words.{[], ◌∷◌, ◌++◌, append-nil, append_assoc, map, take, sym, ap, ◌∙◌, arith, map-append, inserted, landing, region_of, Bins, free_of, with_regions_out, regions_in, slabs_in}
use Rattle.std.proofs.Common.{rules}
use Rattle.bin_book.proofs.Rounds.{landing_more, one_more, without_more, without_none}
use Rattle.bin_book.proofs.BinBook.take.Goals as goal

pub loop-turn-init : goal.loop-turn-init
loop-turn-init c =
    let slabs = ap (λ (b : Bins). b.slabs) c.self.view_is ∙ without_none c.args.self.now.slabs in
    let rest = ap (λ (b : Bins). free_of c.args.class b.slabs) c.self.view_is in
    let items = sym (append-nil c.args.out.now.items) in
    search (rules, arith, c.self.view_is, slabs, rest, items)

pub loop-turn-preserved : goal.loop-turn-preserved
loop-turn-preserved c =
    let i = c.loop-turn.invariant in
    let turn = c.loop-turn._turn in
    let all = free_of c.args.class c.args.self.now.slabs in
    let (few, one, rest) = one_more all (free_of c.args.class (slabs_in c.take_one.new.self)) turn c.in-Some.addr i.few (ap (λ xs. take turn all ++ xs) (sym c.in-Some.ensures.lowest) ∙ i.rest) in
    let items = c.push.ensures.items ∙ ap (λ xs. xs ++ c.in-Some.addr ∷ []) i.items ∙ append_assoc c.args.out.now.items (take turn all) (c.in-Some.addr ∷ []) ∙ ap (λ xs. c.args.out.now.items ++ xs) (sym one) in
    let slabs = c.in-Some.ensures.slabs ∙ ap (map (with_regions_out (c.in-Some.addr ∷ []))) i.slabs ∙ sym (without_more (take turn all) c.in-Some.addr c.args.self.now.slabs) ∙ ap (λ xs. map (with_regions_out xs) c.args.self.now.slabs) (sym one) in
    let regions = c.in-Some.ensures.regions ∙ ap (λ client. inserted (region_of client c.args.class c.in-Some.addr) (regions_in c.loop-turn.self-inside.table)) i.client
    ∙ ap (inserted (region_of c.args.self.now.client c.args.class c.in-Some.addr)) i.regions
    ∙ landing_more (map (region_of c.args.self.now.client c.args.class) (take turn all)) _ c.args.self.now.regions
    ∙ ap (λ rs. landing rs c.args.self.now.regions) (sym (ap (map (region_of c.args.self.now.client c.args.class)) one ∙ map-append (region_of c.args.self.now.client c.args.class) (take turn all) (c.in-Some.addr ∷ []))) in
    search (rules, arith, few, rest, items, slabs, regions)
