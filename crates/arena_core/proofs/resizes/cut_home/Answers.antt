use Rattle.std.proofs.lemmas.Grind.{common_steps}
use Rattle.arena_core.proofs.Words.{rules, ◌≡◌, ◌∙◌, ◌*◌, [], ◌∷◌, ap, arith, sym, nat_tests, Flight, begins_at, exchanged, same_span, trimmed_at, high_piece, low_piece, region_bytes_fits, space_of}
use Rattle.arena_core.proofs.Resized.{home_begins, homed, reclassed_is}
use Rattle.arena_core.proofs.resizes.cut_home.Goals as goal

pub at-part-requires : goal.at-part-requires
at-part-requires c = home_begins c.args.client (4096 * c.args.span.first) c.args.span.first (space_of c.args.indexes.now) (λ p. same_span p.span c.args.span) c.requires.sound c.requires.home (omega arith)

pub reclass-requires : goal.reclass-requires
reclass-requires c =
    let h = homed c.args.client (4096 * c.args.span.first) c.args.span.first (space_of c.args.indexes.now) (λ p. same_span p.span c.args.span) c.requires.sound c.requires.home (omega arith) c.at-part.ensures.at in
    record { client = c.requires.client; page = omega (arith, h.1.placed.2, h.1.start); there = h.1.large; bytes = region_bytes_fits (space_of c.args.indexes.now) c.requires.sound; large = c.requires.large; class = c.requires.class }

pub cut_off-requires : goal.cut_off-requires
cut_off-requires c =
    let h = homed c.args.client (4096 * c.args.span.first) c.args.span.first (space_of c.args.indexes.now) (λ p. same_span p.span c.args.span) c.requires.sound c.requires.home (omega arith) c.at-part.ensures.at in
    record { there = c.at-part.ensures.there; room = omega (arith, c.requires.room.extents); some = c.requires.some; fewer = grind (arith, nat_tests, h.1.passes, c.requires.fewer) }

pub overflow_add-result : goal.overflow_add-result
overflow_add-result c =
    let h = homed c.args.client (4096 * c.args.span.first) c.args.span.first (space_of c.args.indexes.now) (λ p. same_span p.span c.args.span) c.requires.sound c.requires.home (omega arith) c.at-part.ensures.at in
    let pages : c.at-part.result.span.pages ≡ c.args.span.pages = grind (arith, nat_tests, h.1.passes) in
    omega (arith, h.1.placed.2, h.1.start, c.requires.fewer, pages)

pub returns-clause-does : goal.returns-clause-does
returns-clause-does c =
    let s = space_of c.args.indexes.now in
    let p = c.at-part.result in
    let h = homed c.args.client (4096 * c.args.span.first) c.args.span.first (space_of c.args.indexes.now) (λ p. same_span p.span c.args.span) c.requires.sound c.requires.home (omega arith) c.at-part.ensures.at in
    let out = ap (λ rest. exchanged (begins_at p.span.first) s.parts (low_piece c.args.left p ∷ record (high_piece c.args.left p) { state = Flight c.args.client rest } ∷ [])) c.rest.ensures in
    let parts = c.cut_off.ensures.parts ∙ out in
    let regions = c.reclass.ensures.regions ∙ reclassed_is c.args.client (4096 * c.args.span.first) c.args.class h.0 s.regions h.1.region h.1.holder in
    record { after = (λ i. record s { parts = parts i; regions = regions i }) ∙ ap (λ o. (trimmed_at s c.args.client c.args.left c.args.class o).after) (sym h.1.found); reply = grind (arith, common_steps); slabs = search rules; places = search rules }
