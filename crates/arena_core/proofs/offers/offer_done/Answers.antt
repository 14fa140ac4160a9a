use Rattle.arena_core.proofs.Words.{rules, arith, subst, sym, Dalloc, OfferDone, after_offer, keep_offer, Sound, op_keeps, space_of}
use Rattle.arena_core.proofs.offers.offer_done.Goals as goal

pub keep_offer-requires-clause-sound : goal.keep_offer-requires-clause-sound
keep_offer-requires-clause-sound c =
    let s = space_of c.args.indexes.now in
    let keeps = (op_keeps c.args.client s (OfferDone c.args.heard c.args.found) c.requires.sound c.requires.stands).sound in
    let asked = subst (λ ask. Sound (after_offer s c.args.client c.args.found ask c.args.heard.answer).after) c.in-Dalloc.is keeps in
    let answered = subst (λ answer. Sound (after_offer s c.args.client c.args.found (Dalloc c.in-Dalloc.span c.in-Dalloc.committed) answer).after) c.in-Refused.is asked in
    subst (λ offers. Sound (keep_offer (record s { offers = offers }) c.args.client c.args.found c.in-Dalloc.span c.in-Dalloc.committed).after) (sym c.take-in-Refused.ensures.offers) answered

pub returns-in-Refused : goal.returns-in-Refused
returns-in-Refused c = record {
  after = search rules;
  reply = search rules;
  slabs = search rules;
  places = λ n h. c.keep_offer.ensures.places n (record { extents = h.extents; regions = h.regions; offers = omega (arith, h.offers, c.take-in-Refused.ensures.spare) });
}
