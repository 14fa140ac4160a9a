use Rattle.arena_core.proofs.Words.{◌∙◌, ap, sym, space_of, without_client}
use Rattle.arena_core.proofs.Resized.{shrinking_aside}
use Rattle.arena_core.proofs.resizes.trim_done.Goals as goal

pub returns : goal.returns
returns c =
    let s = space_of c.args.indexes.now in
    let aside = sym (shrinking_aside s c.args.client c.args.class c.args.heard.ask c.args.heard.answer (without_client c.args.client s.trims)) in
    let done = c.trim_answered-reply.ensures.does in
    let trims = c.remove.ensures ∙ ap (without_client c.args.client) c.trim_answered-reply.ensures.trims in record {
      after = (λ i. record (done.after i) { trims = trims i }) ∙ ap (λ step. step.after) aside;
      reply = done.reply ∙ ap (λ step. step.reply) aside;
      slabs = done.slabs;
      places = λ n h. let k = done.places n h in record { extents = k.extents; regions = k.regions; offers = k.offers };
    }
