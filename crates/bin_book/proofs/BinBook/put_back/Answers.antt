use Rattle.bin_book.proofs.Words.{◌+◌, ◌<◌, not, filter, map, sym, ap, ◌∙◌, subst, IfSome, list_any, regions_at, starts_at, Bins, is_all_free, place, with_free, IsOutAt, regions_in, slabs_in}
use Rattle.bin_book.proofs.Taking.{all_used, none_unused, one_unused, others_used}
use Rattle.bin_book.proofs.Handing.{region_gone}
use Rattle.bin_book.proofs.BinBook.put_back.Goals as goal

pub returns-then-left-slab_regions : goal.returns-then-left-slab_regions
returns-then-left-slab_regions c =
    let t = c.self.inside.table in
    let slab = c.unwrap-region.result.0 in
    let n = c.unwrap-region.result.1 in
    let o = subst (λ r. IfSome r (λ f. IsOutAt t c.args.class c.args.addr f.0 f.1)) c.unwrap-region.ensures c.holder.ensures.some in
    let class = o.out.of_class in
    let last = ap (λ n. n + 1) (sym (c.from-left.ensures ∙ c.left.ensures)) ∙ c.if-left-slab_regions.true ∙ c.slab_regions.ensures.regions in record {
      emptied = sym (ap (λ (b : Bins). list_any is_all_free (map (with_free c.args.addr) b.slabs)) (sym c.self.view_is) ∙ one_unused t c.self.invariant.table c.args.class c.args.addr slab n o last);
      slabs = c.take_off.ensures.slabs ∙ others_used t c.self.invariant.table c.args.class c.args.addr slab n o last ∙ ap (λ (b : Bins). filter (λ s. not (is_all_free s)) (map (with_free c.args.addr) b.slabs)) c.self.view_is;
      regions = c.take_off.ensures.regions ∙ region_gone t c.self.invariant.table slab o.there n (subst (λ m. n < regions_at m) (sym class) o.out.inside) o.out.out (last ∙ ap regions_at (sym class))
          ∙ ap (λ a. filter (λ r. not (starts_at a r)) (regions_in t)) (ap (λ m. place m slab.major n) class ∙ o.at) ∙ ap (λ (b : Bins). filter (λ r. not (starts_at c.args.addr r)) b.regions) c.self.view_is;
      spare = c.take_off.ensures.free ∙ ap (λ (b : Bins). b.spare + 1) c.self.view_is;
      client = ap (λ (b : Bins). b.client) c.self.view_is;
    }

pub returns-clause-emptied : goal.returns-clause-emptied
returns-clause-emptied c =
    let t = c.self.inside.table in
    let o = subst (λ r. IfSome r (λ f. IsOutAt t c.args.class c.args.addr f.0 f.1)) c.unwrap-region.ensures c.holder.ensures.some in
    let slabs = c.put.ensures.slabs ∙ ap (λ a. map (with_free a) (slabs_in t)) o.at ∙ ap (λ (b : Bins). map (with_free c.args.addr) b.slabs) c.self.view_is in
    sym (ap (list_any is_all_free) (sym slabs) ∙ none_unused _ c.put.ensures.table)

pub returns-clause-slabs : goal.returns-clause-slabs
returns-clause-slabs c =
    let t = c.self.inside.table in
    let o = subst (λ r. IfSome r (λ f. IsOutAt t c.args.class c.args.addr f.0 f.1)) c.unwrap-region.ensures c.holder.ensures.some in
    let slabs = c.put.ensures.slabs ∙ ap (λ a. map (with_free a) (slabs_in t)) o.at ∙ ap (λ (b : Bins). map (with_free c.args.addr) b.slabs) c.self.view_is in
    sym (all_used _ c.put.ensures.table) ∙ ap (filter (λ s. not (is_all_free s))) slabs
