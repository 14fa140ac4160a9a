use Rattle.arena_core.proofs.Words.{◌≡◌, ◌∙◌, arith, rules, refl, sym, ap, subst, length, Space, new_pace, Sound, all_rooms, replicate}
use Rattle.arena_core.proofs.Books.{booked_as, nothing_booked}
use Rattle.arena_core.proofs.Outcomes.{opening}
use Rattle.arena_core.proofs.Arena.new.Goals as goal

pub invariant_of-result : goal.invariant_of-result
invariant_of-result c =
    let parts = sym c.in_ok-new.ensures in
    let regions = sym c.new-2.ensures in
    let dirty : new_pace c.args.space.dirty.ms c.args.space.dirty.start ≡ c.in_ok-new-2.field-0 = search rules in
    let muzzy : new_pace c.args.space.muzzy.ms c.args.space.muzzy.start ≡ c.in_ok-new-3.field-0 = search rules in
    let offers = sym c.new-3.ensures in
    let nothing : all_rooms c.none.result ≡ 0 = ap all_rooms c.none.ensures in
    record {
      sound = subst Sound (λ i. record c.args.space { parts = (parts i).parts; regions = (regions i).regions; offers = offers i; dirty = dirty i; muzzy = muzzy i })
          (opening c.args.space c.requires).0;
      clients = ap length c.none.ensures;
      ready = record { places = record { extents = omega arith; regions = omega arith; offers = omega arith }; rooms = omega (arith, nothing) };
      booked = booked_as (nothing_booked _ (ap (λ r. r.regions) c.new-2.ensures)) refl (ap (λ r. r.slabs) c.new-2.ensures);
    }

pub returns : goal.returns
returns c =
    let dirty : c.in_ok-new-2.field-0 ≡ new_pace c.args.space.dirty.ms c.args.space.dirty.start = search rules in
    let muzzy : c.in_ok-new-3.field-0 ≡ new_pace c.args.space.muzzy.ms c.args.space.muzzy.start = search rules in
    (λ i. record { space = record c.args.space { parts = (c.in_ok-new.ensures i).parts; regions = (c.new-2.ensures i).regions; offers = c.new-3.ensures i; dirty = dirty i; muzzy = muzzy i }; rooms = c.none.ensures i })
    ∙ ap (λ (s : Space). record { space = s; rooms = replicate 32 0 }) (opening c.args.space c.requires).1
