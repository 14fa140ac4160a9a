use Rattle.std.proofs.Common.{◌≡◌, ◌+◌, ◌∙◌, ap, arith}
use Rattle.plain_machine.proofs.Words.{bytes_where, is_mapped, regions_by_class}
use Rattle.space_model.proofs.Sums.{mapped_sum}
use Rattle.plain_machine.proofs.sums.plain_counts.Goals as goal

pub returns : goal.returns
returns c =
    let mapped : c.bytes_in-active.result + c.bytes_in-dirty.result + c.bytes_in-muzzy.result + c.bytes_in-flight.result ≡ bytes_where is_mapped c.args.space.now.parts =
    omega (
      arith,
      mapped_sum c.args.space.now.parts,
      c.bytes_in-active.ensures.bytes,
      c.bytes_in-dirty.ensures.bytes,
      c.bytes_in-muzzy.ensures.bytes,
      c.bytes_in-flight.ensures.bytes,
    ) in
    let regs = c.regions_by_class.ensures ∙ ap (regions_by_class 0 36) c.as_slice.ensures in
    let lextents = c.regions_by_class-2.ensures ∙ ap (regions_by_class 36 85) c.as_slice-2.ensures in
    λ i. record {
      allocated = c.region_bytes.ensures i;
      active = c.bytes_in-active.ensures.bytes i;
      dirty = c.bytes_in-dirty.ensures.bytes i;
      muzzy = c.bytes_in-muzzy.ensures.bytes i;
      retained = c.bytes_in.ensures.bytes i;
      flight = c.bytes_in-flight.ensures.bytes i;
      mapped = mapped i;
      small = c.region_bytes_of.ensures i;
      large = c.region_bytes_of-2.ensures i;
      regs = regs i;
      slabs = c.slabs_by_class.ensures i;
      lextents = lextents i;
    }
