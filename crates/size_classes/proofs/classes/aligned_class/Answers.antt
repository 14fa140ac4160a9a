use Rattle.std.proofs.Common.{◌≡◌, ◌<◌, inl, inr, refl, sym, arith}
use Rattle.size_classes.specs.Classes.{class_for}
use Rattle.size_classes.proofs.Least.{small_size}
use Rattle.size_classes.proofs.Alignment.{aligned_large, aligned_divides}
use Rattle.size_classes.proofs.classes.aligned_class.Goals as goal

pub returns-then-align-gt-PAGE_BYTES-clause-class : goal.returns-then-align-gt-PAGE_BYTES-clause-class
returns-then-align-gt-PAGE_BYTES-clause-class c =
    rw (c.max.ensures, c.in_ok-class.ensures.class)
    (aligned_large c.args.size c.args.align
    (elim c.then-align-gt-PAGE_BYTES.either [
      | inl above ↦ inl above
      | inr both ↦ inr (rw c.in_ok-class.ensures.class at both.1)
    ]))

pub least_class-requires : goal.least_class-requires
least_class-requires c =
    let small : class_for c.args.size < 36 = rw c.in_ok-class.ensures.class at c.if-class-ge-SMALL_CLASSES.false in
    omega (arith, small_size c.args.size small)

pub returns-clause-aligned : goal.returns-clause-aligned
returns-clause-aligned c = λ small.
    let below = rw c.min.ensures at small in
    let same : c.min.result ≡ c.least_class.result = omega (arith, c.min.ensures, below) in
    rw same (aligned_divides c.next_multiple_of-rounded.result c.args.align c.least_class.result
    (c.if-not-is_alignment.ensures.0 refl) c.if-align-gt-PAGE_BYTES.false (omega arith)
    c.next_multiple_of-rounded.ensures.multiple (sym c.least_class.ensures.class) (omega (arith, below)))
