use Rattle.part_book.proofs.Words.{◌≡◌, ◌+◌, true, not, eqb, filter, length, ap, arith, Rest, is_listed, AgeList, CanUnlist, LosesRow, Row, kept_length}
use Rattle.part_book.proofs.changes.unlist.Goals as goal
use Rattle.space_model.specs.declared.Rest.TheVariants as rests

-- a list loses an extent that it has
lost : (rest : Rest) (old new : AgeList) (row : Row) → CanUnlist rest old row → is_listed rest row.part.state ≡ true → new.ages.numbers ≡ filter (λ n. not (eqb n row.number)) old.ages.numbers →
    new.pages + row.part.span.pages ≡ old.pages → new.ages.places ≡ old.ages.places → LosesRow rest old new row
lost rest old new row can listed numbers pages places =
    let kept = kept_length (λ n. eqb n row.number) old.ages.numbers in
    let len = ap length numbers in
    let once = can.once in
    record {
      numbers = rw listed numbers;
      pages = rw listed pages;
      places = places;
      len = rw listed (omega arith);
    }

pub returns-in-Dirty-clause-dirty : goal.returns-in-Dirty-clause-dirty
returns-in-Dirty-clause-dirty c = lost rests.Dirty _ _ _ c.requires.dirty (ap (is_listed rests.Dirty) c.in-Dirty.is) c.remove.ensures.numbers c.remove.ensures.pages c.remove.ensures.places

pub returns-in-Muzzy-clause-muzzy : goal.returns-in-Muzzy-clause-muzzy
returns-in-Muzzy-clause-muzzy c = lost rests.Muzzy _ _ _ c.requires.muzzy (ap (is_listed rests.Muzzy) c.in-Muzzy.is) c.remove-in-Muzzy.ensures.numbers c.remove-in-Muzzy.ensures.pages c.remove-in-Muzzy.ensures.places

pub returns-in-Retained-clause-retained : goal.returns-in-Retained-clause-retained
returns-in-Retained-clause-retained c = lost rests.Retained _ _ _ c.requires.retained (ap (is_listed rests.Retained) c.in-Retained.is) c.remove-in-Retained.ensures.numbers c.remove-in-Retained.ensures.pages c.remove-in-Retained.ensures.places
