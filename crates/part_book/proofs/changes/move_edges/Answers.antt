use Rattle.part_book.proofs.Words.{nat_tests, ◌≡◌, ℕ, ◌+◌, ◌-◌, ◌/◌, true, cond, sym, ap, ◌∙◌, subst, arith, nat_cmp, Pages, Span, IsPlaced, end_of, HasLeaves, HasMore, leaves_for, no_part, with_edges, without_edges}
use Rattle.part_book.proofs.Changed.{moved, moved_up, own_again, same_span}
use Rattle.part_book.proofs.Chunks.{chunk_inside, contains_kept, contains_new, has_leaf, leaves_after}
use Rattle.std.specs.FinMap as map_of
use Rattle.std.specs.FinSet as set
use Rattle.part_book.proofs.changes.move_edges.Goals as goal

-- chunks keep their leaves, and that of the last page has one
more : (old new : set.FinSet nat_cmp) (from to : Span) → to.first ≡ from.first → set.contains old (from.first / 512) ≡ true → new ≡ set.insert old ((end_of to - 1) / 512) → HasMore old new to
more old new from to first leaf e = grind (arith, nat_tests, contains_kept, contains_new)

-- and no more than this leaf was taken
left : (old new : Pages) (to : Span) (n : ℕ) → IsPlaced to → new.chunks ≡ set.insert old.chunks ((end_of to - 1) / 512) → new.spare ≡ cond (set.contains old.chunks ((end_of to - 1) / 512)) old.spare (old.spare - 1) →
    HasLeaves old (n + leaves_for old to) → HasLeaves new n
left old new to n placed chunks spare has = leaves_after old new ((end_of to - 1) / 512) n (chunk_inside to placed).1 chunks spare (omega arith)

pub set-requires-clause-room : goal.set-requires-clause-room
set-requires-clause-room c =
    let to = c.args.to in
    let leaves = c.requires.leaves in
    rw c.end_of.ensures (has_leaf c.args.edges.now ((end_of to - 1) / 512) 0 (chunk_inside to c.requires.to).1 (omega arith))

pub returns-then-from-gt1-clause-numbers : goal.returns-then-from-gt1-clause-numbers
returns-then-from-gt1-clause-numbers c page = grind (arith, nat_tests, moved)

pub returns-then-from-gt1-clause-chunks : goal.returns-then-from-gt1-clause-chunks
returns-then-from-gt1-clause-chunks c =
    more _ _ c.args.from c.args.to c.requires.first c.requires.own.first_leaf (ap (λ e. e.chunks) c.clear.ensures ∙ rw c.end_of.ensures at c.set.ensures.leaf)

pub returns-then-from-gt1-clause-leaves : goal.returns-then-from-gt1-clause-leaves
returns-then-from-gt1-clause-leaves c n has =
    left c.args.edges.now c.clear.new.self c.args.to n c.requires.to (ap (λ e. e.chunks) c.clear.ensures ∙ rw c.end_of.ensures at c.set.ensures.leaf) (ap (λ e. e.spare) c.clear.ensures ∙ rw c.end_of.ensures at c.set.ensures.spare) has

pub returns-else-from-gt1-clause-numbers : goal.returns-else-from-gt1-clause-numbers
returns-else-from-gt1-clause-numbers c page = grind (arith, nat_tests, moved_up)

pub returns-else-from-gt1-clause-chunks : goal.returns-else-from-gt1-clause-chunks
returns-else-from-gt1-clause-chunks c = more _ _ c.args.from c.args.to c.requires.first c.requires.own.first_leaf (rw c.end_of.ensures at c.set.ensures.leaf)

pub returns-else-from-gt1-clause-leaves : goal.returns-else-from-gt1-clause-leaves
returns-else-from-gt1-clause-leaves c n has =
    left c.args.edges.now c.set.new.self c.args.to n c.requires.to (rw c.end_of.ensures at c.set.ensures.leaf) (rw c.end_of.ensures at c.set.ensures.spare) has

pub returns-else-to-from-clause-numbers : goal.returns-else-to-from-clause-numbers
returns-else-to-from-clause-numbers c page =
    let same = same_span c.args.from c.args.to (sym c.requires.first) (omega arith) in
    subst (λ s. map_of.get c.args.edges.now.numbers page ≡ map_of.get (with_edges (without_edges c.args.edges.now.numbers c.args.from) s c.args.number) page) same
    (own_again c.args.edges.now (record no_part { span = c.args.from }) c.args.number page c.requires.from c.requires.own)
