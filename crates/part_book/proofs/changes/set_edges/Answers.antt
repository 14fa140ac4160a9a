use Rattle.part_book.proofs.Words.{◌+◌, ◌-◌, ◌/◌, arith, end_of}
use Rattle.part_book.proofs.Chunks.{chunk_inside, has_leaf, leaves_after, leaves_kept, wanted, wanted_less}
use Rattle.part_book.proofs.changes.set_edges.Goals as goal

pub set-requires-clause-room : goal.set-requires-clause-room
set-requires-clause-room c =
    let p = c.args.edges.now in
    let s = c.args.span in
    has_leaf p (s.first / 512) (wanted p ((end_of s - 1) / 512)) (chunk_inside s c.requires.placed).0 (omega arith)

pub set-requires-2-clause-room : goal.set-requires-2-clause-room
set-requires-2-clause-room c =
    let p = c.args.edges.now in
    let s = c.args.span in
    let inside = chunk_inside s c.requires.placed in
    let left = leaves_after p c.set.new.self (s.first / 512) (wanted p ((end_of s - 1) / 512)) inside.0 c.set.ensures.leaf c.set.ensures.spare (omega arith) in
    let less = wanted_less p c.set.new.self (s.first / 512) ((end_of s - 1) / 512) c.set.ensures.leaf in
    rw c.end_of.ensures (has_leaf c.set.new.self ((end_of s - 1) / 512) 0 inside.1 (omega arith))

pub returns-clause-chunks : goal.returns-clause-chunks
returns-clause-chunks c = leaves_kept c.args.edges.now.chunks c.args.span (rw (c.set.ensures.leaf, c.end_of.ensures) at c.set-2.ensures.leaf)

pub returns-clause-leaves : goal.returns-clause-leaves
returns-clause-leaves c n has =
    let p = c.args.edges.now in
    let q = c.set.new.self in
    let s = c.args.span in
    let inside = chunk_inside s c.requires.placed in
    let left = leaves_after p q (s.first / 512) (n + wanted p ((end_of s - 1) / 512)) inside.0 c.set.ensures.leaf c.set.ensures.spare (omega arith) in
    let less = wanted_less p q (s.first / 512) ((end_of s - 1) / 512) c.set.ensures.leaf in
    leaves_after q c.set-2.new.self ((end_of s - 1) / 512) n inside.1 (rw c.end_of.ensures at c.set-2.ensures.leaf) (rw c.end_of.ensures at c.set-2.ensures.spare) (omega arith)
