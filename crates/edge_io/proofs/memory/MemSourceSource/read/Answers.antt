use Rattle.std.proofs.Common.{◌≡◌, ◌+◌, ◌≤◌, length, take, drop, sym, ◌∙◌, ap, arith}
use Rattle.edge_io.proofs.Pieces.{read_moves, rest_of}
use Rattle.edge_io.proofs.memory.MemSourceSource.read.Goals as goal
use Rattle.edge_io.proofs.memory.MemSourceSource.read.Goals.{else-n-eq0-via-then-n-eq0+else-not-is_empty, else-n-eq0-via-else-n-eq0}

pub returns-else-n-eq0-clause-moved : goal.returns-else-n-eq0-clause-moved
returns-else-n-eq0-clause-moved g c =
    let bytes = c.self.inside.bytes.items in
    let at = c.self.inside.at in
    let n = c.min-n.result in
    let copied : c.copy_from_slice.new.self ≡ take n (drop at bytes) =
    c.copy_from_slice.ensures.after ∙ rw (c.deref-2.ensures.value, rest_of bytes at) in
    let count = rw (c.deref-2.ensures.value, rest_of bytes at) at c.min-n.ensures in
    let within : n ≤ length (drop at bytes) = omega (arith, count) in
    let before : c.args.self.now.left ≡ drop at bytes = sym (ap (λ s. s.left) c.self.view_is) in
    let after : c.else-n-eq0.self.left ≡ drop (at + n) bytes =
    elim c.else-n-eq0.branch [
      | else-n-eq0-via-then-n-eq0+else-not-is_empty w ↦ ap (λ s. s.left) w.self-is
      | else-n-eq0-via-else-n-eq0 w ↦ ap (λ s. s.left) w.self-is
    ] in
    rw (before, after, copied) (read_moves bytes c.args.buf.now at n within)
