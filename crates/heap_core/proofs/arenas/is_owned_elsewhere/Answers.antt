use Rattle.heap_core.proofs.Words.{◌∙◌, ◌+◌, ◌-◌, ◌||◌, ap, arith, drop, length, sym, length-drop, take_all, list_any, owns_chunk}
use Rattle.heap_core.proofs.Spaces.{any_of_others}
use Rattle.heap_core.proofs.arenas.is_owned_elsewhere.Goals as goal

pub returns-then-any_owns : goal.returns-then-any_owns
returns-then-any_owns c =
    c.if-any_owns.true
    ∙ ap (λ v. v || list_any (λ r. owns_chunk c.args.chunk r.space) (drop (c.args.arena + 1) c.args.records.now)) (sym c.if-any_owns.true ∙ c.any_owns.ensures)
    ∙ any_of_others c.args.chunk c.args.arena c.args.records.now

pub returns-else-any_owns : goal.returns-else-any_owns
returns-else-any_owns c =
    c.any_owns-else-any_owns.ensures
    ∙ ap (list_any (λ r. owns_chunk c.args.chunk r.space)) (take_all (length c.args.records.now - (c.args.arena + 1)) (drop (c.args.arena + 1) c.args.records.now) (omega (arith, length-drop (c.args.arena + 1) c.args.records.now)))
    ∙ ap (λ v. v || list_any (λ r. owns_chunk c.args.chunk r.space) (drop (c.args.arena + 1) c.args.records.now)) (sym c.if-any_owns.false ∙ c.any_owns.ensures)
    ∙ any_of_others c.args.chunk c.args.arena c.args.records.now
