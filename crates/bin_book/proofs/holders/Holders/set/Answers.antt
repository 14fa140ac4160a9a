use Rattle.bin_book.proofs.Words.{◌+◌, ◌*◌, ap, ◌∙◌, sym, arith, holder_at}
use Rattle.list_facts.specs.Codes.{of_code}
use Rattle.bin_book.proofs.Blocks.{codes_read, written_here, written_other}
use Rattle.bin_book.proofs.holders.Holders.set.Goals as goal

pub returns-clause-here : goal.returns-clause-here
returns-clause-here c =
    let place = 512 * c.args.slot + c.args.region in
    let own = c.own_block-block in
    ap of_code (codes_read _ _ place ∙ rw own.ensures.number (written_here own.new.blocks.items _ own.ensures.blocks own.new.codes.items place c.code_of.result (sym own.new.codes.ok.0) (omega arith))) ∙ c.code_of.ensures

pub returns-clause-others : goal.returns-clause-others
returns-clause-others c q ne =
    let place = 512 * c.args.slot + c.args.region in
    let own = c.own_block-block in
    ap of_code (codes_read _ _ q ∙ rw own.ensures.number (written_other own.new.blocks.items _ own.ensures.blocks own.new.codes.items place c.code_of.result q ne (omega arith)) ∙ own.ensures.same q ∙ sym (codes_read _ _ q)) ∙ ap (λ xs. holder_at xs q) c.self.view_is
