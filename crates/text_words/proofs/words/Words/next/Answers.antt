use Rattle.text_words.proofs.Names.{◌∙◌, sym}
use Rattle.text_words.proofs.Cuts.{words_cut_rest}
use Rattle.text_words.proofs.words.Words.next.Goals as goal

pub returns-then-end-left-clause-some : goal.returns-then-end-left-clause-some
returns-then-end-left-clause-some c =
    sym c.self.view_is ∙ rw c.if-self.false (words_cut_rest c.self.inside.separator c.self.inside.left.now c.before-end.result c.if-end-left.true c.before-end.ensures.plain (c.before-end.ensures.end c.if-end-left.true))
