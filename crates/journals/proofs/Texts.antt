-- The text of journals that is put into an empty list.
use Rattle.std.proofs.Common.{◌≡◌, ◌∙◌, ℕ, List, [], ◌++◌, ap}
use Rattle.hook_api.specs.declared.kept.Journal.{Journal}
use Rattle.journal.specs.Texts.{journals_text}

-- it is that of the journals alone
pub text_alone : (text out empty : List ℕ) (given journals : List Journal) → text ≡ out → out ≡ empty ++ journals_text given → empty ≡ [] → given ≡ journals → text ≡ journals_text journals
text_alone text out empty given journals is put none same = is ∙ put ∙ ap (λ (t : List ℕ). t ++ journals_text given) none ∙ ap journals_text same
