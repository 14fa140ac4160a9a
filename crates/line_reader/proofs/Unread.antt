-- The bytes that aren't used yet.
use Rattle.std.proofs.Common.{◌∙◌, ℕ, List, Option, None, Some}
use Rattle.line_reader.specs.Lines.{SameUnread}

-- they stay what they are through two reads
pub same-trans : (one two three : List ℕ) (left left' left'' : Option (List ℕ)) → SameUnread one left two left' → SameUnread two left' three left'' → SameUnread one left three left''
same-trans one two three None left' left'' p q = tt
same-trans one two three (Some left) None left'' p q = absurd p
same-trans one two three (Some left) (Some left') None p q = absurd q
same-trans one two three (Some left) (Some left') (Some left'') p q = p ∙ q
