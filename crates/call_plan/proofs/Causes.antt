-- Every answer has its cause: each step keeps the reasons of the point to which it leads.
use Rattle.call_plan.proofs.Words.{◌≡◌, ℕ, Bool, false, List, [], ◌∷◌, ◌++◌, Option, None, Some, refl, ◌∙◌, ap, arith, Contains, Contains-append_left, Contains-append_right, fold-append, after_cut, after_commit, after_grow, why_not, Item, Alloc, Commit, Split, Answer, Placed, Whole, Bad, Grown, Space, Span, Why, answered_span, Extent, extent_after, extent_of, NothingFits}
use Rattle.space_model.specs.declared.Answer.TheVariants as answers
use Rattle.space_model.specs.declared.Reply.TheVariants as replies

-- ---- what a reply says of the answer that its turn took in

pub cut_whole : (s : Space) (c : ℕ) (keep_low : Bool) (span : Span) (left : ℕ) (answer : Answer) → Whole ≡ (after_cut s c keep_low (Split span left) answer).reply → answer ≡ answers.Refused
cut_whole s c keep_low span left answer e = grind arith

pub commit_whole : (s : Space) (c : ℕ) (span : Span) (answer : Answer) → Whole ≡ (after_commit s c (Commit span) answer).reply → answer ≡ answers.Refused
commit_whole s c span answer e = grind arith

pub grow_refused : (s : Space) (c : ℕ) (found : Option ℕ) (pages align : ℕ) (answer : Answer) → replies.Refused ≡ (after_grow s c found (Alloc false None pages align) answer).reply → answer ≡ answers.Refused
grow_refused s c found pages align answer e = grind arith

-- A placed range that was found bad, or granted.
pub record WasPlaced (answer : Answer) (pages : ℕ) (span : Span) : Type 0 where
  pub is_committed : Bool
  pub zeroed : Bool
  pub placed : answer ≡ Placed is_committed zeroed span.first
  pub pages_are : span.pages ≡ pages

pub grow_bad : (s : Space) (c : ℕ) (found : Option ℕ) (pages align : ℕ) (answer : Answer) (why : Why) → Bad why ≡ (after_grow s c found (Alloc false None pages align) answer).reply →
    WasPlaced answer pages (answered_span pages answer) × (why_not found align s.parts (answered_span pages answer) ≡ Some why)
grow_bad s c found pages align (Placed b z first) why e = (record { is_committed = b; zeroed = z; placed = refl; pages_are = refl }, grind arith)
grow_bad s c found pages align answer why e = absurd (cc)

pub grow_grown : (s : Space) (c : ℕ) (found : Option ℕ) (pages align : ℕ) (answer : Answer) (span : Span) (b : Bool) → Grown span b ≡ (after_grow s c found (Alloc false None pages align) answer).reply →
    (z : Bool) × (answer ≡ Placed b z span.first)
grow_grown s c found pages align (Placed d z first) span b e = (z, grind arith)
grow_grown s c found pages align answer span b e = absurd (cc)

-- ---- what is among the items

pub last_in : (items : List Item) (item : Item) → Contains (items ++ item ∷ []) item
last_in items item = Contains-append_right items (item ∷ []) item (0, omega arith, refl)

pub more_in : (items : List Item) (item other : Item) → Contains items other → Contains (items ++ item ∷ []) other
more_in items item other has = Contains-append_left items (item ∷ []) other has

-- the extent after one more item
pub extent_next : (items : List Item) (item : Item) (had : Option Extent) → extent_of items ≡ had → extent_of (items ++ item ∷ []) ≡ extent_after had item
extent_next items item had e = fold-append extent_after None items (item ∷ []) ∙ ap (λ o. extent_after o item) e

pub fits_more : (items : List Item) (item : Item) → NothingFits items → NothingFits (items ++ item ∷ [])
fits_more items item fits = grind (arith, more_in)
