-- Entries beside their asks, when one more comes.
use Rattle.hook_api.proofs.Words.{◌≡◌, ℕ, suc, ◌+◌, ◌<◌, cond, subst, Bool, true, false, List, [], ◌∷◌, ◌++◌, length, count_by, Option, None, Some, IfSome, IsSomeAnd, is_none, is_some, refl, sym, ap, ◌∙◌, arith, length-append, sum_by-append, sum_by-cons, Heard, Op, AskFacts, heard_in, IsKept, heard_of, Bare, bare_of, carried, nothing, with_heard, IsPaired, asks_after, kept_of, paired, FillsIn, filled_in}
use Rattle.hook_api.proofs.Filling.{filled_length}
use Rattle.hook_api.specs.Kepts.{asks_in}

-- the ask in an operation's place for one is the last that was put there
pub heard_again : (op : Op) (past heard : Heard) → with_heard (with_heard op past) heard ≡ with_heard op heard
heard_again op past heard = grind arith

-- an operation with another ask carries that one, if it carries one
heard_with : (op : Op) (heard : Heard) → heard_of (with_heard op heard) ≡ cond (is_some (heard_of op)) (Some heard) None
heard_with op heard = grind arith

-- an operation with the ask that it carries is the same
with_own : (op : Op) (heard : Heard) → IfSome (heard_of op) (λ own. own ≡ heard) → with_heard op heard ≡ op
with_own op heard own = grind arith

-- an entry that carries an ask carries what its ask heard
heard_carried : (h : Option Heard) (asked : Option AskFacts) → IfSome h (λ heard. IsSomeAnd asked (λ made. heard_in made ≡ heard)) → IfSome h (λ heard. heard ≡ carried asked)
heard_carried None asked kept = tt
heard_carried (Some heard) (Some made) kept = sym kept
heard_carried (Some heard) None kept = absurd kept

-- an entry apart from its ask, beside it again, is the entry
kept_apart : (client : ℕ) (op : Op) (asked : Option AskFacts) → IsKept (record { client = client; op = op }) asked
    → kept_of (bare_of client op (is_some asked)) asked ≡ record { entry = record { client = client; op = op }; asked = asked }
kept_apart client op asked kept =
    ap (λ o. record { entry = record { client = client; op = o }; asked = asked })
    (heard_again op nothing (carried asked) ∙ with_own op (carried asked) (heard_carried (heard_of op) asked kept))

-- an entry that takes the answer to an ask in has one
pub asked_carried : (client : ℕ) (op : Op) (asked : Option AskFacts) → IsKept (record { client = client; op = op }) asked → is_some (heard_of op) ≡ true → is_some asked ≡ true
asked_carried client op asked kept some = by (heard_of op) asked kept some
  where
    by : (h : Option Heard) (a : Option AskFacts) → IfSome h (λ heard. IsSomeAnd a (λ made. heard_in made ≡ heard)) → is_some h ≡ true → is_some a ≡ true
    by None a k e = absurd (cc e)
    by (Some heard) None k e = absurd k
    by (Some heard) (Some made) k e = refl

-- an entry that is made again carries its ask
pub kept_again : (client : ℕ) (op : Op) (asked : Option AskFacts) → (is_some (heard_of op) ≡ true → is_some asked ≡ true) → IsKept (record { client = client; op = with_heard op (carried asked) }) asked
kept_again client op asked some = rw (heard_with op (carried asked)) (by (is_some (heard_of op)) asked some)
  where
    by : (b : Bool) (a : Option AskFacts) → (b ≡ true → is_some a ≡ true) → IfSome (cond b (Some (carried a)) None) (λ heard. IsSomeAnd a (λ made. heard_in made ≡ heard))
    by true None e = absurd (cc (e refl))
    by true (Some made) e = refl
    by false a e = tt

-- there are as many as entries
pub paired_length : (slots : List Bare) (asks : List AskFacts) → length (paired slots asks) ≡ length slots
paired_length [] asks = refl
paired_length (slot ∷ slots) asks = ap suc (paired_length slots (asks_after slot asks))

-- an entry with an ask has the first one
pub fits_first : (slot : Bare) (slots : List Bare) (asks : List AskFacts) → IsPaired (slot ∷ slots) asks → slot.asks ≡ true → 0 < length asks
fits_first slot slots asks fits e = let n = rw e at (fits ∙ sum_by-cons (λ (s : Bare). cond s.asks 1 0) slot slots) in omega (arith, n)

-- behind an entry there are as many asks as entries that have one
pub fits_rest : (slot : Bare) (slots : List Bare) (asks : List AskFacts) → IsPaired (slot ∷ slots) asks → IsPaired slots (asks_after slot asks)
fits_rest slot slots asks fits = by slot.asks asks refl (fits ∙ sum_by-cons (λ (s : Bare). cond s.asks 1 0) slot slots)
  where
    by : (b : Bool) (xs : List AskFacts) → slot.asks ≡ b → length xs ≡ cond slot.asks 1 0 + count_by (λ (s : Bare). s.asks) slots → IsPaired slots (asks_after slot xs)
    by true [] e n = let m = rw e at n in absurd (omega (arith, m))
    by true (x ∷ xs) e n = let m = rw e at n in rw e (omega (arith, m))
    by false xs e n = let m = rw e at n in rw e (omega (arith, m))

-- further entries and their asks come behind
paired_more : (slots more : List Bare) (asks others : List AskFacts) → IsPaired slots asks → paired (slots ++ more) (asks ++ others) ≡ paired slots asks ++ paired more others
paired_more [] more [] others fits = refl
paired_more [] more (ask ∷ asks) others fits = absurd (omega (arith, fits))
paired_more (slot ∷ slots) more asks others fits = by slot.asks asks refl fits (paired_more slots more (asks_after slot asks) others (fits_rest slot slots asks fits))
  where
    by : (b : Bool) (xs : List AskFacts) → slot.asks ≡ b → IsPaired (slot ∷ slots) xs → paired (slots ++ more) (asks_after slot xs ++ others) ≡ paired slots (asks_after slot xs) ++ paired more others
        → paired ((slot ∷ slots) ++ more) (xs ++ others) ≡ paired (slot ∷ slots) xs ++ paired more others
    by true [] e f further = let none = fits_first slot slots [] f e in absurd (omega (arith, none))
    by true (x ∷ xs) e f further = let more_of = rw e at further in rw e (ap (λ ks. kept_of slot (Some x) ∷ ks) more_of)
    by false xs e f further = let more_of = rw e at further in rw e (ap (λ ks. kept_of slot None ∷ ks) more_of)

-- one entry with what it asked is that entry
one_pair : (slot : Bare) (asked : Option AskFacts) → slot.asks ≡ is_some asked → paired (slot ∷ []) (asks_in asked) ≡ kept_of slot asked ∷ []
one_pair slot None e = rw e refl
one_pair slot (Some made) e = rw e refl

-- an entry at the end comes with its ask
paired_push : (slots : List Bare) (slot : Bare) (asks : List AskFacts) (asked : Option AskFacts) → IsPaired slots asks → slot.asks ≡ is_some asked
    → paired (slots ++ slot ∷ []) (asks ++ asks_in asked) ≡ paired slots asks ++ kept_of slot asked ∷ []
paired_push slots slot asks asked fits e = paired_more slots (slot ∷ []) asks (asks_in asked) fits ∙ ap (λ ks. paired slots asks ++ ks) (one_pair slot asked e)

-- a client's operation at the end comes with its ask
pub paired_kept : (slots : List Bare) (asks : List AskFacts) (client : ℕ) (op : Op) (asked : Option AskFacts) → IsPaired slots asks → IsKept (record { client = client; op = op }) asked
    → paired (slots ++ bare_of client op (is_some asked) ∷ []) (asks ++ asks_in asked) ≡ paired slots asks ++ record { entry = record { client = client; op = op }; asked = asked } ∷ []
paired_kept slots asks client op asked fits kept = paired_push slots (bare_of client op (is_some asked)) asks asked fits refl ∙ ap (λ k. paired slots asks ++ k ∷ []) (kept_apart client op asked kept)

-- one ask is as many as its entry has
one_fits : (slot : Bare) (asked : Option AskFacts) → slot.asks ≡ is_some asked → length (asks_in asked) ≡ cond slot.asks 1 0
one_fits slot None e = rw e refl
one_fits slot (Some made) e = rw e refl

-- there are as many asks as entries that have one, with that at the end too
pub fits_push : (slots : List Bare) (slot : Bare) (asks : List AskFacts) (asked : Option AskFacts) → IsPaired slots asks → slot.asks ≡ is_some asked
    → IsPaired (slots ++ slot ∷ []) (asks ++ asks_in asked)
fits_push slots slot asks asked fits e =
    let whole = sum_by-append (λ (s : Bare). cond s.asks 1 0) slots (slot ∷ []) in
    let last = one_fits slot asked e in
    let long = length-append asks (asks_in asked) in
    omega (arith, fits, whole, last, long)

-- there are as many entries as narrow ones
pub kept_length : (few : List (Option Bare)) (whole : List Bare) (asks : List AskFacts) → FillsIn few whole → length (paired (filled_in few whole) asks) ≡ length few
kept_length few whole asks fits = paired_length (filled_in few whole) asks ∙ filled_length few whole fits
