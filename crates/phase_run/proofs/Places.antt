-- Where names lie, and which of them calls have.
use Rattle.std.proofs.Common.{◌≡◌, ◌⊎◌, ◌∙◌, ℕ, Bool, true, false, cond, ◌||◌, List, [], ◌∷◌, ◌++◌, Option, None, Some, IfSome, refl, sym, ap, subst, inl, inr}
use Rattle.std.specs.Prelude.{is_some}
use Rattle.std.proofs.lemmas.List.Folds.{list_any-append}
use Rattle.std.proofs.lemmas.Slice.Eq.{bytes_eq-Decides}
use Rattle.std.specs.List.{list_any}
use Rattle.std.specs.Map.{lookup}
use Rattle.std.specs.Option.{unwrap_or}
use Rattle.std.specs.Str.{bytes_eq}
use Rattle.trace_phase.specs.Apart.{names_it}
use Rattle.trace_phase.specs.Parts.{call_name}
use Rattle.trace_phase.specs.declared.parts.PhaseCall.{PhaseCall}
use Rattle.trace_phase.specs.declared.parts.PhaseCall.TheVariants.{Malloc, Memalign, Free, Publish, Take, Flush, Purge, Decay}
use Rattle.phase_run.specs.declared.names.Place.{Place}
use Rattle.phase_run.specs.Names.{AreLearnt, learnt, named, nowhere, place_in}
use Rattle.phase_run.specs.Walks.{AgreeOn}

pub same_name : (name other : List ℕ) → bytes_eq name other ≡ true → name ≡ other
same_name name other is = (bytes_eq-Decides name other).0 is

pub name_same : (name : List ℕ) → bytes_eq name name ≡ true
name_same name = (bytes_eq-Decides name name).1 refl

-- a name that is bound is found there, and each other one where it was
found_named : (name other : List ℕ) (place : Place) (names : List (List ℕ × Place)) → lookup (bytes_eq name) (named names other place) ≡ cond (bytes_eq name other) (Some place) (lookup (bytes_eq name) names)
found_named name other place [] = refl
found_named name other place (e ∷ es) = by (bytes_eq other e.0) (bytes_eq name e.0) (bytes_eq name other) refl refl refl (found_named name other place es)
  where
    by : (a b d : Bool) → bytes_eq other e.0 ≡ a → bytes_eq name e.0 ≡ b → bytes_eq name other ≡ d → lookup (bytes_eq name) (named es other place) ≡ cond (bytes_eq name other) (Some place) (lookup (bytes_eq name) es)
        → lookup (bytes_eq name) (named (e ∷ es) other place) ≡ cond (bytes_eq name other) (Some place) (lookup (bytes_eq name) (e ∷ es))
    by true true true a b d later = rw (a, d, b) refl
    by true true false a b d later =
        let one : name ≡ other = same_name name e.0 b ∙ sym (same_name other e.0 a) in
        let no : true ≡ false = sym (name_same other) ∙ ap (λ n. bytes_eq n other) (sym one) ∙ d in absurd cc
    by true false true a b d later =
        let one : name ≡ e.0 = same_name name other d ∙ same_name other e.0 a in
        let no : true ≡ false = sym (name_same e.0) ∙ ap (λ n. bytes_eq n e.0) (sym one) ∙ b in absurd cc
    by true false false a b d later = rw (a, d, b) refl
    by false true true a b d later =
        let one : other ≡ e.0 = sym (same_name name other d) ∙ same_name name e.0 b in
        let no : true ≡ false = sym (name_same e.0) ∙ ap (λ n. bytes_eq n e.0) (sym one) ∙ a in absurd cc
    by false true false a b d later = rw (a, d, b) refl
    by false false d a b is later = rw (a, b) later

pub place_named : (name other : List ℕ) (place : Place) (names : List (List ℕ × Place)) → place_in (named names other place) name ≡ cond (bytes_eq name other) place (place_in names name)
place_named name other place names = ap (λ o. unwrap_or o nowhere) (found_named name other place names) ∙ by (bytes_eq name other)
  where
    by : (b : Bool) → unwrap_or (cond b (Some place) (lookup (bytes_eq name) names)) nowhere ≡ cond b place (place_in names name)
    by true = refl
    by false = refl

-- ---- names that lie where they lie among others

-- such a name is bound already
same_bound : (names : List (List ℕ × Place)) (name : List ℕ) (place : Place) → lookup (bytes_eq name) names ≡ Some place → named names name place ≡ names
same_bound [] name place is = absurd cc
same_bound (e ∷ es) name place is = by (bytes_eq name e.0) refl (same_bound es name place)
  where
    by : (b : Bool) → bytes_eq name e.0 ≡ b → (lookup (bytes_eq name) es ≡ Some place → named es name place ≡ es) → named (e ∷ es) name place ≡ e ∷ es
    by true same later = let found : Some e.1 ≡ Some place = rw same at is in let there : place ≡ e.1 = cc in rw same (ap (λ (p : Place). (e.0, p) ∷ es) there)
    by false other later = let after : lookup (bytes_eq name) es ≡ Some place = rw other at is in rw other (ap (λ (l : List (List ℕ × Place)). e ∷ l) (later after))

-- so learning it again changes nothing
pub learnt_before : (others names : List (List ℕ × Place)) (name : List ℕ) → AreLearnt others names → is_some (lookup (bytes_eq name) names) ≡ true → learnt others names (Some name) ≡ names
learnt_before others names name are is = by (lookup (bytes_eq name) names) refl (are name)
  where
    by : (found : Option Place) → lookup (bytes_eq name) names ≡ found → IfSome found (λ place. place ≡ place_in others name) → learnt others names (Some name) ≡ names
    by None none there = let no : false ≡ true = rw none at is in absurd cc
    by (Some place) some there = ap (named names name) (sym there) ∙ same_bound names name place some

-- and they stay so once one more is learnt
pub learnt_more : (others names : List (List ℕ × Place)) (name : Option (List ℕ)) → AreLearnt others names → AreLearnt others (learnt others names name)
learnt_more others names None are = are
learnt_more others names (Some own) are = λ asked. by asked (bytes_eq asked own) refl
  where
    so : List ℕ → Option Place → Type 0
    so asked found = IfSome found (λ place. place ≡ place_in others asked)

    by : (asked : List ℕ) (b : Bool) → bytes_eq asked own ≡ b → so asked (lookup (bytes_eq asked) (named names own (place_in others own)))
    by asked true same =
        subst (so asked) (sym (found_named asked own (place_in others own) names ∙ ap (λ b. cond b (Some (place_in others own)) (lookup (bytes_eq asked) names)) same))
        (ap (place_in others) (sym (same_name asked own same)))
    by asked false other =
        subst (so asked) (sym (found_named asked own (place_in others own) names ∙ ap (λ b. cond b (Some (place_in others own)) (lookup (bytes_eq asked) names)) other)) (are asked)

-- a call names what its name is
names_its : (name other : List ℕ) (call : PhaseCall) → call_name call ≡ Some other → names_it name call ≡ bytes_eq name other
names_its name other (Malloc own size) is = ap (bytes_eq name) (let same : own ≡ other = cc in same)
names_its name other (Memalign own align size) is = ap (bytes_eq name) (let same : own ≡ other = cc in same)
names_its name other (Free own) is = ap (bytes_eq name) (let same : own ≡ other = cc in same)
names_its name other (Publish own) is = ap (bytes_eq name) (let same : own ≡ other = cc in same)
names_its name other (Take own) is = ap (bytes_eq name) (let same : own ≡ other = cc in same)
names_its name other Flush is = absurd cc
names_its name other (Purge arena) is = absurd cc
names_its name other (Decay arena) is = absurd cc

names_none : (name : List ℕ) (call : PhaseCall) → call_name call ≡ None → names_it name call ≡ false
names_none name (Malloc own size) is = absurd cc
names_none name (Memalign own align size) is = absurd cc
names_none name (Free own) is = absurd cc
names_none name (Publish own) is = absurd cc
names_none name (Take own) is = absurd cc
names_none name Flush is = refl
names_none name (Purge arena) is = refl
names_none name (Decay arena) is = refl

-- one more call names what was named, or its own
either : (name : List ℕ) (calls : List PhaseCall) (call : PhaseCall) → list_any (names_it name) (calls ++ call ∷ []) ≡ true → (list_any (names_it name) calls ≡ true) ⊎ (names_it name call ≡ true)
either name calls call has = by (list_any (names_it name) calls) (names_it name call) refl refl (sym (list_any-append (names_it name) calls (call ∷ [])) ∙ has)
  where
    by : (a b : Bool) → list_any (names_it name) calls ≡ a → names_it name call ≡ b → (list_any (names_it name) calls || (names_it name call || false)) ≡ true → (list_any (names_it name) calls ≡ true) ⊎ (names_it name call ≡ true)
    by true b old new h = inl old
    by false true old new h = inr new
    by false false old new h = let no : false ≡ true = rw (old, new) at h in absurd cc

-- names agree on one more call once its name is bound as it is there
agree_more : (calls : List PhaseCall) (call : PhaseCall) (name : List ℕ) (own names : List (List ℕ × Place)) → call_name call ≡ Some name → AgreeOn calls own names
    → AgreeOn (calls ++ call ∷ []) (named own name (place_in names name)) names
agree_more calls call name own names is agree asked has = by (bytes_eq asked name) refl (either asked calls call has)
  where
    by : (b : Bool) → bytes_eq asked name ≡ b → (list_any (names_it asked) calls ≡ true) ⊎ (names_it asked call ≡ true) → place_in (named own name (place_in names name)) asked ≡ place_in names asked
    by true same which = place_named asked name (place_in names name) own ∙ ap (λ b. cond b (place_in names name) (place_in own asked)) same ∙ ap (place_in names) (sym (same_name asked name same))
    by false other (inl old) = place_named asked name (place_in names name) own ∙ ap (λ b. cond b (place_in names name) (place_in own asked)) other ∙ agree asked old
    by false other (inr new) = let no : true ≡ false = sym new ∙ names_its asked name call is ∙ other in absurd cc

agree_same : (calls : List PhaseCall) (call : PhaseCall) (own names : List (List ℕ × Place)) → call_name call ≡ None → AgreeOn calls own names → AgreeOn (calls ++ call ∷ []) own names
agree_same calls call own names is agree asked has = by (either asked calls call has)
  where
    by : (list_any (names_it asked) calls ≡ true) ⊎ (names_it asked call ≡ true) → place_in own asked ≡ place_in names asked
    by (inl old) = agree asked old
    by (inr new) = let no : true ≡ false = sym new ∙ names_none asked call is in absurd cc

-- names agree on one more call once its name is learnt
pub agree_learnt : (calls : List PhaseCall) (call : PhaseCall) (own names : List (List ℕ × Place)) → AgreeOn calls own names → AgreeOn (calls ++ call ∷ []) (learnt names own (call_name call)) names
agree_learnt calls call own names agree = by (call_name call) refl
  where
    by : (name : Option (List ℕ)) → call_name call ≡ name → AgreeOn (calls ++ call ∷ []) (learnt names own name) names
    by None is = agree_same calls call own names is agree
    by (Some name) is = agree_more calls call name own names is agree
