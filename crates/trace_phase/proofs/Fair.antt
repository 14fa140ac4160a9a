-- Each name is one client's within a phase.
use Rattle.std.proofs.Common.{◌≡◌, ◌≢◌, ◌⊎◌, ◌∙◌, ℕ, ◌+◌, ◌<◌, ◌≤◌, Bool, true, false, not, eqb, ltb, cond, ◌||◌, ◌&&◌, List, [], ◌∷◌, ◌++◌, length, Option, None, Some, refl, ap, sym, subst, inl, inr, arith, eq-eqb, is_some, is_none}
use Rattle.std.proofs.lemmas.Bool.{ltb-true}
use Rattle.std.proofs.lemmas.Bool.Decides.{Decides-eqb}
use Rattle.std.proofs.lemmas.List.Folds.{list_any-append}
use Rattle.std.proofs.lemmas.Slice.Eq.{bytes_eq-Decides}
use Rattle.std.specs.List.{AllByRecursion, list_any}
use Rattle.std.specs.Map.{lookup}
use Rattle.std.specs.Str.{bytes_eq}
use Rattle.indexmap.specs.IndexMap.{insert_entry}
use Rattle.trace_text.specs.declared.lines.Line.{Line}
use Rattle.trace_text.specs.declared.lines.Line.TheVariants as line
use Rattle.trace_text.specs.declared.lines.Verb.{Verb}
use Rattle.trace_phase.specs.Apart.{AllApart, AreApart, IsFair, PhasesAreFair, is_named_in, names_it}
use Rattle.trace_phase.specs.Names.{call_stands, is_owner, may_bind, may_take, names_after, standing_of, with_standing}
use Rattle.trace_phase.specs.Parts.{first_work, phase_call, setting_call, with_call, with_more}
use Rattle.trace_phase.specs.Rule.{after, after_all, call_stands_in, called, cause_of, fault_of, first_fault, first_of, is_worker, joined, named, opening, phase_call_stands, phase_called, place_of_phase, setting_called, unless_stands, with_setting}
use Rattle.trace_phase.specs.declared.course.Course.{Course}
use Rattle.trace_phase.specs.declared.course.OpenPhase.{OpenPhase}
use Rattle.trace_phase.specs.declared.faults.PhaseCause.{PhaseCause}
use Rattle.trace_phase.specs.declared.names.Standing.{Standing}
use Rattle.trace_phase.specs.declared.names.Standing.TheVariants.{Owned, Freed, Published}
use Rattle.trace_phase.specs.declared.parts.NumberedLine.{NumberedLine}
use Rattle.trace_phase.specs.declared.parts.Part.{Part}
use Rattle.trace_phase.specs.declared.parts.Part.TheVariants as part
use Rattle.trace_phase.specs.declared.parts.PhaseCall.{PhaseCall}
use Rattle.trace_phase.specs.declared.parts.PhaseCall.TheVariants.{Malloc, Memalign, Free, Publish, Take, Flush, Purge, Decay}
use Rattle.trace_phase.specs.declared.parts.Setting.{Setting}
use Rattle.trace_phase.specs.declared.parts.SettingCall.{SettingCall}
use Rattle.trace_phase.specs.declared.parts.Work.{Work}

is_equal : (a b : ℕ) → eqb a b ≡ true → a ≡ b
is_equal a b is = (Decides-eqb a b).0 is

-- ---- works

-- what holds of each work holds with one more call
all_with_call : (P : Work → Type 0) (client : ℕ) (call : PhaseCall) → ((w : Work) → P w → w.client ≡ client → P (with_more w call)) → P (first_work client call)
    → (works : List Work) → AllByRecursion P works → AllByRecursion P (with_call client call works)
all_with_call P client call more new [] all = (new, tt)
all_with_call P client call more new (w ∷ ws) all = by (eqb w.client client) refl (all_with_call P client call more new ws all.1)
  where
    by : (b : Bool) → eqb w.client client ≡ b → AllByRecursion P (with_call client call ws) → AllByRecursion P (with_call client call (w ∷ ws))
    by true is later = rw is (more w all.0 (is_equal w.client client is), all.1)
    by false is later = rw is (all.0, later)

-- one more call names what was named, or its own
named_more : (name : List ℕ) (w : Work) (call : PhaseCall) → is_named_in name (with_more w call) ≡ true → (is_named_in name w ≡ true) ⊎ (names_it name call ≡ true)
named_more name w call has = by (is_named_in name w) (names_it name call) refl refl (sym (list_any-append (names_it name) w.calls (call ∷ [])) ∙ has)
  where
    by : (a b : Bool) → is_named_in name w ≡ a → names_it name call ≡ b → (is_named_in name w || (names_it name call || false)) ≡ true → (is_named_in name w ≡ true) ⊎ (names_it name call ≡ true)
    by true b old new h = inl old
    by false true old new h = inr new
    by false false old new h = let no : false ≡ true = rw (old, new) at h in absurd cc

named_first : (name : List ℕ) (client : ℕ) (call : PhaseCall) → is_named_in name (first_work client call) ≡ true → names_it name call ≡ true
named_first name client call has = by (names_it name call) refl has
  where
    by : (b : Bool) → names_it name call ≡ b → (b || false) ≡ true → names_it name call ≡ true
    by true is h = is
    by false is h = absurd cc

-- what a call of a client names is in a work only if that is the client's
abbrev NamesOwn : ℕ → PhaseCall → Work → Type 0
NamesOwn client call w = (name : List ℕ) → names_it name call ≡ true → is_named_in name w ≡ true → w.client ≡ client

more_left : (client : ℕ) (call : PhaseCall) (w v : Work) → w.client ≡ client → AreApart w v → NamesOwn client call v → AreApart (with_more w call) v
more_left client call w v same apart own = record { clients = apart.clients; names = λ name left right. by name (named_more name w call left) right }
  where
    by : (name : List ℕ) → (is_named_in name w ≡ true) ⊎ (names_it name call ≡ true) → is_named_in name v ≡ true → ⊥
    by name (inl old) right = apart.names name old right
    by name (inr new) right = apart.clients (same ∙ sym (own name new right))

more_right : (client : ℕ) (call : PhaseCall) (w v : Work) → NamesOwn client call w → AreApart w v → v.client ≡ client → AreApart w (with_more v call)
more_right client call w v own apart same = record { clients = apart.clients; names = λ name left right. by name left (named_more name v call right) }
  where
    by : (name : List ℕ) → is_named_in name w ≡ true → (is_named_in name v ≡ true) ⊎ (names_it name call ≡ true) → ⊥
    by name left (inl old) = apart.names name left old
    by name left (inr new) = apart.clients (own name new left ∙ sym same)

new_right : (client : ℕ) (call : PhaseCall) (w : Work) → NamesOwn client call w → w.client ≢ client → AreApart w (first_work client call)
new_right client call w own differ = record { clients = differ; names = λ name left right. differ (own name (named_first name client call right) left) }

all_left : (client : ℕ) (call : PhaseCall) (w : Work) → w.client ≡ client → (ws : List Work) → AllByRecursion (AreApart w) ws → AllByRecursion (NamesOwn client call) ws → AllByRecursion (AreApart (with_more w call)) ws
all_left client call w same [] apart own = tt
all_left client call w same (v ∷ ws) apart own = (more_left client call w v same apart.0 own.0, all_left client call w same ws apart.1 own.1)

-- works stay apart with one more call of a client whose name is in no other one's
apart_with_call : (client : ℕ) (call : PhaseCall) (works : List Work) → AllApart works → AllByRecursion (NamesOwn client call) works → AllApart (with_call client call works)
apart_with_call client call [] apart own = (tt, tt)
apart_with_call client call (w ∷ ws) apart own = by (eqb w.client client) refl (apart_with_call client call ws apart.1 own.1)
  where
    by : (b : Bool) → eqb w.client client ≡ b → AllApart (with_call client call ws) → AllApart (with_call client call (w ∷ ws))
    by true is later = rw is (all_left client call w (is_equal w.client client is) ws apart.0 own.1, apart.1)
    by false is later =
        let differ : w.client ≢ client = λ same. (let no : false ≡ true = sym is ∙ eq-eqb w.client client same in cc) in
        rw is (all_with_call (AreApart w) client call (λ v so same. more_right client call w v own.0 so same) (new_right client call w own.0 differ) ws apart.0, later)

-- ---- names

same_name : (name other : List ℕ) → bytes_eq name other ≡ true → name ≡ other
same_name name other is = (bytes_eq-Decides name other).0 is

name_same : (name : List ℕ) → bytes_eq name name ≡ true
name_same name = (bytes_eq-Decides name name).1 refl

-- a name that is put has its new standing, and each other one the one that it had
put_stands : (name other : List ℕ) (s : Standing) (names : List (List ℕ × Standing)) → standing_of (with_standing names other s) name ≡ cond (bytes_eq name other) (Some s) (standing_of names name)
put_stands name other s [] = refl
put_stands name other s (e ∷ es) = by (bytes_eq other e.0) (bytes_eq name e.0) (bytes_eq name other) refl refl refl (put_stands name other s es)
  where
    by : (a b d : Bool) → bytes_eq other e.0 ≡ a → bytes_eq name e.0 ≡ b → bytes_eq name other ≡ d → standing_of (with_standing es other s) name ≡ cond (bytes_eq name other) (Some s) (standing_of es name)
        → standing_of (with_standing (e ∷ es) other s) name ≡ cond (bytes_eq name other) (Some s) (standing_of (e ∷ es) name)
    by true true true a b d later = rw (a, d, b) refl
    by true true false a b d later =
        let one : name ≡ other = same_name name e.0 b ∙ sym (same_name other e.0 a) in
        let no : true ≡ false = sym (name_same other) ∙ ap (λ n. bytes_eq n other) (sym one) ∙ d in absurd cc
    by true false true a b d later =
        let one : name ≡ e.0 = same_name name other d ∙ same_name other e.0 a in
        let no : true ≡ false = sym (name_same e.0) ∙ ap (λ n. bytes_eq n e.0) (sym one) ∙ b in absurd cc
    by true false false a b d later = rw (a, d, b) refl
    by false true true a b d later =
        let one : other ≡ e.0 = sym (same_name name other d) ∙ same_name name e.0 b in
        let no : true ≡ false = sym (name_same e.0) ∙ ap (λ n. bytes_eq n e.0) (sym one) ∙ a in absurd cc
    by false true false a b d later = rw (a, d, b) refl
    by false false d a b is later = rw (a, b) later

-- the standing tells that the client was the last one with the name in the phase at this place
abbrev IsUsedBy : ℕ → ℕ → Option Standing → Type 0
IsUsedBy client place None = ⊥
IsUsedBy client place (Some (Owned owner)) = owner ≡ client
IsUsedBy client place (Some (Freed owner freed)) = (owner ≡ client) × (freed ≡ place)
IsUsedBy client place (Some (Published published)) = published ≡ place

-- so each name stands that a work has
abbrev UsesIts : ℕ → List (List ℕ × Standing) → Work → Type 0
UsesIts place names w = (name : List ℕ) → is_named_in name w ≡ true → IsUsedBy w.client place (standing_of names name)

own_bind : (client user place : ℕ) (s : Option Standing) → may_bind place client s ≡ true → IsUsedBy user place s → user ≡ client
own_bind client user place None may used = absurd used
own_bind client user place (Some (Owned owner)) may used = sym used ∙ is_equal owner client may
own_bind client user place (Some (Freed owner freed)) may used = by (eqb owner client) refl may
  where
    by : (b : Bool) → eqb owner client ≡ b → (b || not (eqb freed place)) ≡ true → user ≡ client
    by true is h = sym used.0 ∙ is_equal owner client is
    by false is h = let no : false ≡ true = rw (eq-eqb freed place used.1) at h in absurd cc
own_bind client user place (Some (Published published)) may used = absurd cc

own_owner : (client user place : ℕ) (s : Option Standing) → is_owner client s ≡ true → IsUsedBy user place s → user ≡ client
own_owner client user place None may used = absurd used
own_owner client user place (Some (Owned owner)) may used = sym used ∙ is_equal owner client may
own_owner client user place (Some (Freed owner freed)) may used = absurd cc
own_owner client user place (Some (Published published)) may used = absurd cc

own_take : (client user place : ℕ) (s : Option Standing) → may_take place s ≡ true → IsUsedBy user place s → user ≡ client
own_take client user place None may used = absurd used
own_take client user place (Some (Owned owner)) may used = absurd cc
own_take client user place (Some (Freed owner freed)) may used = absurd cc
own_take client user place (Some (Published published)) may used = let below = ltb-true published place may in absurd (omega (arith, below, used))

-- what a call names that stands is in a work only if that is of its client
names_own : (client place : ℕ) (names : List (List ℕ × Standing)) (call : PhaseCall) (w : Work) → call_stands place client names call ≡ true → UsesIts place names w → NamesOwn client call w
names_own client place names (Malloc other size) w may uses name is has = own_bind client w.client place (standing_of names name) (subst (λ n. may_bind place client (standing_of names n) ≡ true) (sym (same_name name other is)) may) (uses name has)
names_own client place names (Memalign other align size) w may uses name is has = own_bind client w.client place (standing_of names name) (subst (λ n. may_bind place client (standing_of names n) ≡ true) (sym (same_name name other is)) may) (uses name has)
names_own client place names (Free other) w may uses name is has = own_owner client w.client place (standing_of names name) (subst (λ n. is_owner client (standing_of names n) ≡ true) (sym (same_name name other is)) may) (uses name has)
names_own client place names (Publish other) w may uses name is has = own_owner client w.client place (standing_of names name) (subst (λ n. is_owner client (standing_of names n) ≡ true) (sym (same_name name other is)) may) (uses name has)
names_own client place names (Take other) w may uses name is has = own_take client w.client place (standing_of names name) (subst (λ n. may_take place (standing_of names n) ≡ true) (sym (same_name name other is)) may) (uses name has)
names_own client place names Flush w may uses name is has = absurd cc
names_own client place names (Purge arena) w may uses name is has = absurd cc
names_own client place names (Decay arena) w may uses name is has = absurd cc

-- the name of a call stands as one of its client behind it, and each other name as before
abbrev Turns : ℕ → ℕ → List (List ℕ × Standing) → PhaseCall → List ℕ → Type 0
Turns client place names call name =
    ((names_it name call ≡ true) × IsUsedBy client place (standing_of (names_after place client names call) name))
    ⊎ ((names_it name call ≡ false) × (standing_of (names_after place client names call) name ≡ standing_of names name))

put_turns : (client place : ℕ) (names : List (List ℕ × Standing)) (other : List ℕ) (s : Standing) (name : List ℕ) → IsUsedBy client place (Some s)
    → ((bytes_eq name other ≡ true) × IsUsedBy client place (standing_of (with_standing names other s) name)) ⊎ ((bytes_eq name other ≡ false) × (standing_of (with_standing names other s) name ≡ standing_of names name))
put_turns client place names other s name used = by (bytes_eq name other) refl (put_stands name other s names)
  where
    by : (b : Bool) → bytes_eq name other ≡ b → standing_of (with_standing names other s) name ≡ cond (bytes_eq name other) (Some s) (standing_of names name)
        → ((bytes_eq name other ≡ true) × IsUsedBy client place (standing_of (with_standing names other s) name)) ⊎ ((bytes_eq name other ≡ false) × (standing_of (with_standing names other s) name ≡ standing_of names name))
    by true is put = inl (is, subst (IsUsedBy client place) (sym (put ∙ ap (λ b. cond b (Some s) (standing_of names name)) is)) used)
    by false is put = inr (is, put ∙ ap (λ b. cond b (Some s) (standing_of names name)) is)

turns : (client place : ℕ) (names : List (List ℕ × Standing)) (call : PhaseCall) (name : List ℕ) → Turns client place names call name
turns client place names (Malloc other size) name = put_turns client place names other (Owned client) name refl
turns client place names (Memalign other align size) name = put_turns client place names other (Owned client) name refl
turns client place names (Free other) name = put_turns client place names other (Freed client place) name (refl, refl)
turns client place names (Publish other) name = put_turns client place names other (Published place) name refl
turns client place names (Take other) name = put_turns client place names other (Owned client) name refl
turns client place names Flush name = inr (refl, refl)
turns client place names (Purge arena) name = inr (refl, refl)
turns client place names (Decay arena) name = inr (refl, refl)

-- ---- a call in a phase

uses_after : (client place : ℕ) (names : List (List ℕ × Standing)) (call : PhaseCall) (w : Work) → NamesOwn client call w → UsesIts place names w → UsesIts place (names_after place client names call) w
uses_after client place names call w own uses name has = by (turns client place names call name)
  where
    by : Turns client place names call name → IsUsedBy w.client place (standing_of (names_after place client names call) name)
    by (inl (is, used)) = subst (λ c. IsUsedBy c place (standing_of (names_after place client names call) name)) (sym (own name is has)) used
    by (inr (is, same)) = subst (IsUsedBy w.client place) (sym same) (uses name has)

uses_own : (client place : ℕ) (names : List (List ℕ × Standing)) (call : PhaseCall) (name : List ℕ) → names_it name call ≡ true → IsUsedBy client place (standing_of (names_after place client names call) name)
uses_own client place names call name is = by (turns client place names call name)
  where
    by : Turns client place names call name → IsUsedBy client place (standing_of (names_after place client names call) name)
    by (inl (is_own, used)) = used
    by (inr (is_other, same)) = let never : true ≡ false = sym is ∙ is_other in absurd cc

uses_more : (client place : ℕ) (names : List (List ℕ × Standing)) (call : PhaseCall) (w : Work) → UsesIts place (names_after place client names call) w → w.client ≡ client → UsesIts place (names_after place client names call) (with_more w call)
uses_more client place names call w uses same name has = by (named_more name w call has)
  where
    by : (is_named_in name w ≡ true) ⊎ (names_it name call ≡ true) → IsUsedBy w.client place (standing_of (names_after place client names call) name)
    by (inl old) = uses name old
    by (inr new) = subst (λ c. IsUsedBy c place (standing_of (names_after place client names call) name)) (sym same) (uses_own client place names call name new)

own_all : (client place : ℕ) (names : List (List ℕ × Standing)) (call : PhaseCall) → call_stands place client names call ≡ true → (works : List Work) → AllByRecursion (UsesIts place names) works → AllByRecursion (NamesOwn client call) works
own_all client place names call may [] uses = tt
own_all client place names call may (w ∷ ws) uses = (names_own client place names call w may uses.0, own_all client place names call may ws uses.1)

after_each : (client place : ℕ) (names : List (List ℕ × Standing)) (call : PhaseCall) (works : List Work) → AllByRecursion (NamesOwn client call) works → AllByRecursion (UsesIts place names) works → AllByRecursion (UsesIts place (names_after place client names call)) works
after_each client place names call [] own uses = tt
after_each client place names call (w ∷ ws) own uses = (uses_after client place names call w own.0 uses.0, after_each client place names call ws own.1 uses.1)

-- what is so of the phase that is open: its works are apart, and each name of them stands as its client's
abbrev AreFair : ℕ → List (List ℕ × Standing) → List Work → Type 0
AreFair place names works = AllApart works × AllByRecursion (UsesIts place names) works

call_fair : (client place : ℕ) (names : List (List ℕ × Standing)) (call : PhaseCall) (works : List Work) → call_stands place client names call ≡ true → AreFair place names works → AreFair place (names_after place client names call) (with_call client call works)
call_fair client place names call works may fair =
    let own = own_all client place names call may works fair.1 in (
      apart_with_call client call works fair.0 own,
      all_with_call (UsesIts place (names_after place client names call)) client call (uses_more client place names call)
          (λ name has. uses_own client place names call name (named_first name client call has)) works (after_each client place names call works own fair.1),
    )

-- ---- lines

abbrev IsOpenFair : Option OpenPhase → ℕ → List (List ℕ × Standing) → Type 0
IsOpenFair None place names = Unit {0}
IsOpenFair (Some current) place names = AreFair place names current.phase.works

abbrev IsFairCourse : Course → Type 0
IsFairCourse course = AllByRecursion IsFair course.parts × IsOpenFair course.current (length course.parts) course.names

all_push : (P : Part → Type 0) (parts : List Part) (p : Part) → AllByRecursion P parts → P p → AllByRecursion P (parts ++ p ∷ [])
all_push P [] p all one = (one, tt)
all_push P (q ∷ parts) p all one = (all.0, all_push P parts p all.1 one)

stands_true : (b : Bool) → unless_stands b ≡ None → b ≡ true
stands_true true is = refl
stands_true false is = absurd cc

and_right : (a b : Bool) → (a && b) ≡ true → b ≡ true
and_right true b h = h
and_right false b h = absurd cc

and_left : (a b : Bool) → (a && b) ≡ true → a ≡ true
and_left true b h = refl
and_left false b h = absurd cc

setting_fair : (course : Course) (setting : Setting) → AllByRecursion IsFair course.parts → (current : Option OpenPhase) → course.current ≡ current → is_none current ≡ true → IsFairCourse (with_setting course setting)
setting_fair course setting fair None is none = (all_push IsFair course.parts (part.Setting setting) fair tt, subst (λ o. IsOpenFair o (length (course.parts ++ part.Setting setting ∷ [])) course.names) (sym is) tt)
setting_fair course setting fair (Some current) is none = absurd cc

call_line : (course : Course) (client : ℕ) (verb : Verb) → (current : Option OpenPhase) → course.current ≡ current → call_stands_in course client verb current ≡ true → IsFairCourse course → IsFairCourse (called course current client verb)
call_line course client verb None is may fair = by (setting_call verb) may
  where
    by : (call : Option SettingCall) → is_some call ≡ true → IsFairCourse (setting_called course client call)
    by None some = absurd cc
    by (Some call) some = setting_fair course _ fair.0 None is refl
call_line course client verb (Some current) is may fair = by (phase_call verb) may
  where
    by : (call : Option PhaseCall) → phase_call_stands course client call ≡ true → IsFairCourse (phase_called course current client call)
    by None some = absurd cc
    by (Some call) may = (fair.0, call_fair client (length course.parts) course.names call current.phase.works may (subst (λ o. IsOpenFair o (length course.parts) course.names) is fair.1))

join_fair : (course : Course) (current : Option OpenPhase) → course.current ≡ current → IsFairCourse course → IsFairCourse (joined course current)
join_fair course None is fair = fair
join_fair course (Some current) is fair = (all_push IsFair course.parts (part.Phase current.phase) fair.0 ((subst (λ o. IsOpenFair o (length course.parts) course.names) is fair.1).0), tt)

line_fair : (course : Course) (number : ℕ) (said : Line) → cause_of course said ≡ None → IsFairCourse course → IsFairCourse (after course number said)
line_fair course number line.Blank is fair = fair
line_fair course number (line.At moment) is fair = fair
line_fair course number (line.Refuse box_no kind nth) is fair = setting_fair course _ fair.0 course.current refl (stands_true (is_none course.current) is)
line_fair course number (line.Phase rounds) is fair = (fair.0, (tt, tt))
line_fair course number line.Join is fair = join_fair course course.current refl fair
line_fair course number (line.Call client verb) is fair =
    call_line (named course client) client verb course.current refl (and_right (not (is_worker course client)) (call_stands_in course client verb course.current) (stands_true _ is)) fair
line_fair course number (line.Start client verb) is fair = absurd cc
line_fair course number (line.Step client) is fair = absurd cc
line_fair course number (line.End client) is fair = absurd cc
line_fair course number (line.Counts arena) is fair = absurd cc

lines_fair : (course : Course) (lines : List NumberedLine) → first_fault course lines ≡ None → IsFairCourse course → AllByRecursion IsFair (after_all course lines).parts
lines_fair course [] none fair = fair.0
lines_fair course (l ∷ lines) none fair =
    by (cause_of course l.line) refl none (λ is later. lines_fair (after course l.number l.line) lines later (line_fair course l.number l.line is fair))
  where
    by : (cause : Option PhaseCause) → cause_of course l.line ≡ cause → first_of (fault_of l.number cause) (first_fault (after course l.number l.line) lines) ≡ None
        → (cause_of course l.line ≡ None → first_fault (after course l.number l.line) lines ≡ None → AllByRecursion IsFair (after_all (after course l.number l.line) lines).parts)
        → AllByRecursion IsFair (after_all (after course l.number l.line) lines).parts
    by None is later next = next is later
    by (Some cause) is later next = absurd cc

pub phases_fair : PhasesAreFair
phases_fair lines none = lines_fair opening lines none (tt, tt)
