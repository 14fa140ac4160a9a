-- The limits that a line keeps to.
use Rattle.trace_text.proofs.Words.{◌≡◌, ℕ, ℤ, pos, negsuc, ◌^◌, ◌<◌, Bool, true, false, ltb, leb, eqb, cond, List, [], ◌∷◌, Result, Ok, Err, refl, arith, IfOk, codes, bytes_eq, ltb-true, ltb-false, Rest, is_purgeable, is_decay_time, LineFault, Words, Range, Verb, Free, Publish, Take, Purge, Decay, Reset, Destroy, Create, Bind, Cache, Flush, CtlWrite, Line, ◌>>=◌, both, Gives, decimal_of, name_of, control_of, value_of, client_of, box_of, index_of, time_of, nothing_of, in_one, pointer_of, named_size_of, memalign_of, decay_time_of, switch_of, control_call_of, malloc_in_of, free_in_of, slot_verb_of, client_verb_of, arena_verb_of, unused_verb_of, verb_of, refusals_of, plan_line_of, client_line_of, other_line_of, begins_client, said_of, IsVerbWithinLimits, IsWithinLimits, ◌≤◌, ◌||◌, ◌∙◌, lit≤, rounds_of, phase_line_of, Bytes, list_all, is_printable, words_of, line_of, is_blank}
use Rattle.trace_text.specs.declared.lines.Line.TheVariants.{Blank, Call, Start, Step, End, At, Counts, Join}

abbrev IsAny : {A : Type 0} → A → Type 0
IsAny x = Unit {0}

-- any part keeps to nothing
kept_any : {A : Type 0} (r : Result A LineFault) → IfOk r IsAny
kept_any (Ok x) = tt
kept_any (Err e) = tt

-- what is made of a part keeps to what follows from what the part keeps to
kept_on : {A B : Type 0} (P : A → Type 0) (Q : B → Type 0) (r : Result A LineFault) (f : A → Result B LineFault) → IfOk r P → ((x : A) → P x → IfOk (f x) Q) → IfOk (r >>= f) Q
kept_on P Q (Ok x) f h g = g x h
kept_on P Q (Err e) f h g = tt

-- two parts keep to what each keeps to
kept_both : {A B : Type 0} (P : A → Type 0) (Q : B → Type 0) (a : Result A LineFault) (b : Result B LineFault) → IfOk a P → IfOk b Q → IfOk (both a b) (λ p. P p.0 × Q p.1)
unfolding both
kept_both P Q (Ok a) (Ok b) h k = (h, k)
kept_both P Q (Ok a) (Err f) h k = tt
kept_both P Q (Err e) (Ok b) h k = tt
kept_both P Q (Err e) (Err f) h k = tt

-- either way of a test
kept_if : {A : Type 0} (P : A → Type 0) (t : Bool) (a b : Result A LineFault) → (t ≡ true → IfOk a P) → (t ≡ false → IfOk b P) → IfOk (cond t a b) P
kept_if P true a b h k = h refl
kept_if P false a b h k = k refl

kept_either : {A : Type 0} (P : A → Type 0) (t : Bool) (a b : Result A LineFault) → IfOk a P → IfOk b P → IfOk (cond t a b) P
kept_either P true a b h k = h
kept_either P false a b h k = k

-- the only word
kept_one : {A : Type 0} (P : A → Type 0) (f : List ℕ → Result A LineFault) (words : List (List ℕ)) → ((word : List ℕ) → IfOk (f word) P) → IfOk (in_one f words) P
kept_one P f [] h = tt
kept_one P f (word ∷ []) h = h word
kept_one P f (word ∷ next ∷ words) h = tt

abbrev IsBelow : ℕ → ℕ → Type 0
IsBelow limit n = n < limit

abbrev IsTime : ℤ → Type 0
IsTime ms = is_decay_time ms ≡ true

client_below : (word : List ℕ) → IfOk (client_of word) (IsBelow 32)
unfolding client_of
client_below [] = tt
client_below (b ∷ digits) =
    kept_either (IsBelow 32) (eqb b 116) _ _
    (kept_on IsAny (IsBelow 32) (decimal_of digits) _ (kept_any (decimal_of digits)) (λ c _. kept_if (IsBelow 32) (ltb 31 c) _ _ (λ _. tt) (λ e. let le = ltb-false 31 c e in omega arith)))
    tt

box_below : (word : List ℕ) → IfOk (box_of word) (IsBelow 32)
unfolding box_of
box_below word =
    kept_on IsAny (IsBelow 32) (decimal_of word) _ (kept_any (decimal_of word)) (λ b _. kept_if (IsBelow 32) (ltb 31 b) _ _ (λ _. tt) (λ e. let le = ltb-false 31 b e in omega arith))

index_below : (word : List ℕ) → IfOk (index_of word) (IsBelow (2 ^ 32))
unfolding index_of
index_below word =
    kept_on IsAny (IsBelow (2 ^ 32)) (decimal_of word) _ (kept_any (decimal_of word)) (λ i _. kept_if (IsBelow (2 ^ 32)) (ltb i (2 ^ 32)) _ _ (λ e. ltb-true i (2 ^ 32) e) (λ _. tt))

time_within : (word : List ℕ) → IfOk (time_of word) IsTime
unfolding time_of
time_within word =
    kept_either IsTime (bytes_eq word (codes "-1")) (Ok (negsuc 0)) _ refl
    (kept_on IsAny IsTime (decimal_of word) _ (kept_any (decimal_of word)) (λ ms _. kept_if IsTime (leb ms 1000000000) (Ok (pos ms)) (Err Range) (λ e. e) (λ _. tt)))

-- a call that keeps to nothing
free_call : {A : Type 0} (make : A → Verb) → ((x : A) → IsVerbWithinLimits (make x)) → (r : Result A LineFault) → IfOk (r >>= λ x. Ok (make x)) IsVerbWithinLimits
free_call make h r = kept_on IsAny IsVerbWithinLimits r _ (kept_any r) (λ x _. h x)

-- a call of an arena
index_call : (make : ℕ → Verb) → ((i : ℕ) → i < 2 ^ 32 → IsVerbWithinLimits (make i)) → (words : List (List ℕ)) → IfOk (in_one index_of words >>= λ i. Ok (make i)) IsVerbWithinLimits
index_call make h words =
    kept_on (IsBelow (2 ^ 32)) IsVerbWithinLimits (in_one index_of words) _ (kept_one (IsBelow (2 ^ 32)) index_of words index_below) h

create_call : (words : List (List ℕ)) → IfOk (in_one box_of words >>= λ b. Ok (Create b)) IsVerbWithinLimits
create_call words =
    kept_on (IsBelow 32) IsVerbWithinLimits (in_one box_of words) _ (kept_one (IsBelow 32) box_of words box_below) (λ b h. h)

memalign_within : (words : List (List ℕ)) → IfOk (memalign_of words) IsVerbWithinLimits
unfolding memalign_of
memalign_within [] = tt
memalign_within (name ∷ []) = tt
memalign_within (name ∷ align ∷ []) = tt
memalign_within (name ∷ align ∷ size ∷ []) =
    free_call _ (λ p. tt) (both (name_of name) (both (decimal_of align) (decimal_of size)))
memalign_within (name ∷ align ∷ size ∷ more ∷ words) = tt

decay_time_within : (rest : Rest) (words : List (List ℕ)) → is_purgeable rest ≡ true → IfOk (decay_time_of rest words) IsVerbWithinLimits
unfolding decay_time_of
decay_time_within rest [] purged = tt
decay_time_within rest (arena ∷ []) purged = tt
decay_time_within rest (arena ∷ ms ∷ []) purged =
    kept_on (λ p. IsBelow (2 ^ 32) p.0 × IsTime p.1) IsVerbWithinLimits (both (index_of arena) (time_of ms)) _
    (kept_both (IsBelow (2 ^ 32)) IsTime (index_of arena) (time_of ms) (index_below arena) (time_within ms))
    (λ p h. (h.0, h.1, purged))
decay_time_within rest (arena ∷ ms ∷ more ∷ words) purged = tt

switch_within : (word : List ℕ) → IfOk (switch_of word) IsVerbWithinLimits
unfolding switch_of
switch_within word =
    kept_either IsVerbWithinLimits (bytes_eq word (codes "on")) (Ok (Cache true)) _ tt
    (kept_either IsVerbWithinLimits (bytes_eq word (codes "off")) (Ok (Cache false)) (Err Words) tt tt)

control_within : (words : List (List ℕ)) → IfOk (control_call_of words) IsVerbWithinLimits
unfolding control_call_of
control_within [] = tt
control_within (name ∷ []) = free_call _ (λ n. tt) (control_of name)
control_within (name ∷ equals ∷ []) = tt
control_within (name ∷ equals ∷ value ∷ []) =
    kept_either IsVerbWithinLimits (bytes_eq equals (codes "=")) _ (Err Words)
    (free_call (λ p. CtlWrite p.0 p.1) (λ p. tt) (both (control_of name) (value_of value))) tt
control_within (name ∷ equals ∷ value ∷ more ∷ words) = tt

malloc_in_within : (words : List (List ℕ)) → IfOk (malloc_in_of words) IsVerbWithinLimits
unfolding malloc_in_of
malloc_in_within [] = tt
malloc_in_within (name ∷ []) = tt
malloc_in_within (name ∷ size ∷ []) = tt
malloc_in_within (name ∷ size ∷ slot ∷ []) =
    kept_on (λ p. IsAny p.0 × (IsAny p.1.0 × IsBelow (2 ^ 32) p.1.1)) IsVerbWithinLimits (both (name_of name) (both (decimal_of size) (index_of slot))) _
    (kept_both IsAny (λ p. IsAny p.0 × IsBelow (2 ^ 32) p.1) (name_of name) (both (decimal_of size) (index_of slot)) (kept_any (name_of name))
    (kept_both IsAny (IsBelow (2 ^ 32)) (decimal_of size) (index_of slot) (kept_any (decimal_of size)) (index_below slot)))
    (λ p h. h.1.1)
malloc_in_within (name ∷ size ∷ slot ∷ more ∷ words) = tt

free_in_within : (words : List (List ℕ)) → IfOk (free_in_of words) IsVerbWithinLimits
unfolding free_in_of
free_in_within [] = tt
free_in_within (region ∷ []) = tt
free_in_within (region ∷ slot ∷ []) =
    kept_on (λ p. IsAny p.0 × IsBelow (2 ^ 32) p.1) IsVerbWithinLimits (both (pointer_of region) (index_of slot)) _
    (kept_both IsAny (IsBelow (2 ^ 32)) (pointer_of region) (index_of slot) (kept_any (pointer_of region)) (index_below slot)) (λ p h. h.1)
free_in_within (region ∷ slot ∷ more ∷ words) = tt

slot_verb_within : (word : List ℕ) (arguments : List (List ℕ)) → IfOk (slot_verb_of word arguments) IsVerbWithinLimits
unfolding slot_verb_of
slot_verb_within word arguments =
    kept_either IsVerbWithinLimits (bytes_eq word (codes "mallocx")) (malloc_in_of arguments) _ (malloc_in_within arguments)
    (kept_either IsVerbWithinLimits (bytes_eq word (codes "freex")) (free_in_of arguments) (Err Words) (free_in_within arguments) tt)

client_verb_within : (word : List ℕ) (arguments : List (List ℕ)) → IfOk (client_verb_of word arguments) IsVerbWithinLimits
unfolding client_verb_of
client_verb_within word arguments =
    kept_either IsVerbWithinLimits (bytes_eq word (codes "cache")) (in_one switch_of arguments) _ (kept_one IsVerbWithinLimits switch_of arguments switch_within)
    (kept_either IsVerbWithinLimits (bytes_eq word (codes "flush")) (nothing_of arguments >>= λ _. Ok Flush) _ (free_call (λ u. Flush) (λ u. tt) (nothing_of arguments))
    (kept_either IsVerbWithinLimits (bytes_eq word (codes "ctl")) (control_call_of arguments) _ (control_within arguments) (slot_verb_within word arguments)))

arena_verb_within : (word : List ℕ) (arguments : List (List ℕ)) → IfOk (arena_verb_of word arguments) IsVerbWithinLimits
unfolding arena_verb_of
arena_verb_within word arguments =
    kept_either IsVerbWithinLimits (bytes_eq word (codes "reset")) _ _ (index_call Reset (λ i h. h) arguments)
    (kept_either IsVerbWithinLimits (bytes_eq word (codes "destroy")) _ _ (index_call Destroy (λ i h. h) arguments)
    (kept_either IsVerbWithinLimits (bytes_eq word (codes "create")) _ _ (create_call arguments)
    (kept_either IsVerbWithinLimits (bytes_eq word (codes "arena")) _ _ (index_call Bind (λ i h. h) arguments)
    (client_verb_within word arguments))))

unused_verb_within : (word : List ℕ) (arguments : List (List ℕ)) → IfOk (unused_verb_of word arguments) IsVerbWithinLimits
unfolding unused_verb_of
unused_verb_within word arguments =
    kept_either IsVerbWithinLimits (bytes_eq word (codes "purge")) _ _ (index_call Purge (λ i h. h) arguments)
    (kept_either IsVerbWithinLimits (bytes_eq word (codes "decay")) _ _ (index_call Decay (λ i h. h) arguments)
    (kept_either IsVerbWithinLimits (bytes_eq word (codes "dirty")) _ _ (decay_time_within _ arguments refl)
    (kept_either IsVerbWithinLimits (bytes_eq word (codes "muzzy")) _ _ (decay_time_within _ arguments refl)
    (arena_verb_within word arguments))))

verb_within : (words : List (List ℕ)) → IfOk (verb_of words) IsVerbWithinLimits
unfolding verb_of
verb_within [] = tt
verb_within (word ∷ arguments) =
    kept_either IsVerbWithinLimits (bytes_eq word (codes "malloc")) _ _ (free_call _ (λ p. tt) (named_size_of arguments))
    (kept_either IsVerbWithinLimits (bytes_eq word (codes "free")) _ _ (free_call Free (λ p. tt) (in_one pointer_of arguments))
    (kept_either IsVerbWithinLimits (bytes_eq word (codes "memalign")) _ _ (memalign_within arguments)
    (kept_either IsVerbWithinLimits (bytes_eq word (codes "realloc")) _ _ (free_call _ (λ p. tt) (named_size_of arguments))
    (kept_either IsVerbWithinLimits (bytes_eq word (codes "publish")) _ _ (free_call Publish (λ p. tt) (in_one pointer_of arguments))
    (kept_either IsVerbWithinLimits (bytes_eq word (codes "take")) _ _ (free_call Take (λ p. tt) (in_one pointer_of arguments))
    (unused_verb_within word arguments))))))

plan_within : (words : List (List ℕ)) → IfOk (plan_line_of words) IsWithinLimits
unfolding plan_line_of
plan_within [] = tt
plan_within (box_no ∷ []) = tt
plan_within (box_no ∷ kind ∷ []) = tt
plan_within (box_no ∷ kind ∷ nth ∷ []) =
    let asks = refusals_of kind nth in
    kept_on (λ p. IsBelow 32 p.0 × IsAny p.1) IsWithinLimits (both (box_of box_no) asks) _
    (kept_both (IsBelow 32) IsAny (box_of box_no) asks (box_below box_no) (kept_any asks))
    (λ p h. h.0)
plan_within (box_no ∷ kind ∷ nth ∷ more ∷ words) = tt

-- a client and its call, made to a line
called : (make : ℕ → Verb → Line) → ((c : ℕ) (v : Verb) → c < 32 → IsVerbWithinLimits v → IsWithinLimits (make c v)) → (word : List ℕ) (words : List (List ℕ)) → IfOk (both (client_of word) (verb_of words) >>= λ p. Ok (make p.0 p.1)) IsWithinLimits
called make h word words =
    kept_on (λ p. IsBelow 32 p.0 × IsVerbWithinLimits p.1) IsWithinLimits (both (client_of word) (verb_of words)) _
    (kept_both (IsBelow 32) IsVerbWithinLimits (client_of word) (verb_of words) (client_below word) (verb_within words))
    (λ p k. h p.0 p.1 k.0 k.1)

-- a client's line with nothing behind it
alone : (make : ℕ → Line) → ((c : ℕ) → c < 32 → IsWithinLimits (make c)) → (word : List ℕ) (words : List (List ℕ)) → IfOk (nothing_of words >>= λ _. client_of word >>= λ c. Ok (make c)) IsWithinLimits
alone make h word words =
    kept_on IsAny IsWithinLimits (nothing_of words) _ (kept_any (nothing_of words))
    (λ _ _. kept_on (IsBelow 32) IsWithinLimits (client_of word) _ (client_below word) h)

client_line_within : (client : List ℕ) (words : List (List ℕ)) → IfOk (client_line_of client words) IsWithinLimits
unfolding client_line_of
client_line_within client [] = tt
client_line_within client (word ∷ words) =
    kept_either IsWithinLimits (bytes_eq word (codes "step")) _ _ (alone Step (λ c h. h) client words)
    (kept_either IsWithinLimits (bytes_eq word (codes "end")) _ _ (alone End (λ c h. h) client words)
    (kept_either IsWithinLimits (bytes_eq word (codes "call")) _ _ (called Start (λ c v h k. (h, k)) client words)
    (called Call (λ c v h k. (h, k)) client (word ∷ words))))

-- a line that keeps to nothing
free_line : {A : Type 0} (make : A → Line) → ((x : A) → IsWithinLimits (make x)) → (r : Result A LineFault) → IfOk (r >>= λ x. Ok (make x)) IsWithinLimits
free_line make h r = kept_on IsAny IsWithinLimits r _ (kept_any r) (λ x _. h x)

counts_within : (words : List (List ℕ)) → IfOk (in_one index_of words >>= λ i. Ok (Counts i)) IsWithinLimits
counts_within words =
    kept_on (IsBelow (2 ^ 32)) IsWithinLimits (in_one index_of words) _ (kept_one (IsBelow (2 ^ 32)) index_of words index_below) (λ i h. h)

rounds_within : (word : List ℕ) → IfOk (rounds_of word) (λ k. k ≤ 1000)
unfolding rounds_of
rounds_within word =
    kept_on IsAny (λ k. k ≤ 1000) (decimal_of word) _ (kept_any (decimal_of word)) (λ k _. kept_if (λ k. k ≤ 1000) (eqb k 0 || ltb 1000 k) _ _ (λ _. tt) (λ e. few k (eqb k 0) (ltb 1000 k) refl e))
  where
    few : (k : ℕ) (a b : Bool) → ltb 1000 k ≡ b → (a || b) ≡ false → k ≤ 1000
    few k true b same e = cc
    few k false b same e = let le = ltb-false 1000 k (same ∙ e) in omega arith

phase_within : (words : List (List ℕ)) → IfOk (phase_line_of words) IsWithinLimits
unfolding phase_line_of
phase_within [] = lit≤ tt
phase_within (word ∷ []) = tt
phase_within (word ∷ rounds ∷ []) =
    kept_either IsWithinLimits (bytes_eq word (codes "background")) _ (Err Words) (kept_on (λ k. k ≤ 1000) IsWithinLimits (rounds_of rounds) _ (rounds_within rounds) (λ k h. h)) tt
phase_within (word ∷ rounds ∷ next ∷ words) = tt

setting_within : (word : List ℕ) (words : List (List ℕ)) → IfOk (other_line_of word words) IsWithinLimits
unfolding other_line_of
setting_within word words =
    kept_either IsWithinLimits (bytes_eq word (codes "at")) _ _ (free_line At (λ n. tt) (in_one decimal_of words))
    (kept_either IsWithinLimits (bytes_eq word (codes "refuse")) _ _ (plan_within words)
    (kept_either IsWithinLimits (bytes_eq word (codes "counts")) _ _ (counts_within words)
    (kept_either IsWithinLimits (bytes_eq word (codes "phase")) _ _ (phase_within words)
    (kept_either IsWithinLimits (bytes_eq word (codes "join")) _ (Err Words) (free_line (λ u. Join) (λ u. tt) (nothing_of words)) tt))))

said_within : (words : List (List ℕ)) → IfOk (said_of words) IsWithinLimits
unfolding said_of
said_within [] = tt
said_within (word ∷ words) =
    kept_either IsWithinLimits (begins_client word) _ _ (client_line_within word words) (setting_within word words)

line_within : (line : List ℕ) → IfOk (line_of line) IsWithinLimits
unfolding line_of
line_within line =
    kept_either IsWithinLimits (list_all is_printable line) _ (Err Bytes)
    (kept_either IsWithinLimits (is_blank line) (Ok Blank) _ tt (said_within (words_of line))) tt

-- what is read of a line in the grammar keeps to the limits
pub within_limits : (line : List ℕ) (r : Result Line LineFault) → Gives r (line_of line) → IfOk r IsWithinLimits
within_limits line (Ok l) said = let h = line_within line in rw said at h
within_limits line (Err e) said = tt

-- and so does the client of a call
pub client_within : (line : List ℕ) (client : ℕ) (verb : Verb) → line_of line ≡ Ok (Call client verb) → client < 32
client_within line client verb said = let h = line_within line in (rw said at h).0
