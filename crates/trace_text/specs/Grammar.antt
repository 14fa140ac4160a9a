-- The grammar of a line. What a line says is a value, or the first cause for which it isn't read.
use Rattle.std.specs.Prelude.{◌≡◌, ◌==◌, ℕ, ◌^◌, ◌<◌, ◌≤◌, Bool, true, false, ◌&&◌, List, [], ◌∷◌, nat_le, Result, Ok, Err, if◌then◌else◌, codes}
use Rattle.std.specs.List.{slice_split, list_all}
use Rattle.std.specs.Str.{bytes_eq}
use Rattle.hook_api.specs.declared.plans.Kind.{Kind}
use Rattle.hook_api.specs.declared.plans.Kind.TheVariants.{Alloc, Dalloc, Commit, Decommit, PurgeLazy, PurgeForced, Split, Merge}
use Rattle.space_model.specs.Purging.{is_purgeable}
use Rattle.space_model.specs.Settings.{is_decay_time}
use Rattle.trace_text.specs.declared.faults.LineFault.{LineFault}
use Rattle.trace_text.specs.declared.faults.LineFault.TheVariants.{Bytes, Words}
use Rattle.trace_text.specs.declared.lines.Verb.{Verb}
use Rattle.trace_text.specs.declared.lines.Verb.TheVariants.{Malloc, Memalign, Realloc, Free, Publish, Take, Purge, Decay, Time, Reset, Destroy, Create, Bind, Cache, Flush, MallocIn, FreeIn, CtlPlain, CtlWrite}
use Rattle.trace_text.specs.declared.lines.Line.{Line}
use Rattle.trace_text.specs.declared.lines.Line.TheVariants.{Blank, Call, Start, Step, End, At, Refuse, Counts, Phase, Join}
use Rattle.trace_text.specs.Causes.{◌>>=◌, both}
use Rattle.trace_text.specs.Numbers.{decimal_of}
use Rattle.trace_text.specs.Ranges.{client_of, box_of, index_of, nth_of, rounds_of}
use Rattle.trace_text.specs.Verbs.{nothing_of, in_one, verb_of}

-- a byte that a line may have
abbrev pub is_printable : ℕ → Bool
is_printable b = nat_le 32 b && nat_le b 126

-- the words of a line: its parts between single spaces, some of which may be empty
abbrev pub words_of : List ℕ → List (List ℕ)
words_of line = slice_split (λ b. b == 32) line

-- a line that says nothing: the empty one, or a comment, which begins with `#`
abbrev pub is_blank : List ℕ → Bool
is_blank [] = true
is_blank (b ∷ bytes) = b == 35

-- a kind of asks about what a range holds
unfoldable pub holding_kind_of : List ℕ → Result Kind LineFault
holding_kind_of word =
    if bytes_eq word (codes "commit") then Ok Commit
    else (if bytes_eq word (codes "decommit") then Ok Decommit
    else (if bytes_eq word (codes "purge_lazy") then Ok PurgeLazy
    else (if bytes_eq word (codes "purge_forced") then Ok PurgeForced
    else Err Words)))

-- a kind of asks: one about ranges, or about what a range holds
unfoldable pub kind_of_word : List ℕ → Result Kind LineFault
kind_of_word word =
    if bytes_eq word (codes "alloc") then Ok Alloc
    else (if bytes_eq word (codes "dalloc") then Ok Dalloc
    else (if bytes_eq word (codes "split") then Ok Split
    else (if bytes_eq word (codes "merge") then Ok Merge
    else holding_kind_of word)))

-- which asks a plan refuses: KIND N, or KIND all
unfoldable pub refusals_of : List ℕ → List ℕ → Result (Kind × ℕ) LineFault
refusals_of kind nth = both (kind_of_word kind) (nth_of nth)

-- a plan of a box: B, and the asks that it refuses
unfoldable pub plan_line_of : List (List ℕ) → Result Line LineFault
plan_line_of (box_no ∷ kind ∷ nth ∷ []) =
    both (box_of box_no) (refusals_of kind nth) >>= λ p. Ok (Refuse p.0 p.1.0 p.1.1)
plan_line_of _ = Err Words

-- a client's line: its client and, behind it, a step, an end or a call
unfoldable pub client_line_of : List ℕ → List (List ℕ) → Result Line LineFault
client_line_of client [] = Err Words
client_line_of client (word ∷ words) =
    if bytes_eq word (codes "step") then (nothing_of words >>= λ _. client_of client >>= λ c. Ok (Step c))
    else (if bytes_eq word (codes "end") then (nothing_of words >>= λ _. client_of client >>= λ c. Ok (End c))
    else (if bytes_eq word (codes "call") then (both (client_of client) (verb_of words) >>= λ p. Ok (Start p.0 p.1))
    else (both (client_of client) (verb_of (word ∷ words)) >>= λ p. Ok (Call p.0 p.1))))

-- a phase with a worker in the background: `background`, and how many rounds it makes
abbrev pub background_of : List ℕ → List ℕ → Result Line LineFault
background_of word rounds =
    if bytes_eq word (codes "background") then (rounds_of rounds >>= λ k. Ok (Phase k)) else Err Words

-- the arguments of a phase: none, or `background K`
unfoldable pub phase_line_of : List (List ℕ) → Result Line LineFault
phase_line_of [] = Ok (Phase 0)
phase_line_of (word ∷ rounds ∷ []) = background_of word rounds
phase_line_of _ = Err Words

-- a line that is no client's, by its first word
unfoldable pub other_line_of : List ℕ → List (List ℕ) → Result Line LineFault
other_line_of word words =
    if bytes_eq word (codes "at") then (in_one decimal_of words >>= λ n. Ok (At n))
    else (if bytes_eq word (codes "refuse") then plan_line_of words
    else (if bytes_eq word (codes "counts") then (in_one index_of words >>= λ i. Ok (Counts i))
    else (if bytes_eq word (codes "phase") then phase_line_of words
    else (if bytes_eq word (codes "join") then (nothing_of words >>= λ _. Ok Join)
    else Err Words))))

-- a word that may name a client: it begins with `t`
abbrev pub begins_client : List ℕ → Bool
begins_client [] = false
begins_client (b ∷ bytes) = b == 116

-- the words of a line
unfoldable pub said_of : List (List ℕ) → Result Line LineFault
said_of [] = Err Words
said_of (word ∷ words) = if begins_client word then client_line_of word words else other_line_of word words

-- a line, without its newline
unfoldable pub line_of : List ℕ → Result Line LineFault
line_of line =
    if list_all is_printable line then (if is_blank line then Ok Blank else said_of (words_of line))
    else Err Bytes

-- what every call that is read keeps to: its arena and its explicit cache are below 2 ^ 32, its box is below 32, and its time one that may be set of
-- a list that is purged
abbrev pub IsVerbWithinLimits : Verb → Type 0
IsVerbWithinLimits (Malloc name size) = Unit {0}
IsVerbWithinLimits (Memalign name align size) = Unit {0}
IsVerbWithinLimits (Realloc name size) = Unit {0}
IsVerbWithinLimits (Free region) = Unit {0}
IsVerbWithinLimits (Publish region) = Unit {0}
IsVerbWithinLimits (Take region) = Unit {0}
IsVerbWithinLimits (Purge arena) = arena < 2 ^ 32
IsVerbWithinLimits (Decay arena) = arena < 2 ^ 32
IsVerbWithinLimits (Time arena rest ms) = (arena < 2 ^ 32) × (is_decay_time ms ≡ true) × (is_purgeable rest ≡ true)
IsVerbWithinLimits (Reset arena) = arena < 2 ^ 32
IsVerbWithinLimits (Destroy arena) = arena < 2 ^ 32
IsVerbWithinLimits (Create box_no) = box_no < 32
IsVerbWithinLimits (Bind arena) = arena < 2 ^ 32
IsVerbWithinLimits (Cache is_on) = Unit {0}
IsVerbWithinLimits Flush = Unit {0}
IsVerbWithinLimits (MallocIn name size slot) = slot < 2 ^ 32
IsVerbWithinLimits (FreeIn region slot) = slot < 2 ^ 32
IsVerbWithinLimits (CtlPlain name) = Unit {0}
IsVerbWithinLimits (CtlWrite name value) = Unit {0}

-- what every line that is read keeps to: its client and its box are below 32, its arena below 2 ^ 32, its rounds at most
-- 1000, and so is its call
abbrev pub IsWithinLimits : Line → Type 0
IsWithinLimits Blank = Unit {0}
IsWithinLimits (Call client verb) = (client < 32) × IsVerbWithinLimits verb
IsWithinLimits (Start client verb) = (client < 32) × IsVerbWithinLimits verb
IsWithinLimits (Step client) = client < 32
IsWithinLimits (End client) = client < 32
IsWithinLimits (At moment) = Unit {0}
IsWithinLimits (Refuse box_no kind nth) = box_no < 32
IsWithinLimits (Counts arena) = arena < 2 ^ 32
IsWithinLimits (Phase rounds) = rounds ≤ 1000
IsWithinLimits Join = Unit {0}
