-- The grammar of a call: its first word and its arguments. What it says is a value, or the first cause for which it isn't
-- read.
use Rattle.std.specs.Prelude.{◌==◌, ℕ, true, false, List, [], ◌∷◌, Result, Ok, Err, if◌then◌else◌, codes}
use Rattle.std.specs.Str.{bytes_eq}
use Rattle.space_model.specs.declared.parts.Rest.{Rest}
use Rattle.space_model.specs.declared.parts.Rest.TheVariants.{Dirty, Muzzy}
use Rattle.trace_text.specs.declared.faults.LineFault.{LineFault}
use Rattle.trace_text.specs.declared.faults.LineFault.TheVariants.{Words}
use Rattle.trace_text.specs.declared.lines.Ptr.{Ptr}
use Rattle.trace_text.specs.declared.lines.Ptr.TheVariants.{Name, At}
use Rattle.trace_text.specs.declared.lines.Verb.{Verb}
use Rattle.trace_text.specs.declared.lines.Verb.TheVariants.{Malloc, Memalign, Realloc, Free, Publish, Take, Purge, Decay, Time, Reset, Destroy, Create, Bind, Cache, Flush, MallocIn, FreeIn, CtlPlain, CtlWrite}
use Rattle.trace_text.specs.Causes.{◌>>=◌, both}
use Rattle.trace_text.specs.Numbers.{decimal_of, hexadecimal_of}
use Rattle.trace_text.specs.Names.{name_of, control_of, value_of}
use Rattle.trace_text.specs.Ranges.{box_of, index_of, time_of}

-- nothing stands behind the words that were read
unfoldable pub nothing_of : List (List ℕ) → Result (Unit {0}) LineFault
nothing_of [] = Ok tt
nothing_of (word ∷ words) = Err Words

-- the only word there is
abbrev pub in_one : {A : Type 0} → (List ℕ → Result A LineFault) → List (List ℕ) → Result A LineFault
in_one read (word ∷ []) = read word
in_one read _ = Err Words

-- what a call names its region by: `@` and an address, or a name
unfoldable pub pointer_of : List ℕ → Result Ptr LineFault
pointer_of [] = Err Words
pointer_of (b ∷ digits) = if b == 64 then (hexadecimal_of digits >>= λ a. Ok (At a)) else (name_of (b ∷ digits) >>= λ n. Ok (Name n))

-- the arguments of a malloc or a realloc: NAME N
unfoldable pub named_size_of : List (List ℕ) → Result (List ℕ × ℕ) LineFault
named_size_of (name ∷ size ∷ []) = both (name_of name) (decimal_of size)
named_size_of _ = Err Words

-- the arguments of a memalign: NAME ALIGN N
unfoldable pub memalign_of : List (List ℕ) → Result Verb LineFault
memalign_of (name ∷ align ∷ size ∷ []) =
    both (name_of name) (both (decimal_of align) (decimal_of size)) >>= λ p. Ok (Memalign p.0 p.1.0 p.1.1)
memalign_of _ = Err Words

-- the arguments of a decay time: I MS
unfoldable pub decay_time_of : Rest → List (List ℕ) → Result Verb LineFault
decay_time_of rest (arena ∷ ms ∷ []) = both (index_of arena) (time_of ms) >>= λ p. Ok (Time p.0 rest p.1)
decay_time_of rest _ = Err Words

-- whether a client caches: `on` or `off`
unfoldable pub switch_of : List ℕ → Result Verb LineFault
switch_of word =
    if bytes_eq word (codes "on") then Ok (Cache true)
    else (if bytes_eq word (codes "off") then Ok (Cache false)
    else Err Words)

-- the arguments of a control: NAME, or NAME = VALUE
unfoldable pub control_call_of : List (List ℕ) → Result Verb LineFault
control_call_of (name ∷ []) = control_of name >>= λ n. Ok (CtlPlain n)
control_call_of (name ∷ equals ∷ value ∷ []) =
    if bytes_eq equals (codes "=") then (both (control_of name) (value_of value) >>= λ p. Ok (CtlWrite p.0 p.1))
    else Err Words
control_call_of _ = Err Words

-- the arguments of a malloc in an explicit cache: NAME N K
unfoldable pub malloc_in_of : List (List ℕ) → Result Verb LineFault
malloc_in_of (name ∷ size ∷ slot ∷ []) =
    both (name_of name) (both (decimal_of size) (index_of slot)) >>= λ p. Ok (MallocIn p.0 p.1.0 p.1.1)
malloc_in_of _ = Err Words

-- the arguments of a free by an explicit cache: PTR K
unfoldable pub free_in_of : List (List ℕ) → Result Verb LineFault
free_in_of (region ∷ slot ∷ []) = both (pointer_of region) (index_of slot) >>= λ p. Ok (FreeIn p.0 p.1)
free_in_of _ = Err Words

-- a call in an explicit cache
unfoldable pub slot_verb_of : List ℕ → List (List ℕ) → Result Verb LineFault
slot_verb_of word arguments =
    if bytes_eq word (codes "mallocx") then malloc_in_of arguments
    else (if bytes_eq word (codes "freex") then free_in_of arguments
    else Err Words)

-- a call about what its client keeps, or about a control
unfoldable pub client_verb_of : List ℕ → List (List ℕ) → Result Verb LineFault
client_verb_of word arguments =
    if bytes_eq word (codes "cache") then in_one switch_of arguments
    else (if bytes_eq word (codes "flush") then (nothing_of arguments >>= λ _. Ok Flush)
    else (if bytes_eq word (codes "ctl") then control_call_of arguments
    else slot_verb_of word arguments))

-- a call about an arena as a whole
unfoldable pub arena_verb_of : List ℕ → List (List ℕ) → Result Verb LineFault
arena_verb_of word arguments =
    if bytes_eq word (codes "reset") then (in_one index_of arguments >>= λ i. Ok (Reset i))
    else (if bytes_eq word (codes "destroy") then (in_one index_of arguments >>= λ i. Ok (Destroy i))
    else (if bytes_eq word (codes "create") then (in_one box_of arguments >>= λ b. Ok (Create b))
    else (if bytes_eq word (codes "arena") then (in_one index_of arguments >>= λ i. Ok (Bind i))
    else client_verb_of word arguments)))

-- a call about the unused pages of an arena
unfoldable pub unused_verb_of : List ℕ → List (List ℕ) → Result Verb LineFault
unused_verb_of word arguments =
    if bytes_eq word (codes "purge") then (in_one index_of arguments >>= λ i. Ok (Purge i))
    else (if bytes_eq word (codes "decay") then (in_one index_of arguments >>= λ i. Ok (Decay i))
    else (if bytes_eq word (codes "dirty") then decay_time_of Dirty arguments
    else (if bytes_eq word (codes "muzzy") then decay_time_of Muzzy arguments
    else arena_verb_of word arguments)))

-- a call: its first word, and its arguments
unfoldable pub verb_of : List (List ℕ) → Result Verb LineFault
verb_of [] = Err Words
verb_of (word ∷ arguments) =
    if bytes_eq word (codes "malloc") then (named_size_of arguments >>= λ p. Ok (Malloc p.0 p.1))
    else (if bytes_eq word (codes "free") then (in_one pointer_of arguments >>= λ p. Ok (Free p))
    else (if bytes_eq word (codes "memalign") then memalign_of arguments
    else (if bytes_eq word (codes "realloc") then (named_size_of arguments >>= λ p. Ok (Realloc p.0 p.1))
    else (if bytes_eq word (codes "publish") then (in_one pointer_of arguments >>= λ p. Ok (Publish p))
    else (if bytes_eq word (codes "take") then (in_one pointer_of arguments >>= λ p. Ok (Take p))
    else unused_verb_of word arguments)))))
