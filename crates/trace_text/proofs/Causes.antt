-- What two parts that were read give together.
use Rattle.trace_text.proofs.Words.{◌≡◌, ◌⊎◌, inl, inr, refl, Result, Ok, Err, LineFault, NoMemory, Bytes, Words, Number, Threads, Range, both, first_cause, GivesCause, Gives}

-- an answered cause is want of memory, or the line's
cause_cases : {A : Type 0} (e : LineFault) (x : Result A LineFault) → GivesCause e x → (e ≡ NoMemory) ⊎ (x ≡ Err e)
cause_cases NoMemory x h = inl refl
cause_cases Bytes x h = inr h
cause_cases Words x h = inr h
cause_cases Number x h = inr h
cause_cases Threads x h = inr h
cause_cases Range x h = inr h

-- the line's cause may be answered
cause_given : {A : Type 0} (e : LineFault) (x : Result A LineFault) → x ≡ Err e → GivesCause e x
cause_given NoMemory x h = tt
cause_given Bytes x h = h
cause_given Words x h = h
cause_given Number x h = h
cause_given Threads x h = h
cause_given Range x h = h

-- want of memory comes before every cause
memory_first : (f : LineFault) → first_cause NoMemory f ≡ NoMemory
memory_first NoMemory = refl
memory_first Bytes = refl
memory_first Words = refl
memory_first Number = refl
memory_first Threads = refl
memory_first Range = refl

memory_second : (e : LineFault) → first_cause e NoMemory ≡ NoMemory
memory_second NoMemory = refl
memory_second Bytes = refl
memory_second Words = refl
memory_second Number = refl
memory_second Threads = refl
memory_second Range = refl

-- what two parts give together is what the line's two parts say together
pub both_gives : {A B : Type 0} (a x : Result A LineFault) (b y : Result B LineFault) → Gives a x → Gives b y → Gives (both a b) (both x y)
unfolding both
both_gives (Ok a) x (Ok b) y g h = rw (g, h) refl
both_gives (Ok a) x (Err f) y g h =
    elim (cause_cases f y h) [ inl e ↦ rw e tt | inr e ↦ cause_given f (both x y) (rw (g, e) refl) ]
both_gives (Err e) x (Ok b) y g h =
    elim (cause_cases e x g) [ inl p ↦ rw p tt | inr p ↦ cause_given e (both x y) (rw (p, h) refl) ]
both_gives (Err e) x (Err f) y g h =
    elim (cause_cases e x g) [
      | inl p ↦ rw (p, memory_first f) tt
      | inr p ↦ elim (cause_cases f y h) [
        | inl q ↦ rw (q, memory_second e) tt
        | inr q ↦ cause_given (first_cause e f) (both x y) (rw (p, q) refl)
      ]
    ]
