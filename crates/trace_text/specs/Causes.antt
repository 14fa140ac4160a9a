-- The causes for which a line isn't read, and which of them comes first.
use Rattle.std.specs.Prelude.{◌≡◌, ℕ, Result, Ok, Err, nat_le, if◌then◌else◌}
use Rattle.trace_text.specs.declared.faults.LineFault.{LineFault}
use Rattle.trace_text.specs.declared.faults.LineFault.TheVariants.{NoMemory, Bytes, Words, Number, Threads, Range}

-- the value of a part goes on to what is made of it, and its cause is the whole's
infixl 10 ◌>>=◌
abbrev pub ◌>>=◌ : {A B : Type 0} → Result A LineFault → (A → Result B LineFault) → Result B LineFault
(Ok x) >>= f = f x
(Err e) >>= f = Err e

-- the place of a cause in the order of the causes
abbrev pub place_of : LineFault → ℕ
place_of NoMemory = 0
place_of Bytes = 1
place_of Words = 2
place_of Number = 3
place_of Threads = 4
place_of Range = 5

-- the one of two causes that comes first in that order
abbrev pub first_cause : LineFault → LineFault → LineFault
first_cause e f = if nat_le (place_of e) (place_of f) then e else f

-- two parts of a line, or the first cause of either
unfoldable pub both : {A B : Type 0} → Result A LineFault → Result B LineFault → Result (A × B) LineFault
both (Ok a) (Ok b) = Ok (a, b)
both (Ok a) (Err f) = Err f
both (Err e) (Ok b) = Err e
both (Err e) (Err f) = Err (first_cause e f)

-- the cause that was answered is the line's, where it isn't want of memory
abbrev pub GivesCause : {A : Type 0} → LineFault → Result A LineFault → Type 0
GivesCause NoMemory said = Unit {0}
GivesCause Bytes said = said ≡ Err Bytes
GivesCause Words said = said ≡ Err Words
GivesCause Number said = said ≡ Err Number
GivesCause Threads said = said ≡ Err Threads
GivesCause Range said = said ≡ Err Range

-- what was answered is what the line says, value or cause, unless memory ran out
abbrev pub Gives : {A : Type 0} → Result A LineFault → Result A LineFault → Type 0
Gives (Ok x) said = said ≡ Ok x
Gives (Err e) said = GivesCause e said
