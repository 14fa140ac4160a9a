-- The values that may be written to controls: what a text is of each kind.
use Rattle.std.specs.Prelude.{◌==◌, ℕ, ◌/◌, Bool, true, false, ◌&&◌, List, [], ◌∷◌, ℤ, pos, negsuc, nat_le, nat_lt, Option, Result, Ok, Err, if◌then◌else◌, codes}
use Rattle.std.specs.Option.{ok_or}
use Rattle.std.specs.Result.{result_ok}
use Rattle.std.specs.Str.{bytes_eq}
use Rattle.text_words.specs.Numbers.{hexadecimal_of, numeral_of}
use Rattle.ctl_names.specs.declared.CtlError.{CtlError}
use Rattle.ctl_names.specs.declared.CtlError.TheVariants.{Einval}

-- what is made of a value, or the error for which there is none
infixl 10 ◌>>=◌
abbrev pub ◌>>=◌ : {A B : Type 0} → Result A CtlError → (A → Result B CtlError) → Result B CtlError
(Ok x) >>= f = f x
(Err e) >>= f = Err e

-- a value, where the text is one
abbrev pub value : {A : Type 0} → Option A → Result A CtlError
value found = ok_or found Einval

-- a value that passes a test
abbrev pub value_if : {A : Type 0} → Bool → A → Result A CtlError
value_if test x = if test then Ok x else Err Einval

-- a number below 2 ^ 64
abbrev pub number_of : List ℕ → Result ℕ CtlError
number_of text = value (numeral_of text)

-- a number below a limit
abbrev pub number_below : ℕ → List ℕ → Result ℕ CtlError
number_below limit text = number_of text >>= λ n. value_if (nat_lt n limit) n

-- the index of an arena or the identifier of an explicit cache, below 2 ^ 32
abbrev pub index_of : List ℕ → Result ℕ CtlError
index_of text = number_below 4294967296 text

-- a box of hooks
abbrev pub box_of : List ℕ → Result ℕ CtlError
box_of text = number_below 32 text

-- `true` or `false`
abbrev pub truth_of : List ℕ → Result Bool CtlError
truth_of text =
    if bytes_eq text (codes "true") then Ok true
    else (if bytes_eq text (codes "false") then Ok false else Err Einval)

-- a decay time: `-1`, or a number of milliseconds up to 1000000000
abbrev pub time_of : List ℕ → Result ℤ CtlError
time_of text =
    if bytes_eq text (codes "-1") then Ok (negsuc 0)
    else (number_below 1000000001 text >>= λ ms. Ok (pos ms))

-- a greatest growth: a number of bytes from 2097152 to 34359738368, in whole chunks of 2097152
abbrev pub chunks_of : List ℕ → Result ℕ CtlError
chunks_of text = number_of text >>= λ bytes. value_if (nat_le 2097152 bytes && nat_le bytes 34359738368) (bytes / 2097152)

-- `@` and an address in hexadecimal digits
abbrev pub address_of : List ℕ → Result ℕ CtlError
address_of [] = Err Einval
address_of (b ∷ digits) = if b == 64 then value (result_ok (hexadecimal_of digits)) else Err Einval
