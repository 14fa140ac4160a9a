-- The fields of entries, of one word each.
use Rattle.std.specs.Prelude.{◌==◌, ℕ, suc, ◌-◌, ◌^◌, ◌<◌, ℤ, pos, negsuc, Bool, true, false, ◌&&◌, not, zero, List, [], ◌∷◌, length, map, nat_le, Option, None, Some, option_map, option_and_then, if◌then◌else◌, codes}
use Rattle.std.specs.Fmt.{decimal, signed_decimal}
use Rattle.std.specs.List.{AllByRecursion}
use Rattle.std.specs.Str.{bytes_eq}
use Rattle.space_model.specs.declared.Span.{Span}
use Rattle.text_words.specs.Numbers.{numeral_below, numeral_of}
use Rattle.journal.specs.Codec.{Codec, Words, one, ◌⊗◌, via}

-- numbers of 64, 32 and 8 bits
abbrev pub long : Codec ℕ
long = one decimal numeral_of

abbrev pub int : Codec ℕ
int = one decimal (numeral_below (2 ^ 32))

abbrev pub byte : Codec ℕ
byte = one decimal (numeral_below (2 ^ 8))

-- a truth value
abbrev pub flag_word : Bool → List ℕ
flag_word true = codes "1"
flag_word false = codes "0"

unfoldable pub flag_of : List ℕ → Option Bool
flag_of word = if bytes_eq word (codes "1") then Some true else (if bytes_eq word (codes "0") then Some false else None)

abbrev pub flag : Codec Bool
flag = one flag_word flag_of

-- a number that may be absent
abbrev pub maybe_word : Option ℕ → List ℕ
maybe_word None = codes "-"
maybe_word (Some n) = decimal n

unfoldable pub maybe_of : List ℕ → Option (Option ℕ)
maybe_of word = if bytes_eq word (codes "-") then Some None else option_map Some (numeral_of word)

abbrev pub maybe : Codec (Option ℕ)
maybe = one maybe_word maybe_of

-- a time in milliseconds, which may be negative
abbrev pub negative : ℕ → Option ℤ
negative n = if not (n == 0) && nat_le n (2 ^ 63) then Some (negsuc (n - 1)) else None

unfoldable pub signed_of : List ℕ → Option ℤ
signed_of [] = None
signed_of (b ∷ digits) =
    if b == 45 then option_and_then negative (numeral_of digits)
    else option_map pos (numeral_below (2 ^ 63) (b ∷ digits))

abbrev pub signed : Codec ℤ
signed = one signed_decimal signed_of

-- ---- several words

-- a span of pages: its first page and how many there are
abbrev pub span_words : Span → Words
span_words s = decimal s.first ∷ decimal s.pages ∷ []

abbrev pub span : Codec Span
span = via (λ x. record { first = x.0; pages = x.1 }) (λ s. (s.first, s.pages)) (long ⊗ long)

-- so many numbers
unfoldable pub numbers_of : ℕ → Words → Option (List ℕ × Words)
numbers_of zero words = Some ([], words)
numbers_of (suc n) words =
    option_and_then (λ x. option_map (λ y. (x.0 ∷ y.0, y.1)) (numbers_of n x.1)) (long.reads words)

-- how many numbers there are, and the numbers
abbrev pub many : Codec (List ℕ)
many = record {
  spell = λ numbers. decimal (length numbers) ∷ map decimal numbers;
  reads = λ words. option_and_then (λ x. numbers_of x.0 x.1) (long.reads words);
}

-- ---- what has a text: numbers of so many bits

abbrev pub FitsSpan : Span → Type 0
FitsSpan s = (s.first < 2 ^ 64) × (s.pages < 2 ^ 64)

abbrev pub FitsMaybe : Option ℕ → Type 0
FitsMaybe None = Unit {0}
FitsMaybe (Some n) = n < 2 ^ 64

abbrev pub FitsTime : ℤ → Type 0
FitsTime (pos n) = n < 2 ^ 63
FitsTime (negsuc n) = n < 2 ^ 63

abbrev pub FitsAll : List ℕ → Type 0
FitsAll numbers = (length numbers < 2 ^ 64) × AllByRecursion (λ n. n < 2 ^ 64) numbers
