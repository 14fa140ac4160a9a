-- The numbers that words write.
use Rattle.std.specs.Prelude.{◌==◌, ℕ, ◌^◌, Bool, ◌&&◌, ◌||◌, List, length, slice_index, nat_lt, nat_le, Result, Err, Option, Some, None, option_and_then, if◌then◌else◌}
use Rattle.std.specs.Char.{is_ascii_digit}
use Rattle.std.specs.Int.{is_in_range}
use Rattle.std.specs.List.{list_all}
use Rattle.std.specs.Option.{ok_or}
use Rattle.std.specs.Result.{result_ok}
use Rattle.std.specs.Str.Parse.{digits_value}
use Rattle.text_words.specs.declared.faults.NumberFault.{NumberFault}
use Rattle.text_words.specs.declared.faults.NumberFault.TheVariants.{NotDigits, NotNumeral}

-- a hexadecimal digit in lower case
abbrev pub is_lower_hex : ℕ → Bool
is_lower_hex c = is_ascii_digit c || is_in_range 97 102 c

-- a digit in base 10, or in base 16 a hexadecimal one in lower case
abbrev pub is_digit_in : ℕ → ℕ → Bool
is_digit_in base c = if base == 16 then is_lower_hex c else is_ascii_digit c

-- a word of decimal digits, however many
abbrev pub is_decimal : List ℕ → Bool
is_decimal word = nat_lt 0 (length word) && list_all is_ascii_digit word

-- a word of 1 to 16 lower-case hexadecimal digits
abbrev pub is_hexadecimal : List ℕ → Bool
is_hexadecimal word = nat_lt 0 (length word) && nat_le (length word) 16 && list_all is_lower_hex word

-- a 0 stands before another digit
abbrev pub has_leading_zero : List ℕ → Bool
has_leading_zero digits = nat_lt 1 (length digits) && slice_index digits 0 == 48

-- the number that digits in a base stand for, where it is below 2 ^ 64
abbrev pub value_in : ℕ → List ℕ → Option ℕ
value_in base digits = if nat_lt (digits_value base digits) (2 ^ 64) then Some (digits_value base digits) else None

-- the same number, where no 0 stands before it
unfoldable pub number_in : ℕ → List ℕ → Result ℕ NumberFault
number_in base digits = if has_leading_zero digits then Err NotNumeral else ok_or (value_in base digits) NotNumeral

-- the number that a word of digits in a base writes
abbrev pub number_of : ℕ → List ℕ → Result ℕ NumberFault
number_of base word = if nat_lt 0 (length word) && list_all (is_digit_in base) word then number_in base word else Err NotDigits

-- the number that a word of decimal digits writes
unfoldable pub decimal_of : List ℕ → Result ℕ NumberFault
decimal_of word = if is_decimal word then number_in 10 word else Err NotDigits

-- the number that a word of hexadecimal digits writes
unfoldable pub hexadecimal_of : List ℕ → Result ℕ NumberFault
hexadecimal_of word = if is_hexadecimal word then number_in 16 word else Err NotDigits

-- the decimal number that a word writes, if it writes one
abbrev pub numeral_of : List ℕ → Option ℕ
numeral_of word = result_ok (decimal_of word)

-- a number, where it is below a limit
abbrev pub if_below : ℕ → ℕ → Option ℕ
if_below limit n = if nat_lt n limit then Some n else None

-- the decimal number below a limit that a word writes, if it writes one
abbrev pub numeral_below : ℕ → List ℕ → Option ℕ
numeral_below limit word = option_and_then (if_below limit) (numeral_of word)
