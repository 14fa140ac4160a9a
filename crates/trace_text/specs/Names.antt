-- The names that lines give to regions, the names of controls, and what is written to these.
use Rattle.std.specs.Prelude.{◌==◌, ℕ, Bool, ◌&&◌, ◌||◌, List, length, slice_index, nat_lt, nat_le, Result, Ok, Err, if◌then◌else◌}
use Rattle.std.specs.Char.{is_ascii_digit, is_ascii_lowercase}
use Rattle.std.specs.List.{list_all}
use Rattle.trace_text.specs.declared.faults.LineFault.{LineFault}
use Rattle.trace_text.specs.declared.faults.LineFault.TheVariants.{Words}

-- a lower-case letter, a digit or `_`
abbrev pub is_name_byte : ℕ → Bool
is_name_byte c = is_ascii_lowercase c || is_ascii_digit c || c == 95

-- a lower-case letter, and up to 31 lower-case letters, digits or `_`
abbrev pub is_name : List ℕ → Bool
is_name word = is_ascii_lowercase (slice_index word 0) && nat_le (length word) 32 && list_all is_name_byte word

-- the word, where it is a name
unfoldable pub name_of : List ℕ → Result (List ℕ) LineFault
name_of word = if is_name word then Ok word else Err Words

-- a lower-case letter, a digit, `_` or `.`
abbrev pub is_control_byte : ℕ → Bool
is_control_byte c = is_name_byte c || c == 46

-- 1 to 100 lower-case letters, digits, `_` and `.`
abbrev pub is_control : List ℕ → Bool
is_control word = nat_lt 0 (length word) && nat_le (length word) 100 && list_all is_control_byte word

-- the word, where it is the name of a control
unfoldable pub control_of : List ℕ → Result (List ℕ) LineFault
control_of word = if is_control word then Ok word else Err Words

-- the word, where it may be written to a control: 1 to 20 bytes, which are printable in every word, and no spaces
unfoldable pub value_of : List ℕ → Result (List ℕ) LineFault
value_of word = if nat_lt 0 (length word) && nat_le (length word) 20 then Ok word else Err Words
