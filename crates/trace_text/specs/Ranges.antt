-- The numbers of a line that have a range of their own, each by its place in the line.
use Rattle.std.specs.Prelude.{◌==◌, ℕ, ℤ, pos, negsuc, ◌^◌, ◌||◌, List, [], ◌∷◌, nat_lt, nat_le, Result, Ok, Err, if◌then◌else◌, codes}
use Rattle.std.specs.Str.{bytes_eq}
use Rattle.trace_text.specs.declared.faults.LineFault.{LineFault}
use Rattle.trace_text.specs.declared.faults.LineFault.TheVariants.{Words, Threads, Range}
use Rattle.trace_text.specs.Causes.{◌>>=◌}
use Rattle.trace_text.specs.Numbers.{decimal_of}

-- a client: `t` and its number, at most 31
unfoldable pub client_of : List ℕ → Result ℕ LineFault
client_of [] = Err Words
client_of (b ∷ digits) = if b == 116 then (decimal_of digits >>= λ c. if nat_lt 31 c then Err Threads else Ok c) else Err Words

-- a box of hooks, at most 31
unfoldable pub box_of : List ℕ → Result ℕ LineFault
box_of word = decimal_of word >>= λ b. if nat_lt 31 b then Err Range else Ok b

-- an arena or an explicit cache, by its index, which is below 2 ^ 32
unfoldable pub index_of : List ℕ → Result ℕ LineFault
index_of word = decimal_of word >>= λ i. if nat_lt i (2 ^ 32) then Ok i else Err Range

-- how many milliseconds: `-1`, or at most 1000000000
unfoldable pub time_of : List ℕ → Result ℤ LineFault
time_of word =
    if bytes_eq word (codes "-1") then Ok (negsuc 0)
    else (decimal_of word >>= λ ms. if nat_le ms 1000000000 then Ok (pos ms) else Err Range)

-- which ask a plan refuses: `all`, which is 0, or a number from 1 on
unfoldable pub nth_of : List ℕ → Result ℕ LineFault
nth_of word =
    if bytes_eq word (codes "all") then Ok 0
    else (decimal_of word >>= λ n. if n == 0 then Err Range else Ok n)

-- how many rounds the background worker of a phase makes: from 1 to 1000
unfoldable pub rounds_of : List ℕ → Result ℕ LineFault
rounds_of word = decimal_of word >>= λ k. if k == 0 || nat_lt 1000 k then Err Range else Ok k
