-- The texts of addresses and of spans of pages.
use Rattle.std.specs.Prelude.{ℕ, false, ◌==◌, List, ◌++◌, codes, if◌then◌else◌}
use Rattle.std.specs.Fmt.{decimal, digits}
use Rattle.space_model.specs.declared.parts.Span.{Span}

-- a number in lower-case hexadecimal digits without leading zeros
abbrev pub hexadecimal : ℕ → List ℕ
hexadecimal n = digits 16 false n

-- an address: `@` and its hexadecimal digits
abbrev pub address_text : ℕ → List ℕ
address_text addr = codes "@" ++ hexadecimal addr

-- the address of a page's first byte, which may pass 2 ^ 64: 4096 times the page
abbrev pub page_text : ℕ → List ℕ
page_text page = if page == 0 then codes "@0" else codes "@" ++ hexadecimal page ++ codes "000"

-- a span: the address of its first page, `+`, and how many pages it has
abbrev pub span_text : Span → List ℕ
span_text span = page_text span.first ++ codes "+" ++ decimal span.pages
