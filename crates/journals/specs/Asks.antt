-- The text of asks: a line each, in the words of `extent_hooks_t`.
use Rattle.std.specs.Prelude.{ℕ, true, false, ◌*◌, ◌==◌, Bool, List, [], ◌∷◌, ◌++◌, Option, None, Some, codes, if◌then◌else◌}
use Rattle.std.specs.Fmt.{decimal, digits}
use Rattle.std.specs.List.{flat_map}
use Rattle.space_model.specs.declared.parts.Span.{Span}
use Rattle.space_model.specs.declared.asks.Ask.{Ask}
use Rattle.space_model.specs.declared.asks.Ask.TheVariants.{Alloc, Dalloc, Destroy, Commit, Decommit, PurgeLazy, PurgeForced, Split, Merge}
use Rattle.space_model.specs.declared.asks.Answer.{Answer}
use Rattle.space_model.specs.declared.asks.Answer.TheVariants.{Refused, Done, Placed}
use Rattle.hook_api.specs.Asked.{AskFacts}

-- the address of a page's first byte: 4096 times the page
abbrev pub address_text : ℕ → List ℕ
address_text page = if page == 0 then codes "0x0" else codes "0x" ++ digits 16 false page ++ codes "000"

-- the address that an alloc wishes
abbrev pub wish_text : Option ℕ → List ℕ
wish_text None = codes "NULL"
wish_text (Some page) = address_text page

-- the bytes of so many pages
abbrev pub size_text : ℕ → List ℕ
size_text pages = decimal (pages * 4096)

-- the word of a truth value
abbrev pub flag_text : Bool → List ℕ
flag_text true = codes "true"
flag_text false = codes "false"

-- the address and the size of a range
abbrev pub span_text : Span → List ℕ
span_text span = address_text span.first ++ codes ", " ++ size_text span.pages

-- an ask: the hook with its arguments
abbrev pub ask_text : Ask → List ℕ
ask_text (Alloc commit at pages align) =
    codes "alloc(" ++ wish_text at ++ codes ", " ++ size_text pages ++ codes ", " ++ size_text align ++ codes ", " ++ flag_text commit ++ codes ")"
ask_text (Dalloc span committed) = codes "dalloc(" ++ span_text span ++ codes ", " ++ flag_text committed ++ codes ")"
ask_text (Destroy span committed) = codes "destroy(" ++ span_text span ++ codes ", " ++ flag_text committed ++ codes ")"
ask_text (Commit span) = codes "commit(" ++ span_text span ++ codes ")"
ask_text (Decommit span) = codes "decommit(" ++ span_text span ++ codes ")"
ask_text (PurgeLazy span) = codes "purge_lazy(" ++ span_text span ++ codes ")"
ask_text (PurgeForced span) = codes "purge_forced(" ++ span_text span ++ codes ")"
ask_text (Split span left) = codes "split(" ++ span_text span ++ codes ", " ++ size_text left ++ codes ")"
ask_text (Merge low high) = codes "merge(" ++ span_text low ++ codes ", " ++ span_text high ++ codes ")"

-- what a hook answered; of a range its address, and whether it is committed and zeroed
abbrev pub answer_text : Answer → List ℕ
answer_text Refused = codes "refused"
answer_text Done = codes "done"
answer_text (Placed committed zeroed first) =
    address_text first ++ codes ", " ++ flag_text committed ++ codes ", " ++ flag_text zeroed

-- the line of an ask: its box, the ask and the answer
abbrev pub asked_line : AskFacts → List ℕ
asked_line asked =
    codes "box " ++ decimal asked.box_no ++ codes " " ++ ask_text asked.ask ++ codes " -> " ++ answer_text asked.answer ++ 10 ∷ []

-- the text of asks
abbrev pub asks_text : List AskFacts → List ℕ
asks_text asks = flat_map asked_line asks
