-- The texts of the answers of calls and of hooks.
use Rattle.std.specs.Prelude.{ℕ, List, ◌++◌, Option, None, Some, codes}
use Rattle.std.specs.Fmt.{decimal}
use Rattle.size_classes.specs.Classes.{size_at}
use Rattle.space_model.specs.declared.asks.Ask.{Ask}
use Rattle.space_model.specs.declared.asks.Ask.TheVariants.{Alloc, Dalloc, Destroy, Commit, Decommit, PurgeLazy, PurgeForced, Split, Merge}
use Rattle.space_model.specs.declared.asks.Answer.{Answer}
use Rattle.space_model.specs.declared.asks.Answer.TheVariants.{Refused as HookRefused, Done as HookDone, Placed}
use Rattle.space_model.specs.declared.entries.Why.{Why}
use Rattle.space_model.specs.declared.entries.Why.TheVariants.{OffSpace, Unaligned, Meets}
use Rattle.call_plan.specs.declared.needs.Answered.{Answered}
use Rattle.call_plan.specs.declared.needs.Answered.TheVariants.{Ok, Refused, BadAnswer, TooLarge, BadAlign, NotHeld, NoArena, Busy, NoMemory, ArenasFull, Automatic, NoCache, CachesFull}
use Rattle.call_plan.specs.declared.needs.Given.{Given}
use Rattle.call_plan.specs.declared.needs.Given.TheVariants.{Region, Done, Arena, Limits, Cache}
use Rattle.report_text.specs.declared.heads.Head.{Head}
use Rattle.report_text.specs.declared.heads.Head.TheVariants.{Take, Ctl, CtlDone}
use Rattle.report_text.specs.Places.{address_text, page_text, span_text}

-- the kind of an ask
abbrev pub kind_text : Ask → List ℕ
kind_text (Alloc commit at pages align) = codes "alloc"
kind_text (Dalloc span is_committed) = codes "dalloc"
kind_text (Destroy span is_committed) = codes "destroy"
kind_text (Commit span) = codes "commit"
kind_text (Decommit span) = codes "decommit"
kind_text (PurgeLazy span) = codes "purge_lazy"
kind_text (PurgeForced span) = codes "purge_forced"
kind_text (Split span left) = codes "split"
kind_text (Merge low high) = codes "merge"

-- what speaks against a range
abbrev pub why_text : Why → List ℕ
why_text OffSpace = codes "off space"
why_text Unaligned = codes "unaligned"
why_text (Meets chunk) = codes "meets " ++ span_text chunk

-- how many pages may stay, or `-` where that wasn't told
abbrev pub limit_text : Option ℕ → List ℕ
limit_text None = codes "-"
limit_text (Some pages) = decimal pages

-- what a call gives: a region's address and the size of its class, an arena's index, an explicit cache's identifier, the limits of its unused pages, or
-- nothing
abbrev pub given_text : Given → List ℕ
given_text (Region addr class) = address_text addr ++ codes " " ++ decimal (size_at class)
given_text Done = codes "ok"
given_text (Arena index) = decimal index
given_text (Cache slot) = decimal slot
given_text (Limits dirty muzzy) = codes "dirty " ++ limit_text dirty ++ codes " muzzy " ++ limit_text muzzy

-- what uses an arena that can't be reset or destroyed
abbrev pub busy_text : ℕ → ℕ → ℕ → List ℕ
busy_text held flights threads =
    codes "busy held " ++ decimal held ++ codes " flights " ++ decimal flights ++ codes " threads " ++ decimal threads

-- the answer of a call
abbrev pub answer_text : Answered → List ℕ
answer_text (Ok given) = given_text given
answer_text (Refused asked) = codes "refused " ++ kind_text asked.ask
answer_text (BadAnswer span why) = codes "bad answer " ++ span_text span ++ codes " " ++ why_text why
answer_text TooLarge = codes "too large"
answer_text BadAlign = codes "bad alignment"
answer_text (NotHeld addr) = codes "not held " ++ address_text addr
answer_text (NoArena index) = codes "no arena " ++ decimal index
answer_text (Busy held flights threads) = busy_text held flights threads
answer_text NoMemory = codes "no memory"
answer_text ArenasFull = codes "arenas full"
answer_text Automatic = codes "automatic arena"
answer_text (NoCache slot) = codes "no cache " ++ decimal slot
answer_text CachesFull = codes "caches full"

-- the answer of a call of a control: so is told what it gives, and another answer stands behind `EFAULT`
abbrev pub ctl_ended : (Given → List ℕ) → Answered → List ℕ
ctl_ended told (Ok given) = told given
ctl_ended told answered = codes "EFAULT " ++ answer_text answered

-- the answer of the call of this head: a take says nothing of its region, nor does a control of which `ok` alone is told
abbrev pub ended_text : Head → Answered → List ℕ
ended_text Take (Ok (Region addr class)) = codes "ok"
ended_text (Ctl name) answered = ctl_ended given_text answered
ended_text (CtlDone name) answered = ctl_ended (λ given. codes "ok") answered
ended_text head answered = answer_text answered

-- the answer of a hook: of a range that was placed, where it begins
abbrev pub said_text : Answer → List ℕ
said_text HookRefused = codes "refused"
said_text HookDone = codes "done"
said_text (Placed is_committed is_zeroed first) = codes "placed " ++ page_text first
