-- A shelf as contracts see it, one ask of it, and one plan set on it.
use Rattle.std.specs.Prelude.{◌≡◌, ◌≢◌, ℕ, ◌+◌, false, IsTrue, if◌then◌else◌, List, slice_index_or, replicate, None}
use Rattle.space_model.specs.declared.Answer.TheVariants.{Refused}
use Rattle.hook_api.specs.declared.books.Book.{Book}
use Rattle.hook_api.specs.declared.plans.Kind.{Kind}
use Rattle.hook_api.specs.Asked.{AskFacts, RefusalCounts}
use Rattle.hook_api.specs.Counts.{capped}
use Rattle.hook_api.specs.Hooks.{Account, Answers, HookCall}
use Rattle.hook_api.specs.Plans.{kind_of, no_plans, plan_at, plan_of, plans_after, refuses, with_plan}

-- the accounts of the boxes, and what the shelf keeps for each box number
pub record Shelf : Type 0 where
  pub accounts : List Account
  pub books : List Book

-- what is known of one box number: the box's own account, and what the shelf keeps for it
pub record BoxState : Type 0 where
  pub account : Account
  pub book : Book

-- the account of no box
abbrev pub no_account : Account
no_account = record { told = None; refusals = 0 }

-- what a new shelf keeps for a box number
abbrev pub new_book : Book
new_book = record { next_place = 0; planned = 0; plans = no_plans }

-- what is known of no box
abbrev pub no_box : BoxState
no_box = record { account = no_account; book = new_book }

-- the box number n of a shelf
abbrev pub box_at : Shelf → ℕ → BoxState
box_at shelf n = record { account = slice_index_or shelf.accounts n no_account; book = slice_index_or shelf.books n new_book }

-- a new shelf of 32 boxes with these accounts
abbrev pub new_shelf : List Account → Shelf
new_shelf accounts = record { accounts = accounts; books = replicate 32 new_book }

-- the count of refusals of a box number: the box's own and the planned ones
abbrev pub count_of : BoxState → ℕ
count_of state = capped (state.account.refusals + state.book.planned)

-- one ask of a box number: what is known of it before, the ask, and what is known after
pub record BoxStep (old : BoxState) (asked : AskFacts) (new : BoxState) : Type 0 where
  -- it has the next place, which moves on
  pub place : asked.place ≡ old.book.next_place
  pub next_place : new.book.next_place ≡ capped (old.book.next_place + 1)
  -- the counts are those before and after, and a refusal counts
  pub before : asked.before ≡ count_of old
  pub after : asked.after ≡ count_of new
  pub rose : RefusalCounts asked.answer asked.before asked.after
  -- it is planned exactly where a plan in force refuses it, and the plans move on
  pub planned : asked.planned ≡ refuses old.book.plans (kind_of asked.ask)
  pub plans : new.book.plans ≡ plans_after old.book.plans (kind_of asked.ask)
  pub planned_refusals : new.book.planned ≡ (if asked.planned then capped (old.book.planned + 1) else old.book.planned)
  -- the answer is of the ask's kind
  pub answers : Answers asked.ask asked.answer
  -- a planned ask is refused, and the box doesn't hear of it
  pub refused : IsTrue asked.planned → asked.answer ≡ Refused
  pub held_back : IsTrue asked.planned → new.account ≡ old.account
  -- any other ask is passed to the box, and has its answer
  pub passed : asked.planned ≡ false → HookCall old.account asked.ask asked.answer new.account

-- one ask of a shelf: a step of its box number, and all other box numbers are as they were
pub record AskStep (old : Shelf) (asked : AskFacts) (new : Shelf) : Type 0 where
  pub box : BoxStep (box_at old asked.box_no) asked (box_at new asked.box_no)
  pub others : (n : ℕ) → n ≢ asked.box_no → box_at new n ≡ box_at old n

-- one plan set on a shelf: the plan of that box number and kind is this one, and all else is as it was
pub record PlanStep (old : Shelf) (box_no : ℕ) (kind : Kind) (nth : ℕ) (new : Shelf) : Type 0 where
  pub plan : plan_at (box_at new box_no).book.plans kind ≡ plan_of nth
  pub account : (box_at new box_no).account ≡ (box_at old box_no).account
  pub book : (box_at new box_no).book ≡ record (box_at old box_no).book { plans = with_plan (box_at old box_no).book.plans kind (plan_of nth) }
  pub others : (n : ℕ) → n ≢ box_no → box_at new n ≡ box_at old n
