-- What an ask in few bytes tells.
use Rattle.std.specs.Prelude.{◌≡◌, ◌+◌, Option, None, Some, false, if◌then◌else◌}
use Rattle.hook_api.specs.Asked.{AskFacts, RefusalCounts}
use Rattle.hook_api.specs.Briefs.{answer_by, ask_by}
use Rattle.hook_api.specs.declared.narrow_asks.NarrowAsk.TheInside.{Inside}

-- the ask that few bytes tell, unless they are a mark
abbrev pub widened : Inside → AskFacts
widened n = record {
  box_no = n.box_no;
  place = n.place;
  ask = ask_by n.ask_shape n.flag n.a n.b n.c (if n.ranged then 0 else n.number);
  answer = answer_by n.answer_shape (if n.ranged then n.number else 0);
  before = n.before;
  after = if n.rose then n.before + 1 else n.before;
  planned = n.planned;
}

-- the ask that few bytes tell, if they tell one
abbrev pub ask_told : Inside → Option AskFacts
ask_told n = if n.whole then None else Some (widened n)

-- a refusal that is told was counted
abbrev pub IsNarrow : Inside → Type 0
IsNarrow n = n.whole ≡ false → RefusalCounts (widened n).answer (widened n).before (widened n).after
