-- What a line of a control comes to, by the row of its name.
use Rattle.std.specs.Prelude.{ℕ, ◌+◌, ◌*◌, List, Option, None, Some, Result, Ok, Err}
use Rattle.size_classes.specs.Classes.{pages_at, regions_at, size_at}
use Rattle.space_model.specs.declared.Rest.TheVariants as rests
use Rattle.call_plan.specs.declared.Request.TheVariants as requests
use Rattle.heap_stats.specs.declared.Count.{Count}
use Rattle.heap_stats.specs.declared.Count.TheVariants as counts
use Rattle.heap_stats.specs.declared.Whose.TheVariants as whose
use Rattle.ctl_names.specs.declared.Action.{Action}
use Rattle.ctl_names.specs.declared.Action.TheVariants as actions
use Rattle.ctl_names.specs.declared.ClassCount.{ClassCount}
use Rattle.ctl_names.specs.declared.ClassCount.TheVariants as by_class
use Rattle.ctl_names.specs.declared.ClassReading.{ClassReading}
use Rattle.ctl_names.specs.declared.ClassReading.TheVariants as of_class
use Rattle.ctl_names.specs.declared.CtlError.{CtlError}
use Rattle.ctl_names.specs.declared.CtlError.TheVariants.{Einval, Eperm}
use Rattle.ctl_names.specs.declared.CtlName.{CtlName}
use Rattle.ctl_names.specs.declared.OnPlain.{OnPlain}
use Rattle.ctl_names.specs.declared.OnPlain.TheVariants as plain
use Rattle.ctl_names.specs.declared.OnWrite.{OnWrite}
use Rattle.ctl_names.specs.declared.OnWrite.TheVariants as written
use Rattle.ctl_names.specs.Rows.{row_at}
use Rattle.ctl_values.specs.declared.plans.Wish.{Wish}
use Rattle.ctl_values.specs.declared.plans.Wish.TheVariants as wishes
use Rattle.ctl_values.specs.declared.steps.CtlStep.{CtlStep}
use Rattle.ctl_values.specs.declared.steps.CtlStep.TheVariants as steps
use Rattle.ctl_values.specs.declared.steps.Times.{Times}
use Rattle.ctl_values.specs.declared.steps.Upkeep.TheVariants as upkeeps
use Rattle.ctl_values.specs.Steps.{create_of, on_arenas, whose_of}
use Rattle.ctl_values.specs.Values.{◌>>=◌, address_of, box_of, chunks_of, index_of, number_of, time_of, truth_of}

-- what is told of a size class; a large one is counted from 0 at class 36
abbrev pub class_number : ClassReading → ℕ → ℕ
class_number of_class.Size class = size_at class
class_number of_class.Regions class = regions_at class
class_number of_class.SlabSize class = pages_at class * 4096
class_number of_class.LargeSize class = size_at (36 + class)

-- the count of a size class
abbrev pub class_count : ClassCount → ℕ → Count
class_count by_class.Regions class = counts.Regions class
class_count by_class.Slabs class = counts.Slabs class
class_count by_class.LargeRegions class = counts.LargeRegions class

-- what an action comes to, on the arena with an index
abbrev pub action_step : Action → ℕ → Times → CtlStep
action_step actions.Flush arena t = steps.Call requests.Flush
action_step actions.Decay arena t = on_arenas (upkeeps.Decay t.now) arena
action_step actions.Purge arena t = on_arenas upkeeps.Purge arena
action_step actions.Reset arena t = steps.Call (requests.Reset arena)
action_step actions.Destroy arena t = steps.Call (requests.Destroy arena)
action_step actions.Create arena t = steps.Call (create_of 0 t)
action_step actions.NewCache arena t = steps.Call requests.NewCache

-- what a plain line comes to
abbrev pub plain_step : OnPlain → CtlName → Times → Result CtlStep CtlError
plain_step (plain.Number number) name t = Ok (steps.Number number)
plain_step (plain.Reads reading) name t = Ok (steps.Setting reading)
plain_step (plain.ReadsArena reading) name t = Ok (steps.ArenaSetting name.i reading)
plain_step (plain.ReadsClass reading) name t = Ok (steps.Number (class_number reading name.j))
plain_step (plain.Total count) name t = Ok (steps.Stat whose.All count)
plain_step (plain.Stat count) name t = Ok (steps.Stat (whose_of name.i) count)
plain_step (plain.ClassStat count) name t = Ok (steps.Stat (whose_of name.i) (class_count count name.j))
plain_step (plain.Acts action) name t = Ok (action_step action name.i t)
plain_step plain.Wanting name t = Err Einval
plain_step plain.Never name t = Err Eperm

-- what a write of a text comes to; the arena is that of the name
abbrev pub written_step : OnWrite → List ℕ → ℕ → Times → Result CtlStep CtlError
written_step written.Never text arena t = Err Eperm
written_step written.Refresh text arena t = number_of text >>= λ number. Ok steps.Refresh
written_step written.Bind text arena t = index_of text >>= λ index. Ok (steps.Call (requests.Bind index))
written_step written.Cache text arena t = truth_of text >>= λ is_on. Ok (steps.Call (requests.Cache is_on))
written_step written.DirtyTime text arena t =
    time_of text >>= λ ms. Ok (steps.Call (requests.Time arena rests.Dirty ms t.now))
written_step written.MuzzyTime text arena t =
    time_of text >>= λ ms. Ok (steps.Call (requests.Time arena rests.Muzzy ms t.now))
written_step written.HookBox text arena t = box_of text >>= λ box_no. Ok (steps.Call (requests.HookBox arena box_no))
written_step written.GrowLimit text arena t =
    chunks_of text >>= λ chunks. Ok (steps.Call (requests.GrowLimit arena chunks))
written_step written.NewDirtyTime text arena t = time_of text >>= λ ms. Ok (steps.Default rests.Dirty ms)
written_step written.NewMuzzyTime text arena t = time_of text >>= λ ms. Ok (steps.Default rests.Muzzy ms)
written_step written.Create text arena t = box_of text >>= λ box_no. Ok (steps.Call (create_of box_no t))
written_step written.FlushCache text arena t = index_of text >>= λ slot. Ok (steps.Call (requests.FlushCache slot))
written_step written.EndCache text arena t = index_of text >>= λ slot. Ok (steps.Call (requests.EndCache slot))
written_step written.Lookup text arena t = address_of text >>= λ address. Ok (steps.Lookup address)

-- what a plain line of a name comes to, or a write of a text where there is one
abbrev pub plan_of : CtlName → Option (List ℕ) → Times → Result CtlStep CtlError
plan_of name None t = plain_step (row_at name.row).on_plain name t
plan_of name (Some text) t = written_step (row_at name.row).on_write text name.i t

-- the text that is to be written, if one is
abbrev pub text_of : Wish → Option (List ℕ)
text_of wishes.Plain = None
text_of (wishes.Write text) = Some text.now
