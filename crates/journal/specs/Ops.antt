-- The texts of operations: the word of each, and its fields in order.
use Rattle.std.specs.Prelude.{◌^◌, ◌<◌, [], ◌∷◌, ◌++◌, length, map, Option, None, codes}
use Rattle.std.specs.Fmt.{decimal, signed_decimal}
use Rattle.space_model.specs.declared.Op.{Op}
use Rattle.space_model.specs.declared.Op.TheVariants as ops
use Rattle.space_model.specs.declared.Setting.{Setting}
use Rattle.space_model.specs.declared.Setting.TheVariants as settings
use Rattle.journal.specs.Codec.{Codec, Words, ◌⊗◌, made, nothing}
use Rattle.journal.specs.Fields.{FitsAll, FitsMaybe, FitsSpan, FitsTime, flag, flag_word, many, maybe, maybe_word, byte, int, long, signed, span, span_words}
use Rattle.journal.specs.Labels.{by_label}
use Rattle.journal.specs.Asks.{FitsHeard, heard, heard_words, rest, rest_words}
use Rattle.journal.specs.declared.labels.Label.{Label}
use Rattle.journal.specs.declared.labels.Label.TheVariants as labels

-- ---- settings

abbrev pub setting_words : Setting → Words
setting_words (settings.DirtyMs ms now) = codes "dirtyms" ∷ signed_decimal ms ∷ decimal now ∷ []
setting_words (settings.MuzzyMs ms now) = codes "muzzyms" ∷ signed_decimal ms ∷ decimal now ∷ []
setting_words (settings.HookBox n) = codes "hookbox" ∷ decimal n ∷ []
setting_words settings.Bind = codes "bind" ∷ []
setting_words settings.Unbind = codes "unbind" ∷ []
setting_words (settings.GrowLimit chunks) = codes "growlimit" ∷ decimal chunks ∷ []
setting_words (settings.Live n dirty muzzy now) =
    codes "live" ∷ decimal n ∷ signed_decimal dirty ∷ signed_decimal muzzy ∷ decimal now ∷ []

abbrev pub setting_fields : Label → Words → Option (Setting × Words)
setting_fields labels.DirtyMs = made (λ x. settings.DirtyMs x.0 x.1) (signed ⊗ long)
setting_fields labels.MuzzyMs = made (λ x. settings.MuzzyMs x.0 x.1) (signed ⊗ long)
setting_fields labels.HookBox = made (λ x. settings.HookBox x) int
setting_fields labels.Bind = made (λ x. settings.Bind) nothing
setting_fields labels.Unbind = made (λ x. settings.Unbind) nothing
setting_fields labels.GrowLimit = made (λ x. settings.GrowLimit x) long
setting_fields labels.Live = made (λ x. settings.Live x.0 x.1.0 x.1.1.0 x.1.1.1) (int ⊗ signed ⊗ signed ⊗ long)
setting_fields label = λ words. None

unfoldable pub setting_of : Words → Option (Setting × Words)
setting_of words = by_label setting_fields words

abbrev pub setting : Codec Setting
setting = record { spell = setting_words; reads = setting_of }

abbrev pub FitsSetting : Setting → Type 0
FitsSetting (settings.DirtyMs ms now) = FitsTime ms × (now < 2 ^ 64)
FitsSetting (settings.MuzzyMs ms now) = FitsTime ms × (now < 2 ^ 64)
FitsSetting (settings.HookBox n) = n < 2 ^ 32
FitsSetting settings.Bind = Unit {0}
FitsSetting settings.Unbind = Unit {0}
FitsSetting (settings.GrowLimit chunks) = chunks < 2 ^ 64
FitsSetting (settings.Live n dirty muzzy now) = (n < 2 ^ 32) × (FitsTime dirty × (FitsTime muzzy × (now < 2 ^ 64)))

-- ---- operations

abbrev pub op_words : Op → Words
op_words (ops.Look pages align) = codes "look" ∷ decimal pages ∷ decimal align ∷ []
op_words (ops.CutDone h keep_low) = codes "cutdone" ∷ heard_words h ++ flag_word keep_low ∷ []
op_words (ops.GrowDone h found) = codes "growdone" ∷ heard_words h ++ maybe_word found ∷ []
op_words (ops.CommitDone h) = codes "commitdone" ∷ heard_words h
op_words (ops.Land s class count) = codes "land" ∷ span_words s ++ decimal class ∷ decimal count ∷ []
op_words (ops.Back addrs) = codes "back" ∷ decimal (length addrs) ∷ map decimal addrs
op_words (ops.PutLook s tries) = codes "putlook" ∷ span_words s ++ decimal tries ∷ []
op_words (ops.MergeDone h own_low) = codes "mergedone" ∷ heard_words h ++ flag_word own_low ∷ []
op_words (ops.Fill class count) = codes "fill" ∷ decimal class ∷ decimal count ∷ []
op_words (ops.Advance now) = codes "advance" ∷ decimal now ∷ []
op_words (ops.PurgeTake r keep) = codes "purgetake" ∷ rest_words r ++ decimal keep ∷ []
op_words (ops.LazyDone h) = codes "lazydone" ∷ heard_words h
op_words (ops.Offer s) = codes "offer" ∷ span_words s
op_words (ops.OfferDone h found) = codes "offerdone" ∷ heard_words h ++ maybe_word found ∷ []
op_words (ops.DecommitDone h) = codes "decommitdone" ∷ heard_words h
op_words (ops.ForcedDone h) = codes "forceddone" ∷ heard_words h
op_words (ops.Publish addr) = codes "publish" ∷ decimal addr ∷ []
op_words (ops.TakeOver addr) = codes "takeover" ∷ decimal addr ∷ []
op_words (ops.Reset cached) = codes "reset" ∷ decimal cached ∷ []
op_words (ops.Destroy cached) = codes "destroy" ∷ decimal cached ∷ []
op_words ops.DestroyTake = codes "destroytake" ∷ []
op_words ops.Counts = codes "counts" ∷ []
op_words (ops.Set s) = codes "set" ∷ setting_words s
op_words (ops.Widen addr pages) = codes "widen" ∷ decimal addr ∷ decimal pages ∷ []
op_words (ops.JoinDone h class) = codes "joindone" ∷ heard_words h ++ decimal class ∷ []
op_words (ops.Trim addr class) = codes "trim" ∷ decimal addr ∷ decimal class ∷ []
op_words (ops.TrimDone h class) = codes "trimdone" ∷ heard_words h ++ decimal class ∷ []

-- the fields behind the word of an operation: of those that take in what was heard
abbrev pub heard_op_fields : Label → Words → Option (Op × Words)
heard_op_fields labels.CutDone = made (λ x. ops.CutDone x.0 x.1) (heard ⊗ flag)
heard_op_fields labels.GrowDone = made (λ x. ops.GrowDone x.0 x.1) (heard ⊗ maybe)
heard_op_fields labels.CommitDone = made (λ x. ops.CommitDone x) heard
heard_op_fields labels.MergeDone = made (λ x. ops.MergeDone x.0 x.1) (heard ⊗ flag)
heard_op_fields labels.LazyDone = made (λ x. ops.LazyDone x) heard
heard_op_fields labels.OfferDone = made (λ x. ops.OfferDone x.0 x.1) (heard ⊗ maybe)
heard_op_fields labels.DecommitDone = made (λ x. ops.DecommitDone x) heard
heard_op_fields labels.ForcedDone = made (λ x. ops.ForcedDone x) heard
heard_op_fields labels.JoinDone = made (λ x. ops.JoinDone x.0 x.1) (heard ⊗ byte)
heard_op_fields labels.TrimDone = made (λ x. ops.TrimDone x.0 x.1) (heard ⊗ byte)
heard_op_fields label = λ words. None

-- of those of an arena as a whole
abbrev pub arena_op_fields : Label → Words → Option (Op × Words)
arena_op_fields labels.Advance = made (λ x. ops.Advance x) long
arena_op_fields labels.Reset = made (λ x. ops.Reset x) long
arena_op_fields labels.Destroy = made (λ x. ops.Destroy x) long
arena_op_fields labels.DestroyTake = made (λ x. ops.DestroyTake) nothing
arena_op_fields labels.Counts = made (λ x. ops.Counts) nothing
arena_op_fields labels.Set = made (λ x. ops.Set x) setting
arena_op_fields label = heard_op_fields label

-- of those of extents and regions
abbrev pub op_fields : Label → Words → Option (Op × Words)
op_fields labels.Look = made (λ x. ops.Look x.0 x.1) (long ⊗ long)
op_fields labels.Land = made (λ x. ops.Land x.0 x.1.0 x.1.1) (span ⊗ byte ⊗ int)
op_fields labels.Back = made (λ x. ops.Back x) many
op_fields labels.PutLook = made (λ x. ops.PutLook x.0 x.1) (span ⊗ byte)
op_fields labels.Fill = made (λ x. ops.Fill x.0 x.1) (byte ⊗ int)
op_fields labels.PurgeTake = made (λ x. ops.PurgeTake x.0 x.1) (rest ⊗ long)
op_fields labels.Offer = made (λ x. ops.Offer x) span
op_fields labels.Publish = made (λ x. ops.Publish x) long
op_fields labels.TakeOver = made (λ x. ops.TakeOver x) long
op_fields labels.Widen = made (λ x. ops.Widen x.0 x.1) (long ⊗ long)
op_fields labels.Trim = made (λ x. ops.Trim x.0 x.1) (long ⊗ byte)
op_fields label = arena_op_fields label

unfoldable pub op_of : Words → Option (Op × Words)
op_of words = by_label op_fields words

abbrev pub op : Codec Op
op = record { spell = op_words; reads = op_of }

abbrev pub FitsOp : Op → Type 0
FitsOp (ops.Look pages align) = (pages < 2 ^ 64) × (align < 2 ^ 64)
FitsOp (ops.CutDone h keep_low) = FitsHeard h × Unit {0}
FitsOp (ops.GrowDone h found) = FitsHeard h × FitsMaybe found
FitsOp (ops.CommitDone h) = FitsHeard h
FitsOp (ops.Land s class count) = FitsSpan s × ((class < 2 ^ 8) × (count < 2 ^ 32))
FitsOp (ops.Back addrs) = FitsAll addrs
FitsOp (ops.PutLook s tries) = FitsSpan s × (tries < 2 ^ 8)
FitsOp (ops.MergeDone h own_low) = FitsHeard h × Unit {0}
FitsOp (ops.Fill class count) = (class < 2 ^ 8) × (count < 2 ^ 32)
FitsOp (ops.Advance now) = now < 2 ^ 64
FitsOp (ops.PurgeTake r keep) = Unit {0} × (keep < 2 ^ 64)
FitsOp (ops.LazyDone h) = FitsHeard h
FitsOp (ops.Offer s) = FitsSpan s
FitsOp (ops.OfferDone h found) = FitsHeard h × FitsMaybe found
FitsOp (ops.DecommitDone h) = FitsHeard h
FitsOp (ops.ForcedDone h) = FitsHeard h
FitsOp (ops.Publish addr) = addr < 2 ^ 64
FitsOp (ops.TakeOver addr) = addr < 2 ^ 64
FitsOp (ops.Reset cached) = cached < 2 ^ 64
FitsOp (ops.Destroy cached) = cached < 2 ^ 64
FitsOp ops.DestroyTake = Unit {0}
FitsOp ops.Counts = Unit {0}
FitsOp (ops.Set s) = FitsSetting s
FitsOp (ops.Widen addr pages) = (addr < 2 ^ 64) × (pages < 2 ^ 64)
FitsOp (ops.JoinDone h class) = FitsHeard h × (class < 2 ^ 8)
FitsOp (ops.Trim addr class) = (addr < 2 ^ 64) × (class < 2 ^ 8)
FitsOp (ops.TrimDone h class) = FitsHeard h × (class < 2 ^ 8)
