-- The texts of what lines of controls answer where they begin.
use Rattle.std.specs.Prelude.{ℕ, true, false, List, ◌++◌, codes}
use Rattle.std.specs.Fmt.{decimal, signed_decimal}
use Rattle.report_text.specs.declared.controls.CtlAnswer.{CtlAnswer}
use Rattle.report_text.specs.declared.controls.CtlAnswer.TheVariants.{Done, Number, Truth, Time, Enoent, Eperm, Einval, Gone}

-- what a line of a control answers without a call: that it is done, a value, or an error
abbrev pub ctl_text : CtlAnswer → List ℕ
ctl_text Done = codes "ok"
ctl_text (Number number) = decimal number
ctl_text (Truth true) = codes "true"
ctl_text (Truth false) = codes "false"
ctl_text (Time ms) = signed_decimal ms
ctl_text Enoent = codes "ENOENT"
ctl_text Eperm = codes "EPERM"
ctl_text Einval = codes "EINVAL"
ctl_text (Gone index) = codes "EFAULT no arena " ++ decimal index
