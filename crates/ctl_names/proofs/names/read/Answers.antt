use Rattle.std.proofs.Common.{◌∙◌, ap, sym}
use Rattle.std.specs.Option.{ok_or}
use Rattle.ctl_names.specs.declared.names.CtlError.TheVariants.{Enoent}
use Rattle.ctl_names.proofs.Unique.{found_is, found_named, only_found}
use Rattle.ctl_names.proofs.names.read.Goals as goal

pub returns-in-Some-clause-row : goal.returns-in-Some-clause-row
returns-in-Some-clause-row c = found_is c.args.name.now c.in-Some.found (sym c.in-Some.ensures)

pub returns-in-Some-clause-named : goal.returns-in-Some-clause-named
returns-in-Some-clause-named c = found_named c.args.name.now c.in-Some.found (sym c.in-Some.ensures)

pub returns-in-Some-clause-only : goal.returns-in-Some-clause-only
returns-in-Some-clause-only c = λ n lt h. ap (λ o. ok_or o Enoent) (c.in-Some.ensures ∙ only_found c.args.name.now n lt h)

pub returns-in-None-clause-only : goal.returns-in-None-clause-only
returns-in-None-clause-only c = λ n lt h. ap (λ o. ok_or o Enoent) (c.in-None.ensures ∙ only_found c.args.name.now n lt h)
