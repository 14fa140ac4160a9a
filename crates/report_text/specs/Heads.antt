-- The heads of calls: which call a line is about.
use Rattle.std.specs.Prelude.{ℕ, List, [], ◌++◌, codes}
use Rattle.report_text.specs.declared.heads.Head.{Head}
use Rattle.report_text.specs.declared.heads.Head.TheVariants.{Malloc, Memalign, Free, Publish, Take, Purge, Decay, Dirty, Muzzy, Reset, Destroy, Create, Arena, Cache, Flush, MallocIn, FreeIn, Ctl, CtlDone, Realloc}

-- the first word of a call
abbrev pub head_word : Head → List ℕ
head_word (Malloc name) = codes "malloc"
head_word (Memalign name) = codes "memalign"
head_word (Realloc name) = codes "realloc"
head_word Free = codes "free"
head_word Publish = codes "publish"
head_word Take = codes "take"
head_word Purge = codes "purge"
head_word Decay = codes "decay"
head_word Dirty = codes "dirty"
head_word Muzzy = codes "muzzy"
head_word Reset = codes "reset"
head_word Destroy = codes "destroy"
head_word Create = codes "create"
head_word Arena = codes "arena"
head_word Cache = codes "cache"
head_word Flush = codes "flush"
head_word (MallocIn name) = codes "mallocx"
head_word FreeIn = codes "freex"
head_word (Ctl name) = codes "ctl"
head_word (CtlDone name) = codes "ctl"

-- the name that a malloc, a memalign, a realloc or a mallocx binds, or that of a control, behind a space
abbrev pub head_name : Head → List ℕ
head_name (Malloc name) = codes " " ++ name.now
head_name (Memalign name) = codes " " ++ name.now
head_name (Realloc name) = codes " " ++ name.now
head_name (MallocIn name) = codes " " ++ name.now
head_name (Ctl name) = codes " " ++ name.now
head_name (CtlDone name) = codes " " ++ name.now
head_name head = []
