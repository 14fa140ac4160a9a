use Rattle.chunk_table.proofs.Keeps.{own_agrees}
use Rattle.chunk_table.proofs.laws.words_name_owners.Goals as goal

pub returns : goal.returns
returns g c = λ arenas s r j share at chunk. (own_agrees arenas s r j share at).owner chunk
