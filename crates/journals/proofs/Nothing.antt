-- What is so of a sink to which nothing was written.
use Rattle.std.proofs.Common.{ℕ, List, [], ◌∷◌, Option, None, Some, append-nil, sym, arith}
use Rattle.edge_io.specs.Bytes.{AppendsPrefix}

-- it holds a beginning of each text more
pub none_more : (held : Option (List ℕ)) (text : List ℕ) → AppendsPrefix held held text
none_more None text = (0, omega arith, tt)
none_more (Some bytes) [] = (0, omega arith, sym (append-nil bytes))
none_more (Some bytes) (b ∷ text) = (0, omega arith, sym (append-nil bytes))
