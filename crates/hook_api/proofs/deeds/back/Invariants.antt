use Rattle.hook_api.proofs.Words.{◌≡◌, ◌+◌, ◌≤◌, length, take}
use Rattle.hook_api.proofs.deeds.back.Given as goal

-- the addresses so far are in the list, and there is room for the others
abbrev pub invariant-loop-addr : goal.invariant-loop-addr
invariant-loop-addr l = record {
  items : l.list.items ≡ take l.addr-index l.addrs;
  room : length l.addrs ≤ l.list.room + l.addr-index;
}
