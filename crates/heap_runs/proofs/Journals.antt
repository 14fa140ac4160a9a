-- What is told to a number in a history is told to its client in the journal.
use Rattle.std.proofs.Common.{◌≡◌, ℕ, true, false, cond, eqb, filter, List, [], ◌∷◌, sym, refl, ap, ◌∙◌}
use Rattle.std.specs.declared.snapshot.Snapshot.{Snapshot}
use Rattle.turn_lock.specs.declared.view.Turn.{Turn}
use Rattle.turn_lock.specs.History.{entries, entries_by, IsLegal}
use Rattle.chunk_table.specs.declared.table.ChunkTable.{ChunkTable}
use Rattle.deeds.specs.declared.deeds.Deed.{Deed}
use Rattle.deeds.specs.declared.deeds.Doing.{Doing}
use Rattle.heap_shared.specs.Shared.{Facts, Logs, after_entry, opening_facts}
use Rattle.heap_runs.specs.Histories.{told_in, told_to}
use Rattle.heap_runs.specs.Ways.{client_of, told_of, turns_in}

module _ {S O E R : Type 0} (logs : S → ℕ → O → E → Type 0) (after : S → E → S × R) (client : E → ℕ) (is_client : (s : S) (n : ℕ) (op : O) (e : E) → logs s n op e → client e ≡ n) where
  journal_tells : (n : ℕ) (s : S) (log : List (Turn E)) → IsLegal logs after s log → told_to after n s log ≡ told_in after client n s (entries log)
  journal_tells n s [] legal = refl
  journal_tells n s (t ∷ ts) legal =
      let next : S = (after s t.entry).0 in
      let rest = journal_tells n next ts legal.1 in
      let same = is_client s t.number legal.0.0 t.entry legal.0.1 in
      elim (eqb t.number n) as (λ v. cond v ((t.entry, (after s t.entry).1) ∷ told_to after n next ts) (told_to after n next ts)
      ≡ cond v ((t.entry, (after s t.entry).1) ∷ told_in after client n next (entries ts)) (told_in after client n next (entries ts))) [
        | true ↦ ap (λ (l : List (E × R)). (t.entry, (after s t.entry).1) ∷ l) rest
        | false ↦ rest
      ] ∙ ap (λ k. cond (eqb k n) ((t.entry, (after s t.entry).1) ∷ told_in after client n next (entries ts)) (told_in after client n next (entries ts))) (sym same)

module _ {S E R : Type 0} (after : S → E → S × R) where
  -- nothing is told to a number without an entry
  told_none : (n : ℕ) (s : S) (log : List (Turn E)) → entries_by n log ≡ [] → told_to after n s log ≡ []
  told_none n s [] none = refl
  told_none n s (t ∷ ts) none =
      let next : S = (after s t.entry).0 in
      (elim (eqb t.number n) as (λ v. entries (cond v (t ∷ filter (λ (u : Turn E). eqb u.number n) ts) (filter (λ (u : Turn E). eqb u.number n) ts)) ≡ []
      → cond v ((t.entry, (after s t.entry).1) ∷ told_to after n next ts) (told_to after n next ts) ≡ []) [
        | true ↦ λ is. absurd (cc)
        | false ↦ λ is. told_none n next ts is
      ]) none

client_is : (s : Facts) (n : ℕ) (doing : Doing) (e : Snapshot Deed) → Logs s n doing e → client_of e ≡ n
client_is s n doing e logs = ap (λ (d : Deed). d.client) logs.is

pub tells : (table : ChunkTable) (i n : ℕ) (log : List (Turn (Snapshot Deed))) → IsLegal Logs after_entry (opening_facts i table) log → turns_in table n i log ≡ told_of table n i (entries log)
tells table i n log legal = journal_tells Logs after_entry client_of client_is n (opening_facts i table) log legal

pub tells_none : (table : ChunkTable) (i n : ℕ) (log : List (Turn (Snapshot Deed))) → entries_by n log ≡ [] → turns_in table n i log ≡ []
tells_none table i n log none = told_none after_entry n (opening_facts i table) log none
