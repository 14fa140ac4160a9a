-- What the turns of a client met, by the journals.
use Rattle.std.proofs.Common.{◌≡◌, ◌∙◌, ℕ, zero, suc, ◌+◌, ◌-◌, ◌==◌, Bool, true, false, cond, List, [], ◌∷◌, ◌++◌, refl, sym, ap, subst, append_assoc, arith, length, map}
use Rattle.std.proofs.lemmas.Bool.{eq-eqb, eqb-true}
use Rattle.std.proofs.lemmas.List.{length-append}
use Rattle.std.specs.declared.snapshot.Snapshot.{Snapshot}
use Rattle.arena_core.specs.Arenas.{entry_of}
use Rattle.back_purge.proofs.Making.{dids_append}
use Rattle.chunk_table.specs.declared.table.ChunkTable.{ChunkTable}
use Rattle.deeds.specs.Dids.{Did, Took}
use Rattle.deeds.specs.declared.deeds.Deed.{Deed}
use Rattle.deeds.specs.declared.deeds.Told.{Told}
use Rattle.heap_runs.proofs.Leading.{took_more}
use Rattle.heap_runs.specs.Histories.{told_in}
use Rattle.heap_runs.specs.Walks.{Done, dids_of}
use Rattle.heap_runs.specs.Ways.{client_of, seal, told_of, took_in}
use Rattle.heap_shared.specs.Shared.{Facts, after_entry, opening_facts, snap}
use Rattle.hook_api.specs.Kept.{KeptFacts}
use Rattle.recorded_arena.proofs.Turning.{replayed_sound}
use Rattle.recorded_arena.specs.Records.{entries_of, opening_space}
use Rattle.space_model.proofs.Pieces.{both_true}
use Rattle.space_model.proofs.Steps.{entry_keeps}
use Rattle.space_model.specs.Journal.{all_stand}
use Rattle.space_model.specs.Sound.{Sound}
use Rattle.space_model.specs.Step.{reply_to, space_after, stands}
use Rattle.space_model.specs.declared.entries.Entry.{Entry}
use Rattle.space_model.specs.declared.spaces.Space.{Space}
use Rattle.jarena.specs.Served.{met_by}

-- An entry of a client stood in a sound space, and was told what that replies.
pub record IsTold (c : ℕ) (s : Space) (deed : Deed) (told : Told) : Type 0 where
  pub sound : Sound s
  pub stands : stands s (entry_of c deed.op) ≡ true
  pub reply : told.reply ≡ reply_to s (entry_of c deed.op)

-- the first entry is the client's
first_told : (c : ℕ) (f : Facts) (k : KeptFacts) (d : Snapshot Deed) (r : Told) → Sound f.arena.space → stands f.arena.space k.entry ≡ true → k.entry.client ≡ c → snap k ≡ d → (after_entry f (snap k)).1 ≡ r → IsTold c f.arena.space d.value r
first_told c f k d r sound may own same told =
    let op = ap (λ (e : Snapshot Deed). e.value.op) same in record {
      sound = sound;
      stands = ap (λ o. stands f.arena.space (entry_of c o)) (sym op) ∙ ap (λ n. stands f.arena.space (entry_of n k.entry.op)) (sym own) ∙ may;
      reply = ap (λ (t : Told). t.reply) (sym told) ∙ ap (λ n. reply_to f.arena.space (entry_of n k.entry.op)) own ∙ ap (λ o. reply_to f.arena.space (entry_of c o)) op;
    }

module _ (c : ℕ) where
  -- those of a client with what they were told, where the first entry is the client's or not
  abbrev ToldFrom : Bool → Facts → KeptFacts → List KeptFacts → List (Snapshot Deed × Told)
  ToldFrom own f k kept = cond own ((snap k, (after_entry f (snap k)).1) ∷ told_in after_entry client_of c (after_entry f (snap k)).0 (map snap kept)) (told_in after_entry client_of c (after_entry f (snap k)).0 (map snap kept))

  -- the space that one meets behind so many others, likewise
  abbrev MetFrom : Bool → ℕ → Space → Entry → List Entry → Space
  MetFrom own zero s e es = cond own s (met_by c zero (space_after s e) es)
  MetFrom own (suc n) s e es = cond own (met_by c n (space_after s e) es) (met_by c (suc n) (space_after s e) es)

  met_from : (n : ℕ) (s : Space) (e : Entry) (es : List Entry) → met_by c n s (e ∷ es) ≡ MetFrom (e.client == c) n s e es
  met_from zero s e es = refl
  met_from (suc n) s e es = refl

  -- one of them, by what is so of those behind the first entry
  one_told : (f : Facts) (k : KeptFacts) (kept : List KeptFacts) (ys : List (Snapshot Deed × Told)) (d : Snapshot Deed) (r : Told) → Sound f.arena.space → stands f.arena.space k.entry ≡ true
      → ((before : List (Snapshot Deed × Told)) → told_in after_entry client_of c (after_entry f (snap k)).0 (map snap kept) ≡ before ++ (d, r) ∷ ys → IsTold c (met_by c (length before) (space_after f.arena.space k.entry) (entries_of kept)) d.value r)
      → (own : Bool) → (k.entry.client == c) ≡ own → (before : List (Snapshot Deed × Told)) → ToldFrom own f k kept ≡ before ++ (d, r) ∷ ys → IsTold c (MetFrom own (length before) f.arena.space k.entry (entries_of kept)) d.value r
  one_told f k kept ys d r sound may rest true is [] all =
      let one : Snapshot Deed × Told = (snap k, (after_entry f (snap k)).1) in
      let two : Snapshot Deed × Told = (d, r) in
      let first : one ≡ two = cc in
      first_told c f k d r sound may (eqb-true k.entry.client c is) (ap (λ (p : Snapshot Deed × Told). p.0) first) (ap (λ (p : Snapshot Deed × Told). p.1) first)
  one_told f k kept ys d r sound may rest true is (x ∷ before) all = rest before cc
  one_told f k kept ys d r sound may rest false is [] all = rest [] all
  one_told f k kept ys d r sound may rest false is (x ∷ before) all = rest (x ∷ before) all

  told_met : (f : Facts) (kept : List KeptFacts) (xs ys : List (Snapshot Deed × Told)) (d : Snapshot Deed) (r : Told) → Sound f.arena.space → all_stand f.arena.space (entries_of kept) ≡ true
      → told_in after_entry client_of c f (map snap kept) ≡ xs ++ (d, r) ∷ ys → IsTold c (met_by c (length xs) f.arena.space (entries_of kept)) d.value r
  told_met f [] [] ys d r sound stand told = absurd cc
  told_met f [] (x ∷ xs) ys d r sound stand told = absurd cc
  told_met f (k ∷ kept) xs ys d r sound stand told =
      let both = both_true (stands f.arena.space k.entry) (all_stand (space_after f.arena.space k.entry) (entries_of kept)) stand in
      let next : Sound (space_after f.arena.space k.entry) = (entry_keeps f.arena.space k.entry sound both.0).sound in
      subst (λ (s : Space). IsTold c s d.value r) (sym (met_from (length xs) f.arena.space k.entry (entries_of kept)))
      (one_told f k kept ys d r sound both.0 (λ before all. told_met (after_entry f (snap k)).0 kept before ys d r next both.1 all) (k.entry.client == c) refl xs told)

-- what the arena with an index begins as is sound
pub opening_sound : (i : ℕ) → Sound (opening_space i)
opening_sound i = replayed_sound i [] (opening_space i) (record { stand = refl; space = refl })

-- the turns of a client before one, and that one, in what its calls did
took_apart : (arena : ℕ) (dids : List Did) (deed : Deed) (told : Told) (more : List Did) → took_in arena (dids ++ Took arena deed told ∷ more) ≡ took_in arena dids ++ (seal deed, told) ∷ took_in arena more
took_apart arena dids deed told more =
    took_more arena dids (Took arena deed told ∷ more)
    ∙ ap (λ (b : Bool). took_in arena dids ++ (cond b ((seal deed, told) ∷ []) [] ++ took_in arena more)) (eq-eqb arena arena refl)

-- the last turn of an arena that a client made in some calls was told what its place in the journal replies
pub told_last_turn : (table : ChunkTable) (c arena : ℕ) (kept : List KeptFacts) (earlier later : List Done) (done : Done) (before : List Did) (deed : Deed) (told : Told)
    → all_stand (opening_space arena) (entries_of kept) ≡ true → told_of table c arena (map snap kept) ≡ took_in arena (dids_of (earlier ++ done ∷ later)) → done.dids ≡ before ++ Took arena deed told ∷ []
    → IsTold c (met_by c (length (took_in arena (dids_of (earlier ++ done ∷ []))) - 1) (opening_space arena) (entries_of kept)) deed told
told_last_turn table c arena kept earlier later done before deed told stand own is =
    subst (λ n. IsTold c (met_by c n (opening_space arena) (entries_of kept)) deed told) (sym count)
    (told_met c (opening_facts arena table) kept xs (took_in arena (dids_of later)) (seal deed) told (opening_sound arena) stand (own ∙ all))
  where
    xs : List (Snapshot Deed × Told)
    xs = took_in arena (dids_of earlier ++ before)

    one : (more : List Done) → dids_of (earlier ++ done ∷ more) ≡ (dids_of earlier ++ before) ++ Took arena deed told ∷ dids_of more
    one more = dids_append earlier (done ∷ more) ∙ ap (λ (l : List Did). dids_of earlier ++ (l ++ dids_of more)) is
        ∙ ap (λ (l : List Did). dids_of earlier ++ l) (append_assoc before (Took arena deed told ∷ []) (dids_of more)) ∙ sym (append_assoc (dids_of earlier) before (Took arena deed told ∷ dids_of more))

    all : took_in arena (dids_of (earlier ++ done ∷ later)) ≡ xs ++ (seal deed, told) ∷ took_in arena (dids_of later)
    all = ap (took_in arena) (one later) ∙ took_apart arena (dids_of earlier ++ before) deed told (dids_of later)

    first : took_in arena (dids_of (earlier ++ done ∷ [])) ≡ xs ++ (seal deed, told) ∷ []
    first = ap (took_in arena) (one []) ∙ took_apart arena (dids_of earlier ++ before) deed told []

    count : length (took_in arena (dids_of (earlier ++ done ∷ []))) - 1 ≡ length xs
    count =
        let more : length (took_in arena (dids_of (earlier ++ done ∷ []))) ≡ length xs + 1 = ap length first ∙ length-append xs ((seal deed, told) ∷ []) in omega (arith, more)
