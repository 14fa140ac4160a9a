-- What a turn in one of the arenas leaves of all of them.
use Rattle.heap_core.proofs.Words.{AreApart, inr, ◌≡◌, ℕ, ◌/◌, ◌<◌, ◌^◌, ◌==◌, true, false, cond, List, [], Option, Result, Ok, Err, OnOk, OnErr, length, nat_lt, map, slice_set, get_or, refl, sym, ◌∙◌, ap, subst, arith, IsTrue, list_any, range_with_len, nat_tests, same_number_lists, get_or-map-range_with_len, get_or-range_with_len, Journal, IsByIndex, get_or_default, length-map, length-set, map-set, set-get_or, get_or-map, any_counts, chunk_span, has_page, meets, op_stands, stands, step_of, absent_space, first_space, both_true, entry_of, Op, Space, Sound, AskFacts, AreRecorded, IsArenas, journal_of, no_record, opening_record, opening_records, record_after, record_at, spaces_of, Apart, owns_chunk, with_chunk_found, space_at, IsReplayed, Record, opening_space, zero-add, cases_lt, inl}
use Rattle.heap_core.proofs.Owning.{apart_turn, page_owned}
use Rattle.recorded_arena.proofs.Turning.{replayed_sound}
use Rattle.sits.proofs.Indexes.{by_arena, past}

-- the space of an arena is among the spaces at its index
pub space_of_record : (records : List Record) (i : ℕ) → space_at (spaces_of records) i ≡ (record_at records i).space
space_of_record records i = get_or-map (λ (r : Record). r.space) records i no_record

-- an arena that may stand there leaves the arenas as they have to be
pub arenas_set : (records : List Record) (arena : ℕ) (new : Record) → IsArenas records → arena < 32 → new.index ≡ (record_at records arena).index → length new.rooms ≡ 32 → IsReplayed new.index new.kept new.space →
    Apart (slice_set (spaces_of records) arena new.space) → IsArenas (slice_set records arena new)
arenas_set records arena new is there index clients replayed apart = record {
  number = length-set records arena new ∙ is.number;
  replayed = by_arena records arena new (λ i (r : Record). i < 32 → IsReplayed i r.kept r.space) is.number there (λ _. subst (λ (k : ℕ). IsReplayed k new.kept new.space) (index ∙ is.indexes arena there) replayed) (λ i _. is.replayed i);
  indexes = by_arena records arena new (λ i (r : Record). i < 32 → r.index ≡ i) is.number there (λ _. index ∙ is.indexes arena there) (λ i _. is.indexes i);
  clients = by_arena records arena new (λ i (r : Record). i < 32 → length r.rooms ≡ 32) is.number there (λ _. clients) (λ i _. is.clients i);
  apart = subst Apart (sym (map-set (λ (r : Record). r.space) records arena new)) apart;
}

-- after a turn of a client, or where memory was wanting for it, still no chunk has two owners
pub arenas_turned : {A E : Type 0} (records : List Record) (arena client : ℕ) (op settled_op : Op) (asked : Option AskFacts) (r : Result A E) (new : Record) → IsArenas records → arena < 32 →
    settled_op ≡ with_chunk_found (spaces_of records) arena op → IsTrue (stands (record_at records arena).space (entry_of client (with_chunk_found (spaces_of records) arena op))) →
    OnOk r (new ≡ record_after (record_at records arena) client settled_op asked) → OnErr r (new ≡ record_at records arena) →
    new.index ≡ (record_at records arena).index → IsReplayed new.index new.kept new.space → IsArenas (slice_set records arena new)
arenas_turned records arena client op settled_op asked (Err e) new is there settles may after same index replayed =
    subst IsArenas (sym (ap (slice_set records arena) same ∙ set-get_or records arena no_record)) is
arenas_turned records arena client op settled_op asked (Ok reply) new is there settles may after same index replayed =
    let spaces : List Space = spaces_of records in
    let here = space_of_record records arena in
    let all : length spaces ≡ length records = length-map records (λ (r : Record). r.space) in
    let within : arena < length spaces = omega (arith, there, all, is.number) in
    let sound : Sound (space_at spaces arena) = subst Sound (sym here) (replayed_sound arena (record_at records arena).kept (record_at records arena).space (is.replayed arena there)) in
    let may_here : op_stands (space_at spaces arena) client (with_chunk_found spaces arena op) ≡ true =
    subst (λ s. op_stands s client (with_chunk_found spaces arena op) ≡ true) (sym here) (both_true (nat_lt client 32) _ may).1 in
    let space : new.space ≡ (step_of (space_at spaces arena) client (with_chunk_found spaces arena op)).after =
    ap (λ (x : Record). x.space) after ∙ (λ i. (step_of (sym here i) client (settles i)).after) in
    let clients : length new.rooms ≡ 32 = ap (λ (x : Record). length x.rooms) after ∙ length-set (record_at records arena).rooms client _ ∙ is.clients arena there in
    arenas_set records arena new is there index clients replayed (subst (λ t. Apart (slice_set spaces arena t)) (sym space) (apart_turn spaces arena client op within is.apart sound may_here))

pub arenas_turned_from : {A E : Type 0} (records : List Record) (arena client : ℕ) (op settled_op : Op) (asked : Option AskFacts) (r : Result A E) (old new : Record) → old ≡ record_at records arena → IsArenas records → arena < 32 →
    settled_op ≡ with_chunk_found (spaces_of records) arena op → IsTrue (stands (record_at records arena).space (entry_of client (with_chunk_found (spaces_of records) arena op))) →
    OnOk r (new ≡ record_after old client settled_op asked) → OnErr r (new ≡ old) → new.index ≡ old.index → IsReplayed new.index new.kept new.space → IsArenas (slice_set records arena new)
arenas_turned_from records arena client op settled_op asked r old new at is there settles may after same index replayed =
    arenas_turned records arena client op settled_op asked r new is there settles may (subst (λ o. OnOk r (new ≡ record_after o client settled_op asked)) at after)
    (subst (λ o. OnErr r (new ≡ o)) at same) (index ∙ ap (λ (o : Record). o.index) at) replayed

-- ---- the beginning

-- no arena has an extent when a heap begins
opening_empty : (i : ℕ) → (opening_space i).parts ≡ []
opening_empty i = elim (i == 0) as (λ v. (cond v first_space absent_space).parts ≡ []) [ true ↦ refl | false ↦ refl ]

pub opening_at : (i : ℕ) → i < 32 → record_at opening_records i ≡ opening_record i
opening_at i few = get_or-map-range_with_len opening_record 0 32 i i no_record few (omega arith)

-- an arena of a new heap has no extent
none_owned : (chunk i : ℕ) → owns_chunk chunk (space_at (spaces_of opening_records) i) ≡ false
none_owned chunk i =
    elim (cases_lt i 32) [
      | inl low ↦ at (space_at (spaces_of opening_records) i) (ap (λ (s : Space). s.parts) (space_of_record opening_records i ∙ ap (λ (r : Record). r.space) (opening_at i low)) ∙ opening_empty i)
      | inr far ↦ at (space_at (spaces_of opening_records) i) (ap (λ (s : Space). s.parts) (past (spaces_of opening_records) i absent_space far))
    ]
  where
    at : (s : Space) → s.parts ≡ [] → owns_chunk chunk s ≡ false
    at s e = ap (list_any (λ p. meets p.span (chunk_span chunk))) e

-- a new heap's arenas are as they have to be
pub opening_is : IsArenas opening_records
opening_is = record {
  number = refl;
  replayed = λ i few. subst (λ (r : Record). IsReplayed i r.kept r.space) (sym (opening_at i few)) (record { stand = refl; space = refl });
  indexes = λ i few. ap (λ (r : Record). r.index) (opening_at i few);
  clients = λ i few. ap (λ (r : Record). length r.rooms) (opening_at i few);
  apart = λ chunk i j first second. absurd (let none = none_owned chunk i in cc);
}

-- ---- the end

-- the journals stand by the indexes of their arenas
pub by_index : (records : List Record) → IsArenas records → map (λ (j : Journal). j.index) (map journal_of records) ≡ range_with_len 0 32
by_index records is =
    let long : length (map (λ (j : Journal). j.index) (map journal_of records)) ≡ 32 = length-map (map journal_of records) (λ (j : Journal). j.index) ∙ length-map records journal_of ∙ is.number in
    same_number_lists (map (λ (j : Journal). j.index) (map journal_of records)) (range_with_len 0 32) long (λ k few.
    let low : k < 32 = omega (arith, few, long) in
    past_default k few
    ∙ ap (λ (j : Journal). j.index) (get_or-map journal_of records k no_record)
    ∙ is.indexes k low ∙ sym (get_or-range_with_len 0 32 k 0 low ∙ zero-add k))
  where
    past_default : (k : ℕ) → k < length (map (λ (j : Journal). j.index) (map journal_of records)) →
        get_or (map (λ (j : Journal). j.index) (map journal_of records)) k 0 ≡ (get_or (map journal_of records) k (journal_of no_record)).index
    past_default k few =
        get_or_default (map (λ (j : Journal). j.index) (map journal_of records)) k 0 32 few
        ∙ get_or-map (λ (j : Journal). j.index) (map journal_of records) k (journal_of no_record)

pub stand_by_index : (records : List Record) (journals : List Journal) → IsArenas records → journals ≡ map journal_of records → IsByIndex journals
stand_by_index records journals is same = inr (ap (map (λ (j : Journal). j.index)) same ∙ by_index records is)

-- ---- pages

-- a page is in the chunk of its number
page_in_chunk : (page : ℕ) → has_page page (chunk_span (page / 512)) ≡ true
page_in_chunk page = grind (arith, nat_tests)

-- no page is in extents of two arenas
pub one_owner : (records : List Record) → IsArenas records → AreApart records
one_owner records is page i j first second = is.apart (page / 512) i j (owned i first) (owned j second)
  where
    owned : (k : ℕ) → list_any (λ p. has_page page p.span) (record_at records k).space.parts ≡ true → owns_chunk (page / 512) (space_at (spaces_of records) k) ≡ true
    owned k has =
        ap (owns_chunk (page / 512)) (space_of_record records k)
        ∙ page_owned (page / 512) page (record_at records k).space.parts (page_in_chunk page) (any_counts (λ p. has_page page p.span) (record_at records k).space.parts has)

-- ---- the entries of the journals can be counted

pub opening_recorded : AreRecorded opening_records
opening_recorded = record { arenas = opening_is; few = λ i few. subst (λ (r : Record). length r.kept < 2 ^ 64) (sym (opening_at i few)) (omega arith) }

-- after a turn, or where memory was wanting for it
pub recorded_turned : {A E : Type 0} (records : List Record) (arena : ℕ) (r : Result A E) (old new : Record) → AreRecorded records → arena < 32 → old ≡ record_at records arena → OnOk r (length new.kept < 2 ^ 64) → OnErr r (new ≡ old) →
    IsArenas (slice_set records arena new) → AreRecorded (slice_set records arena new)
recorded_turned records arena r old new is there at few same arenas = record {
  arenas = arenas;
  few = by_arena records arena new (λ i (x : Record). i < 32 → length x.kept < 2 ^ 64) is.arenas.number there (λ _. here r few same) (λ i _. is.few i);
}
  where
    here : {A E : Type 0} (r : Result A E) → OnOk r (length new.kept < 2 ^ 64) → OnErr r (new ≡ old) → length new.kept < 2 ^ 64
    here (Ok told) few same = few
    here (Err error) few same = subst (λ (x : Record). length x.kept < 2 ^ 64) (sym (same ∙ at)) (is.few arena there)
